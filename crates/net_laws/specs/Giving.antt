-- Which pipes give their rows to one that takes them of others.
use Rattle.std.specs.Prelude.{◌≡◌, ◌≢◌, ◌⊎◌, ℕ, List, [], true, slice_get, None, Some}
use Rattle.plan_docs.specs.declared.plan.Output.{Output}
use Rattle.plan_layout.specs.Pipes.{PipeForm, TargetForm, readers, side}
use Rattle.plan_layout.specs.Runs.{HasFetcher}
use Rattle.driver_net_laws.specs.Types.{gives_to}

-- at a place is a pipe in so many tasks, with the target
pub record IsGiver (layout : List PipeForm) (n : ℕ) (target : TargetForm) (at : ℕ) : Type 0 where
  pub pipe : PipeForm
  pub is : slice_get layout at ≡ Some pipe
  pub tasks : pipe.tasks ≡ n
  pub has : pipe.target ≡ target

-- to the pipe at a place, in so many tasks, these two give as the sides of a union, and no other
pub record AreSides (layout : List PipeForm) (n at i j : ℕ) : Type 0 where
  pub left : IsGiver layout n (side at) i
  pub right : IsGiver layout n (side at) j
  pub apart : i ≢ j
  pub only : (place : ℕ) (pipe : PipeForm) → slice_get layout place ≡ Some pipe → gives_to at pipe.target ≡ true → (place ≡ i) ⊎ (place ≡ j)

-- to the pipe at a place this one, in m tasks, gives as the root of a fragment with the output, and no other
pub record IsRoot (layout : List PipeForm) (output : Output) (m at j : ℕ) : Type 0 where
  pub root : IsGiver layout m (readers output at) j
  pub only : (place : ℕ) (pipe : PipeForm) → slice_get layout place ≡ Some pipe → gives_to at pipe.target ≡ true → place ≡ j

-- another pipe fetches for the one at a place, and does no more than that: it reads no scan
pub record IsPlainlyFetched (layout : List PipeForm) (at n : ℕ) : Type 0 where
  pub fetched : HasFetcher layout at n
  pub plain : fetched.pipe.steps ≡ []
  pub unread : fetched.pipe.scan ≡ None
