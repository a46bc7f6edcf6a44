-- Which pipes give their rows to another pipe.
use Rattle.std.specs.Prelude.{◌≡◌, ◌⊎◌, ℕ, ◌<◌, List, slice_get, Some}
use Rattle.plan_docs.specs.declared.plan.Output.{Output}
use Rattle.plan_layout.specs.Pipes.{PipeForm, SourceForm, TargetForm, fragment, readers, result, side, sides}

-- at the place is a pipe with this source
pub record HasSource (layout : List PipeForm) (at : ℕ) (source : SourceForm) : Type 0 where
  pub pipe : PipeForm
  pub is : slice_get layout at ≡ Some pipe
  pub takes : pipe.source ≡ source

-- at the place is a pipe with this target
pub record HasTarget (layout : List PipeForm) (at : ℕ) (target : TargetForm) : Type 0 where
  pub pipe : PipeForm
  pub is : slice_get layout at ≡ Some pipe
  pub gives : pipe.target ≡ target

-- what gives to a union is one of its two sides
pub record GiveToUnions (layout : List PipeForm) : Type 0 where
  pub union : (at i : ℕ) → HasTarget layout i (side at) → HasSource layout at sides
  pub two : (at i j k : ℕ) → i < j → HasTarget layout i (side at) → HasTarget layout j (side at) → HasTarget layout k (side at) → (k ≡ i) ⊎ (k ≡ j)

-- what gives to a pipe that reads a fragment is the one pipe of the fragment's root
pub record GiveToReaders (layout : List PipeForm) : Type 0 where
  pub reader : (at i : ℕ) (output : Output) → HasTarget layout i (readers output at) → (number : ℕ) × HasSource layout at (fragment number)
  pub one : (at i j : ℕ) (output other : Output) → HasTarget layout i (readers output at) → HasTarget layout j (readers other at) → i ≡ j

-- one pipe gives the result, by one driver in one task
pub record HasOneResult (layout : List PipeForm) : Type 0 where
  pub lone : (at : ℕ) (h : HasTarget layout at result) → (h.pipe.tasks ≡ 1) × (h.pipe.drivers ≡ 1)
  pub one : (i j : ℕ) → HasTarget layout i result → HasTarget layout j result → i ≡ j
