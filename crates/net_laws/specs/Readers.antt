-- Which pipe reads a fragment.
use Rattle.std.specs.Prelude.{◌≡◌, ℕ, ◌<◌, List, map, slice_get, Some}
use Rattle.plan_docs.specs.Plans.{FragmentForm}
use Rattle.plan_layout.specs.declared.pipe.Parallelism.{Parallelism}
use Rattle.plan_layout.specs.declared.pipe.Series.{Series}
use Rattle.plan_layout.specs.Edges.{target_of}
use Rattle.plan_layout.specs.Layouts.{site_of}
use Rattle.plan_layout.specs.Pipes.{PipeForm, edge, fragment}
use Rattle.plan_layout.specs.Runs.{PipeAt, Runs, bare}

-- the one pipe that reads the fragment, of a fragment before it
pub record IsReader (layout : List PipeForm) (number at : ℕ) : Type 0 where
  pub pipe : PipeForm
  pub is : slice_get layout at ≡ Some pipe
  pub reads : pipe.source ≡ fragment number
  pub earlier : pipe.fragment < number
  pub only : (i : ℕ) (other : PipeForm) → slice_get layout i ≡ Some other → other.source ≡ fragment number → i ≡ at

-- the root of a fragment runs in this pipe, which gives its rows to the reader, or to the result
abbrev pub IsRootAt : List PipeForm → Parallelism → List FragmentForm → ℕ → FragmentForm → ℕ → Type 0
IsRootAt layout p fragments number f at =
    PipeAt (map bare layout) (site_of p fragments number f) (target_of number f.output layout) at
    (Runs (map bare layout) (site_of p fragments number f) at f.root)

-- one pipe fetches for a pipe at a place
abbrev pub AreFetchedOnce : List PipeForm → Type 0
AreFetchedOnce layout =
    (i j at : ℕ) (pipe other : PipeForm) (numbers more : Series) → slice_get layout i ≡ Some pipe → slice_get layout j ≡ Some other
    → pipe.source ≡ edge at numbers → other.source ≡ edge at more → i ≡ j
