-- What the pipes of a layout run: for each node of a fragment the pipe that it is in, and for each right side and each
-- side of a union a pipe of its own.
use Rattle.std.specs.Prelude.{◌≡◌, ◌<◌, ◌≤◌, ℕ, List, [], ◌∷◌, ◌++◌, length, map, slice_get, true, Option, Some}
use Rattle.plan_docs.specs.Nodes.{NodeForm}
use Rattle.plan_docs.specs.Nodes as node
use Rattle.plan_docs.specs.Plans.{FragmentForm}
use Rattle.plan_layout.specs.declared.pipe.Parallelism.{Parallelism}
use Rattle.plan_layout.specs.declared.pipe.Series.{Series}
use Rattle.plan_layout.specs.Edges.{reads_fragment, target_of}
use Rattle.plan_layout.specs.Pipes.{PipeForm, SourceForm, StepForm, TargetForm, table, rows, sides, fragment, edge, probe, side, takers}
use Rattle.plan_layout.specs.Layouts.{site_of}
use Rattle.plan_layout.specs.Sides.{Site, built_for, unnumbered}
use Rattle.plan_layout.specs.Steps.{drivers_in_task, operator_steps}

-- a pipe without the numbers of its drivers
abbrev pub bare : PipeForm → PipeForm
bare pipe = record pipe { numbers = unnumbered }

abbrev pub EndsWith : (List StepForm → Type 0) → List StepForm → List StepForm → Type 0
EndsWith IsForInput last steps = (rest : List StepForm) × (steps ≡ rest ++ last) × IsForInput rest

-- the pipe at the place reads a table by this scan, if by any
pub record HasScan (layout : List PipeForm) (at : ℕ) (read : Option ℕ) : Type 0 where
  pub pipe : PipeForm
  pub is : slice_get layout at ≡ Some pipe
  pub scan : pipe.scan ≡ read

-- at a place of the layout is a pipe of the fragment, with the target, and so many drivers as may run it, whose source
-- and steps are as `Below` says
pub record PipeAt (layout : List PipeForm) (s : Site) (target : TargetForm) (at : ℕ)
    (Below : SourceForm → List StepForm → Type 0) : Type 0 where
  pub pipe : PipeForm
  pub is : slice_get layout at ≡ Some pipe
  pub part : pipe.fragment ≡ s.fragment
  pub tasks : pipe.tasks ≡ s.tasks
  pub drivers : pipe.drivers ≡ drivers_in_task s.drivers pipe.source pipe.steps target
  pub has : pipe.target ≡ target
  pub below : Below pipe.source pipe.steps

-- the pipe at the place `own` takes from this source, and its steps are those of the nodes from there up to
-- this one; and so do the pipes that begin below
abbrev pub Runs : List PipeForm → Site → ℕ → NodeForm → SourceForm → List StepForm → Type 0
Runs layout s own (node.scan id place columns types) source steps =
    (source ≡ table place columns types) × (steps ≡ []) × HasScan layout own (Some id)
Runs layout s own (node.values id types list) source steps = (source ≡ rows types list) × (steps ≡ [])
Runs layout s own (node.remote id number) source steps = (source ≡ fragment number) × (steps ≡ [])
Runs layout s own (node.step id operator input) source steps =
    EndsWith (Runs layout s own input source) (operator_steps s.fragments id operator input) steps
Runs layout s own (node.join id kind on filters left right) source steps =
    (at : ℕ) × PipeAt layout s (built_for id on filters) at (Runs layout s at right)
    × EndsWith (Runs layout s own left source) (probe id kind on at ∷ []) steps
Runs layout s own (node.union id left right) source steps =
    (source ≡ sides) × (steps ≡ [])
    × (first : (i : ℕ) × PipeAt layout s (side own) i (Runs layout s i left))
    × (second : (j : ℕ) × PipeAt layout s (side own) j (Runs layout s j right))
    × (first.0 < second.0)

-- the root of a fragment has the first pipe behind those of the fragments before, and gives its rows to its reader
pub record IsLaid (layout : List PipeForm) (p : Parallelism) (fragments : List FragmentForm) (number : ℕ) (f : FragmentForm) : Type 0 where
  pub done : List PipeForm
  pub rest : List PipeForm
  pub are : layout ≡ done ++ rest
  pub later : (k : ℕ) (pipe : PipeForm) → slice_get rest k ≡ Some pipe → number ≤ pipe.fragment
  pub root : PipeAt (map bare layout) (site_of p fragments number f) (target_of number f.output done) (length done)
      (Runs (map bare layout) (site_of p fragments number f) (length done) f.root)

-- another pipe fetches for the one at a place, by one driver in each of its tasks, over the edge of these numbers
pub record HasFetcher (layout : List PipeForm) (at n : ℕ) : Type 0 where
  pub place : ℕ
  pub pipe : PipeForm
  pub is : slice_get layout place ≡ Some pipe
  pub alone : pipe.drivers ≡ 1
  pub tasks : pipe.tasks ≡ n
  pub numbers : Series
  pub source : pipe.source ≡ edge at numbers
  pub target : pipe.target ≡ takers at

-- so it is for each pipe that reads a fragment
abbrev pub AreFetched : List PipeForm → Type 0
AreFetched layout = (at : ℕ) (pipe : PipeForm) → slice_get layout at ≡ Some pipe → reads_fragment pipe.source ≡ true
    → HasFetcher layout at pipe.tasks
