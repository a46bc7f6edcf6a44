-- The pipes of a run as they stand, each at its place in the plan's layout.
use Rattle.std.specs.Prelude.{◌≡◌, ◌⊎◌, ℕ, ◌<◌, List, ◌++◌, true, Some, get_or, length, take}
use Rattle.sql_values.specs.declared.fail.Fail.{Fail}
use Rattle.sql_values.specs.declared.types.SqlType.{SqlType}
use Rattle.col_pages.specs.Fits.{AllFit}
use Rattle.operator_core.specs.declared.operator.Operator.{Ghosts}
use Rattle.operator_core.specs.Rows.{Row}
use Rattle.operator_core.specs.Stages.{FailsAfter}
use Rattle.bag_laws.specs.Gather.{gather}
use Rattle.bag_laws.specs.Weights.{SameWeights}
use Rattle.plan_trees.specs.Allowed.{scanned}
use Rattle.plan_trees.specs.TreeTypes.{types_of}
use Rattle.plan_run_laws.specs.Nets.{IsAlone, Lanes, of_tasks}
use Rattle.plan_run_laws.specs.Stages.{MayHave, first_half}
use Rattle.plan_run_laws.specs.RunPlans.{RunPlan, scan, values, remote, step, halves, join, union, tree_of_run}
use Rattle.plan_run_laws.specs.Spreads.{Tables}
use Rattle.plan_run_laws.specs.Stops.{AllSet, Flags, Hop, PassedSoFar, StoppedPipe, TookOf}
use Rattle.stage_meanings.specs.Pipelines.{NodeStage, at_node}
use Rattle.pipe_laws.specs.Lanes.{AreHalved, AreLanes, Noted, first_note, notes_of_lanes, other_notes}

-- its tasks, its drivers in each, and of each driver what its notes know, its operators, what it took and gave,
-- whether its source has ended, and whether its last operator is finished
pub record PipeState (S : Type 0) : Type 0 where
  pub tasks : ℕ
  pub drivers : ℕ
  pub notes : ℕ → ℕ → Noted
  pub stages : ℕ → ℕ → List S
  pub took : Lanes
  pub gave : Lanes
  pub ended : Flags
  pub done : Flags

-- what the drivers of a pipe took, and what they gave, has these types
abbrev pub TookTyped : {S : Type 0} → List SqlType → ℕ → PipeState S → Type 0
TookTyped types n p = (k d : ℕ) → k < n → d < p.drivers → AllFit types (p.took k d)

abbrev pub GaveTyped : {S : Type 0} → List SqlType → ℕ → PipeState S → Type 0
GaveTyped types n p = (k d : ℕ) → k < n → d < p.drivers → AllFit types (p.gave k d)

-- the pipe of a node in so many tasks
pub record IsPipeOf {S : Type 0} (g : Ghosts S) (n : ℕ) (run : RunPlan) (p : PipeState S) : Type 0 where
  pub tasks : p.tasks ≡ n
  pub lanes : AreLanes g n p.drivers run p.notes p.stages p.took p.gave p.ended p.done

-- the pipe of a node with the first half of an operator behind it
pub record IsHalfPipeOf {S : Type 0} (g : Ghosts S) (n : ℕ) (run : RunPlan) (half : NodeStage) (p : PipeState S) : Type 0 where
  pub tasks : p.tasks ≡ n
  pub halves : AreHalved g n p.drivers run p.notes half p.stages p.took p.gave p.ended p.done

-- it as the laws of stopped runs have it
abbrev pub stopped : {S : Type 0} → RunPlan → PipeState S → StoppedPipe
stopped run p = record {
  drivers = p.drivers;
  notes = notes_of_lanes run p.notes;
  took = p.took;
  gave = p.gave;
  ended = p.ended;
  done = p.done;
}

-- What the drivers of the pipe at a place took of the sources of a node, and how the pipes below stand. The notes are
-- those of the joins from the node down.
abbrev pub Stands : {S : Type 0} → Ghosts S → (ℕ → PipeState S) → Tables → ℕ → ℕ → RunPlan → (ℕ → ℕ → Noted) → Type 0
Stands g pipes tables at n (scan id table columns types) notes =
    Hop (scanned tables table columns) (gather n (of_tasks (pipes at).drivers (pipes at).took)) (AllSet n (pipes at).drivers (pipes at).ended) (Unit {0})
Stands g pipes tables at n (values id types rows) notes =
    (k : ℕ) → k < n → TookOf (pipes at).drivers ((pipes at).took k) ((pipes at).ended k) rows (Unit {0})
Stands g pipes tables at n (remote id output m input) notes =
    (j : ℕ) × IsPipeOf g m input (pipes j) × Stands g pipes tables j m input (pipes j).notes
    × PassedSoFar output m n (stopped input (pipes j)) (pipes at).drivers (pipes at).took (pipes at).ended
Stands g pipes tables at n (join id kind on left right) notes =
    (j : ℕ) × IsPipeOf g n right (pipes j) × Stands g pipes tables j n right (pipes j).notes
    × ((k d : ℕ) → k < n → d < (pipes at).drivers → (built : List Row) → first_note (notes k d) ≡ Some built
    → ((e : ℕ) → e < (pipes j).drivers → (pipes j).done k e ≡ true) × SameWeights (of_tasks (pipes j).drivers (pipes j).gave k) built)
    × Stands g pipes tables at n left (λ k d. other_notes (notes k d))
Stands g pipes tables at n (step id s input) notes = MayHave s (pipes at).drivers × Stands g pipes tables at n input notes
Stands g pipes tables at n (halves id source output m h input) notes =
    (j : ℕ) × (half : ℕ) × IsAlone (pipes at).drivers × IsHalfPipeOf g m input (at_node half (first_half (types_of (tree_of_run input)) h)) (pipes j)
    × Stands g pipes tables j m input (pipes j).notes
    × PassedSoFar output m n (stopped input (pipes j)) (pipes at).drivers (pipes at).took (pipes at).ended
Stands g pipes tables at n (union id left right) notes =
    (i : ℕ) × (j : ℕ) × IsPipeOf g n left (pipes i) × Stands g pipes tables i n left (pipes i).notes
    × IsPipeOf g n right (pipes j) × Stands g pipes tables j n right (pipes j).notes
    × ((k : ℕ) → k < n
    → TookOf (pipes at).drivers ((pipes at).took k) ((pipes at).ended k)
    (of_tasks (pipes i).drivers (pipes i).gave k ++ of_tasks (pipes j).drivers (pipes j).gave k)
    (((e : ℕ) → e < (pipes i).drivers → (pipes i).done k e ≡ true) × ((e : ℕ) → e < (pipes j).drivers → (pipes j).done k e ≡ true)))

-- the pipe at a place is one of those below the node
abbrev pub IsBelow : {S : Type 0} (g : Ghosts S) (pipes : ℕ → PipeState S) (tables : Tables) (place at n : ℕ) (run : RunPlan) (notes : ℕ → ℕ → Noted) → Stands g pipes tables at n run notes → Type 0
IsBelow g pipes tables place at n (scan id table columns types) notes stands = ⊥
IsBelow g pipes tables place at n (values id types rows) notes stands = ⊥
IsBelow g pipes tables place at n (remote id output m input) notes (j, is, below, passed) =
    (place ≡ j) ⊎ IsBelow g pipes tables place j m input (pipes j).notes below
IsBelow g pipes tables place at n (join id kind on left right) notes (j, is, below, known, rest) =
    ((place ≡ j) ⊎ IsBelow g pipes tables place j n right (pipes j).notes below)
    ⊎ IsBelow g pipes tables place at n left (λ k d. other_notes (notes k d)) rest
IsBelow g pipes tables place at n (step id s input) notes stands = IsBelow g pipes tables place at n input notes stands.1
IsBelow g pipes tables place at n (halves id source output m h input) notes (j, half, alone, is, below, passed) =
    (place ≡ j) ⊎ IsBelow g pipes tables place j m input (pipes j).notes below
IsBelow g pipes tables place at n (union id left right) notes (i, j, first, left_below, second, right_below, passed) =
    ((place ≡ i) ⊎ IsBelow g pipes tables place i n left (pipes i).notes left_below)
    ⊎ ((place ≡ j) ⊎ IsBelow g pipes tables place j n right (pipes j).notes right_below)

-- the sources of all drivers have ended, and their last operators are finished
abbrev pub AreOver : {S : Type 0} → (ℕ → PipeState S) → Type 0
AreOver pipes = (j k d : ℕ) → k < (pipes j).tasks → d < (pipes j).drivers → ((pipes j).ended k d ≡ true) × ((pipes j).done k d ≡ true)

-- an operator of a driver of the pipe fails with this kind on what came to it, whatever rows still come
pub record HasFailing {S : Type 0} (g : Ghosts S) (p : PipeState S) (node : ℕ) (kind : Fail) : Type 0 where
  pub task : ℕ
  pub driver : ℕ
  pub in_tasks : task < p.tasks
  pub in_drivers : driver < p.drivers
  pub place : ℕ
  pub operator : S
  pub there : place < length (p.stages task driver)
  pub is : operator ≡ get_or (p.stages task driver) place operator
  pub fails : FailsAfter g (take place (p.stages task driver)) (g.as_made operator) (p.ended task driver) (p.took task driver) node kind
