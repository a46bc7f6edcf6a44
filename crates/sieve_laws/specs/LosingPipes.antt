-- The pipes of a run as they stand, whose scans lost rows that have no partner in a join above.
use Rattle.std.specs.Prelude.{◌≡◌, ◌⊎◌, ℕ, ◌<◌, List, [], ◌++◌, true, Some}
use Rattle.operator_core.specs.declared.operator.Operator.{Ghosts}
use Rattle.operator_core.specs.Rows.{Row}
use Rattle.bag_laws.specs.Buckets.{Sits}
use Rattle.bag_laws.specs.Gather.{gather}
use Rattle.bag_laws.specs.Weights.{SameWeights}
use Rattle.plan_trees.specs.Allowed.{scanned, strict, width_of}
use Rattle.plan_trees.specs.TreeTypes.{types_of}
use Rattle.column_origins.specs.Origins.{left_column}
use Rattle.plan_run_laws.specs.Nets.{IsAlone, Lanes, of_tasks}
use Rattle.plan_run_laws.specs.Stages.{MayHave, first_half}
use Rattle.plan_run_laws.specs.RunPlans.{RunPlan, tree_of_run, scan, values, remote, step, halves, join, union}
use Rattle.plan_run_laws.specs.Spreads.{Tables}
use Rattle.plan_run_laws.specs.Stops.{AllSet, Hop, PassedSoFar, TookOf}
use Rattle.plan_run_laws.specs.Wholes.{longer}
use Rattle.pipe_laws.specs.Pipelines.{at_node}
use Rattle.pipe_laws.specs.Lanes.{Noted, first_note, other_notes}
use Rattle.pipe_laws.specs.Pipes.{GaveTyped, IsHalfPipeOf, IsPipeOf, PipeState, Stands, stopped}
use Rattle.lost_row_laws.specs.Sieves.{Sieve, is_lost, over_input, under}
use Rattle.lost_row_laws.specs.Stops.{AreSure}

-- What the drivers of the pipe at a place took of the sources of a node, and how the pipes below stand, as `Stands` says it
-- but for scans and the sieves of joins. Of a scan a driver took what its filters let through: what they lost fits its
-- types, and a sieve holds it back. `own` has the sieves of each join, by its id; those come down with the ones from above
abbrev pub StandsLosing : {S : Type 0} → Ghosts S → (ℕ → PipeState S) → (ℕ → List Sieve) → Tables → List Sieve → ℕ → ℕ → RunPlan → (ℕ → ℕ → Noted) → Type 0
StandsLosing g pipes own tables sieves at n (scan id table columns types) notes =
    (lost : Lanes)
    × Hop (scanned tables table columns) (gather n (of_tasks (pipes at).drivers (longer (pipes at).took lost))) (AllSet n (pipes at).drivers (pipes at).ended) (Unit {0})
    × ((k d : ℕ) → k < n → d < (pipes at).drivers → Sits (is_lost strict sieves types) (lost k d))
StandsLosing g pipes own tables sieves at n (values id types rows) notes =
    (k : ℕ) → k < n → TookOf (pipes at).drivers ((pipes at).took k) ((pipes at).ended k) rows (Unit {0})
StandsLosing g pipes own tables sieves at n (remote id output m input) notes =
    (j : ℕ) × IsPipeOf g m input (pipes j) × StandsLosing g pipes own tables sieves j m input (pipes j).notes
    × PassedSoFar output m n (stopped input (pipes j)) (pipes at).drivers (pipes at).took (pipes at).ended
StandsLosing g pipes own tables sieves at n (step id s input) notes =
    MayHave s (pipes at).drivers × StandsLosing g pipes own tables (under (types_of (tree_of_run input)) s sieves) at n input notes
StandsLosing g pipes own tables sieves at n (join id kind on left right) notes =
    (j : ℕ) × IsPipeOf g n right (pipes j) × StandsLosing g pipes own tables [] j n right (pipes j).notes
    × ((k d : ℕ) → k < n → d < (pipes at).drivers → (built : List Row) → first_note (notes k d) ≡ Some built
    → ((e : ℕ) → e < (pipes j).drivers → (pipes j).done k e ≡ true) × SameWeights (of_tasks (pipes j).drivers (pipes j).gave k) built)
    × AreSure on n (stopped right (pipes j)) (own id) × GaveTyped (types_of (tree_of_run right)) n (pipes j)
    × StandsLosing g pipes own tables (over_input (left_column kind (width_of (tree_of_run left))) (own id ++ sieves)) at n left (λ k d. other_notes (notes k d))
StandsLosing g pipes own tables sieves at n (halves id source output m h input) notes =
    (j : ℕ) × (half : ℕ) × IsAlone (pipes at).drivers × IsHalfPipeOf g m input (at_node half (first_half (types_of (tree_of_run input)) h)) (pipes j)
    × StandsLosing g pipes own tables [] j m input (pipes j).notes
    × PassedSoFar output m n (stopped input (pipes j)) (pipes at).drivers (pipes at).took (pipes at).ended
StandsLosing g pipes own tables sieves at n (union id left right) notes =
    (i : ℕ) × (j : ℕ) × IsPipeOf g n left (pipes i) × StandsLosing g pipes own tables [] i n left (pipes i).notes
    × IsPipeOf g n right (pipes j) × StandsLosing g pipes own tables [] j n right (pipes j).notes
    × ((k : ℕ) → k < n
    → TookOf (pipes at).drivers ((pipes at).took k) ((pipes at).ended k)
    (of_tasks (pipes i).drivers (pipes i).gave k ++ of_tasks (pipes j).drivers (pipes j).gave k)
    (((e : ℕ) → e < (pipes i).drivers → (pipes i).done k e ≡ true) × ((e : ℕ) → e < (pipes j).drivers → (pipes j).done k e ≡ true)))

-- the pipe at a place is one of those below the node
abbrev pub IsBelowLosing : {S : Type 0} (g : Ghosts S) (pipes : ℕ → PipeState S) (own : ℕ → List Sieve) (tables : Tables) (sieves : List Sieve)
    (place at n : ℕ) (run : RunPlan) (notes : ℕ → ℕ → Noted) → StandsLosing g pipes own tables sieves at n run notes → Type 0
IsBelowLosing g pipes own tables sieves place at n (scan id table columns types) notes stands = ⊥
IsBelowLosing g pipes own tables sieves place at n (values id types rows) notes stands = ⊥
IsBelowLosing g pipes own tables sieves place at n (remote id output m input) notes (j, is, below, passed) =
    (place ≡ j) ⊎ IsBelowLosing g pipes own tables sieves place j m input (pipes j).notes below
IsBelowLosing g pipes own tables sieves place at n (step id s input) notes stands =
    IsBelowLosing g pipes own tables (under (types_of (tree_of_run input)) s sieves) place at n input notes stands.1
IsBelowLosing g pipes own tables sieves place at n (join id kind on left right) notes (j, is, below, known, sure, fit, rest) =
    ((place ≡ j) ⊎ IsBelowLosing g pipes own tables [] place j n right (pipes j).notes below)
    ⊎ IsBelowLosing g pipes own tables (over_input (left_column kind (width_of (tree_of_run left))) (own id ++ sieves)) place at n left (λ k d. other_notes (notes k d)) rest
IsBelowLosing g pipes own tables sieves place at n (halves id source output m h input) notes (j, half, alone, is, below, passed) =
    (place ≡ j) ⊎ IsBelowLosing g pipes own tables [] place j m input (pipes j).notes below
IsBelowLosing g pipes own tables sieves place at n (union id left right) notes (i, j, first, left_below, second, right_below, passed) =
    ((place ≡ i) ⊎ IsBelowLosing g pipes own tables [] place i n left (pipes i).notes left_below)
    ⊎ ((place ≡ j) ⊎ IsBelowLosing g pipes own tables [] place j n right (pipes j).notes right_below)

-- of each join of a run whose pipes stand so, what the right side's drivers gave has that side's types
abbrev pub RightsTyped : {S : Type 0} (g : Ghosts S) (pipes : ℕ → PipeState S) (tables : Tables) (at n : ℕ) (run : RunPlan) (notes : ℕ → ℕ → Noted) → Stands g pipes tables at n run notes → Type 0
RightsTyped g pipes tables at n (scan id table columns types) notes stands = Unit {0}
RightsTyped g pipes tables at n (values id types rows) notes stands = Unit {0}
RightsTyped g pipes tables at n (remote id output m input) notes (j, is, below, passed) = RightsTyped g pipes tables j m input (pipes j).notes below
RightsTyped g pipes tables at n (step id s input) notes stands = RightsTyped g pipes tables at n input notes stands.1
RightsTyped g pipes tables at n (join id kind on left right) notes (j, is, below, known, rest) =
    GaveTyped (types_of (tree_of_run right)) n (pipes j) × RightsTyped g pipes tables j n right (pipes j).notes below
    × RightsTyped g pipes tables at n left (λ k d. other_notes (notes k d)) rest
RightsTyped g pipes tables at n (halves id source output m h input) notes (j, half, alone, is, below, passed) =
    RightsTyped g pipes tables j m input (pipes j).notes below
RightsTyped g pipes tables at n (union id left right) notes (i, j, first, left_below, second, right_below, passed) =
    RightsTyped g pipes tables i n left (pipes i).notes left_below × RightsTyped g pipes tables j n right (pipes j).notes right_below
