-- The stages of a driver, made for the nodes of its pipeline, and what the notes of its probes know.
use Rattle.std.specs.Prelude.{◌≡◌, ℕ, List, [], ◌∷◌, ◌++◌, Some, map}
use Rattle.sql_values.specs.declared.types.SqlType.{SqlType}
use Rattle.operator_core.specs.Rows.{Row}
use Rattle.join_index.specs.Keys.{IndexedRows}
use Rattle.hash_join.specs.Probing.{ProbeState}
use Rattle.driver_loop.specs.declared.stage.Stage.{Stage}
use Rattle.driver_loop.specs.declared.stage.Stage.TheVariants.{Probe}
use Rattle.driver_loop.specs.contracts.stage.StageOperator.TheImpl.{ghosts}
use Rattle.plan_trees.specs.TreeTypes.{types_of}
use Rattle.plan_run_laws.specs.Stages.{does, second_half}
use Rattle.plan_run_laws.specs.RunPlans.{RunPlan, tree_of_run, scan, values, remote, step, halves, join, union}
use Rattle.pipe_laws.specs.Pipelines.{NodeStage, at_node}
use Rattle.pipe_laws.specs.Lookups.{IsSourceOf, rows_known}
use Rattle.pipe_laws.specs.Operators.{EndsIn, NoOperator}
use Rattle.pipe_laws.specs.Trees.{types_between}
use Rattle.pipe_laws.specs.Lanes.{Noted}
use Rattle.driver_net_laws.specs.Cells.{Names}
use Rattle.driver_net_laws.specs.Stages.{IsProbeOf, IsStageOf}

-- behind stages for the input stands that of the node
abbrev pub Behind : (List Stage → List SqlType → Type 0) → NodeStage → List Stage → List SqlType → Type 0
Behind AreForInput at all given = EndsIn AreForInput (λ last between. IsStageOf at between given (ghosts.as_made last)) all

-- the stages are those of the nodes from the source up to this one. The bells are those of the cells of its joins in the
-- driver's task, from the node down
abbrev pub AreMadeFor : Names → RunPlan → List ℕ → List Stage → List SqlType → Type 0
AreMadeFor names (scan id table columns types) bells all given = NoOperator types all given
AreMadeFor names (values id types rows) bells all given = NoOperator types all given
AreMadeFor names (remote id output tasks input) bells all given = NoOperator (types_of (tree_of_run input)) all given
AreMadeFor names (step id s input) bells all given =
    Behind (AreMadeFor names input bells) (at_node id (does (types_of (tree_of_run input)) s)) all given
AreMadeFor names (halves id source output tasks h input) bells all given =
    Behind (NoOperator (types_between (types_of (tree_of_run input)) h)) (at_node id (second_half (types_of (tree_of_run input)) h)) all given
AreMadeFor names (join id kind on left right) [] all given = ⊥
AreMadeFor names (join id kind on left right) (bell ∷ bells) all given =
    EndsIn (AreMadeFor names left bells) (λ last between. IsProbeOf names bell kind on (types_of (tree_of_run right)) between given (ghosts.as_made last)) all
AreMadeFor names (union id left right) bells all given = NoOperator (types_of (tree_of_run left)) all given

-- what the note of a stage knows of a join's right side, if it has one
abbrev pub note_known : Stage → Noted
note_known (Probe op types) = rows_known op.note.known ∷ []
note_known stage = []

-- what the notes of a driver's stages know, from the last one down
abbrev pub notes_known : List Stage → Noted
notes_known [] = []
notes_known (s ∷ stages) = notes_known stages ++ note_known s

-- what a probe of this bell knows, among stages that pass the test, is a source for its join: found by the right columns,
-- and of rows of the right side's types
abbrev pub KnowSources : RunPlan → List ℕ → (Stage → Type 0) → Type 0
KnowSources (scan id table columns types) bells IsOne = Unit {0}
KnowSources (values id types rows) bells IsOne = Unit {0}
KnowSources (remote id output tasks input) bells IsOne = Unit {0}
KnowSources (step id s input) bells IsOne = KnowSources input bells IsOne
KnowSources (halves id source output tasks h input) bells IsOne = Unit {0}
KnowSources (join id kind on left right) [] IsOne = Unit {0}
KnowSources (join id kind on left right) (bell ∷ bells) IsOne =
    ((op : ProbeState) (types : List SqlType) → IsOne (Probe op types) → op.bell ≡ bell → (source : IndexedRows) → op.note.known ≡ Some source
    → IsSourceOf (map (λ (pair : ℕ × ℕ). pair.1) on) (types_of (tree_of_run right)) source)
    × KnowSources left bells IsOne
KnowSources (union id left right) bells IsOne = Unit {0}
