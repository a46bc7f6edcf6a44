-- The types of the rows of each fragment of a plan, or the first place that does not fit.
use Rattle.std.specs.Prelude.{ℕ, ◌+◌, List, [], ◌∷◌, length, slice_get, nat_le, ◌==◌, if◌then◌else◌, Option, Some, None, Result, Ok}
use Rattle.std.specs.List.{position_from}
use Rattle.sql_values.specs.declared.types.SqlType.{SqlType}
use Rattle.json_paths.specs.declared.key.Key.TheVariants as key
use Rattle.json_paths.specs.declared.step.Step.TheVariants as step
use Rattle.sql_exprs.specs.Typing.{Path, typed_then}
use Rattle.plan_docs.specs.declared.plan.Output.{Output}
use Rattle.plan_docs.specs.declared.plan.Output.TheVariants as output
use Rattle.plan_docs.specs.Plans.{FragmentForm, PlanForm}
use Rattle.plan_types.specs.declared.row_types.RowTypes.{RowTypes}
use Rattle.plan_types.specs.Faults.{entry_fault, or_fault}
use Rattle.plan_types.specs.Nodes.{node_types}

abbrev pub root_path : ℕ → Path
root_path i = step.Key key.Fragments ∷ step.Index i ∷ step.Key key.Root ∷ []

abbrev pub output_path : ℕ → Path
output_path i = step.Key key.Fragments ∷ step.Index i ∷ step.Key key.Output ∷ []

-- rows are spread by columns that they have
abbrev pub output_fault : ℕ → List SqlType → Output → Option Path
output_fault i types (output.Hash columns) = entry_fault (output_path i) key.Columns (position_from (nat_le (length types)) 0 columns)
output_fault i types o = None

-- the fragment at place i, where `later` has the types of those after it: its root, then its output
abbrev pub fragment_types : List RowTypes → ℕ → FragmentForm → Result RowTypes Path
fragment_types later i f =
    typed_then (node_types (i + 1) later (root_path i) f.root) (λ types. or_fault (output_fault i types.columns f.output) (Ok types))

-- the fragments from place i on, the last one first
abbrev pub all_types : ℕ → List FragmentForm → Result (List RowTypes) Path
all_types i [] = Ok []
all_types i (f ∷ fs) = typed_then (all_types (i + 1) fs) (λ later. typed_then (fragment_types later i f) (λ types. Ok (types ∷ later)))

abbrev pub width_of : Option RowTypes → ℕ
width_of None = 0
width_of (Some types) = length types.columns

-- the result has as many names as columns
abbrev pub result_fault : ℕ → List RowTypes → Option Path
result_fault names types = if names == width_of (slice_get types 0) then None else Some (step.Key key.Output ∷ [])

unfoldable pub plan_types : PlanForm → Result (List RowTypes) Path
plan_types plan = typed_then (all_types 0 plan.fragments) (λ types. or_fault (result_fault (length plan.output) types) (Ok types))
