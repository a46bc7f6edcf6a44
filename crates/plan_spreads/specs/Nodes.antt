-- The spread of a node's rows over the tasks of its fragment, from its inputs up, or the first node that has none.
use Rattle.std.specs.Prelude.{ℕ, List, Option, None, Result, Ok}
use Rattle.std.specs.Option.{ok_or}
use Rattle.json_paths.specs.declared.key.Key.TheVariants as key
use Rattle.sql_exprs.specs.Typing.{Path, typed_then, under}
use Rattle.plan_docs.specs.declared.plan.Placement.{Placement}
use Rattle.plan_docs.specs.Nodes.{NodeForm, scan, values, remote, step, join, union}
use Rattle.plan_docs.specs.Operators.{OperatorForm, filter, project, part, final}
use Rattle.plan_trees.specs.HalvedSteps as halved
use Rattle.plan_docs.specs.Plans.{FragmentForm}
use Rattle.plan_spreads.specs.declared.spread.RowSpread.{RowSpread}
use Rattle.plan_spreads.specs.declared.spread.RowSpread.TheVariants.{Every}
use Rattle.plan_spreads.specs.Operators.{aggregate_spread, final_spread, first_rows_spread, join_spread, project_spread, remote_spread, scan_spread, union_spread}
use Rattle.plan_spreads.specs.Sources.{fragment_read, keys_read, output_of}

-- the spread of an operator over its one input. A sort, and what takes all rows at once, has none; a filter has no say
abbrev pub operator_spread : Placement → ℕ → List FragmentForm → OperatorForm → NodeForm → RowSpread → Option RowSpread
operator_spread p first later (project columns) input s = project_spread columns s
operator_spread p first later (part w (halved.aggregate keys calls)) input s = aggregate_spread w keys s
operator_spread p first later (part w h) input s = first_rows_spread w s
operator_spread p first later (final halved.aggregates) input s = final_spread p (keys_read first later input) s
operator_spread p first later operator input s = None

-- that of an operator over its two sides
abbrev pub sides_spread : NodeForm → RowSpread → RowSpread → Option RowSpread
sides_spread (join id kind on filters left right) l r = join_spread on l r
sides_spread (union id left right) l r = union_spread l r
sides_spread node l r = None

-- the operator's spread over that of its input
abbrev pub over : Path → Result RowSpread Path → (RowSpread → Option RowSpread) → Result RowSpread Path
over path input spread = typed_then input (λ s. ok_or (spread s) path)

-- the spread of a node over that of its one input
abbrev pub over_input : Placement → ℕ → List FragmentForm → Path → OperatorForm → NodeForm → RowSpread → Result RowSpread Path
over_input p first later path (filter predicate) input s = Ok s
over_input p first later path operator input s = ok_or (operator_spread p first later operator input s) path

-- the node at a path, in a fragment of this placement, where `later` has the fragments from `first` on
abbrev pub spread_of : Placement → ℕ → List FragmentForm → Path → NodeForm → Result RowSpread Path
spread_of p first later path (scan id table columns types) = ok_or (scan_spread p) path
spread_of p first later path (values id types rows) = Ok Every
spread_of p first later path (remote id fragment) = ok_or (remote_spread (output_of (fragment_read first later fragment))) path
spread_of p first later path (step id operator input) =
    typed_then (spread_of p first later (under path key.Input) input) (over_input p first later path operator input)
spread_of p first later path (join id kind on filters left right) =
    typed_then (spread_of p first later (under path key.Left) left)
    (λ l. over path (spread_of p first later (under path key.Right) right) (sides_spread (join id kind on filters left right) l))
spread_of p first later path (union id left right) =
    typed_then (spread_of p first later (under path key.Left) left)
    (λ l. over path (spread_of p first later (under path key.Right) right) (sides_spread (union id left right) l))
