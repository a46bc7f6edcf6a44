use Rattle.std.proofs.Common.{◌∙◌, ◌++◌, ap, map}
use Rattle.sql_functions.specs.CallTypes.{type_at}
use Rattle.col_pages.specs.Pages.{TypedPage}
use Rattle.relation_laws.specs.Verdicts.{keeps}
use Rattle.plan_trees.specs.TreeTypes.{call_kind}
use Rattle.tree_evaluator.proofs.groups.group_rows.Goals as goal

pub returns-in-Ok : goal.returns-in-Ok
returns-in-Ok c = (
  ap (λ (p : TypedPage). p.types) c.in_ok-constant_rows-in-Ok.ensures ∙ c.as_slice-in-Ok.ensures ∙ c.in_ok-types.ensures
      ∙ (λ i. map (type_at (c.types.ensures i)) c.args.keys.now ++ map (call_kind (c.types.ensures i)) c.args.calls.now),
  ap (map keeps) (ap (λ (p : TypedPage). p.rows) c.in_ok-constant_rows-in-Ok.ensures ∙ c.of_columns-list.ensures) ∙ c.in-Ok.ensures.said ∙ c.in_ok-table.ensures,
)
