use Rattle.std.proofs.Common.{◌≡◌, map, take}
use Rattle.serde_json.specs.View.{view}
use Rattle.sql_exprs.specs.Forms.{form_view}
use Rattle.plan_docs.specs.Exprs.{expr_form}
use Rattle.plan_docs.proofs.exprs.read_all.Given as goal

abbrev pub invariant-loop-entry : goal.invariant-loop-entry
invariant-loop-entry l = map form_view l.exprs.items ≡ map expr_form (map view (take l.entry-index l.entries))
