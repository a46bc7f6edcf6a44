use Rattle.std.proofs.Common.{sym, ◌∙◌}
use Rattle.std.proofs.lemmas.List.{take-map}
use Rattle.serde_json.specs.View.{view}
use Rattle.plan_checks.proofs.names.columns_before.Goals as goal

pub returns-then-index-columns : goal.returns-then-index-columns
returns-then-index-columns c =
    sym (take-map view c.step_index-index.result c.columns_at-columns.result.now)
    ∙ rw (c.columns_at-columns.ensures, c.step_index-index.ensures, c.part_index.ensures)
