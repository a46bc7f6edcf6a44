use Rattle.std.proofs.Common.{rules}
use Rattle.aggregation.proofs.group_rows.GroupRows.merge_page.Goals as goal

pub returns-clause-ok : goal.returns-clause-ok
returns-clause-ok c = search rules
