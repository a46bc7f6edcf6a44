use Rattle.std.proofs.Common.{rules}
use Rattle.col_pages.proofs.page_builder.PageBuilder.build.Goals as goal

pub returns-clause-ok : goal.returns-clause-ok
returns-clause-ok c = search rules
