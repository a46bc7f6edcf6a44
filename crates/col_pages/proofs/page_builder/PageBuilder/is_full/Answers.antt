use Rattle.std.proofs.Common.{rules}
use Rattle.col_pages.proofs.page_builder.PageBuilder.is_full.Goals as goal

pub returns : goal.returns
returns c = search rules
