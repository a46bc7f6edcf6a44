use Rattle.std.proofs.Common.{rules}
use Rattle.col_pages.proofs.page.Page.select.Goals as goal

pub returns : goal.returns
returns c = search rules
