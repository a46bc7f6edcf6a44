use Rattle.std.proofs.Common.{rules}
use Rattle.col_pages.proofs.page.Page.slice.Goals as goal

pub returns : goal.returns
returns c = search rules
