use Rattle.std.proofs.Common.{rules}
use Rattle.col_pages.proofs.page_list.PageList.take_first.Goals as goal

pub returns : goal.returns
returns c = search rules
