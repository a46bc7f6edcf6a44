use Rattle.table_parts.proofs.CutLemmas.{cut_at, unmarked}
use Rattle.std.proofs.Common.{◌∙◌, sym}
use Rattle.table_parts.proofs.cut.cut_behind.Goals as goal

pub returns-clause-cut : goal.returns-clause-cut
returns-clause-cut c =
    let front = c.split_at.result.0.now in
    let back = c.split_at.result.1.now in
    let end = c.in_ok-at.ensures in
    cut_at c.args.text.now front back c.in_ok-at.at c.requires end.0 end.1 c.split_at.ensures.front c.split_at.ensures.back
    (unmarked back (sym c.starts_with.ensures.value ∙ c.if-starts_with.false))
