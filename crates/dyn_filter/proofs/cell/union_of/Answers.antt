use Rattle.std.proofs.Common.{◌≡◌, ◌<◌, ◌≤◌, get_or, length, rules}
use Rattle.dyn_filter.proofs.CellLemmas.{union_all, union_more}
use Rattle.dyn_filter.proofs.cell.union_of.Goals as goal

pub loop-domain-preserved : goal.loop-domain-preserved
loop-domain-preserved c =
    let inside : c.loop-domain.domain-index < length c.args.domains.now = search rules in
    let at : c.domain-item.result ≡ get_or c.args.domains.now c.loop-domain.domain-index c.domain-item.result = search rules in
    union_more c.args.domains.now c.loop-domain.domain-index c.loop-domain.all c.domain-item.result _ c.loop-domain.invariant inside at c.in_ok-all.ensures

pub returns : goal.returns
returns c =
    let all : length c.args.domains.now ≤ c.loop-domain.domain-index = search rules in
    union_all c.args.domains.now c.loop-domain.domain-index c.loop-domain.all all c.loop-domain.invariant
