use Rattle.std.proofs.Common.{◌≡◌, ◌<◌, ◌-◌, length, rules}
use Rattle.dyn_filter.proofs.DomainLemmas.{too_many_at}
use Rattle.dyn_filter.proofs.value_list.domain_of.Goals as goal

pub returns-then-len-gt-MOST_VALUES : goal.returns-then-len-gt-MOST_VALUES
returns-then-len-gt-MOST_VALUES c =
    let many : 1000 < length c.args.values.items = search rules in
    let last : c.len-then-len-gt-MOST_VALUES.result - 1 ≡ length c.args.values.items - 1 = search rules in
    too_many_at c.args.values.items c.in_ok-copy.field-0 c.in_ok-copy-2.field-0 (c.len-then-len-gt-MOST_VALUES.result - 1) c.requires.ascending many (search rules) (search rules) last
