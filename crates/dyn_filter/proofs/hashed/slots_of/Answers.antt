use Rattle.std.proofs.Common.{◌≡◌, ◌<◌, ◌≤◌, get_or, length, refl, rules}
use Rattle.sql_values.specs.Cells.{lent_value}
use Rattle.dyn_filter.proofs.HashedLemmas.{slots_all, slots_more, slots_none}
use Rattle.dyn_filter.proofs.hashed.slots_of.Goals as goal

pub loop-value-init : goal.loop-value-init
loop-value-init c =
    let size : length c.in_ok-slots.slots.items ≡ 4096 = search rules in
    slots_none c.args.list.now c.in_ok-slots.slots.items size

pub loop-value-preserved : goal.loop-value-preserved
loop-value-preserved c =
    let inside : c.loop-value.value-index < length c.args.list.now = search rules in
    let at : lent_value c.as_ref.result ≡ get_or c.args.list.now c.loop-value.value-index (lent_value c.as_ref.result) = search rules in
    let more : 0 < c.saturating_add-next.result = search rules in
    slots_more c.args.list.now c.loop-value.value-index c.loop-value.slots.items _ c.loop-value.next c.saturating_add-next.result (lent_value c.as_ref.result) c.slot_of.result
    c.loop-value.invariant inside at c.slot_of.ensures.of c.slot_of.ensures.within refl more

pub returns : goal.returns
returns c =
    let all : length c.args.list.now ≤ c.loop-value.value-index = search rules in
    slots_all c.args.list.now c.loop-value.value-index c.loop-value.slots.items c.loop-value.next c.loop-value.invariant all
