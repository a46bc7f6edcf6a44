use Rattle.std.proofs.Common.{◌≡◌, ◌++◌, ◌∷◌, [], List, ℕ, subst, sym, ap, ◌∙◌}
use Rattle.sql_values.specs.Cells.{cut}
use Rattle.accumulators.specs.Groups.{empty_group}
use Rattle.aggregation.specs.Tables.{IsTable}
use Rattle.aggregation.proofs.TableLemmas.{table-one}
use Rattle.aggregation.proofs.table.GroupTable.with_one_group.Goals as goal

pub invariant_of-result : goal.invariant_of-result
invariant_of-result c =
    let group = c.in_ok-new.field-0 in
    let none : c.deref.result.now ≡ [] = c.deref.ensures.value ∙ c.requires.none in
    let keys : c.push-2.new.self ≡ [] ∷ [] = c.in_ok-push.ensures.ok ∙ (λ i. c.in_ok-index.ensures i ++ cut (none i) c.of.result ∷ []) in
    let groups : c.push-3.new.self.items ≡ group ∷ [] = c.in_ok-push-2.ensures.items ∙ ap (λ gs. gs ++ group ∷ []) c.new-groups.ensures.items in
    let fresh : group ≡ empty_group c.args.types.items c.args.calls.items = c.in_ok-new.ensures ∙ (λ i. empty_group (c.deref-3.ensures.value i) (c.deref-2.ensures.value i)) in
    subst (λ (columns : List ℕ). IsTable columns c.args.calls.items c.args.types.items c.push-2.new.self c.push-3.new.self.items) (sym c.requires.none)
    (table-one c.args.calls.items c.args.types.items c.push-2.new.self c.push-3.new.self.items group c.requires.allowed keys groups fresh)
