use Rattle.std.proofs.Common.{◌≡◌, ◌++◌, ◌∷◌, [], None, List, subst, sym, ap, ◌∙◌}
use Rattle.sql_values.specs.declared.value.Value.{Value}
use Rattle.sql_values.specs.Cells.{cut}
use Rattle.accumulators.specs.Groups.{Group, empty_group}
use Rattle.group_index.specs.Keys.{place_of}
use Rattle.aggregation.specs.Tables.{IsTable, TableState}
use Rattle.aggregation.proofs.TableLemmas.{table-more}
use Rattle.aggregation.proofs.table.GroupTable.push.Goals as goal

pub invariant_of-self-2 : goal.invariant_of-self-2
invariant_of-self-2 g c =
    let s = c.self.inside in
    let row = g.C.Cells.values c.args.cells.now in
    let group = c.in_ok-group.group in
    let none : None ≡ place_of s.index (cut s.columns.items row) = c.requires ∙ ap (λ (t : TableState). place_of t.keys (cut t.columns row)) (sym c.self.view_is) in
    let fresh : group ≡ empty_group s.types.items s.calls.items = c.in_ok-group.ensures ∙ (λ i. empty_group (c.deref-2.ensures.value i) (c.deref.ensures.value i)) in
    let keys : c.push.new.self ≡ s.index ++ cut s.columns.items row ∷ [] = c.in_ok-push.ensures.ok ∙ ap (λ columns. s.index ++ cut columns row ∷ []) c.deref-3.ensures.value in
    let groups : c.push_reserved.new.self.items ≡ s.groups.items ++ group ∷ [] = c.push_reserved.ensures.items ∙ ap (λ gs. gs ++ group ∷ []) c.in_ok-reserve.ensures.items in
    subst (λ (ks : List (List Value)). IsTable s.columns.items s.calls.items s.types.items ks c.push_reserved.new.self.items) (sym keys)
    (subst (λ (gs : List Group). IsTable s.columns.items s.calls.items s.types.items (s.index ++ cut s.columns.items row ∷ []) gs) (sym groups)
    (table-more s.columns.items s.calls.items s.types.items s.index s.groups.items c.self.invariant row group none fresh))
