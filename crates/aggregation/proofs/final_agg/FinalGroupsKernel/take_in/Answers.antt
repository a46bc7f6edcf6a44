use Rattle.std.proofs.Common.{◌≡◌, ◌++◌, length, map, ap, sym, subst}
use Rattle.std.specs.Prelude.{◌↔◌}
use Rattle.aggregation.specs.Alike.{TellAlike, held_row}
use Rattle.aggregation.specs.Finals.{FinalState}
use Rattle.col_pages.specs.Fits.{IsOfTypes}
use Rattle.aggregation.specs.Giving.{GroupsFail, GroupsGive, GroupsState, merged_with}
use Rattle.aggregation.specs.Tables.{held_in}
use Rattle.aggregation.proofs.FinalLemmas.{layout-rows}
use Rattle.aggregation.proofs.OperatorLemmas.{took-fails, took-gives}
use Rattle.aggregation.proofs.SingleLemmas.{merged-taken}
use Rattle.aggregation.proofs.final_agg.FinalGroupsKernel.take_in.Goals as goal

pub returns-clause-gives : goal.returns-clause-gives
returns-clause-gives c =
    let old = c.self.inside.groups in
    let new = c.merge_page.new.self in
    let rows = c.args.page.rows in
    let same = c.in_ok-merge_page.ensures.same in
    let takes : IsOfTypes c.self.inside.taken c.args.page = subst (λ (s : FinalState). IsOfTypes s.taken c.args.page) (sym c.self.view_is) c.requires.takes in
    let whole : map (held_row old.table.columns) rows ≡ rows
    = layout-rows old.table.columns c.self.inside.width c.self.inside.taken rows c.self.invariant.front c.self.invariant.wide takes.fit in
    let alike = subst (λ rs. TellAlike (length old.table.columns) old.table.calls (held_in new.table) (held_in old.table ++ rs)) whole c.in_ok-merge_page.ensures.ok in
    λ u X B g. subst (λ (s : FinalState). GroupsGive s.groups.begun s.groups.left.rows (merged_with s.groups.table (rows ++ X)) B) c.self.view_is
    (took-gives old new (merged_with new.table X) (merged_with old.table (rows ++ X)) (ap (λ (s : GroupsState). s.begun) same) (ap (λ (s : GroupsState). s.left) same)
    (merged-taken old.table new.table (ap (λ (s : GroupsState). s.table) same) rows X alike) B g)

pub returns-clause-fails : goal.returns-clause-fails
returns-clause-fails c =
    let old = c.self.inside.groups in
    let new = c.merge_page.new.self in
    let rows = c.args.page.rows in
    let same = c.in_ok-merge_page.ensures.same in
    let takes : IsOfTypes c.self.inside.taken c.args.page = subst (λ (s : FinalState). IsOfTypes s.taken c.args.page) (sym c.self.view_is) c.requires.takes in
    let whole : map (held_row old.table.columns) rows ≡ rows
    = layout-rows old.table.columns c.self.inside.width c.self.inside.taken rows c.self.invariant.front c.self.invariant.wide takes.fit in
    let alike = subst (λ rs. TellAlike (length old.table.columns) old.table.calls (held_in new.table) (held_in old.table ++ rs)) whole c.in_ok-merge_page.ensures.ok in
    λ u X node kind. subst (λ (s : FinalState). GroupsFail new.begun c.self.inside.node (merged_with new.table X) node kind ↔ GroupsFail s.groups.begun s.node (merged_with s.groups.table (rows ++ X)) node kind) c.self.view_is
    (took-fails old new (merged_with new.table X) (merged_with old.table (rows ++ X)) (ap (λ (s : GroupsState). s.begun) same) (ap (λ (s : GroupsState). s.left) same)
    (merged-taken old.table new.table (ap (λ (s : GroupsState). s.table) same) rows X alike) c.self.inside.node node kind)
