use Rattle.std.proofs.Common.{◌≡◌, ℕ, ◌<◌, ◌≤◌, List, length, get_or, map, refl, ap, sym, subst, ◌∙◌, arith}
use Rattle.std.specs.Prelude.{All, Result, Ok}
use Rattle.std.proofs.lemmas.Grind.{get_or_default_zero}
use Rattle.sql_values.specs.declared.value.Value.{Value}
use Rattle.sql_values.specs.declared.fail.Fail.{Fail}
use Rattle.relation_laws.specs.Aggregates.{most_group_rows}
use Rattle.sql_values.specs.declared.types.SqlType.{SqlType}
use Rattle.relation_laws.specs.Partials.{results_from}
use Rattle.accumulators.specs.Columns.{kind_in}
use Rattle.accumulators.specs.GroupLists.{group_at}
use Rattle.accumulators.specs.Groups.{RowFailsBy, all_outcomes}
use Rattle.accumulators.specs.KeptColumns.{IsKeptAt, KeptColumn, all_kept_at}
use Rattle.accumulators.proofs.GroupLemmas.{view-told}
use Rattle.accumulators.proofs.GroupListLemmas.{all-kept_at, calls-in, length-view, view-at}
use Rattle.accumulators.proofs.group_states.GroupStates.result.Goals as goal

pub index-requires : goal.index-requires
index-requires c =
    let s = c.self.inside in
    let rows = s.rows.items in
    let cols = s.columns.items in
    let lt : c.args.place < length rows = omega (arith, c.requires, length-view rows cols c.args.self.now c.self.view_is) in
    omega (arith, lt, s.rows.ok.0)

pub results_at-requires : goal.results_at-requires
results_at-requires c =
    let s = c.self.inside in
    let rows = s.rows.items in
    let cols = s.columns.items in
    let lt : c.args.place < length rows = omega (arith, c.requires, length-view rows cols c.args.self.now c.self.view_is) in
    let told : c.index.result.now ≡ get_or rows c.args.place 0 = c.index.ensures ∙ get_or_default_zero rows c.args.place c.index.result.now lt in
    let a = get_or rows c.args.place 0 in
    let ks = all_kept_at c.args.place cols in
    let group = group_at c.args.self.now c.args.place in
    let view = view-at rows cols c.args.place c.args.self.now c.self.view_is lt in
    let is = c.self.invariant.each c.args.place lt in
    λ few.
    let fewer : a ≤ most_group_rows = omega (arith, told, few) in
    subst (λ (xs : List KeptColumn). All (IsKeptAt c.args.place c.index.result.now) xs) (sym c.deref.ensures.value)
    (subst (λ (n : ℕ). All (IsKeptAt c.args.place n) cols) (sym told) (all-kept_at c.args.place (length rows) a cols lt c.self.invariant.long fewer (is.all_kept fewer)))

pub returns-in-Ok : goal.returns-in-Ok
returns-in-Ok c =
    let s = c.self.inside in
    let rows = s.rows.items in
    let cols = s.columns.items in
    let lt : c.args.place < length rows = omega (arith, c.requires, length-view rows cols c.args.self.now c.self.view_is) in
    let told : c.index.result.now ≡ get_or rows c.args.place 0 = c.index.ensures ∙ get_or_default_zero rows c.args.place c.index.result.now lt in
    let a = get_or rows c.args.place 0 in
    let ks = all_kept_at c.args.place cols in
    let group = group_at c.args.self.now c.args.place in
    let view = view-at rows cols c.args.place c.args.self.now c.self.view_is lt in
    let is = c.self.invariant.each c.args.place lt in
    let calls = calls-in rows cols c.args.place c.args.self.now c.self.view_is lt in
    let whole : all_outcomes a ks ≡ all_outcomes c.index.result.now (all_kept_at c.args.place c.deref.result.now)
    = λ i. all_outcomes (sym told i) (all_kept_at c.args.place (sym c.deref.ensures.value i)) in
    let said : (types : List SqlType) → c.args.self.now.kinds ≡ map (kind_in types) c.args.self.now.calls
    → results_from types c.args.self.now.calls group.partial ≡ all_outcomes c.index.result.now (all_kept_at c.args.place c.deref.result.now)
    = λ types e. ap (λ cs. results_from types cs group.partial) (sym calls.0)
    ∙ view-told a ks ks group view is types ks refl (calls.1 ∙ e ∙ ap (map (kind_in types)) (sym calls.0)) ∙ whole in
    λ types e. said types e ∙ c.in-Ok.ensures ∙ ap Ok (sym c.of.ensures)

pub returns-in-Err : goal.returns-in-Err
returns-in-Err c =
    let s = c.self.inside in
    let rows = s.rows.items in
    let cols = s.columns.items in
    let lt : c.args.place < length rows = omega (arith, c.requires, length-view rows cols c.args.self.now c.self.view_is) in
    let told : c.index.result.now ≡ get_or rows c.args.place 0 = c.index.ensures ∙ get_or_default_zero rows c.args.place c.index.result.now lt in
    let a = get_or rows c.args.place 0 in
    let ks = all_kept_at c.args.place cols in
    let group = group_at c.args.self.now c.args.place in
    let view = view-at rows cols c.args.place c.args.self.now c.self.view_is lt in
    let is = c.self.invariant.each c.args.place lt in
    let calls = calls-in rows cols c.args.place c.args.self.now c.self.view_is lt in
    let whole : all_outcomes a ks ≡ all_outcomes c.index.result.now (all_kept_at c.args.place c.deref.result.now)
    = λ i. all_outcomes (sym told i) (all_kept_at c.args.place (sym c.deref.ensures.value i)) in
    let said : (types : List SqlType) → c.args.self.now.kinds ≡ map (kind_in types) c.args.self.now.calls
    → results_from types c.args.self.now.calls group.partial ≡ all_outcomes c.index.result.now (all_kept_at c.args.place c.deref.result.now)
    = λ types e. ap (λ cs. results_from types cs group.partial) (sym calls.0)
    ∙ view-told a ks ks group view is types ks refl (calls.1 ∙ e ∙ ap (map (kind_in types)) (sym calls.0)) ∙ whole in
    λ types e. subst (λ (o : Result (List Value) Fail). RowFailsBy o c.in-Err.fault) (sym (said types e)) c.in-Err.ensures
