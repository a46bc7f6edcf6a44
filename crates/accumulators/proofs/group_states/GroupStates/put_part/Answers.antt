use Rattle.std.proofs.Common.{◌≡◌, ℕ, ◌<◌, ◌≤◌, List, ◌∷◌, length, get_or, refl, ap, sym, subst, ◌∙◌, arith}
use Rattle.std.specs.Prelude.{All, pos, replicate, sum_by}
use Rattle.std.proofs.lemmas.Grind.{get_or_default_zero}
use Rattle.sql_values.specs.declared.value.Value.{Value}
use Rattle.sql_values.specs.declared.value.Value.TheVariants.{Decimal, Null}
use Rattle.relation_laws.specs.Aggregates.{most_group_rows}
use Rattle.relation_laws.specs.Partials.{call_width}
use Rattle.accumulators.specs.GroupLists.{group_at}
use Rattle.accumulators.specs.Kept.{all_columns}
use Rattle.accumulators.specs.KeptColumns.{IsKeptAt, KeptColumn, all_kept_at}
use Rattle.accumulators.proofs.GroupListLemmas.{all-kept_at, calls-at, few-partial, length-view, many-partial, put-behind, view-at}
use Rattle.accumulators.proofs.SlotLemmas.{ok_from}
use Rattle.accumulators.proofs.group_states.GroupStates.put_part.Goals as goal

pub index-count-requires : goal.index-count-requires
index-count-requires c =
    let s = c.self.inside in
    let rows = s.rows.items in
    let cols = s.columns.items in
    let lt : c.args.place < length rows = omega (arith, c.requires, length-view rows cols c.args.self.now c.self.view_is) in
    omega (arith, lt, s.rows.ok.0)

pub returns-then-count-gt-MOST_ROWS : goal.returns-then-count-gt-MOST_ROWS
returns-then-count-gt-MOST_ROWS c =
    let s = c.self.inside in
    let rows = s.rows.items in
    let cols = s.columns.items in
    let lt : c.args.place < length rows = omega (arith, c.requires, length-view rows cols c.args.self.now c.self.view_is) in
    let told : c.index-count.result.now ≡ get_or rows c.args.place 0 = c.index-count.ensures ∙ get_or_default_zero rows c.args.place c.index-count.result.now lt in
    let a = get_or rows c.args.place 0 in
    let ks = all_kept_at c.args.place cols in
    let group = group_at c.args.self.now c.args.place in
    let view = view-at rows cols c.args.place c.args.self.now c.self.view_is lt in
    let is = c.self.invariant.each c.args.place lt in
    let number : Decimal (pos c.index-count.result.now) ≡ Decimal (pos a) = ap (λ n. Decimal (pos n)) told in
    let more = replicate (sum_by call_width s.none.calls) Null in
    let whole : group.partial ≡ Decimal (pos c.index-count.result.now) ∷ more
    = many-partial a ks group (Decimal (pos c.index-count.result.now)) s.none.calls view is.few (omega (arith, told, c.if-count-gt-MOST_ROWS.true)) number (c.self.invariant.of_calls ∙ sym (calls-at c.args.place cols)) in
    ok_from c.put_nulls.result c.put_nulls.result refl
    (put-behind c.args.rows.now c.put_row_count.new.rows c.put_nulls.new.rows (Decimal (pos c.index-count.result.now)) more group.partial whole c.in_ok-put_row_count.ensures) c.put_nulls.ensures

pub put_each_at-requires : goal.put_each_at-requires
put_each_at-requires c =
    let s = c.self.inside in
    let rows = s.rows.items in
    let cols = s.columns.items in
    let lt : c.args.place < length rows = omega (arith, c.requires, length-view rows cols c.args.self.now c.self.view_is) in
    let told : c.index-count.result.now ≡ get_or rows c.args.place 0 = c.index-count.ensures ∙ get_or_default_zero rows c.args.place c.index-count.result.now lt in
    let a = get_or rows c.args.place 0 in
    let ks = all_kept_at c.args.place cols in
    let group = group_at c.args.self.now c.args.place in
    let view = view-at rows cols c.args.place c.args.self.now c.self.view_is lt in
    let is = c.self.invariant.each c.args.place lt in
    let few : a ≤ most_group_rows = omega (arith, told, c.if-count-gt-MOST_ROWS.false) in
    subst (λ (xs : List KeptColumn). All (IsKeptAt c.args.place c.index-count.result.now) xs) (sym c.deref.ensures.value)
    (subst (λ (n : ℕ). All (IsKeptAt c.args.place n) cols) (sym told) (all-kept_at c.args.place (length rows) a cols lt c.self.invariant.long few (is.all_kept few)))

pub returns : goal.returns
returns c =
    let s = c.self.inside in
    let rows = s.rows.items in
    let cols = s.columns.items in
    let lt : c.args.place < length rows = omega (arith, c.requires, length-view rows cols c.args.self.now c.self.view_is) in
    let told : c.index-count.result.now ≡ get_or rows c.args.place 0 = c.index-count.ensures ∙ get_or_default_zero rows c.args.place c.index-count.result.now lt in
    let a = get_or rows c.args.place 0 in
    let ks = all_kept_at c.args.place cols in
    let group = group_at c.args.self.now c.args.place in
    let view = view-at rows cols c.args.place c.args.self.now c.self.view_is lt in
    let is = c.self.invariant.each c.args.place lt in
    let number : Decimal (pos c.index-count.result.now) ≡ Decimal (pos a) = ap (λ n. Decimal (pos n)) told in
    let more = all_columns (all_kept_at c.args.place c.deref.result.now) in
    let same : all_columns ks ≡ more = ap (λ (xs : List KeptColumn). all_columns (all_kept_at c.args.place xs)) (sym c.deref.ensures.value) in
    let whole : group.partial ≡ Decimal (pos c.index-count.result.now) ∷ more
    = few-partial a ks group (Decimal (pos c.index-count.result.now)) view (omega (arith, told, c.if-count-gt-MOST_ROWS.false)) number ∙ ap (λ (xs : List Value). Decimal (pos c.index-count.result.now) ∷ xs) same in
    ok_from c.put_each_at.result c.put_each_at.result refl
    (put-behind c.args.rows.now c.put_row_count.new.rows c.put_each_at.new.rows (Decimal (pos c.index-count.result.now)) more group.partial whole c.in_ok-put_row_count.ensures) c.put_each_at.ensures
