-- Each step on the word keeps the rule of the claims.
use Rattle.std.proofs.Common.{◌≡◌, ◌≢◌, ℕ, zero, suc, ◌+◌, ◌%◌, ◌^◌, ◌<◌, ◌≤◌, min, List, [], ◌∷◌, ◌++◌, set, refl, sym, ap, ◌∙◌, subst, ⊎_elim, lt_of_not-le, arith}
use Rattle.std.specs.Prelude.{sum_by, slice_index, slice_set}
use Rattle.std.specs.List.{range_with_len}
use Rattle.std.proofs.lemmas.List.Sums.{sum_by-append, sum_by_push}
use mathlib.Core.Option.{some, some-injective, some-ne-none}
use mathlib.Core.Logic.{dite}
use native.Mathlib.Decide.{dec_le}
use lib.ListN.{get_elem?}
use Rattle.atomic_table.specs.Table.{Me, Act, keeps, opening, stepped, Valid, carried_after, Allows, Splits, Joins}
use Rattle.atomic_table.proofs.Lists.{at_set, at_snoc, set_again, set_else}
use Rattle.split_source.specs.declared.draws.Counts.{Counts}
use Rattle.split_source.specs.declared.draws.Drawn.{Drawn}
use Rattle.split_source.specs.Claims.{unshared, fewer, one_seat, together, spent, with_number, with_end, IsView, ClaimRule, Keeps, Drew, Showed}
use Rattle.sum_laws.proofs.SumLemmas.{sum_range, sum_by-put, sum_by-alone, sum_by-below}

each_put : (counts : Counts) (views : List Drawn) (id : ℕ) (w : Drawn) → ((by : ℕ) (v : Drawn) → get_elem? views by ≡ some v → IsView counts v) → IsView counts w → (by : ℕ) (v : Drawn) → get_elem? (set views id w) by ≡ some v → IsView counts v
each_put counts views id w all mine by v e =
    ⊎_elim (λ (t : (by ≡ id) × (w ≡ v)). subst (IsView counts) t.1 mine) (λ (t : (by ≢ id) × (get_elem? views by ≡ some v)). all by v t.1) (at_set views id by w v e)

pub begins : (counts : Counts) → counts.count + counts.seats < 2 ^ 64 → 0 < counts.seats → Keeps counts (opening (0 ∷ []) [] (unshared counts))
begins counts small seated = (
  0,
  refl,
  record {
    small = small;
    seated = seated;
    drawn = λ h. ap (λ k. sum_by h (range_with_len 0 k)) (sym least);
    past = λ h. absurd (omega (arith, h));
    bound = omega arith;
    seats = omega arith;
    each = one;
  },
)
  where
    least : min 0 counts.count ≡ 0
    least = omega arith

    mine : IsView counts (unshared counts)
    mine = record { within = omega arith; empty = λ _. refl; same = λ _. refl }

    one : (by : ℕ) (v : Drawn) → get_elem? (unshared counts ∷ []) by ≡ some v → IsView counts v
    one zero v e = subst (IsView counts) (some-injective _ _ e) mine
    one (suc by) v e = absurd (some-ne-none v (sym e))

module _ (counts : Counts) (n id : ℕ) (views : List Drawn) (v : Drawn) (rule : ClaimRule counts n views) (at : get_elem? views id ≡ some v) (room : v.ended < v.seats) where
  drawn_keeps : n < counts.count → ClaimRule counts (n + 1) (set views id (with_number v n))
  drawn_keeps below = record {
    small = rule.small;
    seated = rule.seated;
    drawn = λ h. omega (arith, put (λ u. sum_by h u.numbers), sum_by_push h v.numbers n, rule.drawn h, ap (λ k. sum_by h (range_with_len 0 k)) old, ap (λ k. sum_by h (range_with_len 0 k)) new, sum_range h n);
    past = λ h. omega (arith, rule.past (omega (arith, h, put (λ u. u.ended))));
    bound = omega (arith, rule.bound, put (λ u. u.ended), below);
    seats = omega (arith, rule.seats, put (λ u. u.seats));
    each = each_put counts views id (with_number v n) rule.each (mine (rule.each id v at));
  }
    where
      put : (f : Drawn → ℕ) → sum_by f (set views id (with_number v n)) + f v ≡ sum_by f views + f (with_number v n)
      put f = sum_by-put f views id v (with_number v n) at

      old : min n counts.count ≡ n
      old = omega (arith, below)

      new : min (n + 1) counts.count ≡ suc n
      new = omega (arith, below)

      mine : IsView counts v → IsView counts (with_number v n)
      mine i = record { within = i.within; empty = λ e. absurd (omega (arith, e, room)); same = i.same }

  ended_keeps : counts.count ≤ n → ClaimRule counts (n + 1) (set views id (with_end v))
  ended_keeps over = record {
    small = rule.small;
    seated = rule.seated;
    drawn = λ h. omega (arith, put (λ u. sum_by h u.numbers), rule.drawn h, ap (λ k. sum_by h (range_with_len 0 k)) same);
    past = λ _. omega (arith, over);
    bound = omega (arith, rule.bound, put (λ u. u.ended));
    seats = omega (arith, rule.seats, put (λ u. u.seats));
    each = each_put counts views id (with_end v) rule.each (mine (rule.each id v at));
  }
    where
      put : (f : Drawn → ℕ) → sum_by f (set views id (with_end v)) + f v ≡ sum_by f views + f (with_end v)
      put f = sum_by-put f views id v (with_end v) at

      same : min (n + 1) counts.count ≡ min n counts.count
      same = omega (arith, over)

      mine : IsView counts v → IsView counts (with_end v)
      mine i = record { within = omega (arith, room); empty = i.empty; same = i.same }

  -- no seat moves the word over its last value
  fits : n + 1 < 2 ^ 64
  fits =
      let ended : sum_by (λ u. u.ended) views < counts.seats = ended_below in
      omega (arith, rule.small, rule.bound, ended)
    where
      ended_below : sum_by (λ u. u.ended) views < counts.seats
      ended_below = subst (λ k. sum_by (λ u. u.ended) views < k) rule.seats (sum_by-below (λ u. u.ended) (λ u. u.seats) views id v (λ i u there. (rule.each i u there).within) at room)

pub draws : (counts : Counts) (slots id : ℕ) (me : Me (Unit {0}) Drawn) → me.0.ended < me.0.seats → Allows (Keeps counts) slots id me 0 (λ n. (n + 1) % 2 ^ 64) (Drew me)
draws counts slots id me room s (n, is, rule) homes at word =
    dite (dec_le counts.count n) (λ over. step (with_end me.0) (ended_keeps counts n id s.views me.0 rule at room over) (record {
      number = λ below. absurd (omega (arith, below, over, ap (λ (c : Counts). c.count) of));
      at_end = λ _. refl;
      hands = refl;
      range = small_word;
    })) (λ below. step (with_number me.0 n) (drawn_keeps counts n id s.views me.0 rule at room (lt_of_not-le below)) (record {
      number = λ _. refl;
      at_end = λ over. absurd (omega (arith, lt_of_not-le below, over, ap (λ (c : Counts). c.count) of));
      hands = refl;
      range = small_word;
    }))
  where
    of : me.0.of ≡ counts
    of = (rule.each id me.0 at).same (omega (arith, room))

    found : slice_index s.words 0 ≡ n
    found = ap (λ ws. slice_index ws 0) is

    small_word : n < 2 ^ 64
    small_word = omega (arith, fits counts n id s.views me.0 rule at room)

    whole : (n + 1) % 2 ^ 64 ≡ n + 1
    whole = omega (arith, fits counts n id s.views me.0 rule at room)

    step : (w : Drawn) → ClaimRule counts (n + 1) (set s.views id w) → Drew me n (w, me.1) → (w : Drawn) × (a : Act (Unit {0})) × Valid s.homes me.1 a × Keeps counts (stepped s 0 ((slice_index s.words 0 + 1) % 2 ^ 64) id me.1 w a) × Drew me (slice_index s.words 0) (w, carried_after me.1 a)
    step w kept drew = (w, keeps, tt, (n + 1, (ap (λ ws. slice_set ws 0 ((slice_index ws 0 + 1) % 2 ^ 64)) is ∙ ap (λ k. k ∷ []) whole), kept), subst (λ k. Drew me k (w, me.1)) (sym found) drew)

pub splits : (counts : Counts) (id : ℕ) (v : Drawn) → 1 < v.seats → v.ended < v.seats → Splits (Keeps counts) id v (fewer v) (one_seat v)
splits counts id v many room s (n, is, rule) at = (
  n,
  is,
  record {
    small = rule.small;
    seated = rule.seated;
    drawn = λ h. omega (arith, all (λ u. sum_by h u.numbers), rule.drawn h);
    past = λ h. rule.past (omega (arith, h, all (λ u. u.ended)));
    bound = omega (arith, rule.bound, all (λ u. u.ended));
    seats = omega (arith, rule.seats, all (λ u. u.seats), many);
    each = λ by u there. ⊎_elim (λ t. each_put counts s.views id (fewer v) rule.each (left (rule.each id v at)) by u t) (λ (t : one_seat v ≡ u). subst (IsView counts) t (right (rule.each id v at))) (at_snoc (set s.views id (fewer v)) (one_seat v) u by there);
  },
)
  where
    all : (f : Drawn → ℕ) → sum_by f (set s.views id (fewer v) ++ one_seat v ∷ []) + f v ≡ sum_by f s.views + f (fewer v) + f (one_seat v)
    all f = omega (arith, sum_by-put f s.views id v (fewer v) at, sum_by_push f (set s.views id (fewer v)) (one_seat v))

    left : IsView counts v → IsView counts (fewer v)
    left i = record { within = omega (arith, room); empty = λ e. absurd (omega (arith, e, many)); same = λ _. i.same (omega (arith, many)) }

    right : IsView counts v → IsView counts (one_seat v)
    right i = record { within = omega arith; empty = λ _. refl; same = λ _. i.same (omega (arith, many)) }

pub joins : (counts : Counts) (id : ℕ) (v : Drawn) (other : ℕ) (w : Drawn) → 0 < v.seats → Joins (Keeps counts) id v other w (together v w) spent
joins counts id v other w seated s (n, is, rule) at apart there = (
  n,
  is,
  record {
    small = rule.small;
    seated = rule.seated;
    drawn = λ h. omega (arith, all (λ u. sum_by h u.numbers), sum_by-append h v.numbers w.numbers, rule.drawn h);
    past = λ h. rule.past (omega (arith, h, all (λ u. u.ended)));
    bound = omega (arith, rule.bound, all (λ u. u.ended));
    seats = omega (arith, rule.seats, all (λ u. u.seats));
    each = each_put counts (set s.views id (together v w)) other spent (each_put counts s.views id (together v w) rule.each (both (rule.each id v at) (rule.each other w before))) nobody;
  },
)
  where
    before : get_elem? s.views other ≡ some w
    before = sym (set_else s.views id other (together v w) apart) ∙ there

    all : (f : Drawn → ℕ) → sum_by f (set (set s.views id (together v w)) other spent) + f w + f v ≡ sum_by f s.views + f (together v w) + f spent
    all f = omega (arith, sum_by-put f s.views id v (together v w) at, sum_by-put f (set s.views id (together v w)) other w spent there)

    both : IsView counts v → IsView counts w → IsView counts (together v w)
    both i j = record { within = omega (arith, i.within, j.within); empty = λ e. absurd (omega (arith, e, seated)); same = λ _. i.same seated }

    nobody : IsView counts spent
    nobody = record { within = omega arith; empty = λ _. refl; same = λ h. absurd (omega (arith, h)) }

-- where one view has all seats, its numbers are all that were drawn
shown : (counts : Counts) (n id : ℕ) (views : List Drawn) (v : Drawn) → ClaimRule counts n views → get_elem? views id ≡ some v → 0 < v.seats → Showed v
shown counts n id views v rule at seated whole = (
  min n counts.count,
  omega (arith, ap (λ (c : Counts). c.count) of),
  (λ e. let past : counts.count < n = rule.past (omega (arith, e, seated, ended)) in omega (arith, past, ap (λ (c : Counts). c.count) of)),
  λ h. sym (alone (λ u. sum_by h u.numbers) (λ u e. ap (sum_by h) e)) ∙ rule.drawn h,
)
  where
    of : v.of ≡ counts
    of = (rule.each id v at).same seated

    all : sum_by (λ u. u.seats) views ≡ v.seats
    all = rule.seats ∙ sym (ap (λ (c : Counts). c.seats) of) ∙ sym whole

    alone : (f : Drawn → ℕ) → ((u : Drawn) → u.numbers ≡ [] → f u ≡ 0) → sum_by f views ≡ f v
    alone f none = sum_by-alone f (λ u. u.seats) views id v (λ i u there e. none u ((rule.each i u there).empty e)) at all

    ended : sum_by (λ u. u.ended) views ≡ v.ended
    ended = sum_by-alone (λ u. u.ended) (λ u. u.seats) views id v (λ i u there e. omega (arith, (rule.each i u there).within, e)) at all

pub shows : (counts : Counts) (slots id : ℕ) (me : Me (Unit {0}) Drawn) → 0 < me.0.seats → Allows (Keeps counts) slots id me 0 (λ n. n) (λ _ after. (after ≡ me) × Showed me.0)
shows counts slots id me seated s (n, is, rule) homes at word =
    (me.0, keeps, tt, (n, (set_again_word ∙ is), subst (ClaimRule counts n) (sym (set_again s.views id me.0 at)) rule), (refl, shown counts n id s.views me.0 rule at seated))
  where
    set_again_word : slice_set s.words 0 (slice_index s.words 0) ≡ s.words
    set_again_word = ap (λ ws. slice_set ws 0 (slice_index ws 0)) is ∙ sym is
