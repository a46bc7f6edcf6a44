-- Each step on the queue of an edge keeps its rule.
use Rattle.std.proofs.Common.{◌≡◌, ◌≢◌, ℕ, zero, suc, ◌+◌, ◌-◌, ◌<◌, ◌≤◌, List, [], ◌∷◌, ◌++◌, set, refl, sym, ap, ◌∙◌, subst, ⊎_elim, arith}
use Rattle.std.specs.Prelude.{sum_by}
use Rattle.std.proofs.lemmas.List.Sums.{sum_by-append, sum_by-cons, sum_by_push}
use mathlib.Core.Option.{some, some-injective, some-ne-none}
use lib.ListN.{get_elem?}
use Rattle.atomic_table.proofs.Lists.{at_set, at_snoc}
use Rattle.crossbeam_queue.specs.Fifo.{Pushes, Pops, Forks, Merges, Learns}
use Rattle.sum_laws.proofs.SumLemmas.{sum_by-put, sum_by-alone}
use Rattle.output_buffer.specs.declared.edge.EdgeView.{EdgeView}
use Rattle.output_buffer.specs.declared.piece.Piece.{Piece}
use Rattle.output_buffer.specs.declared.piece.Piece.TheVariants.{Rows, End}
use Rattle.output_buffer.specs.Edges.{ends_in, pages_in, end_count, last_from, page_at_end, all_parts, edge_view, unshared, fewer, fewer_done, together, spent, with_put, with_took, IsEdgeView, EdgeRule, Shows, StoodBeside, late_from}

last_of_more : (before : ℕ) (xs : List Piece) (x : Piece) → last_from before (xs ++ x ∷ []) ≡ pages_in x
last_of_more before [] x = refl
last_of_more before (y ∷ ys) x = last_of_more (pages_in y) ys x

last_behind : (x : Piece) (xs : List Piece) → page_at_end (x ∷ xs) ≡ 0 → page_at_end xs ≡ 0
last_behind x [] e = refl
last_behind x (y ∷ ys) e = e

-- a piece behind others: a page is late once for each End before it
pub late_of_more : (before : ℕ) (xs : List Piece) (x : Piece) → end_count xs + before ≡ 0 → late_from before (xs ++ x ∷ []) ≡ late_from before xs
late_of_more before [] (Rows page) none = omega (arith, none)
late_of_more before [] (End number) none = refl
late_of_more before (Rows page ∷ xs) x none = omega (arith, late_of_more before xs x (omega (arith, none, sum_by-cons ends_in (Rows page) xs)))
late_of_more before (End number ∷ xs) x none = absurd (omega (arith, none, sum_by-cons ends_in (End number) xs))

pub late_of_end : (before : ℕ) (xs : List Piece) (number : ℕ) → late_from before (xs ++ End number ∷ []) ≡ late_from before xs
late_of_end before [] number = refl
late_of_end before (Rows page ∷ xs) number = ap (λ n. before + n) (late_of_end before xs number)
late_of_end before (End other ∷ xs) number = late_of_end (suc before) xs number

end_or_page : (x : Piece) → ends_in x + pages_in x ≡ 1
end_or_page (Rows page) = refl
end_or_page (End number) = refl

pub page_is_one : (x : Piece) → pages_in x ≤ 1
page_is_one x = omega (arith, end_or_page x)

-- pages alone, of which the last is no page, are none
pub nothing_left : (xs : List Piece) → end_count xs ≡ 0 → page_at_end xs ≡ 0 → xs ≡ []
nothing_left [] none last = refl
nothing_left (x ∷ xs) none last = absurd (omega (arith, last, ends_in_page x xs none))
  where
    ends_in_page : (x : Piece) (xs : List Piece) → end_count (x ∷ xs) ≡ 0 → page_at_end (x ∷ xs) ≡ 1
    ends_in_page x [] e = omega (arith, end_or_page x, sum_by-cons ends_in x [], e)
    ends_in_page x (y ∷ ys) e = ends_in_page y ys (omega (arith, sum_by-cons ends_in x (y ∷ ys), e))

each_put : (views : List EdgeView) (id : ℕ) (w : EdgeView) → ((by : ℕ) (v : EdgeView) → get_elem? views by ≡ some v → IsEdgeView v) → IsEdgeView w → (by : ℕ) (v : EdgeView) → get_elem? (set views id w) by ≡ some v → IsEdgeView v
each_put views id w all mine by v e =
    ⊎_elim (λ (t : (by ≡ id) × (w ≡ v)). subst IsEdgeView t.1 mine) (λ (t : (by ≢ id) × (get_elem? views by ≡ some v)). all by v t.1) (at_set views id by w v e)

pub begins : EdgeRule [] (unshared ∷ [])
begins = record { whole = refl; balanced = λ weight. refl; ends_last = λ e. refl; each = one }
  where
    mine : IsEdgeView unshared
    mine = record { idle = λ e. absurd (omega (arith, e)); put = λ e. refl; took = λ e. refl }

    one : (by : ℕ) (v : EdgeView) → get_elem? (unshared ∷ []) by ≡ some v → IsEdgeView v
    one zero v e = subst IsEdgeView (some-injective _ _ e) mine
    one (suc by) v e = absurd (some-ne-none v (sym e))

-- a seat puts a piece at the back: a page only where it may
pub puts : (room id : ℕ) (v : EdgeView) (x : Piece) → 0 < v.parts → pages_in x ≤ v.putting → Pushes EdgeRule room id v x (λ w. w ≡ with_put v x)
puts room id v x seated may items views _ rule at = (
  with_put v x,
  record {
    whole = omega (arith, rule.whole, put (λ u. u.parts));
    balanced = λ weight. omega (arith, put (λ u. sum_by weight u.put), put (λ u. sum_by weight u.took), rule.balanced weight, sum_by_push weight v.put x, sum_by_push weight items x);
    ends_last = λ none. last_of_more 0 items x ∙ omega (arith, none, end_or_page x, may, most views id at);
    each = each_put views id (with_put v x) rule.each (record { idle = λ e. absurd (omega (arith, e, seated)); put = λ e. absurd (omega (arith, e, seated)); took = λ e. absurd (omega (arith, e, seated)) });
  },
  refl,
)
  where
    put : (f : EdgeView → ℕ) → sum_by f (set views id (with_put v x)) + f v ≡ sum_by f views + f (with_put v x)
    put f = sum_by-put f views id v (with_put v x) at

    most : (vs : List EdgeView) (i : ℕ) → get_elem? vs i ≡ some v → v.putting - ends_in x ≤ sum_by (λ u. u.putting) (set vs i (with_put v x))
    most [] i e = absurd (some-ne-none v (sym e))
    most (u ∷ us) zero e = omega (arith, sum_by-cons (λ (u : EdgeView). u.putting) (with_put v x) us)
    most (u ∷ us) (suc i) e = omega (arith, sum_by-cons (λ (u : EdgeView). u.putting) u (set us i (with_put v x)), most us i e)

pub takes : (id : ℕ) (v : EdgeView) → 0 < v.parts → Pops EdgeRule id v (λ x w. w ≡ with_took v x)
takes id v seated x items views rule at = (
  with_took v x,
  record {
    whole = omega (arith, rule.whole, put (λ u. u.parts));
    balanced = λ weight. omega (arith, put (λ u. sum_by weight u.put), put (λ u. sum_by weight u.took), rule.balanced weight, sum_by_push weight v.took x, sum_by-cons weight x items);
    ends_last = λ none. last_behind x items (rule.ends_last (omega (arith, none, put (λ u. u.putting))));
    each = each_put views id (with_took v x) rule.each (record { idle = λ e. absurd (omega (arith, e, seated)); put = λ e. absurd (omega (arith, e, seated)); took = λ e. absurd (omega (arith, e, seated)) });
  },
  refl,
)
  where
    put : (f : EdgeView → ℕ) → sum_by f (set views id (with_took v x)) + f v ≡ sum_by f views + f (with_took v x)
    put f = sum_by-put f views id v (with_took v x) at

-- whatever a seat is cut into: the parts add up, no right to put pages is lost, and the new one knows nothing yet
pub forks : (id : ℕ) (v l r : EdgeView) → l.parts + r.parts ≡ v.parts → v.putting ≤ l.putting + r.putting → l.put ≡ v.put → l.took ≡ v.took → r.put ≡ [] → r.took ≡ [] → 0 < l.parts → 0 < r.parts → Forks EdgeRule id v l r
forks id v l r parts putting put took no_put no_took left right items views rule at = record {
  whole = omega (arith, rule.whole, all (λ u. u.parts), parts);
  balanced = λ weight. omega (arith, rule.balanced weight, all (λ u. sum_by weight u.put), all (λ u. sum_by weight u.took), ap (sum_by weight) put, ap (sum_by weight) took, ap (sum_by weight) no_put, ap (sum_by weight) no_took);
  ends_last = λ none. rule.ends_last (omega (arith, none, all (λ u. u.putting), putting));
  each = λ by u there. ⊎_elim (λ t. each_put views id l rule.each (seated l left) by u t) (λ (t : r ≡ u). subst IsEdgeView t (seated r right)) (at_snoc (set views id l) r u by there);
}
  where
    all : (f : EdgeView → ℕ) → sum_by f (set views id l ++ r ∷ []) + f v ≡ sum_by f views + f l + f r
    all f = omega (arith, sum_by-put f views id v l at, sum_by_push f (set views id l) r)

    seated : (u : EdgeView) → 0 < u.parts → IsEdgeView u
    seated u has = record { idle = λ e. absurd (omega (arith, e, has)); put = λ e. absurd (omega (arith, e, has)); took = λ e. absurd (omega (arith, e, has)) }

-- so many putters' seats were cut off the first one, and one more
pub one_putter_fewer : (v : EdgeView) (n : ℕ) → v ≡ edge_view (all_parts - n) (1 - n) [] [] → fewer_done v ≡ edge_view (all_parts - (n + 1)) (1 - (n + 1)) [] []
one_putter_fewer v n is =
    let parts : (all_parts - n) - 1 ≡ all_parts - (n + 1) = omega arith in
    let putting : 0 ≡ 1 - (n + 1) = omega arith in
    ap fewer_done is ∙ (λ i. edge_view (parts i) (putting i) [] [])

-- so many takers' seats were cut off the first one, and one more
pub one_taker_fewer : (v : EdgeView) (n : ℕ) → v ≡ edge_view (all_parts - n) 1 [] [] → fewer v ≡ edge_view (all_parts - (n + 1)) 1 [] []
one_taker_fewer v n is = let parts : (all_parts - n) - 1 ≡ all_parts - (n + 1) = omega arith in ap fewer is ∙ (λ i. edge_view (parts i) 1 [] [])

pub all_cut_off : (v : EdgeView) (n : ℕ) → 0 < n → v ≡ edge_view (all_parts - n) (1 - n) [] [] → v ≡ edge_view (all_parts - n) 0 [] []
all_cut_off v n more is = let putting : 1 - n ≡ 0 = omega (arith, more) in is ∙ (λ i. edge_view (all_parts - n) (putting i) [] [])

pub merges : (id : ℕ) (v : EdgeView) (other : ℕ) (w : EdgeView) → 0 < v.parts → Merges EdgeRule id v other w (together v w) spent
merges id v other w seated items views rule at apart there = record {
  whole = omega (arith, rule.whole, all (λ u. u.parts));
  balanced = λ weight. omega (arith, rule.balanced weight, all (λ u. sum_by weight u.put), all (λ u. sum_by weight u.took), sum_by-append weight v.put w.put, sum_by-append weight v.took w.took);
  ends_last = λ none. rule.ends_last (omega (arith, none, all (λ u. u.putting)));
  each = each_put (set views id (together v w)) other spent (each_put views id (together v w) rule.each both) none;
}
  where
    all : (f : EdgeView → ℕ) → sum_by f (set (set views id (together v w)) other spent) + f w + f v ≡ sum_by f views + f (together v w) + f spent
    all f = omega (arith, sum_by-put f views id v (together v w) at, sum_by-put f (set views id (together v w)) other w spent there)

    both : IsEdgeView (together v w)
    both = record { idle = λ e. absurd (omega (arith, e, seated)); put = λ e. absurd (omega (arith, e, seated)); took = λ e. absurd (omega (arith, e, seated)) }

    none : IsEdgeView spent
    none = record { idle = λ e. refl; put = λ e. refl; took = λ e. refl }

-- at a moment at which a seat looks, the rule holds
pub stands : (id : ℕ) (v : EdgeView) → Learns EdgeRule id v (StoodBeside v)
stands id v items views rule at = record { views = views; by = id; seat = at; rule = rule }

-- where one seat is the whole edge, it knows all that was put and taken
pub shows : (id : ℕ) (v : EdgeView) → Learns EdgeRule id v (Shows v)
shows id v items views rule at whole = record {
  balanced = λ weight. sym (alone (λ u. sum_by weight u.put) (λ u e. ap (sum_by weight) e.0)) ∙ rule.balanced weight ∙ ap (λ n. n + sum_by weight items) (alone (λ u. sum_by weight u.took) (λ u e. ap (sum_by weight) e.1));
  ends_last = λ none. rule.ends_last (alone_putting ∙ none);
}
  where
    mine : sum_by (λ (u : EdgeView). u.parts) views ≡ v.parts
    mine = rule.whole ∙ sym whole

    alone : (f : EdgeView → ℕ) → ((u : EdgeView) → (u.put ≡ []) × (u.took ≡ []) → f u ≡ 0) → sum_by f views ≡ f v
    alone f zero_there = sum_by-alone f (λ (u : EdgeView). u.parts) views id v (λ i u there e. let h = rule.each i u there in zero_there u (h.put e, h.took e)) at mine

    alone_putting : sum_by (λ (u : EdgeView). u.putting) views ≡ v.putting
    alone_putting = sum_by-alone (λ (u : EdgeView). u.putting) (λ (u : EdgeView). u.parts) views id v (λ i u there e. (rule.each i u there).idle e) at mine
