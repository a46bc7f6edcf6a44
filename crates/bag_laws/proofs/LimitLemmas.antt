-- The first items of pieces, gathered and cut again, are the first items of the whole in some order.
use Rattle.std.proofs.Common.{◌≡◌, ℕ, ◌<◌, ◌≤◌, List, [], ◌++◌, ap, sym, ◌∙◌, arith, length, take, drop, ◌⊎◌, inl, inr}
use Rattle.std.proofs.lemmas.Bool.{cases_lt}
use Rattle.std.proofs.lemmas.List.{append-nil, drop_all, length-take, take-append-drop, take-append-le}
use Rattle.bag_laws.specs.Weights.{SameWeights, Within}
use Rattle.bag_laws.specs.Gather.{gather}
use Rattle.bag_laws.specs.Firsts.{IsFirstOf}
use Rattle.bag_laws.proofs.BagLemmas.{same-append, same-from_equal, same-length, same-refl, same-sym, same-trans}
use Rattle.bag_laws.proofs.GatherLemmas.{chosen, gather-agree, gather-none, length-gather-le, same-gather, same-gather_append}

module _ {X : Type 0} where
  take_at_case : (c : ℕ) (A B : List X) → (length A < c → B ≡ []) → (length A < c) ⊎ (c ≤ length A) → take c (A ++ B) ≡ take c A
  take_at_case c A B none (inl lt) = ap (λ items. take c (A ++ items)) (none lt) ∙ ap (take c) (append-nil A)
  take_at_case c A B none (inr le) = take-append-le c A B le

  -- what stands behind enough items is cut off
  pub take-append_enough : (c : ℕ) (A B : List X) → (length A < c → B ≡ []) → take c (A ++ B) ≡ take c A
  take-append_enough c A B none = take_at_case c A B none (cases_lt (length A) c)

  -- where all that is kept is short, nothing was cut off
  pub rests-none : (c n : ℕ) (lists : ℕ → List X) → length (gather n (λ k. take c (lists k))) < c → gather n (λ k. drop c (lists k)) ≡ []
  rests-none c n lists short =
      gather-none n (λ k. drop c (lists k))
      (λ k lt. drop_all c (lists k) (omega (arith, length-take c (lists k), length-gather-le n (λ j. take c (lists j)) k lt, short)))

  pub same-cut_parts : (c n : ℕ) (lists : ℕ → List X) → SameWeights (gather n lists) (gather n (λ k. take c (lists k)) ++ gather n (λ k. drop c (lists k)))
  same-cut_parts c n lists =
      same-trans (same-from_equal (gather-agree n lists (λ k. take c (lists k) ++ drop c (lists k)) (λ k lt. sym (take-append-drop c (lists k)))))
      (same-gather_append n (λ k. take c (lists k)) (λ k. drop c (lists k)))

  cut_twice : (c n : ℕ) (lists : ℕ → List X) (Z : List X) → SameWeights (gather n (λ k. take c (lists k))) Z → IsFirstOf c (gather n lists) (take c Z)
  cut_twice c n lists Z s =
      let rest = gather n (λ k. drop c (lists k)) in
      record {
        order = Z ++ rest;
        same = same-trans (same-cut_parts c n lists) (same-append s (same-refl rest));
        is = sym (take-append_enough c Z rest (λ short. rests-none c n lists (omega (arith, same-length s, short))));
      }

  -- from each piece its first items, of these the first ones
  pub first-of_firsts : (c n : ℕ) (pieces firsts : ℕ → List X) → ((k : ℕ) → k < n → IsFirstOf c (pieces k) (firsts k))
      → (first : List X) → IsFirstOf c (gather n firsts) first → IsFirstOf c (gather n pieces) first
  first-of_firsts c n pieces firsts each first f =
      let orders = chosen (λ k order. SameWeights (pieces k) order × (firsts k ≡ take c order)) [] n (λ k lt. ((each k lt).order, ((each k lt).same, (each k lt).is))) in
      let all : SameWeights (gather n (λ k. take c (orders.0 k))) f.order
      = same-trans (same-from_equal (gather-agree n (λ k. take c (orders.0 k)) firsts (λ k lt. sym ((orders.1 k lt).1)))) f.same in
      let whole = cut_twice c n orders.0 f.order all in
      record {
        order = whole.order;
        same = same-trans (same-gather n pieces orders.0 (λ k lt. (orders.1 k lt).0)) whole.same;
        is = f.is ∙ whole.is;
      }

  pub first-of_same : (c : ℕ) {A B first : List X} → SameWeights A B → IsFirstOf c A first → IsFirstOf c B first
  first-of_same c s f = record { order = f.order; same = same-trans (same-sym s) f.same; is = f.is }

  pub first-within : (c : ℕ) (A first : List X) → IsFirstOf c A first → Within first A
  first-within c A first f = record {
    rest = drop c f.order;
    whole = same-trans (same-from_equal (ap (λ items. items ++ drop c f.order) f.is ∙ take-append-drop c f.order)) (same-sym f.same);
  }
