-- Lists that are within others: what keeps that.
use Rattle.std.proofs.Common.{ℕ, ◌<◌, zero, suc, List, [], ◌++◌, Bool, sym, arith, map}
use Rattle.std.specs.Prelude.{filter, flat_map}
use Rattle.std.proofs.lemmas.List.{map-append, append_assoc}
use Rattle.std.proofs.lemmas.List.Concat.{flat_map-append}
use Rattle.std.proofs.lemmas.List.Elements.{filter-append}
use Rattle.sql_values.specs.declared.value.Value.{Value}
use Rattle.sql_values.specs.Bags.{SubBag}
use Rattle.bag_laws.specs.Weights.{SameWeights, Within}
use Rattle.bag_laws.specs.Gather.{gather}
use Rattle.bag_laws.proofs.BagLemmas.{bag_from_same, same-append, same-exchange, same-filter, same-flat_map, same-from_equal, same-map, same-refl, same-trans, same_from_bag}

module _ {X : Type 0} where
  pub within-front : (A B : List X) → Within A (A ++ B)
  within-front A B = record { rest = B; whole = same-refl (A ++ B) }

  pub within-same : {A B C : List X} → Within A B → SameWeights B C → Within A C
  within-same w s = record { rest = w.rest; whole = same-trans w.whole s }

  pub within-trans : {A B C : List X} → Within A B → Within B C → Within A C
  within-trans {A} v w = record {
    rest = v.rest ++ w.rest;
    whole = same-trans (same-from_equal (sym (append_assoc A v.rest w.rest))) (same-trans (same-append v.whole (same-refl w.rest)) w.whole);
  }

  pub within-append : {A B C D : List X} → Within A B → Within C D → Within (A ++ C) (B ++ D)
  within-append {A} {B} {C} {D} v w = record { rest = v.rest ++ w.rest; whole = same-trans (same-exchange A C v.rest w.rest) (same-append v.whole w.whole) }

  pub within-gather : (n : ℕ) (f g : ℕ → List X) → ((k : ℕ) → k < n → Within (f k) (g k)) → Within (gather n f) (gather n g)
  within-gather zero f g each = within-front [] []
  within-gather (suc n) f g each = within-append (within-gather n f g (λ k lt. each k (omega arith))) (each n (omega arith))

  pub within-filter : (p : X → Bool) {A B : List X} → Within A B → Within (filter p A) (filter p B)
  within-filter p {A} w = record { rest = filter p w.rest; whole = same-trans (same-from_equal (sym (filter-append p A w.rest))) (same-filter p w.whole) }

module _ {X Y : Type 0} where
  pub within-map : (f : X → Y) {A B : List X} → Within A B → Within (map f A) (map f B)
  within-map f {A} w = record { rest = map f w.rest; whole = same-trans (same-from_equal (sym (map-append f A w.rest))) (same-map f w.whole) }

  pub within-flat_map : (f : X → List Y) {A B : List X} → Within A B → Within (flat_map f A) (flat_map f B)
  within-flat_map f {A} w = record { rest = flat_map f w.rest; whole = same-trans (same-from_equal (sym (flat_map-append f A w.rest))) (same-flat_map f w.whole) }

pub sub_bag_from_within : (rows others : List (List Value)) → Within rows others → SubBag rows others
sub_bag_from_within rows others w = (w.rest, bag_from_same (rows ++ w.rest) others w.whole)

pub within_from_sub_bag : (rows others : List (List Value)) → SubBag rows others → Within rows others
within_from_sub_bag rows others (rest, same) = record { rest = rest; whole = same_from_bag (rows ++ rest) others same }
