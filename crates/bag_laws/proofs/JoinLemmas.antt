-- Joins of bags, and joins whose sides many tasks share.
use Rattle.std.proofs.Common.{◌≡◌, ℕ, ◌<◌, List, [], ◌∷◌, ◌++◌, Bool, true, refl, ap, sym, ◌∙◌}
use Rattle.std.specs.Prelude.{filter, flat_map, ◌==◌}
use Rattle.std.proofs.lemmas.Bool.{eqb-true}
use Rattle.std.proofs.lemmas.List.{append-nil}
use Rattle.std.proofs.lemmas.List.Concat.{flat_map-append}
use Rattle.sql_values.specs.declared.value.Value.{Value}
use Rattle.sql_values.specs.declared.relational.JoinKind.{JoinKind}
use Rattle.sql_values.specs.declared.relational.JoinKind.TheVariants.{Inner, Left}
use Rattle.relation_laws.specs.Joins.{are_partners, beside_each, join_of, nulls, partnered}
use Rattle.bag_laws.specs.Weights.{SameWeights}
use Rattle.bag_laws.specs.Gather.{gather}
use Rattle.bag_laws.specs.Buckets.{Sits, SitByBucket}
use Rattle.bag_laws.proofs.BagLemmas.{same-refl, same-trans, same-sym, same-nil, same-from_equal, same-map, same-filter, same-flat_map, same-flat_map_each}
use Rattle.bag_laws.proofs.GatherLemmas.{gather-agree, gather-filter, gather-flat_map, gather-one, same-gather}
use Rattle.bag_laws.proofs.BucketLemmas.{false_unless, filter-sits_none, flat_map-sits_agree, sits-cons, sits-flat_map, sits-nil}

flat_map-nothing : {X Y : Type 0} (A : List X) → flat_map {A = Y} (λ x. []) A ≡ []
flat_map-nothing [] = refl
flat_map-nothing (x ∷ A) = flat_map-nothing A

pub same-partnered : (kind : JoinKind) (filler a : List Value) (bs cs : List (List Value)) → SameWeights bs cs
    → SameWeights (partnered kind filler a bs) (partnered kind filler a cs)
same-partnered Inner filler a bs cs s = same-map (λ b. a ++ b) s
same-partnered Left filler a [] cs s = same-from_equal (ap (partnered Left filler a) (sym (same-nil (same-sym s))))
same-partnered Left filler a (b ∷ bs) [] s = same-from_equal (ap (partnered Left filler a) (same-nil s))
same-partnered Left filler a (b ∷ bs) (c ∷ cs) s = same-map (λ r. a ++ r) s

module _ (kind : JoinKind) (on : List (ℕ × ℕ)) (l r : ℕ) where
  -- the rows that a row of the left side gives
  abbrev beside : List (List Value) → List Value → List (List Value)
  beside right a = partnered kind (nulls r) a (filter (are_partners on a) right)

  pub same-join : {A B C D : List (List Value)} → SameWeights A B → SameWeights C D → SameWeights (join_of kind on l r A C) (join_of kind on l r B D)
  same-join {A} {B} {C} {D} s t =
      same-trans (same-flat_map (beside C) s)
      (same-flat_map_each (beside C) (beside D)
      (λ a. same-partnered kind (nulls r) a (filter (are_partners on a) C) (filter (are_partners on a) D) (same-filter (are_partners on a) t)) B)

  -- each task has the whole right side
  pub join-gather_left : (n : ℕ) (lefts : ℕ → List (List Value)) (right : List (List Value))
      → gather n (λ k. join_of kind on l r (lefts k) right) ≡ join_of kind on l r (gather n lefts) right
  join-gather_left n lefts right = sym (gather-flat_map n (beside right) lefts)

  pub same-join_whole_right : (n : ℕ) (lefts rights : ℕ → List (List Value)) (right : List (List Value))
      → ((k : ℕ) → k < n → SameWeights (rights k) right)
      → SameWeights (gather n (λ k. join_of kind on l r (lefts k) (rights k))) (join_of kind on l r (gather n lefts) right)
  same-join_whole_right n lefts rights right whole =
      same-trans (same-gather n (λ k. join_of kind on l r (lefts k) (rights k)) (λ k. join_of kind on l r (lefts k) right)
      (λ k lt. same-join (same-refl (lefts k)) (whole k lt)))
      (same-from_equal (join-gather_left n lefts right))

  -- tests that rows of one bucket pass on the left side, and on the right one
  module _ (b d : List Value → ℕ) (partners_agree : (x y : List Value) → are_partners on x y ≡ true → b x ≡ d y) where
    -- all partners of a row are in the task of its bucket
    pub partners-here : (n : ℕ) (rights : ℕ → List (List Value)) → SitByBucket d n rights → (k : ℕ) → k < n → (a : List Value) → b a ≡ k
        → filter (are_partners on a) (gather n rights) ≡ filter (are_partners on a) (rights k)
    partners-here n rights sits k lt a here =
        gather-filter n (are_partners on a) rights
        ∙ gather-one n (λ j. filter (are_partners on a) (rights j)) k lt
        (λ j less ne. filter-sits_none (λ y. d y == j) (are_partners on a)
        (λ y e. false_unless (are_partners on a y) (λ p. ne (sym (eqb-true (d y) j e) ∙ sym (partners_agree a y p) ∙ here))) (rights j) (sits j less))

    -- a join over buckets is the join
    pub join-by_bucket : (n : ℕ) (lefts rights : ℕ → List (List Value)) → SitByBucket b n lefts → SitByBucket d n rights
        → gather n (λ k. join_of kind on l r (lefts k) (rights k)) ≡ join_of kind on l r (gather n lefts) (gather n rights)
    join-by_bucket n lefts rights sit_left sit_right =
        gather-agree n (λ k. join_of kind on l r (lefts k) (rights k)) (λ k. join_of kind on l r (lefts k) (gather n rights))
        (λ k lt. flat_map-sits_agree (λ a. b a == k) (beside (rights k)) (beside (gather n rights))
        (λ a e. ap (partnered kind (nulls r) a) (sym (partners-here n rights sit_right k lt a (eqb-true (b a) k e)))) (lefts k) (sit_left k lt))
        ∙ join-gather_left n lefts (gather n rights)

  beside_sits : (q : List Value → Bool) (a : List Value) (bs : List (List Value)) → ((x : List Value) → q (a ++ x) ≡ true) → Sits q (beside_each a bs)
  beside_sits q a [] each = sits-nil q
  beside_sits q a (c ∷ bs) each = sits-cons q (a ++ c) (beside_each a bs) (each c) (beside_sits q a bs each)

  partnered_sits : (q : List Value → Bool) (k : JoinKind) (a : List Value) (bs : List (List Value)) → ((x : List Value) → q (a ++ x) ≡ true) → Sits q (partnered k (nulls r) a bs)
  partnered_sits q Inner a bs each = beside_sits q a bs each
  partnered_sits q Left a [] each = sits-cons q (a ++ nulls r) [] (each (nulls r)) (sits-nil q)
  partnered_sits q Left a (c ∷ bs) each = beside_sits q a (c ∷ bs) each

  -- what is said of the left side's columns holds of the join's rows
  pub sits-join : (p q : List Value → Bool) → ((a x : List Value) → p a ≡ true → q (a ++ x) ≡ true) → (left right : List (List Value))
      → Sits p left → Sits q (join_of kind on l r left right)
  sits-join p q each left right s =
      sits-flat_map p q (beside right) (λ a e. partnered_sits q kind a (filter (are_partners on a) right) (λ x. each a x e)) left s

  pub join-append_left : (A B right : List (List Value)) → join_of kind on l r (A ++ B) right ≡ join_of kind on l r A right ++ join_of kind on l r B right
  join-append_left A B right = flat_map-append (beside right) A B

module _ (on : List (ℕ × ℕ)) (l r : ℕ) where
  -- rows that have no partner give nothing in an inner join
  pub join-no_partners : (p : List Value → Bool) (right : List (List Value)) → ((a : List Value) → p a ≡ true → filter (are_partners on a) right ≡ [])
      → (lost : List (List Value)) → Sits p lost → join_of Inner on l r lost right ≡ []
  join-no_partners p right none lost s =
      flat_map-sits_agree p (λ a. beside_each a (filter (are_partners on a) right)) (λ a. []) (λ a e. ap (beside_each a) (none a e)) lost s ∙ flat_map-nothing lost

  -- so an inner join may go without them
  pub same-join_without : (p : List Value → Bool) (right : List (List Value)) → ((a : List Value) → p a ≡ true → filter (are_partners on a) right ≡ [])
      → (left whole lost : List (List Value)) → Sits p lost → SameWeights (left ++ lost) whole
      → SameWeights (join_of Inner on l r left right) (join_of Inner on l r whole right)
  same-join_without p right none left whole lost s same =
      same-trans
      (same-from_equal (sym (join-append_left Inner on l r left lost right ∙ ap (λ rows. join_of Inner on l r left right ++ rows) (join-no_partners p right none lost s)
      ∙ append-nil (join_of Inner on l r left right))))
      (same-join Inner on l r same (same-refl right))
