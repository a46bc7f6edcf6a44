-- Parts of bags.
use Rattle.std.proofs.Common.{List, [], ◌++◌, ap, sym, ◌∙◌, subst, append_assoc}
use Rattle.std.specs.Prelude.{IsPermutation}
use Rattle.std.proofs.lemmas.List.{append-nil}
use Rattle.std.proofs.lemmas.List.Sorted.{IsPermutation-refl, IsPermutation-sym}
use Rattle.sql_values.specs.Bags.{SameBag, SubBag}
use Rattle.relation_laws.specs.Sorts.{IsBeginning}

module _ {X : Type 0} where
  pub sub_from_same : (xs ys : List X) → SameBag ys xs → SubBag xs ys
  sub_from_same xs ys same = ([], subst (λ zs. IsPermutation zs ys) (sym (append-nil xs)) (IsPermutation-sym ys xs same))

  pub sub_itself : (xs : List X) → SubBag xs xs
  sub_itself xs = sub_from_same xs xs (IsPermutation-refl xs)

  pub whole_beginning : (xs : List X) → IsBeginning xs xs
  whole_beginning xs = ([], append-nil xs)

  pub sub_beginning : (xs ys zs : List X) → IsBeginning xs ys → SubBag ys zs → SubBag xs zs
  sub_beginning xs ys zs front sub =
      (front.0 ++ sub.0, subst (λ us. IsPermutation us zs) (ap (λ us. us ++ sub.0) (sym front.1) ∙ append_assoc xs front.0 sub.0) sub.1)

  pub beginning_trans : (xs ys zs : List X) → IsBeginning xs ys → IsBeginning ys zs → IsBeginning xs zs
  beginning_trans xs ys zs front more =
      (front.0 ++ more.0, sym (append_assoc xs front.0 more.0) ∙ ap (λ us. us ++ more.0) front.1 ∙ more.1)
