-- Lists of rows that have types: row by row, as bags and as parts.
use Rattle.std.proofs.Common.{List, [], ◌∷◌, ◌++◌, subst, sym}
use Rattle.std.specs.Prelude.{All, IsTrue}
use Rattle.std.proofs.lemmas.List.Elements.{All-cons, All-head, All-nil, All-tail}
use Rattle.std.proofs.lemmas.List.Sorted.{All-permutation, IsPermutation-sym}
use Rattle.sql_values.specs.declared.types.SqlType.{SqlType}
use Rattle.sql_values.specs.declared.value.Value.{Value}
use Rattle.sql_values.specs.Types.{row_has_types}
use Rattle.sql_values.specs.Bags.{SubBag}
use Rattle.relation_laws.specs.Sorts.{IsBeginning}

abbrev pub Has : List SqlType → List Value → Type 0
Has types row = IsTrue (row_has_types types row)

-- what holds of each item of a list holds of each item of a front, and of a part
module _ {X : Type 0} (P : X → Type 0) where
  All-front : (xs ys : List X) → All P (xs ++ ys) → All P xs
  All-front [] ys all = All-nil P
  All-front (x ∷ xs) ys all = All-cons P x xs (All-head P x (xs ++ ys) all) (All-front xs ys (All-tail P x (xs ++ ys) all))

  pub All-beginning : (xs ys : List X) → IsBeginning xs ys → All P ys → All P xs
  All-beginning xs ys front all = All-front xs front.0 (subst (All P) (sym front.1) all)

  pub All-sub : (xs ys : List X) → SubBag xs ys → All P ys → All P xs
  All-sub xs ys sub all = All-front xs sub.0 (All-permutation P ys (xs ++ sub.0) (IsPermutation-sym (xs ++ sub.0) ys sub.1) all)
