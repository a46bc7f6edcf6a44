-- Lists seen as bags: which rows they hold, and how often, whatever their order.
use Rattle.std.specs.Prelude.{List, ◌++◌, IsPermutation}

-- every element occurs equally often in both lists
abbrev pub SameBag : {A : Type 0} → List A → List A → Type 0
SameBag xs ys = IsPermutation xs ys

-- no element occurs more often in `xs` than in `ys`
abbrev pub SubBag : {A : Type 0} → List A → List A → Type 0
SubBag {A} xs ys = (rest : List A) × IsPermutation (xs ++ rest) ys
