-- The columns by which rows have their bucket: what leaves their values as they are.
use Rattle.std.proofs.Common.{◌≡◌, ℕ, ◌<◌, zero, suc, List, [], ◌∷◌, ◌++◌, Bool, true, refl, ap, sym, arith, length, take, get_or}
use Rattle.std.specs.Prelude.{All, Contains, ◌&&◌}
use Rattle.std.proofs.lemmas.Bool.{and_parts}
use Rattle.std.proofs.lemmas.List.Elements.{All-contains, All-head, All-tail}
use Rattle.std.proofs.lemmas.List.Sums.{AllPass-from_list_all}
use Rattle.sql_values.specs.declared.value.Value.{Value}
use Rattle.sql_values.specs.Buckets.{bucket_of}
use Rattle.sql_values.specs.Cells.{cell, cut}
use Rattle.relation_laws.specs.Equality.{is_present, same_value}
use Rattle.relation_laws.specs.Joins.{are_equal, are_partners}
use Rattle.relation_laws.proofs.EqualityLemmas.{same_value_decides}
use Rattle.bag_laws.specs.Buckets.{AllBelow, at_places, key_bucket, lefts, rights}

cells_agree : (r s : List Value) (P : ℕ → Type 0) → ((column : ℕ) → P column → cell r column ≡ cell s column) → (columns : List ℕ) → All P columns → cut columns r ≡ cut columns s
cells_agree r s P each [] h = refl
cells_agree r s P each (column ∷ columns) h =
    λ i. each column (All-head P column columns h) i ∷ cells_agree r s P each columns (All-tail P column columns h) i

-- columns in front of what is put behind a row
pub cell-append : (a b : List Value) (column : ℕ) → column < length a → cell (a ++ b) column ≡ cell a column
cell-append [] b column lt = absurd (omega (arith, lt))
cell-append (v ∷ a) b zero lt = refl
cell-append (v ∷ a) b (suc column) lt = cell-append a b column (omega (arith, lt))

pub cut-append : (columns : List ℕ) (a b : List Value) → AllBelow (length a) columns → cut columns (a ++ b) ≡ cut columns a
cut-append columns a b h = cells_agree (a ++ b) a (λ column. column < length a) (cell-append a b) columns h

pub key_bucket-append : (n : ℕ) (columns : List ℕ) (a b : List Value) → AllBelow (length a) columns → key_bucket n columns (a ++ b) ≡ key_bucket n columns a
key_bucket-append n columns a b h = ap (λ values. bucket_of values n) (cut-append columns a b h)

-- columns in front of what is cut off a row
pub cell-take : (width : ℕ) (row : List Value) (column : ℕ) → column < width → cell (take width row) column ≡ cell row column
cell-take zero row column lt = absurd (omega (arith, lt))
cell-take (suc width) [] column lt = refl
cell-take (suc width) (v ∷ row) zero lt = refl
cell-take (suc width) (v ∷ row) (suc column) lt = cell-take width row column (omega (arith, lt))

pub key_bucket-take : (n width : ℕ) (columns : List ℕ) (row : List Value) → AllBelow width columns → key_bucket n columns row ≡ key_bucket n columns (take width row)
key_bucket-take n width columns row h =
    ap (λ values. bucket_of values n) (sym (cells_agree (take width row) row (λ column. column < width) (cell-take width row) columns h))

-- columns of a row that was itself cut to some columns
pub cell-cut : (columns : List ℕ) (row : List Value) (place : ℕ) → place < length columns → cell (cut columns row) place ≡ cell row (get_or columns place 0)
cell-cut [] row place lt = absurd (omega (arith, lt))
cell-cut (column ∷ columns) row zero lt = refl
cell-cut (column ∷ columns) row (suc place) lt = cell-cut columns row place (omega (arith, lt))

pub cut-cut : (columns places : List ℕ) (row : List Value) → AllBelow (length columns) places → cut places (cut columns row) ≡ cut (at_places columns places) row
cut-cut columns [] row h = refl
cut-cut columns (place ∷ places) row h =
    λ i. cell-cut columns row place (All-head (λ p. p < length columns) place places h) i ∷ cut-cut columns places row (All-tail (λ p. p < length columns) place places h) i

pub key_bucket-cut : (n : ℕ) (columns places : List ℕ) (row : List Value) → AllBelow (length columns) places
    → key_bucket n (at_places columns places) row ≡ key_bucket n places (cut columns row)
key_bucket-cut n columns places row h = ap (λ values. bucket_of values n) (sym (cut-cut columns places row h))

-- partners have the same values in the columns of the join
equal_values : (v w : Value) → are_equal v w ≡ true → v ≡ w
equal_values v w e = (same_value_decides v w).0 ((and_parts (is_present v && is_present w) (same_value v w) e).1)

pub partners-cut : (on pairs : List (ℕ × ℕ)) → All (Contains on) pairs → (a b : List Value) → are_partners on a b ≡ true → cut (lefts pairs) a ≡ cut (rights pairs) b
partners-cut on [] h a b e = refl
partners-cut on (pair ∷ pairs) h a b e =
    let equal : ℕ × ℕ → Bool = λ p. are_equal (cell a p.0) (cell b p.1) in
    let here : equal pair ≡ true = All-contains (λ p. equal p ≡ true) on pair (AllPass-from_list_all equal on e) (All-head (Contains on) pair pairs h) in
    λ i. equal_values (cell a pair.0) (cell b pair.1) here i ∷ partners-cut on pairs (All-tail (Contains on) pair pairs h) a b e i

pub partners-key_bucket : (on pairs : List (ℕ × ℕ)) → All (Contains on) pairs → (n : ℕ) (a b : List Value) → are_partners on a b ≡ true
    → key_bucket n (lefts pairs) a ≡ key_bucket n (rights pairs) b
partners-key_bucket on pairs h n a b e = ap (λ values. bucket_of values n) (partners-cut on pairs h a b e)
