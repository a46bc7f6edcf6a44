-- Comparisons of a column with one value.
use Rattle.std.proofs.Common.{◌≡◌, ℕ, ◌<◌, ◌+◌, ◌++◌, ◌||◌, take, replicate, zero, suc, Bool, true, false, List, [], ◌∷◌, Option, Some, None, length, get_or, map, refl, ap, sym, ◌∙◌, arith, ℤ}
use Rattle.std.specs.Prelude.{is_none, option_map, Result, Ok, Err, IfOk, IfSome}
use Rattle.std.specs.Ordering.{int_cmp}
use Rattle.std.proofs.lemmas.List.{length-map, length-replicate, get_or-map}
use Rattle.std.proofs.lemmas.Simd.{get_or-zip2, length-zip2, zip2_splat}
use lib.Lanes.{zip2}
use Rattle.columns.specs.Present.{unless, present}
use Rattle.sql_values.specs.declared.value.Value.{Value}
use Rattle.sql_values.specs.declared.value.Value.TheVariants as value
use Rattle.sql_values.specs.Blocks.{TypedCells, or_null}
use Rattle.sql_values.proofs.OrderLemmas.{then_equal}
use Rattle.sql_functions.specs.declared.name.CallName.{CallName}
use Rattle.sql_functions.specs.Calls.{binary_of}
use Rattle.sql_functions.specs.Comparison.{compared}
use Rattle.sql_values.specs.declared.types.SqlType.{SqlType}
use Rattle.column_exprs.specs.declared.compare.Compare.{Compare}
use Rattle.column_exprs.specs.declared.compare.Compare.TheVariants as compare
use Rattle.column_exprs.specs.Comparisons.{both, holds, name_of}
use Rattle.column_exprs.specs.Lanes.{truths}
use Rattle.column_exprs.specs.declared.operand.Operand.{Operand}
use Rattle.column_exprs.specs.Operands.{AreOutcomes, binary_at, operand_cell, operand_kind}

mapped_unless : {A : Type 0} (f : A → Bool) (b : Bool) (x : A) → unless b (f x) ≡ option_map f (unless b x)
mapped_unless f true x = refl
mapped_unless f false x = refl

mapped_present : {A : Type 0} (f : A → Bool) (xs : List A) (bs : List Bool) → present (map f xs) bs ≡ map (option_map f) (present xs bs)
mapped_present f [] bs = refl
mapped_present f (x ∷ xs) [] = refl
mapped_present f (x ∷ xs) (b ∷ bs) = (λ i. mapped_unless f b x i ∷ mapped_present f xs bs i)

-- what is made of the items beside their marks
pub held_with : {A : Type 0} (f : A → Bool) (xs : List A) (ts nulls : List Bool) (os : List (Option A)) → ts ≡ map f xs → nulls ≡ map is_none os → present xs (map is_none os) ≡ os
    → present ts nulls ≡ map (option_map f) os
held_with f xs ts nulls os e n p =
    (λ i. present (e i) (n i)) ∙ mapped_present f xs (map is_none os) ∙ ap (map (option_map f)) p

-- the cells that come out are those of the call
number_cell : (op : Compare) (n : ℤ) (o : Option ℤ) → or_null value.Boolean (option_map (λ x. holds op (int_cmp x n)) o) ≡ compared (name_of op) (or_null value.Bigint o) (value.Bigint n)
number_cell op n None = refl
number_cell op n (Some x) = ap (λ o. value.Boolean (holds op o)) (sym (then_equal (int_cmp x n)))

pub against_numbers : (op : Compare) (n : ℤ) (os : List (Option ℤ)) (cells : List Value) → cells ≡ map (or_null value.Bigint) os
    → map (or_null value.Boolean) (map (option_map (λ x. holds op (int_cmp x n))) os) ≡ map (λ v. compared (name_of op) v (value.Bigint n)) cells
against_numbers op n os cells e = each os ∙ ap (map (λ v. compared (name_of op) v (value.Bigint n))) (sym e)
  where
    each : (os : List (Option ℤ)) → map (or_null value.Boolean) (map (option_map (λ x. holds op (int_cmp x n))) os) ≡ map (λ v. compared (name_of op) v (value.Bigint n)) (map (or_null value.Bigint) os)
    each [] = refl
    each (o ∷ os) = (λ i. number_cell op n o i ∷ each os i)

day_cell : (op : Compare) (n : ℤ) (o : Option ℤ) → or_null value.Boolean (option_map (λ x. holds op (int_cmp x n)) o) ≡ compared (name_of op) (or_null value.Date o) (value.Date n)
day_cell op n None = refl
day_cell op n (Some x) = ap (λ o. value.Boolean (holds op o)) (sym (then_equal (int_cmp x n)))

pub against_days : (op : Compare) (n : ℤ) (os : List (Option ℤ)) (cells : List Value) → cells ≡ map (or_null value.Date) os
    → map (or_null value.Boolean) (map (option_map (λ x. holds op (int_cmp x n))) os) ≡ map (λ v. compared (name_of op) v (value.Date n)) cells
against_days op n os cells e = each os ∙ ap (map (λ v. compared (name_of op) v (value.Date n))) (sym e)
  where
    each : (os : List (Option ℤ)) → map (or_null value.Boolean) (map (option_map (λ x. holds op (int_cmp x n))) os) ≡ map (λ v. compared (name_of op) v (value.Date n)) (map (or_null value.Date) os)
    each [] = refl
    each (o ∷ os) = (λ i. day_cell op n o i ∷ each os i)

pub ruleset against = (against_numbers, against_days)

-- and so the outcomes of the call
compare_call : (op : Compare) (left right : SqlType) (v w : Value) → binary_of (name_of op) left right v w ≡ Ok (compared (name_of op) v w)
compare_call compare.Equal left right v w = refl
compare_call compare.Unequal left right v w = refl
compare_call compare.Less left right v w = refl
compare_call compare.LessEqual left right v w = refl
compare_call compare.Greater left right v w = refl
compare_call compare.GreaterEqual left right v w = refl

pub compared_cells : (op : Compare) (name : CallName) (a b : Operand) (w : Value) (xs cells : List Value) (count : ℕ) → name ≡ name_of op → length xs ≡ count
    → ((k : ℕ) → operand_cell a k ≡ get_or xs k value.Null) → ((k : ℕ) → operand_cell b k ≡ w) → cells ≡ map (λ v. compared (name_of op) v w) xs → AreOutcomes (binary_at name a b) count cells
compared_cells op name a b w xs cells count e l f g is = record {
  len = ap length is ∙ length-map xs (λ v. compared (name_of op) v w) ∙ l;
  each = λ k m.
      let here : k < length xs = omega (arith, l) in
      ap (λ n. binary_of n (operand_kind a) (operand_kind b) (operand_cell a k) (operand_cell b k)) e
      ∙ compare_call op (operand_kind a) (operand_kind b) (operand_cell a k) (operand_cell b k)
      ∙ (λ i. Ok (compared (name_of op) (f k i) (g k i)))
      ∙ ap Ok (sym (get_or-map (λ v. compared (name_of op) v w) xs k value.Null value.Null here) ∙ ap (λ cs. get_or cs k value.Null) (sym is));
}

pub compared_found : {E : Type 0} (r : Result (Option TypedCells) E) (op : Compare) (name : CallName) (a b : Operand) (w : Value) (xs : List Value) (count : ℕ) → name ≡ name_of op → length xs ≡ count
    → ((k : ℕ) → operand_cell a k ≡ get_or xs k value.Null) → ((k : ℕ) → operand_cell b k ≡ w)
    → IfOk r (λ o. IfSome o (λ block. block.cells ≡ map (λ v. compared (name_of op) v w) xs)) → IfOk r (λ o. IfSome o (λ block. AreOutcomes (binary_at name a b) count block.cells))
compared_found (Ok (Some block)) op name a b w xs count e l f g is = compared_cells op name a b w xs block.cells count e l f g is
compared_found (Ok None) op name a b w xs count e l f g is = tt
compared_found (Err fault) op name a b w xs count e l f g is = tt

-- two columns
unless_both : (op : Compare) (n m : Bool) (x y : ℤ) → unless (n || m) (holds op (int_cmp x y)) ≡ both op (unless n x) (unless m y)
unless_both op true m x y = refl
unless_both op false true x y = refl
unless_both op false false x y = refl

present_both : (op : Compare) (xs ys : List ℤ) (ns ms : List Bool) → present (truths op xs ys) (zip2 ◌||◌ ns ms) ≡ zip2 (both op) (present xs ns) (present ys ms)
present_both op [] ys ns ms = refl
present_both op (x ∷ xs) [] [] ms = refl
present_both op (x ∷ xs) [] (n ∷ ns) ms = refl
present_both op (x ∷ xs) (y ∷ ys) [] ms = refl
present_both op (x ∷ xs) (y ∷ ys) (n ∷ ns) [] = refl
present_both op (x ∷ xs) (y ∷ ys) (n ∷ ns) (m ∷ ms) = λ i. unless_both op n m x y i ∷ present_both op xs ys ns ms i

pub held_beside : (op : Compare) (xs ys : List ℤ) (ts nulls : List Bool) (os ps : List (Option ℤ)) → ts ≡ truths op xs ys → nulls ≡ zip2 ◌||◌ (map is_none os) (map is_none ps)
    → present xs (map is_none os) ≡ os → present ys (map is_none ps) ≡ ps → present ts nulls ≡ zip2 (both op) os ps
held_beside op xs ys ts nulls os ps e n p q =
    (λ i. present (e i) (n i)) ∙ present_both op xs ys (map is_none os) (map is_none ps) ∙ (λ i. zip2 (both op) (p i) (q i))

pub held_single : (op : Compare) (z : ℤ) (xs : List ℤ) (ts nulls : List Bool) (os : List (Option ℤ)) → ts ≡ truths op xs (replicate (length xs) z) → nulls ≡ map is_none os → present xs (map is_none os) ≡ os
    → present ts nulls ≡ map (option_map (λ x. holds op (int_cmp x z))) os
held_single op z xs ts nulls os e n p =
    held_with (λ x. holds op (int_cmp x z)) xs ts nulls os (e ∙ zip2_splat (λ x y. holds op (int_cmp x y)) xs (length xs) z refl) n p

both_cell : (op : Compare) (o p : Option ℤ) → or_null value.Boolean (both op o p) ≡ compared (name_of op) (or_null value.Bigint o) (or_null value.Bigint p)
both_cell op None p = refl
both_cell op (Some x) None = refl
both_cell op (Some x) (Some y) = ap (λ o. value.Boolean (holds op o)) (sym (then_equal (int_cmp x y)))

both_cells : (op : Compare) (os ps : List (Option ℤ)) → map (or_null value.Boolean) (zip2 (both op) os ps) ≡ zip2 (compared (name_of op)) (map (or_null value.Bigint) os) (map (or_null value.Bigint) ps)
both_cells op [] ps = refl
both_cells op (o ∷ os) [] = refl
both_cells op (o ∷ os) (p ∷ ps) = λ i. both_cell op o p i ∷ both_cells op os ps i

pub beside_numbers : (op : Compare) (os ps : List (Option ℤ)) (xs ys : List Value) → xs ≡ map (or_null value.Bigint) os → ys ≡ map (or_null value.Bigint) ps
    → map (or_null value.Boolean) (zip2 (both op) os ps) ≡ zip2 (compared (name_of op)) xs ys
beside_numbers op os ps xs ys e f = both_cells op os ps ∙ (λ i. zip2 (compared (name_of op)) (sym e i) (sym f i))

beside_cells : (op : Compare) (name : CallName) (a b : Operand) (xs ys cells : List Value) (count : ℕ) → name ≡ name_of op → length xs ≡ count → length ys ≡ count
    → ((k : ℕ) → operand_cell a k ≡ get_or xs k value.Null) → ((k : ℕ) → operand_cell b k ≡ get_or ys k value.Null) → cells ≡ zip2 (compared (name_of op)) xs ys → AreOutcomes (binary_at name a b) count cells
beside_cells op name a b xs ys cells count e l m f g is = record {
  len = ap length is ∙ length-zip2 (compared (name_of op)) xs ys (l ∙ sym m) ∙ l;
  each = λ k n.
      ap (λ n. binary_of n (operand_kind a) (operand_kind b) (operand_cell a k) (operand_cell b k)) e
      ∙ compare_call op (operand_kind a) (operand_kind b) (operand_cell a k) (operand_cell b k)
      ∙ (λ i. Ok (compared (name_of op) (f k i) (g k i)))
      ∙ ap Ok (sym (get_or-zip2 (compared (name_of op)) xs ys k value.Null value.Null value.Null (omega (arith, n, l)) (omega (arith, n, m))) ∙ ap (λ cs. get_or cs k value.Null) (sym is));
}

pub beside_found : {E : Type 0} (r : Result (Option TypedCells) E) (op : Compare) (name : CallName) (a b : Operand) (xs ys : List Value) (count : ℕ) → name ≡ name_of op → length xs ≡ count → length ys ≡ count
    → ((k : ℕ) → operand_cell a k ≡ get_or xs k value.Null) → ((k : ℕ) → operand_cell b k ≡ get_or ys k value.Null)
    → IfOk r (λ o. IfSome o (λ block. block.cells ≡ zip2 (compared (name_of op)) xs ys)) → IfOk r (λ o. IfSome o (λ block. AreOutcomes (binary_at name a b) count block.cells))
beside_found (Ok (Some block)) op name a b xs ys count e l m f g is = beside_cells op name a b xs ys block.cells count e l m f g is
beside_found (Ok None) op name a b xs ys count e l m f g is = tt
beside_found (Err fault) op name a b xs ys count e l m f g is = tt

-- as many numbers as cells
pub as_many : (os ps : List (Option ℤ)) (xs ys : List Value) → xs ≡ map (or_null value.Bigint) os → ys ≡ map (or_null value.Bigint) ps → length ys ≡ length xs → length ps ≡ length os
as_many os ps xs ys e f same =
    sym (ap length f ∙ length-map ps (or_null value.Bigint)) ∙ same ∙ ap length e ∙ length-map os (or_null value.Bigint)

-- as many truths as marks
pub beside_many : (op : Compare) (xs ys : List ℤ) (ts ns ms bs : List Bool) (os ps : List (Option ℤ)) → ts ≡ truths op xs ys → bs ≡ zip2 ◌||◌ ns ms → ns ≡ map is_none os → ms ≡ map is_none ps
    → length xs ≡ length os → length ys ≡ length ps → length ps ≡ length os → length ts ≡ length bs
beside_many op xs ys ts ns ms bs os ps e f n m k l same =
    let left : length ns ≡ length os = ap length n ∙ length-map os is_none in
    let right : length ms ≡ length ps = ap length m ∙ length-map ps is_none in
    ap length e ∙ length-zip2 (λ x y. holds op (int_cmp x y)) xs ys (k ∙ sym same ∙ sym l) ∙ k
    ∙ sym (ap length f ∙ length-zip2 ◌||◌ ns ms (left ∙ sym same ∙ sym right) ∙ left)

pub single_many : (op : Compare) (z : ℤ) (xs : List ℤ) (ts ns bs : List Bool) (os : List (Option ℤ)) → ts ≡ truths op xs (replicate (length xs) z) → bs ≡ ns → ns ≡ map is_none os → length xs ≡ length os
    → length ts ≡ length bs
single_many op z xs ts ns bs os e f n k =
    ap length e ∙ length-zip2 (λ x y. holds op (int_cmp x y)) xs (replicate (length xs) z) (sym (length-replicate (length xs) z)) ∙ k
    ∙ sym (ap length f ∙ ap length n ∙ length-map os is_none)

-- one mark more
pub either_more : (ts xs ys : List Bool) (k : ℕ) → length ys ≡ length xs → k < length xs → ts ≡ zip2 ◌||◌ (take k xs) (take k ys)
    → ts ++ (get_or xs k false || get_or ys k false) ∷ [] ≡ zip2 ◌||◌ (take (k + 1) xs) (take (k + 1) ys)
either_more ts xs ys k same l e =
    ap (λ bs. bs ++ (get_or xs k false || get_or ys k false) ∷ []) e ∙ more xs ys k same l ∙ ap (λ n. zip2 ◌||◌ (take n xs) (take n ys)) step
  where
    step : suc k ≡ k + 1
    step = omega arith

    more : (xs ys : List Bool) (k : ℕ) → length ys ≡ length xs → k < length xs
        → zip2 ◌||◌ (take k xs) (take k ys) ++ (get_or xs k false || get_or ys k false) ∷ [] ≡ zip2 ◌||◌ (take (suc k) xs) (take (suc k) ys)
    more [] ys k same l = grind arith
    more (x ∷ xs) [] k same l = cc
    more (x ∷ xs) (y ∷ ys) zero same l = refl
    more (x ∷ xs) (y ∷ ys) (suc k) same l = ap (λ bs. (x || y) ∷ bs) (more xs ys k (omega (arith, same)) (omega (arith, l)))
