-- The columns of one cell, and sums and counts with one more.
use Rattle.std.proofs.Common.{◌≡◌, ℕ, Bool, true, false, zero, suc, ◌+◌, ◌-◌, ◌<◌, List, [], ◌∷◌, length, drop, take, refl, ap, sym, ◌∙◌, arith}
use Rattle.std.specs.Prelude.{Option, Some, None, ℤ, pos, ◌+ℤ◌, ◌&&◌, filter}
use Rattle.std.specs.List.{list_all}
use Rattle.std.proofs.Math.IntN.{+ℤ_comm, +ℤ_idl, pos-+ℤ-pos}
use Rattle.std.proofs.lemmas.List.{drop-drop}
use Rattle.sql_values.specs.declared.value.Value.{Value}
use Rattle.sql_values.specs.declared.value.Value.TheVariants.{Null, Bigint, Decimal}
use Rattle.sql_values.specs.declared.order.Order.{Order}
use Rattle.sql_values.specs.Cells.{cell}
use Rattle.sql_values.specs.Order.{number_in}
use Rattle.sql_functions.specs.Truth.{is_null}
use Rattle.relation_laws.specs.Aggregates.{first_by}
use Rattle.relation_laws.specs.Equality.{is_present}
use Rattle.relation_laws.specs.Partials.{added_counts, added_sums, partial_sum}
use Rattle.accumulators.specs.Columns.{added, count_in, sum_cell, summand}

no_more : (n : ℤ) → n +ℤ pos 0 ≡ n
no_more n = +ℤ_comm n (pos 0) ∙ +ℤ_idl n

pub one_sum : (v : Value) → partial_sum (filter is_present (v ∷ [])) ≡ sum_cell (summand v)
one_sum Null = refl
one_sum v = ap Decimal (no_more (number_in v))

pub one_first : (order : Order) (v : Value) → first_by order (filter is_present (v ∷ [])) ≡ v
one_first order Null = refl
one_first order v = refl

pub sums_added : (a b : Option ℤ) → added_sums (sum_cell a) (sum_cell b) ≡ sum_cell (added a b)
sums_added None None = refl
sums_added None (Some m) = refl
sums_added (Some n) None = refl
sums_added (Some n) (Some m) = refl

pub counts_added : (n m : ℕ) → added_counts (Bigint (pos n)) (Bigint (pos m)) ≡ Bigint (pos (n + m))
counts_added n m = ap Bigint (pos-+ℤ-pos n m)

-- a sum with a cell, and with a stored sum
pub sum-cell : (sum now : Option ℤ) (v : Value) → now ≡ added sum (summand v) → sum_cell now ≡ added_sums (sum_cell sum) (partial_sum (filter is_present (v ∷ [])))
sum-cell sum now v e = ap sum_cell e ∙ sym (ap (added_sums (sum_cell sum)) (one_sum v) ∙ sums_added sum (summand v))

pub sum-stored : (sum now : Option ℤ) (v : Value) → now ≡ added sum (summand v) → sum_cell (summand v) ≡ v → sum_cell now ≡ added_sums (sum_cell sum) v
sum-stored sum now v e h = ap sum_cell e ∙ sym (ap (added_sums (sum_cell sum)) (sym h) ∙ sums_added sum (summand v))

-- a count with a cell, and with a stored count
pub count-stored : (n now : ℕ) (v : Value) → now ≡ n + count_in v → Bigint (pos (count_in v)) ≡ v → Bigint (pos now) ≡ added_counts (Bigint (pos n)) v
count-stored n now v e h =
    ap (λ k. Bigint (pos k)) e ∙ sym (ap (added_counts (Bigint (pos n))) (sym h) ∙ counts_added n (count_in v))

pub count-cell : (n now : ℕ) (v : Value) → now ≡ n + length (filter is_present (v ∷ [])) → Bigint (pos now) ≡ added_counts (Bigint (pos n)) (Bigint (pos (length (filter is_present (v ∷ [])))))
count-cell n now v e = ap (λ k. Bigint (pos k)) e ∙ sym (counts_added n (length (filter is_present (v ∷ []))))

-- a row from a place on
no_cell : (column : ℕ) → cell [] column ≡ Null
no_cell zero = refl
no_cell (suc column) = refl

cell-behind : (row : List Value) (place column : ℕ) → cell row (place + column) ≡ cell (drop place row) column
cell-behind row zero column = let same : 0 + column ≡ column = omega arith in ap (cell row) same
cell-behind [] (suc place) column = no_cell (suc place + column) ∙ sym (no_cell column)
cell-behind (v ∷ row) (suc place) column =
    let same : suc place + column ≡ suc (place + column) = omega arith in ap (cell (v ∷ row)) same ∙ cell-behind row place column

pub first_cell : (row : List Value) (place : ℕ) → cell row place ≡ cell (drop place row) 0
first_cell row place = let same : place ≡ place + 0 = omega arith in ap (cell row) same ∙ cell-behind row place 0

pub second_cell : (row : List Value) (place : ℕ) → cell row (place + 1) ≡ cell (drop place row) 1
second_cell row place = cell-behind row place 1

take-none : (width : ℕ) → ◌≡◌ {A = List Value} (take width []) []
take-none zero = refl
take-none (suc width) = refl

-- one more cell that is NULL
pub null-first : (row : List Value) (place width : ℕ) → list_all is_null (take (suc width) (drop place row)) ≡ (is_null (cell row place) && list_all is_null (take width (drop (suc place) row)))
null-first [] zero width = ap (list_all is_null) (sym (take-none width))
null-first [] (suc place) width = ap (list_all is_null) (sym (take-none width))
null-first (v ∷ row) zero width = refl
null-first (v ∷ row) (suc place) width = null-first row place width

pub behind_first : (row : List Value) (place : ℕ) → drop (place + 1) row ≡ drop 1 (drop place row)
behind_first row place = sym (drop-drop 1 place row)

next-null : (row : List Value) (place n : ℕ) → 0 < n → list_all is_null (take n (drop place row)) ≡ (is_null (cell row place) && list_all is_null (take (n - 1) (drop (place + 1) row)))
next-null row place zero some = absurd (omega arith)
next-null row place (suc n) some =
    let left : n ≡ suc n - 1 = omega arith in
    let next : suc place ≡ place + 1 = omega arith in
    null-first row place n ∙ (λ i. is_null (cell row place) && list_all is_null (take (left i) (drop (next i) row)))

-- of the cells from one place up to another the first is NULL, or not
pub null-stop : (row : List Value) (place end : ℕ) (v : Value) (whole : Bool) → place < end → v ≡ cell row place → is_null v ≡ false
    → whole ≡ list_all is_null (take (end - place) (drop place row)) → false ≡ whole
null-stop row place end v whole lt is null e =
    sym (e ∙ next-null row place (end - place) (omega (arith, lt)) ∙ ap (λ b. b && list_all is_null (take (end - place - 1) (drop (place + 1) row))) (ap is_null (sym is) ∙ null))

pub null-more : (row : List Value) (place end : ℕ) (v : Value) (whole : Bool) → place < end → v ≡ cell row place → is_null v ≡ true
    → whole ≡ list_all is_null (take (end - place) (drop place row)) → whole ≡ list_all is_null (take (end - (place + 1)) (drop (place + 1) row))
null-more row place end v whole lt is null e =
    let left : end - place - 1 ≡ end - (place + 1) = omega arith in
    e ∙ next-null row place (end - place) (omega (arith, lt)) ∙ ap (λ b. b && list_all is_null (take (end - place - 1) (drop (place + 1) row))) (ap is_null (sym is) ∙ null)
    ∙ ap (λ n. list_all is_null (take n (drop (place + 1) row))) left
