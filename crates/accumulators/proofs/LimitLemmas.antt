-- Numbers that can be added, and what bounds their sums.
use Rattle.std.proofs.Common.{◌≡◌, ℕ, ◌+◌, ◌*◌, ◌^◌, ◌≤◌, ◌<◌, refl, ap, sym, ◌∙◌, arith, lit<, add-mul, mul-le-mul}
use Rattle.std.specs.Prelude.{Option, Some, None, ℤ, pos, negsuc, nat_abs, nat_le, int_le, ◌+ℤ◌, IsTrue}
use Rattle.std.proofs.Math.Nat.{pow-le-pow_right}
use Rattle.std.proofs.lemmas.Bool.{and_from, and_parts, eq-eqb, eqb-true, le-leb, leb-true}
use Rattle.std.proofs.lemmas.Int.{ints}
use Rattle.sql_values.specs.declared.types.SqlType.{SqlType}
use Rattle.sql_values.specs.declared.types.SqlType.TheVariants as type
use Rattle.sql_values.specs.declared.value.Value.{Value}
use Rattle.sql_values.specs.declared.value.Value.TheVariants.{Null, Boolean, Bigint, Decimal, Varchar, Date}
use Rattle.relation_laws.specs.Aggregates.{most_group_rows}
use Rattle.accumulators.specs.Columns.{HasAverage, added, count_in, magnitude, sum_cell, summand}
use Rattle.accumulators.specs.Limits.{counts_sum, greatest, is_count, is_short, is_sum}

-- numbers of at most 18 digits are within 64 bits
pub short_power : (p : ℕ) → p ≤ 18 → 10 ^ p ≤ 2 ^ 63
short_power p h =
    let one : 0 < 10 = lit< tt in
    let below : 10 ^ p ≤ 10 ^ 18 = pow-le-pow_right one h in
    let top : 10 ^ 18 < 2 ^ 63 = lit< tt in
    omega arith

pub greatest_small : (kind : SqlType) → IsTrue (is_short kind) → greatest kind ≤ 2 ^ 63
greatest_small type.Boolean h = omega arith
greatest_small type.Bigint h = omega arith
greatest_small (type.Decimal p s) h = omega (arith, short_power p (leb-true p 18 h))
greatest_small type.Varchar h = omega arith
greatest_small type.Date h = omega arith

-- sums of at most so many numbers, each of at most so great a magnitude
pub room : (a b g m n : ℕ) → m ≤ a * g → n ≤ b * g → a + b ≤ most_group_rows → g ≤ 2 ^ 63 → m + n < 2 ^ 126
room a b g m n h k few small =
    let whole : (a + b) * g ≡ a * g + b * g = add-mul a b g in
    let most : (a + b) * g ≤ most_group_rows * 2 ^ 63 = mul-le-mul few small in
    let top : most_group_rows * 2 ^ 63 < 2 ^ 126 = lit< tt in
    omega arith

pub summand-cell : (sum : Option ℤ) → summand (sum_cell sum) ≡ sum
summand-cell None = refl
summand-cell (Some n) = refl

-- what a stored sum is
pub sum_within : (most : ℕ) (v : Value) → IsTrue (is_sum most v) → magnitude (summand v) ≤ most
sum_within most Null h = omega arith
sum_within most (Boolean truth) h = cc
sum_within most (Bigint n) h = cc
sum_within most (Decimal n) h = leb-true (nat_abs n) most h
sum_within most (Varchar text) h = cc
sum_within most (Date n) h = cc

pub sum_is : (most : ℕ) (v : Value) → IsTrue (is_sum most v) → sum_cell (summand v) ≡ v
sum_is most Null h = refl
sum_is most (Boolean truth) h = cc
sum_is most (Bigint n) h = cc
sum_is most (Decimal n) h = refl
sum_is most (Varchar text) h = cc
sum_is most (Date n) h = cc

-- what a stored count is
pub count_within : (most : ℕ) (v : Value) → IsTrue (is_count most v) → count_in v ≤ most
count_within most Null h = cc
count_within most (Boolean truth) h = cc
count_within most (Bigint n) h = leb-true (nat_abs n) most ((and_parts (int_le (pos 0) n) (nat_le (nat_abs n) most) h).1)
count_within most (Decimal n) h = cc
count_within most (Varchar text) h = cc
count_within most (Date n) h = cc

pub count_is : (most : ℕ) (v : Value) → IsTrue (is_count most v) → Bigint (pos (count_in v)) ≡ v
count_is most Null h = cc
count_is most (Boolean truth) h = cc
count_is most (Bigint (pos n)) h = refl
count_is most (Bigint (negsuc n)) h = cc
count_is most (Decimal n) h = cc
count_is most (Varchar text) h = cc
count_is most (Date n) h = cc

pub magnitude-added : (a b : Option ℤ) → magnitude (added a b) ≤ magnitude a + magnitude b
magnitude-added None b = omega arith
magnitude-added (Some n) None = omega arith
magnitude-added (Some n) (Some m) = omega (arith, ints)

pub sum_cell-fits : (most : ℕ) (sum : Option ℤ) → magnitude sum ≤ most → IsTrue (is_sum most (sum_cell sum))
sum_cell-fits most None h = refl
sum_cell-fits most (Some n) h = le-leb (nat_abs n) most h

pub count-fits : (most n : ℕ) → n ≤ most → IsTrue (is_count most (Bigint (pos n)))
count-fits most n h = let some : 0 ≤ n = omega arith in and_from (int_le (pos 0) (pos n)) (nat_le n most) (le-leb 0 n some) (le-leb n most h)

-- the average of what a group can hold is one
pub has_average : (g count : ℕ) (sum : Option ℤ) → IsTrue (counts_sum g sum count) → count ≤ most_group_rows → g ≤ 2 ^ 63 → HasAverage sum count
has_average g count None h few small = tt
has_average g count (Some n) h few small =
    let parts = and_parts (nat_le 1 count) (nat_le (nat_abs n) (count * g)) h in
    let below : nat_abs n ≤ count * g = leb-true (nat_abs n) (count * g) parts.1 in
    let none : 0 ≤ 0 * g = omega arith in
    let few_more : count + 0 ≤ most_group_rows = omega arith in
    let within : nat_abs n + 0 < 2 ^ 126 = room count 0 g (nat_abs n) 0 below none few_more small in
    (leb-true 1 count parts.0, omega arith)

-- sums and counts of two pieces
pub counts_sum-added : (g n m : ℕ) (a b : Option ℤ) → IsTrue (counts_sum g a n) → IsTrue (counts_sum g b m) → IsTrue (counts_sum g (added a b) (n + m))
counts_sum-added g n m None None h k = eq-eqb (n + m) 0 (omega (arith, eqb-true n 0 h, eqb-true m 0 k))
counts_sum-added g n m None (Some y) h k = let e : m ≡ n + m = omega (arith, eqb-true n 0 h) in ap (counts_sum g (Some y)) (sym e) ∙ k
counts_sum-added g n m (Some x) None h k = let e : n ≡ n + m = omega (arith, eqb-true m 0 k) in ap (counts_sum g (Some x)) (sym e) ∙ h
counts_sum-added g n m (Some x) (Some y) h k =
    let own = and_parts (nat_le 1 n) (nat_le (nat_abs x) (n * g)) h in
    let other = and_parts (nat_le 1 m) (nat_le (nat_abs y) (m * g)) k in
    let some : 1 ≤ n = leb-true 1 n own.0 in
    let whole : (n + m) * g ≡ n * g + m * g = add-mul n m g in
    let left : nat_abs x ≤ n * g = leb-true (nat_abs x) (n * g) own.1 in
    let right : nat_abs y ≤ m * g = leb-true (nat_abs y) (m * g) other.1 in
    let both : nat_abs (x +ℤ y) ≤ nat_abs x + nat_abs y = magnitude-added (Some x) (Some y) in
    and_from (nat_le 1 (n + m)) (nat_le (nat_abs (x +ℤ y)) ((n + m) * g))
    (le-leb 1 (n + m) (omega arith)) (le-leb (nat_abs (x +ℤ y)) ((n + m) * g) (omega arith))
