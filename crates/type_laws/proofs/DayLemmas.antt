-- Days of the calendar: their parts and their distances are small.
use Rattle.std.proofs.Common.{◌≡◌, ℕ, ◌<◌, ◌≤◌, ◌^◌, true, arith, lit<, ℤ, pos, negsuc, neg_ℤ, ◌+ℤ◌, ◌-ℤ◌, ◌≤ℤ◌, unsigned_abs}
use Rattle.std.proofs.lemmas.Bool.Decides.{nat_tests}
use Rattle.jiff_core.proofs.SignedLemmas.{signed_arith}
use Rattle.jiff_core.proofs.CalendarLemmas.{days_in_month_bounds}
use Rattle.scalar_texts.specs.Dates.{CalendarDay, has_date, nth_day}
use Rattle.scalar_texts.specs.Numbers.{has_64_bits}
use Rattle.scalar_texts.proofs.DateLemmas.{nth_is, unsigned_abs-same, year_bound}

pub range_of_days : (z : ℤ) → has_date z ≡ true → (neg_ℤ (pos 719_162) ≤ℤ z) × (z ≤ℤ pos 2_932_896)
range_of_days z h = grind (arith, signed_arith)

-- the parts of a day
pub record IsSmallDay (d : CalendarDay) : Type 0 where
  pub year : d.year ≤ 9999
  pub month : d.month ≤ 12
  pub day : d.day ≤ 31

nth_is_small : (n : ℕ) → n < 3_652_059 → IsSmallDay (nth_day n)
nth_is_small n small =
    let is = nth_is n in
    let d = nth_day n in
    let bounds = days_in_month_bounds (pos d.year) d.month in
    record { year = year_bound n d is small; month = is.last_month; day = omega (arith, is.last_day) }

pub day_is_small : (z : ℤ) → has_date z ≡ true → IsSmallDay (nth_day (unsigned_abs (z +ℤ pos 719_162)))
day_is_small z h =
    let range = range_of_days z h in
    let n = unsigned_abs (z +ℤ pos 719_162) in
    let whole : pos n ≡ z +ℤ pos 719_162 = unsigned_abs-same (z +ℤ pos 719_162) (omega (arith, signed_arith, range.0)) in
    nth_is_small n (omega (arith, signed_arith, range.1))

pub small_has_64_bits : (n : ℕ) → n ≤ 9999 → has_64_bits (pos n) ≡ true
small_has_64_bits n small = let top : 9999 < 2 ^ 63 = lit< tt in grind (arith, nat_tests)

-- a number of less than 2^63 on either side of 0
within_64_bits : (z : ℤ) → neg_ℤ (pos 4_000_000) ≤ℤ z → z ≤ℤ pos 4_000_000 → has_64_bits z ≡ true
within_64_bits (pos n) low high = let top : 4_000_000 < 2 ^ 63 = lit< tt in let small : n ≤ 4_000_000 = omega (arith, signed_arith) in grind (arith, nat_tests)
within_64_bits (negsuc n) low high = let top : 4_000_000 < 2 ^ 63 = lit< tt in let small : n ≤ 4_000_000 = omega (arith, signed_arith) in grind (arith, nat_tests)

pub distance_has_64_bits : (a b : ℤ) → has_date a ≡ true → has_date b ≡ true → has_64_bits (b -ℤ a) ≡ true
distance_has_64_bits a b h j =
    let first = range_of_days a h in
    let second = range_of_days b j in
    within_64_bits (b -ℤ a) (omega (arith, signed_arith)) (omega (arith, signed_arith))
