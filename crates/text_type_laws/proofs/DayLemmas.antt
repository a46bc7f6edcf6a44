-- A day of the calendar lies between the first and the last date.
use Rattle.std.proofs.Common.{◌≡◌, ℕ, ◌≤◌, Bool, true, false, cond, Option, Some, None, refl, arith, subst, inl, inr, ℤ, pos, neg_ℤ, ◌≤ℤ◌, option_and_then}
use Rattle.std.proofs.lemmas.Bool.{cases_order}
use Rattle.std.proofs.lemmas.Bool.Decides.{nat_tests}
use Rattle.jiff_core.specs.Calendar.{IsCivilDate, day_count, day_of_year, days_from_civil}
use Rattle.jiff_core.proofs.SignedLemmas.{signed_arith}
use Rattle.jiff_core.proofs.CalendarLemmas.{day_count-day_of_year, day_count-later_year, day_count_bounds, days_from_civil-day_count}
use Rattle.scalar_texts.specs.Dates.{CalendarDay, day_number, has_date, is_day, nth_day}
use Rattle.scalar_texts.proofs.DateLemmas.{nth_is}

first_day : day_count (pos 1) 1 1 ≡ 3_652_791
unfolding nth_day
first_day = (nth_is 0).count

-- the days before a year are no fewer than those before the year 1
year_not_before : (y : ℕ) → 1 ≤ y → day_count (pos 1) 1 1 ≤ day_count (pos y) 1 1
year_not_before y some =
    elim (cases_order 1 y) [
      | inl same ↦ subst (λ (x : ℕ). day_count (pos 1) 1 1 ≤ day_count (pos x) 1 1) same (omega arith)
      | inr (inl later) ↦ omega (arith, day_count-later_year (pos 1) (pos y) (omega (arith, signed_arith)) (omega (arith, signed_arith)))
      | inr (inr earlier) ↦ absurd (omega arith)
    ]

not_before : (y m d : ℕ) → 1 ≤ y → 1 ≤ d → 3_652_791 ≤ day_count (pos y) m d
not_before y m d some first =
    let own : 1 ≤ day_of_year (pos y) m d = omega arith in
    omega (arith, own, first_day, year_not_before y some, day_count-day_of_year (pos y) m d first)

civil : (y m d : ℕ) → is_day (record { year = y; month = m; day = d }) ≡ true → IsCivilDate (pos y) m d × (1 ≤ y) × (1 ≤ d)
civil y m d h = grind (arith, nat_tests, signed_arith)

numbered_has_date : (y m d : ℕ) → is_day (record { year = y; month = m; day = d }) ≡ true → has_date (days_from_civil (pos y) m d) ≡ true
numbered_has_date y m d h =
    let date = civil y m d h in
    let low : 3_652_791 ≤ day_count (pos y) m d = not_before y m d date.1 date.2 in
    let high : day_count (pos y) m d ≤ 7_304_849 = (day_count_bounds (pos y) m d date.0).1 in
    within (days_from_civil (pos y) m d) (omega (arith, signed_arith, low, days_from_civil-day_count (pos y) m d)) (omega (arith, signed_arith, high, days_from_civil-day_count (pos y) m d))
  where
    within : (z : ℤ) → neg_ℤ (pos 719_162) ≤ℤ z → z ≤ℤ pos 2_932_896 → has_date z ≡ true
    within z low high = grind (arith, signed_arith)

by_test : (b : Bool) (n z : ℤ) → (b ≡ true → has_date n ≡ true) → cond b (Some n) None ≡ Some z → has_date z ≡ true
by_test true n z has e = let same : n ≡ z = cc e in subst (λ (x : ℤ). has_date x ≡ true) same (has refl)
by_test false n z has e = cc

-- the number of a day is that of a date
pub day_has_date : (o : Option CalendarDay) (z : ℤ) → option_and_then day_number o ≡ Some z → has_date z ≡ true
day_has_date None z e = cc
day_has_date (Some d) z e = by_test (is_day d) (days_from_civil (pos d.year) d.month d.day) z (numbered_has_date d.year d.month d.day) e
