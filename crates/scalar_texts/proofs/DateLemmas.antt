-- Days counted from 1 January of the year 1, and the calendar's day numbers.
use Rattle.std.proofs.Common.{◌≡◌, ℕ, zero, suc, ◌+◌, ◌<◌, ◌≤◌, [], Some, None, Bool, true, false, cond, nat_lt, refl, ap, ◌∙◌, arith, inl, inr, ℤ, pos, negsuc, neg_ℤ, ◌+ℤ◌, ◌≤ℤ◌, unsigned_abs}
use Rattle.std.proofs.lemmas.Bool.{ltb-true, ltb-false, cases_order}
use Rattle.std.proofs.lemmas.Bool.Decides.{nat_tests}
use Rattle.jiff_core.specs.Calendar.{days_in_month, day_of_year, day_count, days_from_civil, IsDate}
use Rattle.jiff_core.specs.Date.{epoch_day}
use Rattle.jiff_core.specs.declared.civil.date.Date.{Date}
use Rattle.jiff_core.proofs.SignedLemmas.{signed_arith}
use Rattle.jiff_core.proofs.CalendarLemmas.{days_from_civil-day_count, day_count-day, day_count-next_month, day_count-next_year, day_count-last_of_year, day_count-later_year, day_count-day_of_year, day_count-end, days_in_month_bounds}
use Rattle.jiff_core.proofs.MarchLemmas.{day_count-early}
use Rattle.jiff_core.proofs.DateLemmas.{epoch_day_injective}
use Rattle.scalar_texts.specs.Dates.{CalendarDay, is_day, day_number, nth_day, calendar_day, day_text, has_date, date_text}

-- the day n days after 1 January of the year 1 is a day of the calendar, with that many days before it
pub record IsNth (n : ℕ) (d : CalendarDay) : Type 0 where
  pub year_in : 1 ≤ d.year
  pub first_month : 1 ≤ d.month
  pub last_month : d.month ≤ 12
  pub first_day : 1 ≤ d.day
  pub last_day : d.day ≤ days_in_month (pos d.year) d.month
  pub count : day_count (pos d.year) d.month d.day ≡ n + 3_652_791

next_year : (n y m d : ℕ) → m ≡ 12 → 1 ≤ d → d ≤ days_in_month (pos y) m → days_in_month (pos y) m ≤ d → day_count (pos y) m d ≡ n + 3_652_791 → day_count (pos (y + 1)) 1 1 ≡ suc n + 3_652_791
next_year n y m d e first last ge count =
    let whole = rw e at count in
    let high = rw e at last in
    let low = rw e at ge in
    let next : pos (y + 1) ≡ pos y +ℤ pos 1 = omega (arith, signed_arith) in
    omega (arith, whole, day_count-day (pos y) 12 d 31 first (omega arith), day_count-last_of_year (pos y), day_count-next_year (pos y) (pos (y + 1)) (omega (arith, signed_arith)) next)

next_by : (n : ℕ) (d : CalendarDay) → IsNth n d → (later last : Bool) → nat_lt d.day (days_in_month (pos d.year) d.month) ≡ later → nat_lt d.month 12 ≡ last →
    IsNth (suc n) (cond later (record d { day = d.day + 1 }) (cond last (record { year = d.year; month = d.month + 1; day = 1 }) (record { year = d.year + 1; month = 1; day = 1 })))
next_by n d h true last p q =
    let lt : d.day < days_in_month (pos d.year) d.month = ltb-true _ _ p in
    record {
      year_in = h.year_in;
      first_month = h.first_month;
      last_month = h.last_month;
      first_day = omega arith;
      last_day = omega arith;
      count = omega (arith, h.count, day_count-day (pos d.year) d.month d.day (d.day + 1) h.first_day (omega arith));
    }
next_by n d h false true p q =
    let ge : days_in_month (pos d.year) d.month ≤ d.day = ltb-false _ _ p in
    let lt : d.month < 12 = ltb-true _ _ q in
    record {
      year_in = h.year_in;
      first_month = omega arith;
      last_month = omega arith;
      first_day = omega arith;
      last_day = omega (arith, days_in_month_bounds (pos d.year) (d.month + 1));
      count = omega (arith, h.count, h.last_day, day_count-day (pos d.year) d.month d.day 1 h.first_day (omega arith), day_count-next_month (pos d.year) d.month h.first_month);
    }
next_by n d h false false p q =
    let ge : days_in_month (pos d.year) d.month ≤ d.day = ltb-false _ _ p in
    let le : 12 ≤ d.month = ltb-false _ _ q in
    let december : d.month ≡ 12 = omega (arith, h.last_month) in
    record {
      year_in = omega arith;
      first_month = omega arith;
      last_month = omega arith;
      first_day = omega arith;
      last_day = omega arith;
      count = next_year n d.year d.month d.day december h.first_day h.last_day ge h.count;
    }

pub nth_is : (n : ℕ) → IsNth n (nth_day n)
unfolding nth_day
nth_is zero =
    record {
      year_in = omega arith;
      first_month = omega arith;
      last_month = omega arith;
      first_day = omega arith;
      last_day = omega arith;
      count = day_count-early (pos 1) 10000 1 1 refl (omega arith) (omega arith) (omega arith);
    }
nth_is (suc n) = next_by n (nth_day n) (nth_is n) _ _ refl refl

day_of_year_pos : (y : ℤ) (m d : ℕ) → 1 ≤ d → 1 ≤ day_of_year y m d
day_of_year_pos y m d h = omega arith

-- within the years 1 to 9999 it is a date
pub year_bound : (n : ℕ) (d : CalendarDay) → IsNth n d → n < 3_652_059 → d.year ≤ 9999
year_bound n d h small =
    elim (cases_order 9999 d.year) [
      | inl same ↦ omega arith
      | inr (inl later) ↦ absurd (omega (arith, signed_arith, small, h.count, day_count-day_of_year (pos d.year) d.month d.day h.first_day, day_of_year_pos (pos d.year) d.month d.day h.first_day, day_count-later_year (pos 9999) (pos d.year) (omega (arith, signed_arith)) (omega (arith, signed_arith)), day_count-next_year (pos 9999) (pos 10000) (omega (arith, signed_arith)) refl, day_count-end))
      | inr (inr earlier) ↦ omega arith
    ]

same_day : (x y : CalendarDay) → x.year ≡ y.year → x.month ≡ y.month → x.day ≡ y.day → x ≡ y
same_day x y p q r = λ i. record { year = p i; month = q i; day = r i }

-- the date that it is
abbrev date_at : (n : ℕ) → n < 3_652_059 → Date
date_at n small =
    let h = nth_is n in
    let year = year_bound n (nth_day n) h small in
    record {
      year = pos (nth_day n).year;
      month = (nth_day n).month;
      day = (nth_day n).day;
      year_in = (omega (arith, signed_arith), omega (arith, signed_arith));
      month_in = (h.first_month, h.last_month);
      day_in = (h.first_day, h.last_day);
    }

nth_day_by : (n : ℕ) (small : n < 3_652_059) (d : Date) → epoch_day (date_at n small) ≡ epoch_day d → nth_day n ≡ calendar_day d
nth_day_by n small d e =
    let parts = epoch_day_injective (date_at n small) d e in
    same_day (nth_day n) (calendar_day d) (ap unsigned_abs parts.0) parts.1 parts.2

pub unsigned_abs-same : (z : ℤ) → pos 0 ≤ℤ z → pos (unsigned_abs z) ≡ z
unsigned_abs-same (pos n) h = refl
unsigned_abs-same (negsuc n) h = absurd (omega (arith, signed_arith))

-- a date of the years 1 to 9999 is the day that many days after the first
pub nth_day_is : (d : Date) (z : ℤ) → epoch_day d ≡ z → neg_ℤ (pos 719_162) ≤ℤ z → z ≤ℤ pos 2_932_896 → nth_day (unsigned_abs (z +ℤ pos 719_162)) ≡ calendar_day d
nth_day_is d z e low high =
    let n = unsigned_abs (z +ℤ pos 719_162) in
    let whole : pos n ≡ z +ℤ pos 719_162 = unsigned_abs-same (z +ℤ pos 719_162) (omega (arith, signed_arith)) in
    let small : n < 3_652_059 = omega (arith, signed_arith) in
    let count = (nth_is n).count in
    nth_day_by n small d (omega (arith, signed_arith, e, count, days_from_civil-day_count (pos (nth_day n).year) (nth_day n).month (nth_day n).day))

-- the tests of a day and the calendar's word for it

none_by : (z : ℤ) (b : Bool) → (b ≡ true → ⊥) → cond b (Some z) None ≡ None
none_by z true never = absurd (never refl)
none_by z false never = refl

is_date : (y m d : ℕ) → is_day (record { year = y; month = m; day = d }) ≡ true → IsDate (pos y) (pos m) (pos d)
is_date y m d h = grind (arith, nat_tests, signed_arith)

is_day-true : (y m d : ℕ) → 1 ≤ y → IsDate (pos y) (pos m) (pos d) → is_day (record { year = y; month = m; day = d }) ≡ true
is_day-true y m d first h = grind (arith, nat_tests, signed_arith)

pub numbered : (y m d : ℕ) → 1 ≤ y → IsDate (pos y) (pos m) (pos d) → day_number (record { year = y; month = m; day = d }) ≡ Some (days_from_civil (pos y) m d)
numbered y m d first h = rw (is_day-true y m d first h)

pub not_numbered : (y m d : ℕ) → (IsDate (pos y) (pos m) (pos d) → ⊥) → day_number (record { year = y; month = m; day = d }) ≡ None
not_numbered y m d never = none_by _ (is_day (record { year = y; month = m; day = d })) (λ h. never (is_date y m d h))

pub ruleset numbering = (numbered, not_numbered)

-- what is printed of a date's number is the date's text

has_date-true : (z : ℤ) → neg_ℤ (pos 719_162) ≤ℤ z → z ≤ℤ pos 2_932_896 → has_date z ≡ true
has_date-true z low high = grind (arith, signed_arith)

pub date_text_is : (d : Date) (z : ℤ) → epoch_day d ≡ z → neg_ℤ (pos 719_162) ≤ℤ z → z ≤ℤ pos 2_932_896 → date_text z ≡ day_text (calendar_day d)
date_text_is d z e low high =
    ap (λ b. cond b (day_text (nth_day (unsigned_abs (z +ℤ pos 719_162)))) []) (has_date-true z low high)
    ∙ ap day_text (nth_day_is d z e low high)
