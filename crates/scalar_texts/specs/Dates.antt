-- Dates: days since 1970-01-01, from the year 1 to the year 9999.
use Rattle.std.specs.Prelude.{ℕ, zero, suc, ◌+◌, List, [], ◌∷◌, ◌++◌, length, slice_index, slice_range, Option, Some, None, option_and_then, Bool, ◌&&◌, nat_le, nat_lt, ◌==◌, if◌then◌else◌, ℤ, pos, neg_ℤ, ◌+ℤ◌, int_le, unsigned_abs}
use Rattle.jiff_core.specs.declared.civil.date.Date.{Date}
use Rattle.jiff_core.specs.Calendar.{days_in_month, days_from_civil}
use Rattle.scalar_texts.specs.Numbers.{number_of, padded}

-- a day of the calendar
pub record CalendarDay : Type 0 where
  pub year : ℕ
  pub month : ℕ
  pub day : ℕ

-- from 1 January of the year 1 to 31 December of the year 9999
abbrev pub is_day : CalendarDay → Bool
is_day d =
    nat_le 1 d.year && nat_le d.year 9999 && nat_le 1 d.month && nat_le d.month 12
    && nat_le 1 d.day && nat_le d.day (days_in_month (pos d.year) d.month)

-- the day number of a day that the calendar has
abbrev pub day_number : CalendarDay → Option ℤ
day_number d = if is_day d then Some (days_from_civil (pos d.year) d.month d.day) else None

-- three numbers as a day
abbrev pub day_of : Option ℕ → Option ℕ → Option ℕ → Option CalendarDay
day_of (Some year) (Some month) (Some day) = Some (record { year = year; month = month; day = day })
day_of year month day = None

-- the day number of a text YYYY-MM-DD
abbrev pub date_of : List ℕ → Option ℤ
date_of text =
    if (length text == 10) && (slice_index text 4 == 45) && (slice_index text 7 == 45)
    then option_and_then day_number (day_of (number_of (slice_range text 0 4)) (number_of (slice_range text 5 7)) (number_of (slice_range text 8 10)))
    else None

-- the day after a day
abbrev pub next_day : CalendarDay → CalendarDay
next_day d =
    if nat_lt d.day (days_in_month (pos d.year) d.month) then record d { day = d.day + 1 }
    else if nat_lt d.month 12 then record { year = d.year; month = d.month + 1; day = 1 }
    else record { year = d.year + 1; month = 1; day = 1 }

-- the nth day after 1 January of the year 1
unfoldable pub nth_day : ℕ → CalendarDay
nth_day zero = record { year = 1; month = 1; day = 1 }
nth_day (suc n) = next_day (nth_day n)

-- the day of a date
abbrev pub calendar_day : Date → CalendarDay
calendar_day d = record { year = unsigned_abs d.year; month = d.month; day = d.day }

-- MM-DD
abbrev pub month_day_text : ℕ → ℕ → List ℕ
month_day_text month day = padded 2 month ++ 45 ∷ padded 2 day

-- YYYY-MM-DD
abbrev pub day_text : CalendarDay → List ℕ
day_text d = padded 4 d.year ++ 45 ∷ month_day_text d.month d.day

-- from 0001-01-01 to 9999-12-31
abbrev pub has_date : ℤ → Bool
has_date day = int_le (neg_ℤ (pos 719_162)) day && int_le day (pos 2_932_896)

-- the text of a day number, and nothing for a number that has no date
abbrev pub date_text : ℤ → List ℕ
date_text day = if has_date day then day_text (nth_day (unsigned_abs (day +ℤ pos 719_162))) else []
