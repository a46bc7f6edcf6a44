-- Calls on dates, which are days since 1970-01-01.
use Rattle.std.specs.Prelude.{ℕ, pos, ℤ, ◌+ℤ◌, ◌-ℤ◌, unsigned_abs, if◌then◌else◌, Ok, Err}
use Rattle.scalar_texts.specs.Dates.{CalendarDay, has_date, nth_day}
use Rattle.sql_values.specs.declared.value.Value.{Value}
use Rattle.sql_values.specs.declared.value.Value.TheVariants.{Null, Bigint, Date}
use Rattle.sql_values.specs.declared.fail.Fail.TheVariants.{OutOfRange}
use Rattle.sql_functions.specs.Outcomes.{Outcome}

-- the day, where it is of the years 1 to 9999
abbrev pub date : ℤ → Outcome
date day = if has_date day then Ok (Date day) else Err OutOfRange

abbrev pub later_by : ℤ → Value → Outcome
later_by day (Bigint n) = date (day +ℤ n)
later_by day w = Ok Null

abbrev pub add_days_of : Value → Value → Outcome
add_days_of (Date day) w = later_by day w
add_days_of v w = Ok Null

abbrev pub days_to : ℤ → Value → Value
days_to a (Date b) = Bigint (b -ℤ a)
days_to a w = Null

-- the day of the second less the day of the first
abbrev pub days_between_of : Value → Value → Value
days_between_of (Date a) w = days_to a w
days_between_of v w = Null

-- a part of a date
abbrev pub part_of : (CalendarDay → ℕ) → Value → Value
part_of part (Date day) =
    if has_date day then Bigint (pos (part (nth_day (unsigned_abs (day +ℤ pos 719_162))))) else Null
part_of part v = Null

abbrev pub year_of : Value → Value
year_of = part_of (λ d. d.year)

abbrev pub month_of : Value → Value
month_of = part_of (λ d. d.month)

abbrev pub day_of : Value → Value
day_of = part_of (λ d. d.day)
