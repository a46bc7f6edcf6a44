-- The printed texts of decimals, dates and booleans are ASCII.
use Rattle.std.proofs.Common.{◌≡◌, ◌+◌, ◌/◌, ◌%◌, ◌^◌, ◌<◌, ◌≤◌, ℕ, zero, suc, List, ◌∷◌, Bool, true, false, replicate, ℤ, pos, negsuc, ◌+ℤ◌, ◌≤ℤ◌, neg_ℤ, unsigned_abs, arith, lit<, if◌then◌else◌, ◌==◌}
use Rattle.std.specs.Prelude.{codes, refl}
use Rattle.std.specs.Fmt.{decimal}
use Rattle.std.specs.Str.{IsAscii, IsUtf8}
use Rattle.std.proofs.lemmas.Fmt.{IsAscii-decimal_wide}
use Rattle.std.proofs.lemmas.Str.{IsAscii-append, IsUtf8-from_ascii}
use Rattle.std.proofs.lemmas.Str.Ascii.{IsAscii-nil, IsAscii-cons}
use Rattle.std.proofs.Math.Nat.{pow-le-pow_right}
use Rattle.scalar_texts.specs.Numbers.{padded}
use Rattle.scalar_texts.specs.Decimals.{decimal_text, magnitude_text, pointed_text}
use Rattle.scalar_texts.specs.Dates.{CalendarDay, date_text, day_text, has_date, nth_day}
use Rattle.scalar_texts.specs.Booleans.{boolean_text}
use Rattle.scalar_texts.proofs.DateLemmas.{nth_is, unsigned_abs-same, year_bound}
use Rattle.jiff_core.proofs.SignedLemmas.{signed_arith}
use Rattle.jiff_core.proofs.CalendarLemmas.{days_in_month_bounds}

repeated_ascii : (n b : ℕ) → b < 128 → IsAscii (replicate n b)
repeated_ascii zero b small = IsAscii-nil
repeated_ascii (suc n) b small = IsAscii-cons b (replicate n b) small (repeated_ascii n b small)

padded_ascii : (w n : ℕ) → n < 10 ^ 64 → IsAscii (padded w n)
padded_ascii w n small = IsAscii-append _ (decimal n) (repeated_ascii _ 48 (lit< tt)) (IsAscii-decimal_wide n small)

pointed_ascii : (s n : ℕ) → n < 10 ^ 64 → IsAscii (pointed_text s n)
pointed_ascii s n small =
    let whole : n / 10 ^ s < 10 ^ 64 = grind arith in
    let part : n % 10 ^ s < 10 ^ 64 = grind arith in
    IsAscii-append (decimal (n / 10 ^ s)) (46 ∷ padded s (n % 10 ^ s)) (IsAscii-decimal_wide (n / 10 ^ s) whole)
    (IsAscii-cons 46 (padded s (n % 10 ^ s)) (lit< tt) (padded_ascii s (n % 10 ^ s) part))

either_ascii : (b : Bool) (xs ys : List ℕ) → IsAscii xs → IsAscii ys → IsAscii (if b then xs else ys)
either_ascii true xs ys h k = h
either_ascii false xs ys h k = k

magnitude_ascii : (s n : ℕ) → n < 10 ^ 64 → IsAscii (magnitude_text s n)
magnitude_ascii s n small = either_ascii (s == 0) (decimal n) (pointed_text s n) (IsAscii-decimal_wide n small) (pointed_ascii s n small)

decimal_ascii : (s : ℕ) (z : ℤ) → unsigned_abs z < 10 ^ 64 → IsAscii (decimal_text s z)
decimal_ascii s (pos n) small = magnitude_ascii s n small
decimal_ascii s (negsuc n) small = IsAscii-cons 45 (magnitude_text s (n + 1)) (lit< tt) (magnitude_ascii s (n + 1) (omega arith))

-- whatever its type, the number is of 128 bits
pub wide_decimal_utf8 : (s : ℕ) (z : ℤ) → unsigned_abs z < 10 ^ 64 → IsUtf8 (decimal_text s z)
wide_decimal_utf8 s z small = IsUtf8-from_ascii (decimal_text s z) (decimal_ascii s z small)

pub decimal_utf8 : (p s : ℕ) (z : ℤ) → p ≤ 38 → unsigned_abs z < 10 ^ p → IsUtf8 (decimal_text s z)
decimal_utf8 p s z most small =
    let below : 10 ^ p ≤ 10 ^ 38 = pow-le-pow_right (lit< tt) most in
    let top : 10 ^ 38 < 10 ^ 64 = lit< tt in
    wide_decimal_utf8 s z (omega arith)

day_ascii : (d : CalendarDay) → d.year ≤ 9999 → d.month ≤ 12 → d.day ≤ 31 → IsAscii (day_text d)
day_ascii d year month day =
    let top : 9999 < 10 ^ 64 = lit< tt in
    IsAscii-append (padded 4 d.year) _ (padded_ascii 4 d.year (omega arith))
    (IsAscii-cons 45 _ (lit< tt)
    (IsAscii-append (padded 2 d.month) _ (padded_ascii 2 d.month (omega arith))
    (IsAscii-cons 45 (padded 2 d.day) (lit< tt) (padded_ascii 2 d.day (omega arith)))))

pub boolean_utf8 : (b : Bool) → IsUtf8 (boolean_text b)
boolean_utf8 b = IsUtf8-from_ascii (boolean_text b) (either_ascii b (codes "true") (codes "false") (λ i. grind arith) (λ i. grind arith))

in_range : (z : ℤ) → has_date z ≡ true → (neg_ℤ (pos 719_162) ≤ℤ z) × (z ≤ℤ pos 2_932_896)
in_range z h = grind (arith, signed_arith)

nth_ascii : (n : ℕ) → n < 3_652_059 → IsAscii (day_text (nth_day n))
nth_ascii n small =
    let is = nth_is n in
    let d = nth_day n in
    let year = year_bound n d is small in
    let month = days_in_month_bounds (pos d.year) d.month in
    let day : d.day ≤ 31 = omega (arith, is.last_day) in
    day_ascii d year is.last_month day

pub date_utf8 : (z : ℤ) → has_date z ≡ true → IsUtf8 (date_text z)
date_utf8 z h =
    let range = in_range z h in
    let n = unsigned_abs (z +ℤ pos 719_162) in
    let whole : pos n ≡ z +ℤ pos 719_162 = unsigned_abs-same (z +ℤ pos 719_162) (omega (arith, signed_arith, range.0)) in
    IsUtf8-from_ascii (date_text z) (rw h (nth_ascii n (omega (arith, signed_arith, range.1))))

day_or_nothing : (z : ℤ) (b : Bool) → has_date z ≡ b → IsUtf8 (date_text z)
day_or_nothing z true h = date_utf8 z h
day_or_nothing z false h = IsUtf8-from_ascii (date_text z) (rw h IsAscii-nil)

pub any_date_utf8 : (z : ℤ) → IsUtf8 (date_text z)
any_date_utf8 z = day_or_nothing z (has_date z) refl
