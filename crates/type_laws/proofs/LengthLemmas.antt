-- The lengths of texts: a text has no more code points than bytes, and the text of a value is short.
use Rattle.std.proofs.Common.{◌≡◌, ℕ, zero, suc, ◌+◌, ◌-◌, ◌/◌, ◌%◌, ◌<◌, ◌≤◌, ◌^◌, List, [], ◌∷◌, ◌++◌, length, Bool, true, false, replicate, refl, arith, lit<, ℤ, pos, negsuc, ◌+ℤ◌, unsigned_abs, nat_abs, if◌then◌else◌, length-append}
use Rattle.std.specs.Prelude.{◌*◌, ◌==◌}
use Rattle.std.specs.Str.{chars, chars_after, continuation_len, lead_bits}
use Rattle.std.specs.Fmt.{decimal, signed_decimal}
use Rattle.std.proofs.lemmas.Bool.Decides.{nat_tests}
use Rattle.std.proofs.lemmas.Fmt.{length-decimal-le_wide, length_signed_le}
use Rattle.std.proofs.lemmas.List.{length-replicate}
use Rattle.scalar_texts.specs.Booleans.{boolean_text}
use Rattle.scalar_texts.specs.Numbers.{has_64_bits, padded}
use Rattle.scalar_texts.specs.Decimals.{decimal_text, magnitude_text, pointed_text}
use Rattle.scalar_texts.specs.Dates.{CalendarDay, date_text, day_text, has_date, nth_day}
use Rattle.type_laws.proofs.DayLemmas.{IsSmallDay, day_is_small}

after_within : (n c : ℕ) (bs : List ℕ) → length (chars_after n c bs) ≤ length bs + 1
after_within zero c [] = omega arith
after_within zero c (b ∷ bs) = omega (arith, after_within (continuation_len b) (lead_bits b) bs)
after_within (suc n) c [] = omega arith
after_within (suc n) c (b ∷ bs) = omega (arith, after_within n (c * 64 + (b - 128)) bs)

-- a text has no more code points than bytes
pub chars_within : (text : List ℕ) → length (chars text) ≤ length text
unfolding chars
chars_within [] = omega arith
chars_within (b ∷ bs) = omega (arith, after_within (continuation_len b) (lead_bits b) bs)

either_within : (n : ℕ) (b : Bool) (xs ys : List ℕ) → length xs ≤ n → length ys ≤ n → length (if b then xs else ys) ≤ n
either_within n true xs ys h k = h
either_within n false xs ys h k = k

pub boolean_within : (b : Bool) → length (boolean_text b) ≤ 200
boolean_within true = omega arith
boolean_within false = omega arith

pub bigint_within : (z : ℤ) → has_64_bits z ≡ true → length (signed_decimal z) ≤ 200
bigint_within (pos n) h =
    let top : 2 ^ 63 + 1 < 10 ^ 19 = lit< tt in
    let small : n < 2 ^ 63 = grind (arith, nat_tests) in
    let short = length_signed_le 19 (pos n) (omega arith) small in
    omega arith
bigint_within (negsuc n) h =
    let top : 2 ^ 63 + 1 < 10 ^ 19 = lit< tt in
    let small : n < 2 ^ 63 = grind (arith, nat_tests) in
    let short = length_signed_le 19 (negsuc n) (omega arith) small in
    omega arith

padded_within : (w k n : ℕ) → 0 < k → n < 10 ^ k → n < 10 ^ 64 → length (padded w n) ≤ w + k
padded_within w k n some fits small =
    let own = length-decimal-le_wide k n some fits small in
    omega (arith, length-append {A = ℕ} (replicate (w - length (decimal n)) 48) (decimal n), length-replicate {A = ℕ} (w - length (decimal n)) 48)

pointed_within : (s n : ℕ) → s ≤ 38 → n < 10 ^ 38 → length (pointed_text s n) ≤ 115
pointed_within s n most small =
    let top : 10 ^ 38 < 10 ^ 64 = lit< tt in
    let whole : n / 10 ^ s < 10 ^ 38 = grind arith in
    let part : n % 10 ^ s < 10 ^ 38 = grind arith in
    let before = length-decimal-le_wide 38 (n / 10 ^ s) (omega arith) whole (omega arith) in
    let after = padded_within s 38 (n % 10 ^ s) (omega arith) part (omega arith) in
    omega (arith, length-append {A = ℕ} (decimal (n / 10 ^ s)) (46 ∷ padded s (n % 10 ^ s)))

magnitude_within : (s n : ℕ) → s ≤ 38 → n < 10 ^ 38 → length (magnitude_text s n) ≤ 115
magnitude_within s n most small =
    let top : 10 ^ 38 < 10 ^ 64 = lit< tt in
    let whole = length-decimal-le_wide 38 n (omega arith) small (omega arith) in
    either_within 115 (s == 0) (decimal n) (pointed_text s n) (omega arith) (pointed_within s n most small)

pub decimal_within : (s : ℕ) (z : ℤ) → s ≤ 38 → nat_abs z < 10 ^ 38 → length (decimal_text s z) ≤ 200
decimal_within s (pos n) most small = let short = magnitude_within s n most small in omega arith
decimal_within s (negsuc n) most small = let short = magnitude_within s (n + 1) most (omega arith) in omega arith

day_within : (d : CalendarDay) → IsSmallDay d → length (day_text d) ≤ 200
day_within d is =
    let top : 9999 < 10 ^ 64 = lit< tt in
    let year = padded_within 4 4 d.year (omega arith) (omega (arith, is.year)) (omega (arith, is.year)) in
    let month = padded_within 2 2 d.month (omega arith) (omega (arith, is.month)) (omega (arith, is.month)) in
    let day = padded_within 2 2 d.day (omega arith) (omega (arith, is.day)) (omega (arith, is.day)) in
    omega (arith, length-append {A = ℕ} (padded 4 d.year) (45 ∷ (padded 2 d.month ++ 45 ∷ padded 2 d.day)), length-append {A = ℕ} (padded 2 d.month) (45 ∷ padded 2 d.day))

date_by : (z : ℤ) (b : Bool) → has_date z ≡ b → length (if b then day_text (nth_day (unsigned_abs (z +ℤ pos 719_162))) else []) ≤ 200
date_by z true h = day_within (nth_day (unsigned_abs (z +ℤ pos 719_162))) (day_is_small z h)
date_by z false h = omega arith

pub date_within : (z : ℤ) → length (date_text z) ≤ 200
date_within z = date_by z (has_date z) refl
