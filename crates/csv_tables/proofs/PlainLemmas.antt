-- Texts that call for no quotes, and how a text stands between them.
use Rattle.std.proofs.Common.{◌≡◌, ◌≢◌, ◌<◌, ◌+◌, ◌%◌, ◌/◌, ◌^◌, ◌-◌, ◌==◌, ◌++◌, ◌∷◌, ◌∙◌, [], ℕ, zero, suc, List, Bool, true, false, length, take, get_or, refl, sym, ap, arith, lit<, append_assoc, replicate, ℤ, pos, negsuc, unsigned_abs, ◌+ℤ◌, if◌then◌else◌}
use Rattle.std.specs.Prelude.{nat_lt}
use Rattle.std.specs.Fmt.{decimal, digit_glyph, digits, digits_onto, signed_decimal}
use Rattle.std.proofs.lemmas.Bool.{ne_eqb}
use Rattle.std.proofs.lemmas.List.Folds.{list_any-append}
use Rattle.std.proofs.lemmas.List.{append-nil, take_more}
use Rattle.csv.specs.Writing.{default_writer, needs_byte, needs_quotes, quoted}
use Rattle.csv.specs.Writing.{escaped as doubled}
use Rattle.csv.proofs.WriteFacts.{escaped-append}
use Rattle.scalar_texts.specs.Booleans.{boolean_text}
use Rattle.scalar_texts.specs.Dates.{CalendarDay, date_text, day_text, has_date, nth_day}
use Rattle.scalar_texts.specs.Decimals.{decimal_text, magnitude_text, pointed_text}
use Rattle.scalar_texts.specs.Numbers.{padded}
use Rattle.csv_tables.specs.Fields.{backslash, escaped, starts_with_backslash}
use Rattle.csv_tables.specs.ResultTexts.{lead, written}

abbrev pub IsPlain : List ℕ → Type 0
IsPlain text = needs_quotes default_writer text ≡ false

-- every byte that calls for quotes comes before the digits, the point and the sign
pub high_byte : (b : ℕ) → 44 < b → needs_byte default_writer b ≡ false
high_byte b h =
    let comma : (b == 44) ≡ false = ne_eqb b 44 (λ e. absurd (omega (arith, e, h))) in
    let quote : (b == 34) ≡ false = ne_eqb b 34 (λ e. absurd (omega (arith, e, h))) in
    let return : (b == 13) ≡ false = ne_eqb b 13 (λ e. absurd (omega (arith, e, h))) in
    let feed : (b == 10) ≡ false = ne_eqb b 10 (λ e. absurd (omega (arith, e, h))) in
    rw (comma, quote, return, feed) refl

plain_cons : (b : ℕ) (text : List ℕ) → 44 < b → IsPlain text → IsPlain (b ∷ text)
plain_cons b text h plain = rw (high_byte b h) plain

plain_append : (a b : List ℕ) → IsPlain a → IsPlain b → IsPlain (a ++ b)
plain_append a b h k = rw (list_any-append (needs_byte default_writer) a b, h) k

plain_zeros : (n : ℕ) → IsPlain (replicate n 48)
plain_zeros zero = refl
plain_zeros (suc n) = plain_cons 48 (replicate n 48) (lit< tt) (plain_zeros n)

either_plain : (b : Bool) (xs ys : List ℕ) → IsPlain xs → IsPlain ys → IsPlain (if b then xs else ys)
either_plain true xs ys h k = h
either_plain false xs ys h k = k

glyph_high : (small upper : Bool) (d : ℕ) → 44 < (if small then 48 + d else (if upper then 55 + d else 87 + d))
glyph_high true upper d = omega arith
glyph_high false true d = omega arith
glyph_high false false d = omega arith

onto_plain : (k base : ℕ) (upper : Bool) (n : ℕ) (text : List ℕ) → IsPlain text → IsPlain (digits_onto k base upper n text)
onto_plain zero base upper n text h = h
onto_plain (suc k) base upper n text h =
    let glyph = digit_glyph upper (n % base) in
    let one = plain_cons glyph text (glyph_high (nat_lt (n % base) 10) upper (n % base)) h in
    either_plain (n / base == 0) (glyph ∷ text) (digits_onto k base upper (n / base) (glyph ∷ text)) one (onto_plain k base upper (n / base) (glyph ∷ text) one)

decimal_plain : (n : ℕ) → IsPlain (decimal n)
unfolding digits
decimal_plain n = onto_plain 64 10 false n [] refl

padded_plain : (width n : ℕ) → IsPlain (padded width n)
padded_plain width n = plain_append (replicate (width - length (decimal n)) 48) (decimal n) (plain_zeros (width - length (decimal n))) (decimal_plain n)

pointed_plain : (s n : ℕ) → IsPlain (pointed_text s n)
pointed_plain s n =
    plain_append (decimal (n / 10 ^ s)) (46 ∷ padded s (n % 10 ^ s)) (decimal_plain (n / 10 ^ s))
    (plain_cons 46 (padded s (n % 10 ^ s)) (lit< tt) (padded_plain s (n % 10 ^ s)))

magnitude_plain : (s n : ℕ) → IsPlain (magnitude_text s n)
magnitude_plain s n = either_plain (s == 0) (decimal n) (pointed_text s n) (decimal_plain n) (pointed_plain s n)

pub signed_plain : (z : ℤ) → IsPlain (signed_decimal z)
signed_plain (pos n) = decimal_plain n
signed_plain (negsuc n) = plain_cons 45 (decimal (suc n)) (lit< tt) (decimal_plain (suc n))

pub units_plain : (s : ℕ) (z : ℤ) → IsPlain (decimal_text s z)
units_plain s (pos n) = magnitude_plain s n
units_plain s (negsuc n) = plain_cons 45 (magnitude_text s (n + 1)) (lit< tt) (magnitude_plain s (n + 1))

day_plain : (d : CalendarDay) → IsPlain (day_text d)
day_plain d =
    plain_append (padded 4 d.year) (45 ∷ (padded 2 d.month ++ 45 ∷ padded 2 d.day)) (padded_plain 4 d.year)
    (plain_cons 45 (padded 2 d.month ++ 45 ∷ padded 2 d.day) (lit< tt)
    (plain_append (padded 2 d.month) (45 ∷ padded 2 d.day) (padded_plain 2 d.month)
    (plain_cons 45 (padded 2 d.day) (lit< tt) (padded_plain 2 d.day))))

pub date_plain : (z : ℤ) → IsPlain (date_text z)
date_plain z = let day = nth_day (unsigned_abs (z +ℤ pos 719_162)) in either_plain (has_date z) (day_text day) [] (day_plain day) refl

pub boolean_plain : (b : Bool) → IsPlain (boolean_text b)
boolean_plain true = refl
boolean_plain false = refl

pub plain_stands : (text : List ℕ) → IsPlain text → written text ≡ text
plain_stands text h = rw h refl

-- how the field of a text is written that has quotes, or none
lead_plain : (b : Bool) (text : List ℕ) → needs_quotes default_writer (if b then backslash ∷ text else text) ≡ needs_quotes default_writer text
lead_plain true text = refl
lead_plain false text = refl

lead_first : (b : Bool) (text : List ℕ) → (if b then backslash ∷ [] else []) ++ text ≡ (if b then backslash ∷ text else text)
lead_first true text = refl
lead_first false text = refl

lead_doubled : (b : Bool) (text : List ℕ) → doubled default_writer (if b then backslash ∷ text else text) ≡ (if b then backslash ∷ [] else []) ++ doubled default_writer text
unfolding doubled
lead_doubled true text = refl
lead_doubled false text = refl

pub led : (text : List ℕ) → lead text ++ text ≡ escaped text
led text = lead_first (starts_with_backslash text) text

pub led_doubled : (text : List ℕ) → doubled default_writer (escaped text) ≡ lead text ++ doubled default_writer text
led_doubled text = lead_doubled (starts_with_backslash text) text

pub text_plain : (text : List ℕ) → needs_quotes default_writer text ≡ false → written (escaped text) ≡ escaped text
text_plain text h = plain_stands (escaped text) (lead_plain (starts_with_backslash text) text ∙ h)

pub field_quoted : (field : List ℕ) → needs_quotes default_writer field ≡ true → written field ≡ quoted default_writer field
field_quoted field h = rw h refl

pub text_quoted : (text : List ℕ) → needs_quotes default_writer text ≡ true → written (escaped text) ≡ quoted default_writer (escaped text)
text_quoted text h = field_quoted (escaped text) (lead_plain (starts_with_backslash text) text ∙ h)

pub quote_doubled : (b : ℕ) → b ≡ 34 → doubled default_writer (b ∷ []) ≡ 34 ∷ 34 ∷ []
unfolding doubled
quote_doubled b e = rw e refl

pub other_once : (b : ℕ) → b ≢ 34 → doubled default_writer (b ∷ []) ≡ b ∷ []
unfolding doubled
other_once b other = rw (ne_eqb b 34 other) refl

pub ruleset doubling = (quote_doubled, other_once)

pub doubled_none : (text : List ℕ) → text ≡ text ++ doubled default_writer []
unfolding doubled
doubled_none text = sym (append-nil text)

pub doubled_next : (before old new bytes : List ℕ) (i : ℕ) → i < length bytes → old ≡ before ++ doubled default_writer (take i bytes)
    → new ≡ old ++ doubled default_writer (get_or bytes i 0 ∷ []) → new ≡ before ++ doubled default_writer (take (i + 1) bytes)
doubled_next before old new bytes i lt at_old at_new =
    rw (take_more bytes i 0 lt, escaped-append default_writer (take i bytes) (get_or bytes i 0 ∷ []), at_new, at_old)
    (append_assoc before (doubled default_writer (take i bytes)) (doubled default_writer (get_or bytes i 0 ∷ [])))

pub quoted_parts : (old a b c d text : List ℕ) → a ≡ old ++ 34 ∷ [] → b ≡ a ++ lead text → c ≡ b ++ doubled default_writer text → d ≡ c ++ 34 ∷ []
    → d ≡ old ++ quoted default_writer (escaped text)
quoted_parts old a b c d text at_a at_b at_c at_d =
    let front : lead text ++ (doubled default_writer text ++ 34 ∷ []) ≡ doubled default_writer (escaped text) ++ 34 ∷ [] =
    sym (append_assoc (lead text) (doubled default_writer text) (34 ∷ [])) ∙ ap (λ (l : List ℕ). l ++ 34 ∷ []) (sym (led_doubled text)) in
    at_d ∙ rw (at_c, at_b, at_a)
    (append_assoc ((old ++ 34 ∷ []) ++ lead text) (doubled default_writer text) (34 ∷ []) ∙ append_assoc (old ++ 34 ∷ []) (lead text) _
    ∙ append_assoc old (34 ∷ []) _ ∙ ap (λ (l : List ℕ). old ++ 34 ∷ l) front)
