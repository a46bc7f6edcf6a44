-- What writes a number or a day is ASCII, and stands for no NULL.
use Rattle.std.proofs.Common.{◌≡◌, ◌<◌, ◌≤◌, ◌+◌, ◌-◌, ◌*◌, ◌^◌, ℕ, zero, suc, ℤ, Bool, true, false, List, [], ◌∷◌, length, take, drop, Option, Some, None, Ok, option_and_then, option_map, refl, arith, add-one, lit<}
use Rattle.std.specs.Prelude.{if◌then◌else◌, ◌==◌, ◌&&◌, slice_index, slice_range}
use Rattle.std.specs.Str.{IsAscii}
use Rattle.std.proofs.lemmas.Bool.{eqb-true}
use Rattle.std.proofs.lemmas.Bool.Decides.{nat_tests}
use Rattle.std.proofs.lemmas.List.{drop-drop, get_or-drop, take_all, length-drop}
use Rattle.std.proofs.lemmas.List.Quantifiers.{position-Some}
use Rattle.std.proofs.lemmas.Option.{option_and_then_some}
use Rattle.std.proofs.lemmas.Str.{IsUtf8-from_ascii}
use Rattle.std.proofs.lemmas.Str.Ascii.{IsAscii-nil, IsAscii-cons}
use Rattle.scalar_texts.specs.Dates.{date_of, day_of, day_number}
use Rattle.scalar_texts.specs.Decimals.{decimal_of, has_digits, magnitude_at, magnitude_of, point_in, with_fraction}
use Rattle.scalar_texts.specs.Numbers.{bigint_of, digit_of, digits_after, has_64_bits, number_of, only_if, signed_of, with_digit}
use Rattle.sql_values.specs.declared.types.SqlType.{SqlType}
use Rattle.sql_values.specs.declared.types.SqlType.TheVariants as type
use Rattle.sql_values.specs.declared.value.Value.{Value}
use Rattle.csv_tables.specs.Fields.{number_in, value_of_field}
use Rattle.csv_tables.proofs.ReadBackLemmas.{plain_back}

mapped : {A B P : Type 0} (f : A → B) (o : Option A) (y : B) → option_map f o ≡ Some y → ((x : A) → o ≡ Some x → P) → P
mapped f None y e next = cc e
mapped f (Some x) y e next = next x refl

digit_ascii : (b d : ℕ) → digit_of b ≡ Some d → b < 128
digit_ascii b d h = grind (arith, nat_tests)

digits_ascii : (n : ℕ) (ds : List ℕ) (m : ℕ) → digits_after n ds ≡ Some m → IsAscii ds
digits_ascii n [] m e = IsAscii-nil
digits_ascii n (b ∷ bs) m e =
    option_and_then_some (λ k. digits_after k bs) (with_digit n b) m e (λ k here more.
    mapped (λ d. n * 10 + d) (digit_of b) k here (λ d digit.
    IsAscii-cons b bs (digit_ascii b d digit) (digits_ascii k bs m more)))

number_ascii : (text : List ℕ) (n : ℕ) → number_of text ≡ Some n → IsAscii text
number_ascii [] n e = IsAscii-nil
number_ascii (b ∷ bs) n e = digits_ascii 0 (b ∷ bs) n e

byte_small : (b k : ℕ) → (b == k) ≡ true → k < 128 → b < 128
byte_small b k e small = rw (eqb-true b k e) small

signed_ascii : (magnitude : List ℕ → Option ℕ) → ((text : List ℕ) (n : ℕ) → magnitude text ≡ Some n → IsAscii text) → (text : List ℕ) (z : ℤ) → signed_of magnitude text ≡ Some z → IsAscii text
signed_ascii magnitude ascii [] z e = IsAscii-nil
signed_ascii magnitude ascii (b ∷ bs) z e = by_sign (b == 45) (b == 43) refl refl
  where
    by_sign : (minus plus : Bool) → (b == 45) ≡ minus → (b == 43) ≡ plus → IsAscii (b ∷ bs)
    by_sign true plus h k = mapped _ (magnitude bs) z (rw h at e) (λ n m. IsAscii-cons b bs (byte_small b 45 h (lit< tt)) (ascii bs n m))
    by_sign false true h k = mapped _ (magnitude bs) z (rw (h, k) at e) (λ n m. IsAscii-cons b bs (byte_small b 43 k (lit< tt)) (ascii bs n m))
    by_sign false false h k = mapped _ (magnitude (b ∷ bs)) z (rw (h, k) at e) (λ n m. ascii (b ∷ bs) n m)

-- a text in two parts with a byte between them
joined_ascii : (k : ℕ) (text : List ℕ) → IsAscii (take k text) → slice_index text k < 128 → IsAscii (drop (suc k) text) → IsAscii text
joined_ascii k [] front here back = IsAscii-nil
joined_ascii zero (b ∷ bs) front here back = IsAscii-cons b bs here back
joined_ascii (suc k) (b ∷ bs) front here back = IsAscii-cons b bs (front 0) (joined_ascii k bs (λ i. front (suc i)) here back)

fraction_some : (s : ℕ) (fraction : List ℕ) (n m : ℕ) (fits : Bool) → (if fits then option_map (λ k. k * 10 ^ (s - length fraction)) (digits_after n fraction) else None) ≡ Some m → IsAscii fraction
fraction_some s fraction n m true e = mapped _ (digits_after n fraction) m e (λ k digits. digits_ascii n fraction k digits)
fraction_some s fraction n m false e = cc e

magnitude_by : (s : ℕ) (text : List ℕ) (n : ℕ) (point : Option ℕ) → point_in text ≡ point → magnitude_at s text point ≡ Some n → IsAscii text
magnitude_by s text n None at e = mapped _ (number_of text) n e (λ m digits. number_ascii text m digits)
magnitude_by s text n (Some point) at e =
    let is_point = (position-Some (λ b. b == 46) text point 0 at).1 in
    option_and_then_some (with_fraction s (drop (point + 1) text)) (number_of (take point text)) n e (λ m front back.
    joined_ascii point text (number_ascii (take point text) m front) (byte_small (slice_index text point) 46 is_point (lit< tt))
    (rw (add-one point) at (fraction_some s (drop (point + 1) text) m n _ back)))

magnitude_ascii : (s : ℕ) (text : List ℕ) (n : ℕ) → magnitude_of s text ≡ Some n → IsAscii text
magnitude_ascii s text n e = magnitude_by s text n (point_in text) refl e

bigint_ascii : (text : List ℕ) (z : ℤ) → bigint_of text ≡ Some z → IsAscii text
bigint_ascii text z e = option_and_then_some (only_if has_64_bits) (signed_of number_of text) z e (λ y read ok. signed_ascii number_of number_ascii text y read)

decimal_ascii : (p s : ℕ) (text : List ℕ) (z : ℤ) → decimal_of p s text ≡ Some z → IsAscii text
decimal_ascii p s text z e =
    option_and_then_some (only_if (has_digits p)) (signed_of (magnitude_of s) text) z e (λ y read ok. signed_ascii (magnitude_of s) (magnitude_ascii s) text y read)

-- the three numbers of a day
numbers_ascii : {P : Type 0} (a b c : List ℕ) (z : ℤ) (x y w : Option ℕ) → number_of a ≡ x → number_of b ≡ y → number_of c ≡ w → option_and_then day_number (day_of x y w) ≡ Some z
    → (IsAscii a → IsAscii b → IsAscii c → P) → P
numbers_ascii a b c z None y w p q r e next = cc e
numbers_ascii a b c z (Some x) None w p q r e next = cc e
numbers_ascii a b c z (Some x) (Some y) None p q r e next = cc e
numbers_ascii a b c z (Some x) (Some y) (Some w) p q r e next = next (number_ascii a x p) (number_ascii b y q) (number_ascii c w r)

date_by : (text : List ℕ) (z : ℤ) (long first second : Bool) → (length text == 10) ≡ long → (slice_index text 4 == 45) ≡ first → (slice_index text 7 == 45) ≡ second
    → (if long && first && second then option_and_then day_number (day_of (number_of (slice_range text 0 4)) (number_of (slice_range text 5 7)) (number_of (slice_range text 8 10))) else None) ≡ Some z
    → IsAscii text
date_by text z false first second l f s e = cc e
date_by text z true false second l f s e = cc e
date_by text z true true false l f s e = cc e
date_by text z true true true l f s e =
    numbers_ascii (slice_range text 0 4) (slice_range text 5 7) (slice_range text 8 10) z _ _ _ refl refl refl e (λ year month day.
    let size : length (drop 8 text) ≤ 2 = omega (arith, eqb-true (length text) 10 l, length-drop 8 text) in
    let last : IsAscii (drop 8 text) = rw (take_all 2 (drop 8 text) size) at day in
    let later : IsAscii (drop 3 (drop 5 text)) = rw (drop-drop 3 5 text) last in
    let mark : slice_index (drop 5 text) 2 < 128 = rw (get_or-drop 5 text 2 0) (byte_small (slice_index text 7) 45 s (lit< tt)) in
    joined_ascii 4 text year (byte_small (slice_index text 4) 45 f (lit< tt)) (joined_ascii 2 (drop 5 text) month mark later))

date_ascii : (text : List ℕ) (z : ℤ) → date_of text ≡ Some z → IsAscii text
date_ascii text z e = date_by text z _ _ _ refl refl refl e

-- a field that writes a number or a day
pub number_written : (kind : SqlType) (field : List ℕ) (v : Value) → number_in kind field ≡ Some v → value_of_field kind field ≡ Ok v
number_written type.Boolean field v e = cc e
number_written type.Varchar field v e = cc e
number_written type.Bigint field v e = plain_back type.Bigint v field refl (IsUtf8-from_ascii field (mapped _ (bigint_of field) v e (λ z h. bigint_ascii field z h))) e refl refl
number_written (type.Decimal p s) field v e = plain_back (type.Decimal p s) v field refl (IsUtf8-from_ascii field (mapped _ (decimal_of p s field) v e (λ z h. decimal_ascii p s field z h))) e refl refl
number_written type.Date field v e = plain_back type.Date v field refl (IsUtf8-from_ascii field (mapped _ (date_of field) v e (λ z h. date_ascii field z h))) e refl refl
