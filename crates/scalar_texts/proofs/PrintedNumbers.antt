-- A number that was printed reads as that number.
use Rattle.std.proofs.Common.{◌≡◌, ℕ, ◌+◌, ◌*◌, ◌^◌, ◌<◌, List, [], ◌∷◌, Option, Some, option_and_then, option_map, refl, ap, sym, ◌∙◌, arith, zero, suc, replicate, length, length-append, ◌-◌, ◌++◌, ℤ, pos, negsuc, neg_ℤ, FitsSigned, w64}
use Rattle.std.specs.Fmt.{decimal, signed_decimal}
use Rattle.std.specs.Str.Parse.{IsNumeral, AllDigits, digits_value_after}
use Rattle.std.specs.Char.{digit_value}
use Rattle.std.proofs.lemmas.Fmt.{decimal_is_IsNumeral_wide, length-decimal-le_wide}
use Rattle.std.proofs.lemmas.Grind.{pow_more}
use Rattle.std.proofs.lemmas.Nat.{pow-add}
use Rattle.std.proofs.lemmas.Str.Parse.{digit_from_value}
use Rattle.std.proofs.lemmas.Str.{digit_value_digit}
use Rattle.std.proofs.lemmas.List.{length-replicate}
use Rattle.std.proofs.lemmas.Bool.Decides.{nat_tests}
use Rattle.scalar_texts.specs.Numbers.{digit_of, digits_after, number_of, signed_of, bigint_of, has_64_bits, only_if, padded}

digit_read : (c : ℕ) → digit_value c < 10 → digit_of c ≡ Some (digit_value c)
digit_read c h =
    let range = digit_from_value c h in
    let value = digit_value_digit c range in
    grind (arith, nat_tests)

pub digits_read : (n : ℕ) (ds : List ℕ) → AllDigits 10 ds → digits_after n ds ≡ Some (digits_value_after 10 n ds)
digits_read n [] d = refl
digits_read n (c ∷ cs) d =
    ap (λ o. option_and_then (λ m. digits_after m cs) (option_map (λ d. n * 10 + d) o)) (digit_read c d.0)
    ∙ digits_read (n * 10 + digit_value c) cs d.1

numeral_read : (ds : List ℕ) → IsNumeral 10 ds → number_of ds ≡ Some (digits_value_after 10 0 ds)
numeral_read [] d = absurd (omega arith)
numeral_read (c ∷ cs) d = digits_read 0 (c ∷ cs) d.1

pub decimal_read : (n : ℕ) → n < 10 ^ 64 → number_of (decimal n) ≡ Some n
decimal_read n h = let is = decimal_is_IsNumeral_wide n h in numeral_read (decimal n) is.0 ∙ ap Some is.1

pub no_sign : (unsigned : List ℕ → Option ℕ) (ds : List ℕ) → IsNumeral 10 ds → signed_of unsigned ds ≡ option_map pos (unsigned ds)
no_sign unsigned [] d = absurd (omega arith)
no_sign unsigned (c ∷ cs) d = let range = digit_from_value c d.1.0 in grind (arith, nat_tests)

-- padding with zeros

ten-suc : (k : ℕ) → 10 ^ suc k ≡ 10 ^ k * 10
ten-suc k = ap (λ x. 10 ^ x) (omega arith) ∙ pow_more 10 k

shift : (n d p q : ℕ) → q ≡ p * 10 → (n * 10 + d) * p ≡ n * q + d * p
shift n d p q e = rw e (grind arith)

value_zeros : (k n : ℕ) (ds : List ℕ) → digits_value_after 10 n (replicate k 48 ++ ds) ≡ digits_value_after 10 (n * 10 ^ k) ds
value_zeros zero n ds = ap (λ x. digits_value_after 10 x ds) (omega arith)
value_zeros (suc k) n ds = value_zeros k (n * 10 + 0) ds ∙ ap (λ x. digits_value_after 10 x ds) (omega (arith, shift n 0 (10 ^ k) (10 ^ suc k) (ten-suc k)))

joined : (n d p q v w : ℕ) → q ≡ p * 10 → w ≡ (0 * 10 + d) * p + v → (n * 10 + d) * p + v ≡ n * q + w
joined n d p q v w e f = omega (arith, shift n d p q e, shift 0 d p q e)

value_after : (n : ℕ) (ds : List ℕ) → digits_value_after 10 n ds ≡ n * 10 ^ length ds + digits_value_after 10 0 ds
value_after n [] = omega arith
value_after n (c ∷ cs) =
    value_after (n * 10 + digit_value c) cs
    ∙ joined n (digit_value c) (10 ^ length cs) (10 ^ suc (length cs)) _ _ (ten-suc (length cs)) (value_after (0 * 10 + digit_value c) cs)

all_zeros : (k : ℕ) (ds : List ℕ) → AllDigits 10 ds → AllDigits 10 (replicate k 48 ++ ds)
all_zeros zero ds d = d
all_zeros (suc k) ds d = (omega arith, all_zeros k ds d)

pub padded_digits : (w n : ℕ) → n < 10 ^ 64 → AllDigits 10 (padded w n)
padded_digits w n h = all_zeros (w - length (decimal n)) (decimal n) (decimal_is_IsNumeral_wide n h).0.1

pub padded_length : (w n : ℕ) → 0 < w → n < 10 ^ w → n < 10 ^ 64 → length (padded w n) ≡ w
padded_length w n some fits small =
    simp (length-append, length-replicate) (omega (arith, length-decimal-le_wide w n some fits small))

product : (m a b q n : ℕ) → q ≡ a * b → m * a * b + n ≡ m * q + n
product m a b q n e = rw e (grind arith)

in_width : (m z l w n : ℕ) → z + l ≡ w → m * 10 ^ z * 10 ^ l + n ≡ m * 10 ^ w + n
in_width m z l w n e = product m (10 ^ z) (10 ^ l) (10 ^ w) n (ap (λ x. 10 ^ x) (sym e) ∙ pow-add 10 z l)

-- m and then n in w digits
pub padded_read : (m w n : ℕ) → 0 < w → n < 10 ^ w → n < 10 ^ 64 → digits_after m (padded w n) ≡ Some (m * 10 ^ w + n)
padded_read m w n some fits small =
    let zeros = w - length (decimal n) in
    let is = decimal_is_IsNumeral_wide n small in
    let width : zeros + length (decimal n) ≡ w = omega (arith, length-decimal-le_wide w n some fits small) in
    digits_read m (padded w n) (padded_digits w n small)
    ∙ ap Some (value_zeros zeros m (decimal n) ∙ value_after (m * 10 ^ zeros) (decimal n) ∙ ap (λ x. m * 10 ^ zeros * 10 ^ length (decimal n) + x) is.1 ∙ in_width m zeros (length (decimal n)) w n width)

small : (z : ℤ) → FitsSigned w64 z → only_if has_64_bits z ≡ Some z
small (pos n) h = grind (arith, nat_tests)
small (negsuc n) h = grind (arith, nat_tests)

pub bigint_back : (z : ℤ) → FitsSigned w64 z → bigint_of (signed_decimal z) ≡ Some z
bigint_back (pos n) h =
    ap (option_and_then (only_if has_64_bits)) (no_sign number_of (decimal n) (decimal_is_IsNumeral_wide n (omega arith)).0 ∙ ap (option_map pos) (decimal_read n (omega arith)))
    ∙ small (pos n) h
bigint_back (negsuc n) h =
    ap (λ o. option_and_then (only_if has_64_bits) (option_map (λ m. neg_ℤ (pos m)) o)) (decimal_read (suc n) (omega arith))
    ∙ small (negsuc n) h
