-- A decimal that was printed reads as that decimal.
use Rattle.std.proofs.Common.{◌≡◌, ℕ, zero, suc, ◌+◌, ◌*◌, ◌-◌, ◌/◌, ◌%◌, ◌^◌, ◌<◌, ◌≤◌, min, List, [], ◌∷◌, ◌++◌, length, drop, Option, Some, None, option_and_then, option_map, true, false, cond, ◌==◌, ◌&&◌, nat_le, ap, sym, subst, ◌∙◌, arith, add-one, ℤ, pos, negsuc, neg_ℤ, unsigned_abs}
use Rattle.std.specs.Fmt.{decimal}
use Rattle.std.specs.Str.Parse.{IsNumeral, AllDigits}
use Rattle.std.proofs.Math.Seq.{take-append_seam, drop-append-add}
use Rattle.std.proofs.Math.Nat.{div-le_self, mod-lt}
use Rattle.std.proofs.lemmas.Fmt.{decimal_is_IsNumeral_wide}
use Rattle.std.proofs.lemmas.Str.Parse.{digit_from_value}
use Rattle.std.proofs.lemmas.Bool.Decides.{nat_tests}
use Rattle.scalar_texts.specs.Numbers.{digits_after, number_of, signed_of, only_if, padded}
use Rattle.scalar_texts.specs.Decimals.{with_fraction, point_in, magnitude_at, magnitude_of, has_digits, decimal_of, pointed_text, magnitude_text, decimal_text}
use Rattle.scalar_texts.proofs.DecimalLemmas.{ten-mono, ten_pos}
use Rattle.scalar_texts.proofs.Marks.{no_mark, mark_at}
use Rattle.scalar_texts.proofs.PrintedNumbers.{decimal_read, no_sign, padded_length, padded_read}

no_point : (ds : List ℕ) → AllDigits 10 ds → point_in ds ≡ None
no_point = no_mark 46 (omega arith)

point_at : (ds rest : List ℕ) → AllDigits 10 ds → point_in (ds ++ 46 ∷ rest) ≡ Some (length ds)
point_at = mark_at 46 (omega arith)

whole_back : (n : ℕ) → n < 10 ^ 64 → magnitude_of 0 (decimal n) ≡ Some n
whole_back n h =
    ap (magnitude_at 0 (decimal n)) (no_point (decimal n) (decimal_is_IsNumeral_wide n h).0.1)
    ∙ ap (option_map (λ m. m * 10 ^ 0)) (decimal_read n h)
    ∙ ap Some (omega arith)

full_fraction : (s : ℕ) (fraction : List ℕ) (n m : ℕ) → length fraction ≡ s → 0 < s → digits_after n fraction ≡ Some m → with_fraction s fraction n ≡ Some m
full_fraction s fraction n m e some read =
    let passes : (nat_le 1 (length fraction) && nat_le (length fraction) s) ≡ true = grind (arith, nat_tests) in
    let none_left : s - length fraction ≡ 0 = omega arith in
    ap (λ b. cond b (option_map (λ m. m * 10 ^ (s - length fraction)) (digits_after n fraction)) None) passes
    ∙ ap (option_map (λ m. m * 10 ^ (s - length fraction))) read
    ∙ ap (λ k. Some (m * 10 ^ k)) none_left
    ∙ ap Some (omega arith)

pointed_at : (s w m : ℕ) (ds fraction : List ℕ) → AllDigits 10 ds → number_of ds ≡ Some w → with_fraction s fraction w ≡ Some m → magnitude_of s (ds ++ 46 ∷ fraction) ≡ Some m
pointed_at s w m ds fraction d whole rest =
    ap (magnitude_at s (ds ++ 46 ∷ fraction)) (point_at ds fraction d)
    ∙ ap (λ xs. option_and_then (with_fraction s (drop (length ds + 1) (ds ++ 46 ∷ fraction))) (number_of xs)) (take-append_seam ds (46 ∷ fraction))
    ∙ ap (option_and_then (with_fraction s (drop (length ds + 1) (ds ++ 46 ∷ fraction)))) whole
    ∙ ap (λ xs. with_fraction s xs w) (drop-append-add ds (46 ∷ fraction) 1)
    ∙ rest

pointed_back : (s n : ℕ) → 0 < s → s ≤ 38 → n < 10 ^ 38 → magnitude_of s (pointed_text s n) ≡ Some n
pointed_back s n some few small =
    let w = n / 10 ^ s in
    let f = n % 10 ^ s in
    let one = ten_pos s in
    let low : f < 10 ^ s = mod-lt n one in
    let whole : w ≤ n = div-le_self n (10 ^ s) in
    let parts : w * 10 ^ s + f ≡ n = omega arith in
    pointed_at s w n (decimal w) (padded s f) (decimal_is_IsNumeral_wide w (omega arith)).0.1 (decimal_read w (omega arith))
    (full_fraction s (padded s f) w n (padded_length s f some low (omega arith)) some (padded_read w s f some low (omega arith) ∙ ap Some parts))

not_zero : (s : ℕ) → 0 < s → (s == 0) ≡ false
not_zero s h = grind (arith, nat_tests)

pointed : (s n : ℕ) → 0 < s → magnitude_text s n ≡ pointed_text s n
pointed s n h = ap (λ b. cond b (decimal n) (pointed_text s n)) (not_zero s h)

magnitude_back : (s n : ℕ) → s ≤ 38 → n < 10 ^ 38 → magnitude_of s (magnitude_text s n) ≡ Some n
magnitude_back zero n few small = whole_back n (omega arith)
magnitude_back (suc k) n few small = ap (magnitude_of (suc k)) (pointed (suc k) n (omega arith)) ∙ pointed_back (suc k) n (omega arith) few small

starts_with_digit : (unsigned : List ℕ → Option ℕ) (ds rest : List ℕ) → IsNumeral 10 ds → signed_of unsigned (ds ++ rest) ≡ option_map pos (unsigned (ds ++ rest))
starts_with_digit unsigned [] rest d = absurd (omega arith)
starts_with_digit unsigned (c ∷ cs) rest d = let range = digit_from_value c d.1.0 in grind (arith, nat_tests)

unsigned_text : (s n : ℕ) → n < 10 ^ 38 → signed_of (magnitude_of s) (magnitude_text s n) ≡ option_map pos (magnitude_of s (magnitude_text s n))
unsigned_text zero n small = no_sign (magnitude_of 0) (decimal n) (decimal_is_IsNumeral_wide n (omega arith)).0
unsigned_text (suc k) n small =
    let P : List ℕ → Type 0 = λ text. signed_of (magnitude_of (suc k)) text ≡ option_map pos (magnitude_of (suc k) text) in
    subst P (sym (pointed (suc k) n (omega arith)))
    (starts_with_digit (magnitude_of (suc k)) (decimal (n / 10 ^ suc k)) _ (decimal_is_IsNumeral_wide (n / 10 ^ suc k) (omega (arith, div-le_self n (10 ^ suc k)))).0)

passes : (p : ℕ) (z : ℤ) → p ≤ 38 → unsigned_abs z < 10 ^ p → only_if (has_digits p) z ≡ Some z
passes p z few small =
    let same : 10 ^ min p 38 ≡ 10 ^ p = ap (λ k. 10 ^ k) (omega arith) in
    grind (arith, nat_tests)

pub decimal_back : (p s : ℕ) (z : ℤ) → p ≤ 38 → s ≤ 38 → unsigned_abs z < 10 ^ p → decimal_of p s (decimal_text s z) ≡ Some z
decimal_back p s (pos n) few places small =
    ap (option_and_then (only_if (has_digits p))) (unsigned_text s n (omega (arith, ten-mono p 38 few)) ∙ ap (option_map pos) (magnitude_back s n places (omega (arith, ten-mono p 38 few))))
    ∙ passes p (pos n) few small
decimal_back p s (negsuc n) few places small =
    ap (λ o. option_and_then (only_if (has_digits p)) (option_map (λ m. neg_ℤ (pos m)) o)) (magnitude_back s (n + 1) places (omega (arith, ten-mono p 38 few)))
    ∙ ap (λ k. only_if (has_digits p) (neg_ℤ (pos k))) (add-one n)
    ∙ passes p (negsuc n) few small
