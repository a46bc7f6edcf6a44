-- The text of a type names that type.
use Rattle.std.proofs.Common.{◌≡◌, ℕ, zero, suc, ◌+◌, ◌-◌, ◌<◌, ◌≤◌, List, [], ◌∷◌, ◌++◌, length, length-append, append_assoc, take, drop, get_or, Some, None, true, cond, ◌==◌, ◌&&◌, nat_le, refl, ap, sym, ◌∙◌, arith, codes}
use Rattle.std.specs.Fmt.{decimal}
use Rattle.std.proofs.Math.Seq.{take-append_seam, drop-append-add}
use Rattle.std.proofs.lemmas.Fmt.{decimal_is_IsNumeral_wide, length-decimal-le_wide, first_decimal, decimal_digit}
use Rattle.std.proofs.lemmas.Bool.Decides.{nat_tests}
use Rattle.scalar_texts.specs.Numbers.{number_of}
use Rattle.scalar_texts.proofs.Marks.{mark_at}
use Rattle.scalar_texts.proofs.PrintedNumbers.{decimal_read}
use Rattle.sql_values.specs.declared.types.SqlType.{SqlType}
use Rattle.sql_values.specs.declared.types.SqlType.TheVariants.{Boolean, Bigint, Decimal, Varchar, Date}
use Rattle.sql_values.specs.Types.{IsType}
use Rattle.sql_values.specs.TypeTexts.{plain_number_of, decimal_type, parameters_at, parameters_of, type_of_text, type_text}

no_leading_zero : (n : ℕ) → 0 < n → n < 100 → plain_number_of (decimal n) ≡ number_of (decimal n)
no_leading_zero n some few =
    let first = first_decimal n some (omega arith) in
    let short = length-decimal-le_wide 2 n (omega arith) (omega arith) (omega arith) in
    grind (arith, nat_tests)

plain_read : (n : ℕ) → n < 100 → plain_number_of (decimal n) ≡ Some n
plain_read zero few = ap plain_number_of (decimal_digit 0 (omega arith))
plain_read (suc m) few = no_leading_zero (suc m) (omega arith) few ∙ decimal_read (suc m) (omega arith)

in_bounds : (p s : ℕ) → 1 ≤ p → p ≤ 38 → s ≤ p → decimal_type (Some p) (Some s) ≡ Some (Decimal p s)
in_bounds p s some few places = grind (arith, nat_tests)

parameters_read : (p s : ℕ) → 1 ≤ p → p ≤ 38 → s ≤ p → parameters_of (decimal p ++ 44 ∷ decimal s) ≡ Some (Decimal p s)
parameters_read p s some few places =
    let text : List ℕ = decimal p ++ 44 ∷ decimal s in
    let front = decimal p in
    ap (parameters_at text) (mark_at 44 (omega arith) front (decimal s) (decimal_is_IsNumeral_wide p (omega arith)).0.1)
    ∙ ap (λ ds. decimal_type (plain_number_of ds) (plain_number_of (drop (length front + 1) text))) (take-append_seam front (44 ∷ decimal s))
    ∙ ap (λ ds. decimal_type (plain_number_of front) (plain_number_of ds)) (drop-append-add front (44 ∷ decimal s) 1)
    ∙ ap (λ o. decimal_type o (plain_number_of (decimal s))) (plain_read p (omega arith))
    ∙ ap (decimal_type (Some p)) (plain_read s (omega arith))
    ∙ in_bounds p s some few places

last_byte : (xs : List ℕ) → get_or (xs ++ 41 ∷ []) (length xs) 0 ≡ 41
last_byte [] = refl
last_byte (x ∷ xs) = last_byte xs

is_bracketed : (n last : ℕ) → 9 ≤ n → last ≡ 41 → (nat_le 9 n && true && (last == 41)) ≡ true
is_bracketed n last long e = grind (arith, nat_tests)

-- what stands between the brackets
bracketed : (inner : List ℕ) → type_of_text (codes "decimal(" ++ (inner ++ 41 ∷ [])) ≡ parameters_of inner
bracketed inner =
    let text : List ℕ = codes "decimal(" ++ (inner ++ 41 ∷ []) in
    let long : length text ≡ length inner + 9 = omega (arith, length-append inner (41 ∷ [])) in
    let end : length text - 1 ≡ length (codes "decimal(" ++ inner) = omega arith in
    let between : length text - 1 - 8 ≡ length inner = omega arith in
    let closes : get_or text (length text - 1) 0 ≡ 41 = ap (λ i. get_or text i 0) end ∙ last_byte (codes "decimal(" ++ inner) in
    ap (λ b. cond b (parameters_of (take (length text - 1 - 8) (inner ++ 41 ∷ []))) None) (is_bracketed (length text) (get_or text (length text - 1) 0) (omega arith) closes)
    ∙ ap (λ n. parameters_of (take n (inner ++ 41 ∷ []))) between
    ∙ ap parameters_of (take-append_seam inner (41 ∷ []))

pub type_back : (kind : SqlType) → IsType kind → type_of_text (type_text kind) ≡ Some kind
type_back Boolean h = refl
type_back Bigint h = refl
type_back Varchar h = refl
type_back Date h = refl
type_back (Decimal p s) h =
    ap (λ text. type_of_text (codes "decimal(" ++ text)) (sym (append_assoc (decimal p) (44 ∷ decimal s) (41 ∷ [])))
    ∙ bracketed (decimal p ++ 44 ∷ decimal s)
    ∙ parameters_read p s h.0 h.1 h.2
