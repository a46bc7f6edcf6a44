-- The line of an order as a format writes it.
use Rattle.std.proofs.Common.{◌≡◌, ℕ, ◌-◌, ◌/◌, ◌%◌, ◌^◌, List, [], ◌∷◌, ◌++◌, false, pos, ap, sym, ◌∙◌, append_assoc, append-nil, arith, length, replicate}
use Rattle.std.specs.Fmt.{char_count, decimal, format_spec, padded_integral}
use Rattle.scalar_texts.specs.Numbers.{padded}
use Rattle.scalar_texts.specs.Decimals.{decimal_text}
use Rattle.demo_documents.specs.Lines.{two_fields}

filled_up : (text : List ℕ) → padded_integral (format_spec 32 0 4 2 (2 ^ 64 - 1)) false [] text ≡ replicate (2 - length text) 48 ++ text
unfolding padded_integral char_count
filled_up text =
    let room : 2 - length text - 0 - 0 ≡ 2 - length text = omega arith in
    ap (λ k. replicate k 48 ++ (text ++ [])) room ∙ ap (λ x. replicate (2 - length text) 48 ++ x) (append-nil text)

-- a width of two, filled up with zeros
pub two_wide : (n : ℕ) → padded_integral (format_spec 32 0 4 2 (2 ^ 64 - 1)) false [] (decimal n) ≡ padded 2 n
two_wide n = filled_up (decimal n)

pub order_line : (customer units : ℕ) (hundredths : List ℕ) → hundredths ≡ padded 2 (units % 100)
    → decimal customer ++ 44 ∷ (decimal (units / 100) ++ 46 ∷ (hundredths ++ 10 ∷ [])) ≡ two_fields (decimal customer) (decimal_text 2 (pos units))
order_line customer units hundredths e =
    ap (λ x. decimal customer ++ 44 ∷ (decimal (units / 100) ++ 46 ∷ (x ++ 10 ∷ []))) e
    ∙ ap (λ x. decimal customer ++ 44 ∷ x) (sym (append_assoc (decimal (units / 100)) (46 ∷ padded 2 (units % 100)) (10 ∷ [])))
