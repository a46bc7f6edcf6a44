-- Positions that are those of all rows.
use Rattle.std.proofs.Common.{◌≡◌, ℕ, ◌+◌, ◌<◌, zero, suc, List, [], ◌∷◌, ◌++◌, length, get_or, take, ap, sym, ◌∙◌, arith}
use Rattle.std.specs.List.{range_with_len}
use Rattle.std.proofs.lemmas.List.{take_more}

ranged : (n m : ℕ) → range_with_len n (suc m) ≡ range_with_len n m ++ (n + m) ∷ []
ranged n zero = ap (λ k. k ∷ []) (omega arith)
ranged n (suc m) = ap (λ ks. n ∷ ks) (ranged (n + 1) m ∙ ap (λ k. range_with_len (n + 1) m ++ k ∷ []) (omega arith))

-- one position more is its own place
pub all_more : (xs : List ℕ) (i : ℕ) → i < length xs → take i xs ≡ range_with_len 0 i → get_or xs i 0 ≡ i → take (i + 1) xs ≡ range_with_len 0 (i + 1)
all_more xs i lt before here =
    let count : suc i ≡ i + 1 = omega arith in
    let own : i ≡ 0 + i = omega arith in
    take_more xs i 0 lt ∙ ap (λ ks. ks ++ get_or xs i 0 ∷ []) before ∙ ap (λ k. range_with_len 0 i ++ k ∷ []) (here ∙ own) ∙ sym (ranged 0 i) ∙ ap (range_with_len 0) count
