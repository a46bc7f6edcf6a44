-- A mark that is no digit, behind some digits: where it is found.
use Rattle.std.proofs.Common.{◌≡◌, ℕ, ◌+◌, ◌<◌, ◌≤◌, List, [], ◌∷◌, ◌++◌, length, length-append, append-nil, Some, None, true, false, cond, not, ◌==◌, nat_lt, ap, ◌∙◌, arith}
use Rattle.std.specs.List.{position, position_or_len}
use Rattle.std.specs.Str.Parse.{AllDigits}
use Rattle.std.proofs.lemmas.Str.Parse.{digit_from_value}
use Rattle.std.proofs.lemmas.Bool.Decides.{nat_tests}

passes_digit : (mark c : ℕ) → mark < 48 → 48 ≤ c → not (c == mark) ≡ true
passes_digit mark c low h = grind (arith, nat_tests)

mark_after : (mark : ℕ) → mark < 48 → (ds rest : List ℕ) → AllDigits 10 ds → position_or_len (λ b. b == mark) (ds ++ rest) ≡ length ds + position_or_len (λ b. b == mark) rest
mark_after mark low [] rest d = omega arith
mark_after mark low (c ∷ cs) rest d =
    let range = digit_from_value c d.0 in
    ap (λ b. cond b (1 + position_or_len (λ x. x == mark) (cs ++ rest)) 0) (passes_digit mark c low (omega arith)) ∙ omega (arith, mark_after mark low cs rest d.1)

found_none : (n l : ℕ) → l ≤ n → cond (nat_lt n l) (Some n) None ≡ None
found_none n l h = grind (arith, nat_tests)

found_some : (n l : ℕ) → n < l → cond (nat_lt n l) (Some n) None ≡ Some n
found_some n l h = grind (arith, nat_tests)

same_mark : (mark : ℕ) → not (mark == mark) ≡ false
same_mark mark = grind (arith, nat_tests)

at_itself : (mark : ℕ) (rest : List ℕ) → position_or_len (λ b. b == mark) (mark ∷ rest) ≡ 0
at_itself mark rest = ap (λ b. cond b (1 + position_or_len (λ x. x == mark) rest) 0) (same_mark mark)

pub no_mark : (mark : ℕ) → mark < 48 → (ds : List ℕ) → AllDigits 10 ds → position (λ b. b == mark) ds ≡ None
no_mark mark low ds d = found_none _ _ (omega (arith, ap (position_or_len (λ x. x == mark)) (append-nil ds), mark_after mark low ds [] d))

pub mark_at : (mark : ℕ) → mark < 48 → (ds rest : List ℕ) → AllDigits 10 ds → position (λ b. b == mark) (ds ++ mark ∷ rest) ≡ Some (length ds)
mark_at mark low ds rest d =
    let at : position_or_len (λ x. x == mark) (ds ++ mark ∷ rest) ≡ length ds = omega (arith, mark_after mark low ds (mark ∷ rest) d, at_itself mark rest) in
    found_some _ _ (omega (arith, length-append ds (mark ∷ rest))) ∙ ap Some at
