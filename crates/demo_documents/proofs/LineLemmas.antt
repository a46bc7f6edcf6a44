-- One more line.
use Rattle.std.proofs.Common.{◌≡◌, ℕ, zero, suc, ◌+◌, List, ◌++◌, ap, sym, ◌∙◌, append_assoc, append-nil, arith}
use Rattle.std.specs.List.{flat_map, range_with_len}
use Rattle.demo_documents.specs.Lines.{lines}

one_behind : (line : ℕ → List ℕ) (a n last : ℕ) → last ≡ a + n → flat_map line (range_with_len a (suc n)) ≡ flat_map line (range_with_len a n) ++ line last
one_behind line a zero last e = append-nil (line a) ∙ ap line (omega (arith, e))
one_behind line a (suc n) last e =
    ap (λ x. line a ++ x) (one_behind line (a + 1) n last (omega (arith, e))) ∙ sym (append_assoc (line a) (flat_map line (range_with_len (a + 1) n)) (line last))

pub none_yet : (line : ℕ → List ℕ) (old : List ℕ) → old ≡ old ++ lines line 0
unfolding lines
none_yet line old = sym (append-nil old)

one_more : (line : ℕ → List ℕ) (n : ℕ) → lines line (n + 1) ≡ lines line n ++ line n
unfolding lines
one_more line n =
    let next : n + 1 ≡ suc n = omega arith in
    ap (λ m. flat_map line (range_with_len 0 m)) next ∙ one_behind line 0 n n (omega arith)

pub one_more_behind : (line : ℕ → List ℕ) (n : ℕ) (old now new : List ℕ) → now ≡ old ++ lines line n → new ≡ now ++ line n → new ≡ old ++ lines line (n + 1)
one_more_behind line n old now new before after =
    after ∙ ap (λ x. x ++ line n) before ∙ append_assoc old (lines line n) (line n) ∙ ap (λ x. old ++ x) (sym (one_more line n))

pub ruleset appending = (none_yet, one_more_behind)
