-- Writes in a row.
use Rattle.std.proofs.Common.{ℕ, ◌+◌, ◌-◌, List, ◌++◌, length, Option, Some, None, take, drop, sym, ◌∙◌, ap, append_assoc}
use Rattle.std.proofs.lemmas.List.{take_rest}
use Rattle.std.specs.Io.KnownBytes.{Appends}
use lib.Seq.{take-add}

-- the first i bytes and then the first n of the rest are the first i + n
pub appends_more : (a b c : Option (List ℕ)) (bytes : List ℕ) (i n : ℕ) → Appends a b (take i bytes) → Appends b c (take n (take (length bytes - i) (drop i bytes))) → Appends a c (take (i + n) bytes)
appends_more None b c bytes i n p q = tt
appends_more (Some x) None c bytes i n p q = absurd p
appends_more (Some x) (Some y) None bytes i n p q = absurd q
appends_more (Some x) (Some y) (Some z) bytes i n p q =
    q ∙ ap (λ l. y ++ take n l) (take_rest bytes i) ∙ ap (λ l. l ++ take n (drop i bytes)) p
    ∙ append_assoc x (take i bytes) (take n (drop i bytes)) ∙ ap (λ l. x ++ l) (sym (take-add i n bytes))
