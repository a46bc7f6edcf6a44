-- Chunks that are written one behind the other.
use Rattle.std.proofs.Common.{◌≡◌, ◌<◌, ◌+◌, ◌∷◌, ◌++◌, ℕ, List, [], Option, length, take, drop, get_or, refl, subst, sym}
use Rattle.std.proofs.lemmas.List.{take-append-drop, take_more}
use Rattle.std.specs.Global.{Vec}
use Rattle.std.specs.Io.KnownBytes.{Appends}
use Rattle.run_ports.specs.Writing.{AppendsPrefix}
use Rattle.table_parts.specs.Printing.{whole_text}
use Rattle.table_parts.proofs.PrintLemmas.{whole_of_both, whole_of_one}
use Rattle.query_runner.proofs.AppendLemmas.{both, onward, widen}

-- the text of one chunk more
one_more : (chunks : List (Vec ℕ)) (i : ℕ) (chunk : Vec ℕ) → i < length chunks → chunk ≡ get_or chunks i chunk
    → whole_text (take (i + 1) chunks) ≡ whole_text (take i chunks) ++ chunk.items
one_more chunks i chunk lt is = rw (take_more chunks i chunk lt, ← is, whole_of_both (take i chunks) (chunk ∷ []), whole_of_one chunk) refl

pub chunk_written : (a b c : Option (List ℕ)) (chunks : List (Vec ℕ)) (i : ℕ) (chunk : Vec ℕ) → i < length chunks → chunk ≡ get_or chunks i chunk
    → Appends a b (whole_text (take i chunks)) → Appends b c chunk.items → Appends a c (whole_text (take (i + 1) chunks))
chunk_written a b c chunks i chunk lt is so_far more =
    subst (λ text. Appends a c text) (sym (one_more chunks i chunk lt is)) (both a b c (whole_text (take i chunks)) chunk.items so_far more)

pub chunk_begun : (a b c : Option (List ℕ)) (chunks : List (Vec ℕ)) (i : ℕ) (chunk : Vec ℕ) → i < length chunks → chunk ≡ get_or chunks i chunk
    → Appends a b (whole_text (take i chunks)) → AppendsPrefix b c chunk.items → AppendsPrefix a c (whole_text chunks)
chunk_begun a b c chunks i chunk lt is so_far more =
    let begun = subst (λ text. AppendsPrefix a c text) (sym (one_more chunks i chunk lt is)) (onward a b c (whole_text (take i chunks)) chunk.items so_far more) in
    subst (λ all. AppendsPrefix a c (whole_text all)) (take-append-drop (i + 1) chunks)
    (subst (λ text. AppendsPrefix a c text) (sym (whole_of_both (take (i + 1) chunks) (drop (i + 1) chunks)))
    (widen a c (whole_text (take (i + 1) chunks)) (whole_text (drop (i + 1) chunks)) begun))
