-- Items taken in one after the other.
use Rattle.std.proofs.Common.{◌≡◌, ℕ, zero, suc, ◌+◌, List, [], ◌∷◌, drop, slice_get, Some, arith, ap, ◌∙◌}

-- the one that comes next, and those behind it
pub comes_next : {T : Type 0} (came rest : List T) (place : ℕ) (item : T) → drop place came ≡ item ∷ rest → slice_get came place ≡ Some item
comes_next [] rest zero item e = absurd (cc)
comes_next [] rest (suc place) item e = absurd (cc)
comes_next (x ∷ xs) rest zero item e = let same : x ≡ item = cc in ap Some same
comes_next (x ∷ xs) rest (suc place) item e = comes_next xs rest place item e

behind_next : {T : Type 0} (came rest : List T) (place : ℕ) (item : T) → drop place came ≡ item ∷ rest → drop (suc place) came ≡ rest
behind_next [] rest zero item e = absurd (cc)
behind_next [] rest (suc place) item e = absurd (cc)
behind_next (x ∷ xs) rest zero item e = let same : xs ≡ rest = cc in same
behind_next (x ∷ xs) rest (suc place) item e = behind_next xs rest place item e

pub come_behind : {T : Type 0} (came rest : List T) (place : ℕ) (item : T) → drop place came ≡ item ∷ rest → drop (place + 1) came ≡ rest
come_behind came rest place item e =
    let more : place + 1 ≡ suc place = omega arith in
    ap (λ n. drop n came) more ∙ behind_next came rest place item e
