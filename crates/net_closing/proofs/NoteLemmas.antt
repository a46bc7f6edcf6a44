-- Notes that are compared one by one.
use Rattle.std.proofs.Common.{◌≡◌, ◌<◌, ◌+◌, ℕ, zero, suc, List, [], ◌∷◌, length, get_or, take, ap, subst, ◌∙◌, arith}
use Rattle.std.specs.Prelude.{All, slice_set}
use Rattle.std.proofs.lemmas.List.{set-get_or}
use Rattle.std.proofs.lemmas.List.Elements.{All-cons, All-head, All-nil, All-tail}

-- a note that stays in its place
pub same_at : {X : Type 0} (notes : List X) (k : ℕ) (old new : X) → new ≡ old → old ≡ get_or notes k old → slice_set notes k new ≡ notes
same_at notes k old new same at = ap (slice_set notes k) (same ∙ at) ∙ set-get_or notes k old

-- one more was compared
one_more : {X : Type 0} (P : X → Type 0) (notes : List X) (k : ℕ) (n : X) → k < length notes → n ≡ get_or notes k n → All P (take k notes) → P n → All P (take (suc k) notes)
one_more P [] k n lt at front own = absurd (omega (arith, lt))
one_more P (b ∷ notes) zero n lt at front own = All-cons P b [] (subst P at own) (All-nil P)
one_more P (b ∷ notes) (suc k) n lt at front own =
    All-cons P b (take (suc k) notes) (All-head P b (take k notes) front) (one_more P notes k n (omega (arith, lt)) at (All-tail P b (take k notes) front) own)

pub next_more : {X : Type 0} (P : X → Type 0) (notes : List X) (k : ℕ) (n : X) → k < length notes → n ≡ get_or notes k n → All P (take k notes) → P n → All P (take (k + 1) notes)
next_more P notes k n lt at front own =
    let one : suc k ≡ k + 1 = omega arith in
    subst (λ (m : ℕ). All P (take m notes)) one (one_more P notes k n lt at front own)

pub compared : {X : Type 0} (R : X → X → Type 0) (look own : X) (builds now : List X) (k : ℕ) (n : X) → own ≡ look → now ≡ builds → k < length builds → n ≡ get_or now k n → All (R look) (take k builds)
    → R own n → All (R look) (take (k + 1) builds)
compared R look own builds now k n same are lt at front follows =
    next_more (R look) builds k n lt (at ∙ ap (λ (ns : List _). get_or ns k n) are) front (subst (λ (l : _). R l n) same follows)

pub all_compared : {X : Type 0} (R : X → X → Type 0) (looks own builds now : List X) (k : ℕ) (n : X) → own ≡ looks → now ≡ builds → k < length looks → n ≡ get_or own k n
    → All (λ (look : X). All (R look) builds) (take k looks) → All (R n) now → All (λ (look : X). All (R look) builds) (take (k + 1) looks)
all_compared R looks own builds now k n same are lt at front follows =
    next_more (λ (look : _). All (R look) builds) looks k n lt (at ∙ ap (λ (ns : List _). get_or ns k n) same) front (subst (All (R n)) are follows)

-- what holds of one of the first and one of the second holds of all of them
pub all_pairs : {X : Type 0} (P : X → Type 0) (R : X → X → Type 0) (looks builds : List X) → ((look build : X) → P look → P build → R look build) → All P looks → All P builds
    → All (λ (look : X). All (R look) builds) looks
all_pairs P R looks builds each own others = λ k d lt j e less. each (get_or looks k d) (get_or builds j e) (own k d lt) (others j e less)
