-- Filters in the order of their ids.
use Rattle.std.proofs.Common.{◌≡◌, ℕ, ◌<◌, zero, suc, List, [], ◌∷◌, length, get_or, map, take, refl, ap, sym, ◌∙◌, subst, arith}
use Rattle.std.specs.Prelude.{AllPairs, cond}
use Rattle.std.specs.List.Sorted.{IsStrictlyIncreasing}
use Rattle.std.proofs.lemmas.Bool.{le-leb, lt-leb}
use Rattle.std.proofs.lemmas.List.Kept.{AllPairs-from_increasing}
use Rattle.net_laws.specs.ScanFilters.{ScanFilter, up_to_id}

abbrev ids : List ScanFilter → List ℕ
ids filters = map (λ f. f.id) filters

id_at : (filters : List ScanFilter) (place : ℕ) (f : ScanFilter) → place < length filters → f ≡ get_or filters place f → get_or (ids filters) place 0 ≡ f.id
id_at [] place f lt is = absurd (omega (arith, lt))
id_at (first ∷ filters) zero f lt is = ap (λ (h : ScanFilter). h.id) (sym is)
id_at (first ∷ filters) (suc place) f lt is = id_at filters place f (omega (arith, lt)) is

none_up_to : (id : ℕ) (filters : List ScanFilter) → ((j : ℕ) → j < length filters → id < get_or (ids filters) j 0) → up_to_id id filters ≡ []
none_up_to id [] above = refl
none_up_to id (f ∷ filters) above =
    ap (λ b. cond b (f ∷ up_to_id id filters) (up_to_id id filters)) (lt-leb f.id id (above 0 (omega arith)))
    ∙ none_up_to id filters (λ j lt. above (suc j) (omega (arith, lt)))

length-ids : (filters : List ScanFilter) → length (ids filters) ≡ length filters
length-ids [] = refl
length-ids (f ∷ filters) = ap suc (length-ids filters)

in_turn : (filters : List ScanFilter) → AllPairs (λ x y. x < y) (ids filters) → (place : ℕ) (f : ScanFilter) → place < length filters → f ≡ get_or filters place f
    → up_to_id f.id filters ≡ take (suc place) filters
in_turn [] pairs place f lt is = absurd (omega (arith, lt))
in_turn (first ∷ filters) pairs zero f lt is =
    subst (λ (h : ScanFilter). up_to_id h.id (first ∷ filters) ≡ first ∷ []) (sym is)
    (ap (λ b. cond b (first ∷ up_to_id first.id filters) (up_to_id first.id filters)) (le-leb first.id first.id (omega arith))
    ∙ ap (λ (rest : List ScanFilter). first ∷ rest)
    (none_up_to first.id filters (λ j less. pairs 0 (suc j) 0 (omega arith) (omega (arith, less, length-ids filters)))))
in_turn (first ∷ filters) pairs (suc place) f lt is =
    let before : first.id < get_or (ids filters) place 0 = pairs 0 (suc place) 0 (omega arith) (omega (arith, lt, length-ids filters)) in
    let same = id_at filters place f (omega (arith, lt)) is in
    ap (λ b. cond b (first ∷ up_to_id f.id filters) (up_to_id f.id filters)) (le-leb first.id f.id (omega (arith, before, same)))
    ∙ ap (λ (rest : List ScanFilter). first ∷ rest)
    (in_turn filters (λ i j d less below. pairs (suc i) (suc j) d (omega (arith, less)) (omega (arith, below))) place f (omega (arith, lt)) is)

pub first_by_id : (filters : List ScanFilter) → IsStrictlyIncreasing (ids filters) → (place : ℕ) (f : ScanFilter) → place < length filters → f ≡ get_or filters place f
    → up_to_id f.id filters ≡ take (suc place) filters
first_by_id filters increase place f lt is = in_turn filters (AllPairs-from_increasing (ids filters) increase) place f lt is
