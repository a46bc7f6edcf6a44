-- Counts by ascending id.
use Rattle.std.proofs.Common.{◌≡◌, ◌⊎◌, inl, inr, ℕ, ◌+◌, ◌-◌, ◌<◌, ◌≤◌, List, get_or, arith, ap, subst, sym}
use Rattle.std.specs.Prelude.{slice_index}
use Rattle.std.proofs.Math.ListN.{get_or-map}
use Rattle.std.proofs.Math.Nat.{eq-or-lt_of_le}
use Rattle.net_closing.specs.Counts.{filters_in}
use Rattle.net_closing.specs.declared.counts.FilterPassed.{FilterPassed}

abbrev none : FilterPassed
none = record { filter = 0; rows = 0 }

id_at : (counts : List FilterPassed) (k : ℕ) → slice_index (filters_in counts) k ≡ (get_or counts k none).filter
id_at counts k = get_or-map (λ (count : FilterPassed). count.filter) counts k none

abbrev Rises : List FilterPassed → ℕ → Type 0
Rises counts place = (k : ℕ) → k + 1 < place → slice_index (filters_in counts) k < slice_index (filters_in counts) (k + 1)

-- one more id is above the one before it
pub rises_more : (counts : List FilterPassed) (place : ℕ) → Rises counts place → (get_or counts (place - 1) none).filter < (get_or counts place none).filter
    → Rises counts (place + 1)
rises_more counts place before above k lt = by (eq-or-lt_of_le (omega (arith, lt)))
  where
    by : (k + 1 ≡ place) ⊎ (k + 1 < place) → slice_index (filters_in counts) k < slice_index (filters_in counts) (k + 1)
    by (inr less) = before k less
    by (inl same) =
        let here : (get_or counts k none).filter < (get_or counts (k + 1) none).filter =
        subst (λ (p : ℕ). (get_or counts (p - 1) none).filter < (get_or counts p none).filter → (get_or counts k none).filter < (get_or counts (k + 1) none).filter) same
        (λ less. subst (λ (q : ℕ). (get_or counts q none).filter < (get_or counts (k + 1) none).filter) (omega arith) less) above in
        omega (arith, here, id_at counts k, id_at counts (k + 1))
