-- The first of the items with the least measure.
use Rattle.std.specs.Prelude.{◌≡◌, ℕ, ◌+◌, ◌<◌, ◌≤◌, List, [], ◌∷◌, nat_le, if◌then◌else◌, Option, Some, None, slice_get}
use Rattle.feedback_queue.specs.declared.best.Best.{Best}

-- of an item and the best of those behind it the one of the lesser measure, at a tie the first
abbrev pub better : ℕ → Option ℕ → Option Best → Option Best
better place None later = later
better place (Some n) None = Some (record { place = place; measure = n })
better place (Some n) (Some later) = if nat_le n later.measure then Some (record { place = place; measure = n }) else Some later

-- of the items from a place on, of which not each has a measure
abbrev pub best_from : {X : Type 0} → (X → Option ℕ) → ℕ → List X → Option Best
best_from measure place [] = None
best_from measure place (x ∷ xs) = better place (measure x) (best_from measure (place + 1) xs)

-- no item has a lesser measure, and none before it one that is as small
pub record IsFirstOfLeast {X : Type 0} (measure : X → Option ℕ) (xs : List X) (best : Best) : Type 0 where
  pub there : (x : X) × (slice_get xs best.place ≡ Some x) × (measure x ≡ Some best.measure)
  pub least : (i n : ℕ) (x : X) → slice_get xs i ≡ Some x → measure x ≡ Some n → best.measure ≤ n
  pub first : (i n : ℕ) (x : X) → i < best.place → slice_get xs i ≡ Some x → measure x ≡ Some n → best.measure < n
