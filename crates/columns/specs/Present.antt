-- Items with marks beside them: an item that is marked is missing.
use Rattle.std.specs.Prelude.{ℕ, Bool, List, [], ◌∷◌, Option, Some, None, map, slice_index_or, if◌then◌else◌}

-- the value that an item and its mark stand for
abbrev pub unless : {A : Type 0} → Bool → A → Option A
unless missing item = if missing then None else Some item

abbrev pub present : {A : Type 0} → List A → List Bool → List (Option A)
present (x ∷ xs) (b ∷ bs) = unless b x ∷ present xs bs
present _ _ = []

-- the elements at the places, in the places' order, and the default past the end
abbrev pub gather : {A : Type 0} → List A → A → List ℕ → List A
gather xs default places = map (λ p. slice_index_or xs p default) places
