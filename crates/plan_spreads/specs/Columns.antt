-- Where an operator gives on the columns by which rows sit.
use Rattle.std.specs.Prelude.{ℕ, List, [], ◌∷◌, Bool, true, false, ◌&&◌, ◌==◌, Option, Some, None}
use Rattle.std.specs.List.{list_any, position_from}
use Rattle.sql_exprs.specs.Forms.{Form, column}
use Rattle.plan_trees.specs.declared.tree.Pair.{Pair}

-- the expression is the plain column
abbrev pub is_column : ℕ → Form → Bool
is_column c (column n) = n == c
is_column c form = false

abbrev pub is_key : ℕ → ℕ → Bool
is_key c key = key == c

abbrev pub add_place : Option ℕ → Option (List ℕ) → Option (List ℕ)
add_place (Some place) (Some places) = Some (place ∷ places)
add_place place places = None

-- the first of the items at which each column stands, where each stands at one
abbrev pub first_places : {A : Type 0} → (ℕ → A → Bool) → List A → List ℕ → Option (List ℕ)
first_places stands items [] = Some []
first_places stands items (c ∷ cs) = add_place (position_from (stands c) 0 items) (first_places stands items cs)

abbrev pub is_pair : ℕ → ℕ → Pair → Bool
is_pair c d pair = (pair.left == c) && (pair.right == d)

-- both are equally long, and the columns at each place are a pair
abbrev pub are_paired : List Pair → List ℕ → List ℕ → Bool
are_paired on [] [] = true
are_paired on (c ∷ cs) (d ∷ ds) = list_any (is_pair c d) on && are_paired on cs ds
are_paired on cs ds = false
