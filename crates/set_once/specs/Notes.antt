-- What a note knows of its cell.
use Rattle.std.specs.Prelude.{◌≡◌, ℕ, Option, None, IfSome}

-- the cell's name; its value, once the note has seen it; how often, with this note, a set was refused
-- and a look found nothing; and the count that its last refused set or empty look was handed
pub record NoteState (T : Type 0) : Type 0 where
  pub cell : ℕ
  pub known : Option T
  pub refused : ℕ
  pub empties : ℕ
  pub looked_at : ℕ

-- a note of this cell that knows nothing yet
abbrev pub new_note : {T : Type 0} → ℕ → NoteState T
new_note name = record { cell = name; known = None; refused = 0; empties = 0; looked_at = 0 }

-- two notes that both know a value know the same one
abbrev pub Agree : {T : Type 0} → NoteState T → NoteState T → Type 0
Agree one other = IfSome one.known (λ x. IfSome other.known (λ y. x ≡ y))
