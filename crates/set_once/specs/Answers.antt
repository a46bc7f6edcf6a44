-- What a set answers, and what its note knows then.
use Rattle.std.specs.Prelude.{◌≡◌, ℕ, None, Some, Result, Ok, Err, IfSome}
use Rattle.count_laws.specs.Counts.{next_count}
use Rattle.set_once.specs.Notes.{NoteState}
use Rattle.set_once.specs.declared.fault.SetFault.{SetFault}
use Rattle.set_once.specs.declared.fault.SetFault.TheVariants.{Refused, Memory}

-- the note comes to know this value: it knew it before, or nothing
abbrev pub MayLearn : {T : Type 0} → NoteState T → T → Type 0
MayLearn note x = IfSome note.known (λ y. y ≡ x)

-- the cell took the value; it refused, which was counted, and the note knows the value that it has and keeps the
-- count that it was handed; or memory was wanting, and the note is as it was
abbrev pub IsSet : {T : Type 0} → NoteState T → NoteState T → T → ℕ → Result (Unit {0}) (SetFault T)
    → Type 0
IsSet old new value seen (Ok done) = (old.known ≡ None) × (new ≡ record old { known = Some value })
IsSet {T} old new value seen (Err (Refused back)) = (back ≡ value) × ((x : T) × MayLearn old x
    × (new ≡ record old { known = Some x; refused = next_count old.refused; looked_at = seen }))
IsSet old new value seen (Err (Memory back)) = (back ≡ value) × (new ≡ old)
