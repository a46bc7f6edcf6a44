-- Where a text may be cut into parts that are read by themselves.
use Rattle.std.specs.Prelude.{ℕ, List, [], ◌∷◌, ◌≡◌}
use Rattle.csv.specs.Machine.{step}
use Rattle.csv.specs.Reading.{default_config, strip_bom}
use Rattle.csv.specs.declared.parser.State.{State}
use Rattle.csv.specs.declared.parser.State.TheVariants as st

abbrev pub quote : ℕ
quote = 34

-- the state in which bytes leave the machine of `csv`
abbrev pub state_after : State → List ℕ → State
state_after s [] = s
state_after s (c ∷ rest) = state_after (step default_config s c).0 rest

-- behind the first bytes of a text a record begins, and no byte order mark
pub record IsCut (before rest : List ℕ) : Type 0 where
  pub fresh : state_after st.StartRecord (strip_bom before) ≡ st.StartRecord
  pub unmarked : strip_bom rest ≡ rest
