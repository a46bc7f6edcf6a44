-- Where a list does not fit: at the first of its entries that does not.
use Rattle.std.specs.Prelude.{◌≡◌, ℕ, Option, Some, None, Result, Err}
use Rattle.json_paths.specs.declared.key.Key.{Key}
use Rattle.sql_exprs.specs.declared.typing.Misfit.{Misfit}
use Rattle.sql_exprs.specs.declared.typing.Misfit.TheVariants as misfit
use Rattle.sql_exprs.specs.Typing.{Path, entry, under}

-- the entry at an index of the list under a key
abbrev pub entry_fault : Path → Key → Option ℕ → Option Path
entry_fault path k None = None
entry_fault path k (Some i) = Some (entry (under path k) i)

-- the fault, if there is one, comes first
abbrev pub or_fault : {A : Type 0} → Option Path → Result A Path → Result A Path
or_fault None r = r
or_fault (Some path) r = Err path

-- the fault names the path, or memory was wanting
abbrev pub StandsIn : Option Path → Misfit → Type 0
StandsIn fault (misfit.At steps) = fault ≡ Some steps.items
StandsIn fault misfit.Memory = Unit {0}
