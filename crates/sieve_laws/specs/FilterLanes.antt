-- Operators that drop rows by the domains of dynamic filters, in front of the stages of a scan's pipeline.
use Rattle.std.specs.Prelude.{◌≡◌, ℕ, ◌<◌, List, [], ◌∷◌, ◌++◌, Bool, false, Option, Some, None, Contains, length}
use Rattle.sql_values.specs.declared.fail.Fail.{Fail}
use Rattle.sql_values.specs.declared.types.SqlType.{SqlType}
use Rattle.col_pages.specs.Fits.{AllFit}
use Rattle.operator_core.specs.declared.operator.Operator.{Ghosts}
use Rattle.operator_core.specs.Rows.{Row}
use Rattle.operator_core.specs.Stages.{Linked, ToldInTurn, last_finished}
use Rattle.plan_run_laws.specs.Nets.{Lanes}
use Rattle.plan_run_laws.specs.Stops.{Flags, MayCome}
use Rattle.dyn_filter.specs.declared.domain.Domain.{Domain}
use Rattle.dyn_filter.specs.Filters.{AreKept}
use Rattle.dyn_filter.specs.Rows.{row_passes}
use Rattle.lost_row_laws.specs.Domains.{sieve_of}
use Rattle.lost_row_laws.specs.Sieves.{Sieve}

-- what a filter in front of a driver's stages tests: a column, by the domain that its note knows, if any
pub record FilterNoted : Type 0 where
  pub column : ℕ
  pub known : Option Domain

-- The operator drops rows by their value in the column. Where its note knows the domain, what it gives are the rows that
-- come, but for some that do not pass; where it knows none, it gave what came, but for rows that it holds until it is
-- finished. It never fails.
pub record Drops {S : Type 0} (g : Ghosts S) (f : FilterNoted) (s : S) : Type 0 where
  pub unknown : f.known ≡ None → g.knows s ≡ false
  pub drops : (domain : Domain) → f.known ≡ Some domain → (X Y : List Row) → g.may_give (g.as_made s) X Y → AreKept (row_passes domain f.column) Y X
  pub holds : f.known ≡ None → (X Y : List Row) → g.went s X Y → (held : List Row) × (Y ++ held ≡ X) × MayCome (g.is_finished s) held
  pub calm : (X : List Row) (node : ℕ) (kind : Fail) → g.may_still_fail (g.as_made s) X node kind → ⊥

-- one operator for each filter
abbrev pub AllDrop : {S : Type 0} → Ghosts S → List FilterNoted → List S → Type 0
AllDrop g [] [] = Unit {0}
AllDrop g (f ∷ filters) (s ∷ stages) = Drops g f s × AllDrop g filters stages
AllDrop g filters stages = ⊥

-- where the filter knows a domain, its sieve is one of these, and stands at a column of the rows
abbrev pub IsAmong : List Sieve → List SqlType → FilterNoted → Type 0
IsAmong sieves types f =
    (domain : Domain) → f.known ≡ Some domain → Contains sieves (sieve_of (record { column = f.column; domain = domain })) × (f.column < length types)

abbrev pub AreAmong : List Sieve → List SqlType → List FilterNoted → Type 0
AreAmong sieves types [] = Unit {0}
AreAmong sieves types (f ∷ filters) = IsAmong sieves types f × AreAmong sieves types filters

-- The first operators of a driver are filters: the rows `came` came from its source, which has ended where `over` is set.
-- They let through the rows `took`, and give no more where `ended` is set.
pub record IsFiltered {S : Type 0} (g : Ghosts S) (sieves : List Sieve) (types : List SqlType) (stages : List S) (came took : List Row) (over ended : Bool) : Type 0 where
  pub filters : List FilterNoted
  pub drop : AllDrop g filters stages
  pub among : AreAmong sieves types filters
  pub turns : ToldInTurn g over stages
  pub linked : Linked g stages came took
  pub fit : AllFit types came
  pub ended_is : last_finished g over stages ≡ ended

-- so it is of each driver of each task
abbrev pub AreFiltered : {S : Type 0} → Ghosts S → List Sieve → List SqlType → ℕ → ℕ → (ℕ → ℕ → List S) → Lanes → Lanes → Flags → Flags → Type 0
AreFiltered g sieves types n w stages came took over ended =
    (k d : ℕ) → k < n → d < w → IsFiltered g sieves types (stages k d) (came k d) (took k d) (over k d) (ended k d)
