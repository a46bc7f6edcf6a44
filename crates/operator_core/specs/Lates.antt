-- What is known of an operator that gives late, when it was just made.
use Rattle.std.specs.Prelude.{◌≡◌, ◌↔◌, ℕ, List, true, false}
use Rattle.sql_values.specs.declared.fail.Fail.{Fail}
use Rattle.sql_values.specs.declared.types.SqlType.{SqlType}
use Rattle.col_pages.specs.Fits.{IsOfTypes}
use Rattle.col_pages.specs.Pages.{TypedPage}
use Rattle.operator_core.specs.declared.operator.Operator.{Ghosts}
use Rattle.operator_core.specs.Rows.{Row}
use Rattle.operator_core.specs.Calls.{IsFresh}

-- it has no note, is never full, takes rows of some types and gives pages of at most so many rows; `Gives` says what it gives for
-- the rows that come, `Fails` on what it fails
pub record IsLate {S : Type 0} (g : Ghosts S) (s : S) (Gives : List Row → List Row → Type 0) (Fails : List Row → ℕ → Fail → Type 0)
    (types : List SqlType) (most : ℕ) : Type 0 where
  pub fresh : IsFresh g s
  pub gives : (X B : List Row) → g.may_give s X B ↔ Gives X B
  pub fails : (X : List Row) (node : ℕ) (kind : Fail) → g.may_still_fail s X node kind ↔ Fails X node kind
  pub takes : (page : TypedPage) → g.takes s page ↔ IsOfTypes types page
  pub unfull : g.is_full s ≡ false
  pub size : g.page_size s ≡ most
  pub late : g.gives_late s ≡ true
  pub waits : g.waits s ≡ false
  pub knows : g.knows s ≡ true
  pub learns : (m : S) → g.may_learn s m → ⊥

-- no row and no group fails
abbrev pub NoFailure : List Row → ℕ → Fail → Type 0
NoFailure X node kind = ⊥
