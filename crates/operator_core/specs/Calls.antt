-- What a call of an operator leaves, as the trait's clauses say it of a call that did not want memory.
use Rattle.std.specs.Prelude.{◌≡◌, ◌↔◌, ℕ, ◌+◌, List, [], ◌++◌, length, true, false}
use Rattle.sql_values.specs.declared.fail.Fail.{Fail}
use Rattle.col_pages.specs.Pages.{TypedPage}
use Rattle.operator_core.specs.declared.operator.Operator.{Ghosts}
use Rattle.operator_core.specs.Rows.{Row, Coming}
use Rattle.operator_core.specs.LawGroups.{FullLaws, NoteLaws}

-- the laws of the trait that speak of what is still to come
pub record IsLawful {S : Type 0} (g : Ghosts S) : Type 0 where
  pub some_rows : (s : S) (Z : List Row) → Coming (g.is_told s) Z → (B : List Row) × g.may_give s Z B
  pub holds_rest : (s : S) (B : List Row) → (g.gives_late s ≡ true → g.is_told s ≡ true) → g.may_give s [] B
      → (g.holds_row s ≡ false) ↔ (B ≡ [])
  pub finished : (s : S) → (g.is_finished s ≡ true) ↔ ((g.is_told s ≡ true) × (g.holds_row s ≡ false)
      × ((node : ℕ) (kind : Fail) → g.may_still_fail s [] node kind → ⊥))
  pub full : FullLaws g.may_give g.may_still_fail g.is_full g.needs_input
  pub made_untold : (s : S) → g.is_told (g.as_made s) ≡ false
  pub note : NoteLaws g.may_give g.needs_input g.is_told g.is_finished g.waits g.knows g.went g.counted g.as_made g.may_learn

-- what stays at each call
pub record IsKept {S : Type 0} (g : Ghosts S) (old new : S) : Type 0 where
  pub over : g.is_finished old ≡ true → g.is_finished new ≡ true
  pub full : g.is_full old ≡ true → g.is_full new ≡ true
  pub size : g.page_size new ≡ g.page_size old
  pub late : g.gives_late new ≡ g.gives_late old
  pub waits : g.waits new ≡ g.waits old

-- what stays beside that at each call but `blocked`
pub record Stays {S : Type 0} (g : Ghosts S) (old new : S) : Type 0 where
  pub as_made : g.as_made new ≡ g.as_made old
  pub knows : g.knows new ≡ g.knows old
  pub looks : g.empty_looks new ≡ g.empty_looks old
  pub looked_at : g.looked_at new ≡ g.looked_at old
  pub bell : g.bell new ≡ g.bell old
  pub kept : IsKept g old new

-- a page was taken in
pub record Took {S : Type 0} (g : Ghosts S) (old new : S) (page : TypedPage) : Type 0 where
  pub gives : (Z B : List Row) → g.may_give new Z B → g.may_give old (page.rows ++ Z) B
  pub fails : (Z : List Row) (node : ℕ) (kind : Fail)
      → g.may_still_fail new Z node kind ↔ g.may_still_fail old (page.rows ++ Z) node kind
  pub went : g.knows old ≡ false → (T G : List Row) → g.went old T G → g.went new (T ++ page.rows) G
  pub counted : (n : ℕ) → g.counted old n → g.counted new n
  pub same : Stays g old new
  pub takes : (p : TypedPage) → p.types ≡ page.types → g.takes old p → g.takes new p
  pub untold : g.is_told old ≡ false
  pub told : g.is_told new ≡ g.is_told old

-- a page of these rows was given, or none
pub record Gave {S : Type 0} (g : Ghosts S) (old new : S) (P : List Row) : Type 0 where
  pub gives : (Z B : List Row) → Coming (g.is_told old) Z → g.may_give new Z B → g.may_give old Z (P ++ B)
  pub fails : (Z : List Row) (node : ℕ) (kind : Fail) → Coming (g.is_told old) Z → g.may_still_fail new Z node kind ↔ g.may_still_fail old Z node kind
  pub went : g.knows old ≡ false → (T G : List Row) → g.went old T G → g.went new T (G ++ P)
  pub counted : (n : ℕ) → g.counted old n → g.counted new (n + length P)
  pub same : Stays g old new
  pub takes : (page : TypedPage) → g.takes old page → g.takes new page
  pub told : g.is_told new ≡ g.is_told old

-- it was told to finish
pub record WasTold {S : Type 0} (g : Ghosts S) (old new : S) : Type 0 where
  pub gives : (B : List Row) → g.may_give new [] B → g.may_give old [] B
  pub fails : (node : ℕ) (kind : Fail) → g.may_still_fail new [] node kind ↔ g.may_still_fail old [] node kind
  pub went : g.knows old ≡ false → (T G : List Row) → g.went old T G → g.went new T G
  pub counted : (n : ℕ) → g.counted old n → g.counted new n
  pub same : Stays g old new
  pub takes : (page : TypedPage) → g.takes old page → g.takes new page
  pub told : g.is_told new ≡ true

-- it looked at its note
pub record Looked {S : Type 0} (g : Ghosts S) (old new : S) : Type 0 where
  pub gives : (Z B : List Row) → Coming (g.is_told old) Z → g.may_give new Z B → g.may_give old Z B
  pub fails : (Z : List Row) (node : ℕ) (kind : Fail) → Coming (g.is_told old) Z → g.may_still_fail new Z node kind ↔ g.may_still_fail old Z node kind
  pub known : g.knows old ≡ true → g.knows new ≡ true
  pub same : g.knows new ≡ g.knows old → g.as_made new ≡ g.as_made old
  pub went : g.knows new ≡ false → (T G : List Row) → g.went old T G → g.went new T G
  pub counted : (n : ℕ) → g.counted old n → g.counted new n
  pub learns : g.knows old ≡ false → g.knows new ≡ true → g.may_learn old (g.as_made new)
  pub learns_gives : g.knows old ≡ false → g.knows new ≡ true → (T G : List Row) → g.went old T G
      → (Z B : List Row) → Coming (g.is_told old) Z → g.may_give new Z B → g.may_give (g.as_made new) (T ++ Z) (G ++ B)
  pub learns_fails : g.knows old ≡ false → g.knows new ≡ true → (T G : List Row) → g.went old T G
      → (Z : List Row) (node : ℕ) (kind : Fail) → Coming (g.is_told old) Z
      → g.may_still_fail new Z node kind ↔ g.may_still_fail (g.as_made new) (T ++ Z) node kind
  pub told : g.is_told new ≡ g.is_told old
  pub kept : IsKept g old new
  pub takes : (page : TypedPage) → g.takes old page → g.takes new page

-- a failure of this kind comes, whatever rows follow
abbrev pub FailsNow : {S : Type 0} → Ghosts S → S → ℕ → Fail → Type 0
FailsNow g s node kind = (Z : List Row) → Coming (g.is_told s) Z → g.may_still_fail s Z node kind

-- an operator that was just made: nothing was taken, given, counted or looked for, and it was not told to finish
pub record IsFresh {S : Type 0} (g : Ghosts S) (s : S) : Type 0 where
  pub made : g.as_made s ≡ s
  pub untold : g.is_told s ≡ false
  pub unfinished : g.is_finished s ≡ false
  pub unlooked : g.empty_looks s ≡ 0
  pub went : g.went s [] []
  pub counted : g.counted s 0
