-- A sieve that came down stands at a column of the rows there.
use Rattle.std.proofs.Common.{◌≡◌, ◌⊎◌, inl, inr, ℕ, ◌<◌, zero, suc, List, [], ◌∷◌, Bool, true, false, Option, Some, None, Contains, length, refl, subst}
use Rattle.std.specs.Prelude.{Ok, slice_get, if◌then◌else◌}
use Rattle.std.specs.Option.{ok_or}
use Rattle.std.proofs.lemmas.Option.{slice_get_within}
use Rattle.std.proofs.lemmas.List.Elements.{Contains-append_right}
use Rattle.sql_values.specs.declared.types.SqlType.{SqlType}
use Rattle.sql_values.specs.declared.relational.JoinKind.{JoinKind}
use Rattle.sql_exprs.specs.Calm.{is_calm}
use Rattle.sql_exprs.specs.Forms.{Form, column}
use Rattle.sql_exprs.specs.Typing.{Path}
use Rattle.page_processor.specs.Typed.{AllTyped, IsTyped}
use Rattle.plan_trees.specs.Steps.{StepForm, filter, project, types_after}
use Rattle.column_origins.specs.Origins.{left_column, passed_by, passed_column}
use Rattle.lost_row_laws.specs.Sieves.{Sieve, over_input, sieve_at, under}
use Rattle.lost_row_laws.specs.Runs.{IsTypedStep}
use Rattle.lost_row_laws.proofs.ArrivalLemmas.{first_or_later, front, nothing}
use Rattle.lost_row_laws.proofs.SieveLemmas.{left_place, passed}

-- they stand at columns below a number
abbrev pub StandBelow : ℕ → List Sieve → Type 0
StandBelow width sieves = (s : Sieve) → Contains sieves s → s.column < width

pub none_below : (width : ℕ) → StandBelow width []
none_below width s h = absurd (nothing s h)

module _ (comes : ℕ → Option ℕ) (width : ℕ) where
  one_below : (t : Sieve) (rest : List Sieve) (place : Option ℕ) → ((c : ℕ) → place ≡ Some c → c < width) → StandBelow width rest → StandBelow width (sieve_at place t rest)
  one_below t rest None within below = below
  one_below t rest (Some c) within below = λ s h. of s below (first_or_later (record { column = c; pass = t.pass }) s rest h)
    where
      of : (s : Sieve) → StandBelow width rest → (record { column = c; pass = t.pass } ≡ s) ⊎ Contains rest s → s.column < width
      of s below (inl same) = subst (λ (u : Sieve). u.column < width) same (within c refl)
      of s below (inr later) = below s later

  pub over_below : (sieves : List Sieve) → ((s : Sieve) → Contains sieves s → (c : ℕ) → comes s.column ≡ Some c → c < width) → StandBelow width (over_input comes sieves)
  over_below [] within = none_below width
  over_below (t ∷ sieves) within =
      one_below t (over_input comes sieves) (comes t.column) (λ c is. within t (front t sieves) c is)
      (over_below sieves (λ s h c is. within s (Contains-append_right (t ∷ []) sieves s h) c is))

-- a column that has a type is there
typed_there : (types : List SqlType) (c : ℕ) (path : Path) (kind : SqlType) (o : Option SqlType) → slice_get types c ≡ o → ok_or o path ≡ Ok kind → c < length types
typed_there types c path kind None is typed = absurd cc
typed_there types c path kind (Some own) is typed = slice_get_within types c own is

typed_at : (types : List SqlType) (columns : List Form) (place : ℕ) (form : Form) → AllTyped types columns → slice_get columns place ≡ Some form → IsTyped types form
typed_at types [] place form typed is = absurd cc
typed_at types (first ∷ columns) zero form typed is = let same : first ≡ form = cc is in subst (IsTyped types) same typed.0
typed_at types (first ∷ columns) (suc place) form typed is = typed_at types columns place form typed.1 is

pub passed_below : (types : List SqlType) (columns : List Form) → AllTyped types columns → (place c : ℕ) → passed_column types columns place ≡ Some c → c < length types
passed_below types columns typed place c is =
    let t = typed_at types columns place (column c) typed (passed types columns place c is).1 in
    typed_there types c t.path t.kind (slice_get types c) refl t.is

pub left_below : (kind : JoinKind) (width place c : ℕ) → left_column kind width place ≡ Some c → c < width
left_below kind width place c is = let p = left_place kind width place c is in subst (λ (n : ℕ). n < width) p.2 p.1

calm_place : (b : Bool) (width place c : ℕ) → place < width → (if b then Some place else None) ≡ Some c → c < width
calm_place true width place c lt is = let same : place ≡ c = cc is in subst (λ (n : ℕ). n < width) same lt
calm_place false width place c lt is = absurd cc

-- a column that a step passes on is one of its input's
pub step_below : (types : List SqlType) (s : StepForm) → IsTypedStep types s → (place c : ℕ) → place < length (types_after s types) → passed_by s types place ≡ Some c → c < length types
step_below types (filter predicate) typed place c lt is = calm_place (is_calm types predicate) (length types) place c lt is
step_below types (project columns) typed place c lt is = passed_below types columns typed place c is
step_below types s typed place c lt is = absurd cc

pub under_below : (types : List SqlType) (s : StepForm) → IsTypedStep types s → (sieves : List Sieve) → StandBelow (length (types_after s types)) sieves
    → StandBelow (length types) (under types s sieves)
under_below types s typed sieves below =
    over_below (passed_by s types) (length types) sieves (λ x h c is. step_below types s typed x.column c (below x h) is)
