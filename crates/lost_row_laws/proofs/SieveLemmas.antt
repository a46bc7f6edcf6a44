-- What sieves hold back, and where it goes through projects and joins.
use Rattle.std.proofs.Common.{◌≡◌, ℕ, ◌<◌, zero, suc, List, [], ◌∷◌, ◌++◌, Bool, true, false, Option, Some, None, refl, ap, sym, ◌∙◌, arith, length, map, subst}
use Rattle.std.specs.Prelude.{not, ◌&&◌, ◌||◌, if◌then◌else◌, slice_get, nat_lt, Ok, Err, Result}
use Rattle.std.proofs.lemmas.Bool.{ltb-true}
use Rattle.std.proofs.lemmas.List.{length-append}
use Rattle.sql_values.specs.declared.types.SqlType.{SqlType}
use Rattle.sql_values.specs.declared.value.Value.{Value}
use Rattle.sql_values.specs.declared.fail.Fail.{Fail}
use Rattle.sql_values.specs.declared.relational.JoinKind.{JoinKind}
use Rattle.sql_values.specs.declared.relational.JoinKind.TheVariants.{Inner, Left}
use Rattle.sql_values.specs.Blocks.{fits}
use Rattle.sql_values.specs.Cells.{cell}
use Rattle.sql_values.specs.ColumnRows.{fits_row}
use Rattle.sql_functions.specs.Outcomes.{Outcome}
use Rattle.sql_exprs.specs.Calm.{are_calm}
use Rattle.sql_exprs.specs.Forms.{Form, column, literal, null, call, cast, choice, forms_of}
use Rattle.sql_exprs.specs.Meaning.{value_of}
use Rattle.relation_laws.specs.Aggregates.{all_values, with_first}
use Rattle.plan_trees.specs.Allowed.{Mode, skipping, strict}
use Rattle.column_origins.specs.Origins.{left_column, named_column, passed_column}
use Rattle.lost_row_laws.specs.Sieves.{Sieve, fits_in, holds_back, is_held, over_input, sieve_at}

pub and_first : (a b : Bool) → a && b ≡ true → a ≡ true
and_first true b h = refl
and_first false b h = absurd cc

pub and_second : (a b : Bool) → a && b ≡ true → b ≡ true
and_second true b h = h
and_second false b h = absurd cc

pub both : (a b : Bool) → a ≡ true → b ≡ true → a && b ≡ true
both true b g h = h
both false b g h = absurd cc

or_right : (a : Bool) → a || true ≡ true
or_right true = refl
or_right false = refl

-- one that either list holds back
pub held_by_either : (own sieves : List Sieve) (row : List Value) → is_held (own ++ sieves) row ≡ is_held own row || is_held sieves row
held_by_either [] sieves row = refl
held_by_either (s ∷ own) sieves row =
    ap (λ (b : Bool). holds_back s row || b) (held_by_either own sieves row)
    ∙ or_or (holds_back s row) (is_held own row) (is_held sieves row)
  where
    or_or : (a b c : Bool) → a || (b || c) ≡ (a || b) || c
    or_or true b c = refl
    or_or false b c = refl

pub over_both : (comes : ℕ → Option ℕ) (own sieves : List Sieve) → over_input comes (own ++ sieves) ≡ over_input comes own ++ over_input comes sieves
over_both comes [] sieves = refl
over_both comes (s ∷ own) sieves = ap (sieve_at (comes s.column) s) (over_both comes own sieves) ∙ put (comes s.column)
  where
    put : (place : Option ℕ) → sieve_at place s (over_input comes own ++ over_input comes sieves) ≡ sieve_at place s (over_input comes own) ++ over_input comes sieves
    put None = refl
    put (Some c) = refl

-- what a sieve holds back, said by its two parts
pub back_by : (s : Sieve) (row : List Value) → s.column < length row → s.pass (cell row s.column) ≡ false → holds_back s row ≡ true
back_by s row lt h = both (nat_lt s.column (length row)) (not (s.pass (cell row s.column))) (grind (arith, lt)) (ap not h)

pub back_within : (s : Sieve) (row : List Value) → holds_back s row ≡ true → s.column < length row
back_within s row h = ltb-true s.column (length row) (and_first (nat_lt s.column (length row)) (not (s.pass (cell row s.column))) h)

pub back_fails : (s : Sieve) (row : List Value) → holds_back s row ≡ true → s.pass (cell row s.column) ≡ false
back_fails s row h = not_true (s.pass (cell row s.column)) (and_second (nat_lt s.column (length row)) (not (s.pass (cell row s.column))) h)
  where
    not_true : (b : Bool) → not b ≡ true → b ≡ false
    not_true true h = absurd cc
    not_true false h = refl

either_way : (a b x y : Bool) → (a ≡ true → b ≡ true) → (x ≡ true → y ≡ true) → a || x ≡ true → b || y ≡ true
either_way true b x y one later h = ap (λ (c : Bool). c || y) (one refl)
either_way false b x y one later h = ap (λ (c : Bool). b || c) (later h) ∙ or_right b

-- where the columns of the input are those above, what is held back below is above
module _ (comes : ℕ → Option ℕ) (row above : List Value)
    (agree : (place c : ℕ) → comes place ≡ Some c → c < length row → (place < length above) × (cell above place ≡ cell row c)) where
  held_one : (s : Sieve) (rest : List Sieve) (sieves : List Sieve) → (is_held rest row ≡ true → is_held sieves above ≡ true)
      → (place : Option ℕ) → comes s.column ≡ place → is_held (sieve_at place s rest) row ≡ true → is_held (s ∷ sieves) above ≡ true
  held_one s rest sieves later None is h = ap (λ (b : Bool). holds_back s above || b) (later h) ∙ or_right (holds_back s above)
  held_one s rest sieves later (Some c) is h =
      let moved : Sieve = record { column = c; pass = s.pass } in
      either_way (holds_back moved row) (holds_back s above) (is_held rest row) (is_held sieves above)
      (λ back.
      let same = agree s.column c is (back_within moved row back) in
      back_by s above same.0 (ap s.pass same.1 ∙ back_fails moved row back)) later h

  pub held_above : (sieves : List Sieve) → is_held (over_input comes sieves) row ≡ true → is_held sieves above ≡ true
  held_above [] h = h
  held_above (s ∷ sieves) h = held_one s (over_input comes sieves) sieves (held_above sieves) (comes s.column) refl h

-- no sieve holds a row back where nothing may go down
-- the sieves below what may fail, if it is calm
abbrev pub if_calm : Bool → List Sieve → List Sieve
if_calm calm sieves = if calm then sieves else []

pub calm_if_held : (calm : Bool) (sieves : List Sieve) (row : List Value) → is_held (if_calm calm sieves) row ≡ true → calm ≡ true
calm_if_held true sieves row h = refl
calm_if_held false sieves row h = absurd cc

pub held_if_calm : (calm : Bool) (sieves : List Sieve) (row : List Value) → is_held (if_calm calm sieves) row ≡ true → is_held sieves row ≡ true
held_if_calm true sieves row h = h
held_if_calm false sieves row h = absurd cc

-- a column that a project passes on
named : (form : Option Form) (c : ℕ) → named_column form ≡ Some c → form ≡ Some (column c)
named None c h = absurd cc
named (Some (column n)) c h = cc
named (Some (literal kind value)) c h = absurd cc
named (Some (null kind)) c h = absurd cc
named (Some (call name args)) c h = absurd cc
named (Some (cast arg kind)) c h = absurd cc
named (Some (choice branches other)) c h = absurd cc

passed_if : (calm : Bool) (named_there : Option ℕ) (c : ℕ) → (if calm then named_there else None) ≡ Some c → (calm ≡ true) × (named_there ≡ Some c)
passed_if true there c h = (refl, h)
passed_if false there c h = absurd cc

pub passed : (types : List SqlType) (columns : List Form) (place c : ℕ) → passed_column types columns place ≡ Some c
    → (are_calm types (forms_of columns) ≡ true) × (slice_get columns place ≡ Some (column c))
passed types columns place c h =
    let split = passed_if (are_calm types (forms_of columns)) (named_column (slice_get columns place)) c h in
    (split.0, named (slice_get columns place) c split.1)

some_same : {A : Type 0} (x y : A) → Some x ≡ Some y → x ≡ y
some_same x y h = cc

ok_same : (v w : Value) → (◌≡◌ {A = Outcome} (Ok v) (Ok w)) → v ≡ w
ok_same v w h = cc

-- the value of such a column
first_of : (v : Value) (vs : List Value) (r : Result (List Value) Fail) → with_first v r ≡ Ok vs → (ws : List Value) × (r ≡ Ok ws) × (v ∷ ws ≡ vs)
first_of v vs (Ok ws) h = (ws, refl, cc)
first_of v vs (Err kind) h = absurd cc

module _ (types : List SqlType) (row : List Value) where
  abbrev value : Form → Outcome
  value form = value_of types form row

  abbrev IsKept : List Value → ℕ → ℕ → Type 0
  IsKept vs place c = (place < length vs) × (cell vs place ≡ cell row c)

  at_place : (form : Form) (forms : List Form) (vs : List Value) (c : ℕ) (o : Outcome) → value form ≡ o → all_values (o ∷ map value forms) ≡ Ok vs
      → ((ws : List Value) → all_values (map value forms) ≡ Ok ws → (p : ℕ) → slice_get forms p ≡ Some (column c) → IsKept ws p c)
      → (place : ℕ) → slice_get (form ∷ forms) place ≡ Some (column c) → IsKept vs place c
  at_place form forms vs c (Err kind) e all later place is = absurd cc
  at_place form forms vs c (Ok v) e all later zero is =
      let split = first_of v vs (all_values (map value forms)) all in
      let same : form ≡ column c = some_same form (column c) is in
      let own : value form ≡ Ok (cell row c) = ap value same in
      let v_is : v ≡ cell row c = ok_same v (cell row c) (sym e ∙ own) in
      subst (λ (xs : List Value). IsKept xs 0 c) split.2 (omega arith, v_is)
  at_place form forms vs c (Ok v) e all later (suc place) is =
      let split = first_of v vs (all_values (map value forms)) all in
      let kept = later split.0 split.1 place is in
      subst (λ (xs : List Value). IsKept xs (suc place) c) split.2 (omega (arith, kept.0), kept.1)

  pub column_kept : (forms : List Form) (vs : List Value) → all_values (map value forms) ≡ Ok vs
      → (place c : ℕ) → slice_get forms place ≡ Some (column c) → IsKept vs place c
  column_kept [] vs all place c is = absurd cc
  column_kept (form ∷ forms) vs all place c is =
      at_place form forms vs c (value form) refl all (λ ws more p there. column_kept forms ws more p c there) place is

-- rows that fit, side by side
pub fits_beside : (kinds types : List SqlType) (a x : List Value) → fits_row kinds a ≡ true → fits_row types x ≡ true → fits_row (kinds ++ types) (a ++ x) ≡ true
fits_beside [] types [] x g h = h
fits_beside [] types (v ∷ a) x g h = absurd cc
fits_beside (kind ∷ kinds) types [] x g h = absurd cc
fits_beside (kind ∷ kinds) types (v ∷ a) x g h =
    both (fits kind v) (fits_row (kinds ++ types) (a ++ x)) (and_first (fits kind v) (fits_row kinds a) g)
    (fits_beside kinds types a x (and_second (fits kind v) (fits_row kinds a) g) h)

pub fits_length : (kinds : List SqlType) (a : List Value) → fits_row kinds a ≡ true → length a ≡ length kinds
fits_length [] [] h = refl
fits_length [] (v ∷ a) h = absurd cc
fits_length (kind ∷ kinds) [] h = absurd cc
fits_length (kind ∷ kinds) (v ∷ a) h = ap suc (fits_length kinds a (and_second (fits kind v) (fits_row kinds a) h))

pub fit_in : (mode : Mode) (kinds : List SqlType) (a : List Value) → fits_row kinds a ≡ true → fits_in mode kinds a ≡ true
fit_in strict kinds a h = h
fit_in skipping kinds a h = refl

pub fit_beside : (mode : Mode) (kinds types : List SqlType) (a x : List Value) → fits_in mode kinds a ≡ true → fits_in mode types x ≡ true
    → fits_in mode (kinds ++ types) (a ++ x) ≡ true
fit_beside strict kinds types a x g h = fits_beside kinds types a x g h
fit_beside skipping kinds types a x g h = refl

cell_beside : (a x : List Value) (place : ℕ) → place < length a → cell (a ++ x) place ≡ cell a place
cell_beside [] x place lt = absurd (omega arith)
cell_beside (v ∷ a) x zero lt = refl
cell_beside (v ∷ a) x (suc place) lt = cell_beside a x place (omega (arith, lt))

left_if : (within : Bool) (place c : ℕ) → (if within then Some place else None) ≡ Some c → (within ≡ true) × (place ≡ c)
left_if true place c h = (refl, cc)
left_if false place c h = absurd cc

-- a column of a join that is one of its left side
pub left_place : (kind : JoinKind) (width place c : ℕ) → left_column kind width place ≡ Some c → (kind ≡ Inner) × (place < width) × (place ≡ c)
left_place Inner width place c h =
    let split = left_if (nat_lt place width) place c h in (refl, ltb-true place width split.0, split.1)
left_place Left width place c h = absurd cc

pub left_cell : (kind : JoinKind) (width : ℕ) (a x : List Value) (place c : ℕ) → left_column kind width place ≡ Some c → c < length a
    → (place < length (a ++ x)) × (cell (a ++ x) place ≡ cell a c)
left_cell kind width a x place c h lt =
    let is = left_place kind width place c h in
    (omega (arith, is.2, lt, length-append a x), cell_beside a x place (omega (arith, is.2, lt)) ∙ ap (cell a) is.2)

-- what follows of a column that comes from one of the input follows where something is held back there
pub held_somewhere : (comes : ℕ → Option ℕ) (row : List Value) (P : Type 0) → ((place c : ℕ) → comes place ≡ Some c → P)
    → (sieves : List Sieve) → is_held (over_input comes sieves) row ≡ true → P
held_somewhere comes row P gives [] h = absurd cc
held_somewhere comes row P gives (s ∷ sieves) h = here (comes s.column) refl h (held_somewhere comes row P gives sieves)
  where
    here : (place : Option ℕ) → comes s.column ≡ place → is_held (sieve_at place s (over_input comes sieves)) row ≡ true
        → (is_held (over_input comes sieves) row ≡ true → P) → P
    here None is h later = later h
    here (Some c) is h later = gives s.column c is
