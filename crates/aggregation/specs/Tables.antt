-- Groups that are held, by their keys.
use Rattle.std.specs.Prelude.{◌≡◌, Contains, ◌<◌, ◌⊎◌, ℕ, List, [], ◌∷◌, ◌++◌, slice_index_or, length, map, All, IsTrue}
use Rattle.sql_values.specs.declared.types.SqlType.{SqlType}
use Rattle.sql_values.specs.declared.value.Value.{Value}
use Rattle.sql_values.specs.declared.fail.EvalFault.{EvalFault}
use Rattle.sql_values.specs.declared.fail.EvalFault.TheVariants as fault
use Rattle.sql_values.specs.declared.relational.Call.{Call}
use Rattle.sql_values.specs.ColumnRows.{TypedRows}
use Rattle.relation_laws.specs.Groups.{grouped_row}
use Rattle.relation_laws.specs.Verdicts.{Verdict, drops, fails, keeps}
use Rattle.relation_laws.specs.Partials.{partial_of, results_from}
use Rattle.accumulators.specs.Columns.{kind_in}
use Rattle.accumulators.specs.Groups.{Group}
use Rattle.accumulators.specs.Limits.{are_allowed}
use Rattle.aggregation.specs.Held.{AreHeld, group_verdicts, held_rows}

-- the key columns, the calls over rows of these types, and for each key that came its partial row
pub record TableState : Type 0 where
  pub columns : List ℕ
  pub calls : List Call
  pub types : List SqlType
  pub keys : List (List Value)
  pub partials : List (List Value)

abbrev pub held_in : TableState → List (List Value)
held_in table = held_rows table.keys table.partials

abbrev pub partials_of_groups : List Group → List (List Value)
partials_of_groups groups = map (λ g. g.partial) groups

-- a group of these calls
pub record IsGroupOf (types : List SqlType) (calls : List Call) (group : Group) : Type 0 where
  pub of_calls : group.calls ≡ calls
  pub of_kinds : group.kinds ≡ map (kind_in types) calls

pub record IsTable (columns : List ℕ) (calls : List Call) (types : List SqlType) (keys : List (List Value)) (groups : List Group) : Type 0 where
  pub allowed : IsTrue (are_allowed types calls)
  pub held : AreHeld (length columns) calls keys (partials_of_groups groups)
  pub each : All (IsGroupOf types calls) groups

-- the key stands at the place
abbrev pub IsKeyAt : List (List Value) → ℕ → List Value → Type 0
IsKeyAt keys place key = (place < length keys) × (slice_index_or keys place [] ≡ key)

-- each key stands where it stood
abbrev pub AreKept : List (List Value) → List (List Value) → Type 0
AreKept old new = (place : ℕ) (key : List Value) → IsKeyAt old place key → IsKeyAt new place key

-- as it was, or with a group of no row for the key
abbrev pub HasGroupFor : TableState → List Value → TableState → Type 0
HasGroupFor old key new = (new ≡ old) ⊎ (new ≡ record old { keys = old.keys ++ key ∷ []; partials = old.partials ++ partial_of old.calls [] ∷ [] })

-- what is said of each group
abbrev pub verdicts_of : TableState → List Verdict
verdicts_of table = group_verdicts table.types table.calls table.keys table.partials

abbrev pub verdict_at : TableState → ℕ → Verdict
verdict_at table place = grouped_row (slice_index_or table.keys place []) (results_from table.types table.calls (slice_index_or table.partials place []))

-- the row that a group gives was appended
abbrev pub IsPut : TypedRows → TypedRows → Verdict → Type 0
IsPut old new (keeps row) = new ≡ record old { rows = old.rows ++ row ∷ [] }
IsPut old new drops = ⊥
IsPut old new (fails kind) = ⊥

-- the fault says why this group fails, or memory was wanting
abbrev pub GroupFailsBy : Verdict → EvalFault → Type 0
GroupFailsBy verdict (fault.Fail kind) = verdict ≡ fails kind
GroupFailsBy verdict fault.Memory = Unit {0}

-- why one of the groups fails
abbrev pub OneFailsBy : List Verdict → EvalFault → Type 0
OneFailsBy verdicts (fault.Fail kind) = Contains verdicts (fails kind)
OneFailsBy verdicts fault.Memory = Unit {0}

-- the rows of all groups, none of which fails
pub record AreResults (kinds : List SqlType) (verdicts : List Verdict) (held : TypedRows) : Type 0 where
  pub of : held.types ≡ kinds
  pub whole : held.begun ≡ []
  pub said : map keeps held.rows ≡ verdicts
