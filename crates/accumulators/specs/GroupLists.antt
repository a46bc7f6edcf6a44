-- The groups that states of calls and numbers of rows make.
use Rattle.std.specs.Prelude.{◌≡◌, ◌+◌, ◌<◌, ◌≤◌, ◌^◌, ℕ, List, [], ◌∷◌, All, length, map, slice_index_or, slice_set}
use Rattle.sql_values.specs.declared.types.SqlType.{SqlType}
use Rattle.sql_values.specs.declared.relational.Call.{Call}
use Rattle.relation_laws.specs.Partials.{partial_of}
use Rattle.accumulators.specs.Columns.{kind_in}
use Rattle.accumulators.specs.Groups.{Group, IsGroup, group_kept}
use Rattle.accumulators.specs.KeptColumns.{KeptColumn, IsLong, all_kept_at, column_calls, column_kinds}

-- groups of the same calls
pub record GroupList : Type 0 where
  pub calls : List Call
  pub kinds : List SqlType
  pub groups : List Group

-- no group of calls over rows of these types
abbrev pub no_groups : List SqlType → List Call → GroupList
no_groups types calls = record { calls = calls; kinds = map (kind_in types) calls; groups = [] }

-- the group of no call
abbrev pub no_group : Group
no_group = record { calls = []; kinds = []; partial = [] }

abbrev pub group_at : GroupList → ℕ → Group
group_at list place = slice_index_or list.groups place no_group

-- the group of no row
abbrev pub none_in : GroupList → Group
none_in list = record { calls = list.calls; kinds = list.kinds; partial = partial_of list.calls [] }

-- a group at each place from one on, for each number of rows
abbrev pub groups_from : ℕ → List ℕ → List KeptColumn → List Group
groups_from place [] columns = []
groups_from place (count ∷ rows) columns = group_kept count (all_kept_at place columns) ∷ groups_from (place + 1) rows columns

abbrev pub group_list : List ℕ → List KeptColumn → GroupList
group_list rows columns = record { calls = column_calls columns; kinds = column_kinds columns; groups = groups_from 0 rows columns }

-- each call keeps as many groups or more, and each group is one; that of no row has the calls
pub record AreGroups (none : Group) (rows : List ℕ) (columns : List KeptColumn) : Type 0 where
  pub few_calls : length columns ≤ 2 ^ 20
  pub of_calls : none.calls ≡ column_calls columns
  pub of_kinds : none.kinds ≡ column_kinds columns
  pub long : All (IsLong (length rows)) columns
  pub each : (place : ℕ) → place < length rows → IsGroup (slice_index_or rows place 0) (all_kept_at place columns)

-- but for the group at a place, whose calls are the same
pub record IsSameBut (place : ℕ) (old new : GroupList) : Type 0 where
  pub whole : new ≡ record { calls = old.calls; kinds = old.kinds; groups = slice_set old.groups place (group_at new place) }
  pub calls : (group_at new place).calls ≡ (group_at old place).calls
  pub kinds : (group_at new place).kinds ≡ (group_at old place).kinds
