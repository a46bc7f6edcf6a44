-- What an aggregate that merges partial rows holds.
use Rattle.std.specs.Prelude.{◌≡◌, ℕ, ◌^◌, ◌≤◌, List, length}
use Rattle.std.specs.List.{range_with_len}
use Rattle.sql_values.specs.declared.types.SqlType.{SqlType}
use Rattle.accumulators.specs.Groups.{Group, empty_group}
use Rattle.aggregation.specs.Giving.{GroupsState}
use Rattle.aggregation.specs.Layouts.{Layout}

-- with the types of the rows that it takes
pub record FinalState : Type 0 where
  pub node : ℕ
  pub groups : GroupsState
  pub taken : List SqlType

-- the layout of the rows that come
abbrev pub layout_in : FinalState → Layout
layout_in s = record { width = length s.groups.table.columns; types = s.groups.table.types; calls = s.groups.table.calls }

-- the keys are the first columns, and a group of no row says what is a partial row
pub record IsFinal (width : ℕ) (part : Group) (taken : List SqlType) (groups : GroupsState) : Type 0 where
  pub few : width ≤ 2 ^ 31
  pub front : groups.table.columns ≡ range_with_len 0 width
  pub wide : width ≤ length taken
  pub none : part ≡ empty_group groups.table.types groups.table.calls
