-- What operators that keep groups may give, and on what they may fail.
use Rattle.std.specs.Prelude.{◌≡◌, ℕ, ◌<◌, ◌≤◌, List, [], ◌∷◌, ◌++◌, length, map, flat_map, Bool, true, false, not, Contains, Option, Some, None}
use Rattle.sql_values.specs.declared.types.SqlType.{SqlType}
use Rattle.sql_values.specs.declared.value.Value.{Value}
use Rattle.sql_values.specs.declared.fail.Fail.{Fail}
use Rattle.sql_values.specs.Bags.{SameBag}
use Rattle.sql_values.specs.ColumnRows.{TypedRows}
use Rattle.col_pages.specs.Fits.{IsOfTypes}
use Rattle.col_pages.specs.Pages.{TypedPage, most_rows}
use Rattle.operator_core.specs.Samples.{has_row}
use Rattle.relation_laws.specs.Verdicts.{Verdict, fails, keeps, kept}
use Rattle.sql_values.specs.declared.relational.Call.{Call}
use Rattle.bag_laws.specs.Pieces.{all_merged, behind_key, finals_of, front_keys}
use Rattle.aggregation.specs.Alike.{part_rows}
use Rattle.aggregation.specs.Held.{first_keys, first_partials}
use Rattle.aggregation.specs.Tables.{TableState, held_in}

-- what is said of each group of the rows that came and of those still to come
abbrev pub verdicts_with : TableState → List (List Value) → List Verdict
verdicts_with table more =
    finals_of table.types (length table.columns) table.calls (held_in table ++ part_rows table.columns table.calls more)

-- the same where the rows that come are keys with partial rows behind them
abbrev pub merged_with : TableState → List (List Value) → List Verdict
merged_with table more = finals_of table.types (length table.columns) table.calls (held_in table ++ more)

-- the row of each key of so many columns in front of rows: the key, and the partial rows behind it as one
abbrev pub part_verdicts : ℕ → List Call → List (List Value) → List Verdict
part_verdicts width calls rows = map (λ key. keeps (key ++ all_merged calls (behind_key width rows key))) (front_keys width rows)

-- the partial row of each group of the rows that came and of those still to come
abbrev pub parts_with : TableState → List (List Value) → List Verdict
parts_with table more = part_verdicts (length table.columns) table.calls (held_in table ++ part_rows table.columns table.calls more)

-- once the output has begun it is what is left; before that the rows of the groups, in any order, where
-- groups that fail are left out
abbrev pub GroupsGive : Bool → List (List Value) → List Verdict → List (List Value) → Type 0
GroupsGive true left verdicts B = B ≡ left
GroupsGive false left verdicts B = SameBag (flat_map kept verdicts) B

-- a group fails with this kind, unless the output has begun
abbrev pub GroupsFail : Bool → ℕ → List Verdict → ℕ → Fail → Type 0
GroupsFail true own verdicts node kind = ⊥
GroupsFail false own verdicts node kind = (node ≡ own) × Contains verdicts (fails kind)

-- the rows that it may still give, where none comes any more
abbrev pub to_give : Bool → List (List Value) → List Verdict → List (List Value)
to_give true left verdicts = left
to_give false left verdicts = flat_map kept verdicts

abbrev pub has_verdict : List Verdict → Bool
has_verdict [] = false
has_verdict (v ∷ verdicts) = true

-- it has rows left, or groups of which nothing was said
abbrev pub has_more : Bool → List (List Value) → List Verdict → Bool
has_more true left verdicts = has_row left
has_more false left verdicts = has_verdict verdicts

-- rows of some types that are still to be given, in pages of at most so many
pub record RowsLeft : Type 0 where
  pub types : List SqlType
  pub page : ℕ
  pub rows : List (List Value)

pub record AreLeft (held : TypedRows) (given page : ℕ) : Type 0 where
  pub whole : held.begun ≡ []
  pub within : given ≤ length held.rows
  pub size : 0 < page
  pub most : page ≤ most_rows

-- a page of the first rows, and what is left
pub record IsNextPage (old : RowsLeft) (p : TypedPage) (new : RowsLeft) : Type 0 where
  pub rows : old.rows ≡ p.rows ++ new.rows
  pub some : 0 < length p.rows
  pub most : length p.rows ≤ old.page
  pub of : IsOfTypes old.types p

-- groups, and the rows that are left to give once their output has begun
pub record GroupsState : Type 0 where
  pub table : TableState
  pub left : RowsLeft
  pub begun : Bool

-- the output has begun: none of the groups fails, and their rows are left
abbrev pub IsBegun : Bool → List Verdict → List (List Value) → List (List Value) → Type 0
IsBegun true verdicts old new = new ≡ old
IsBegun false verdicts old new = map keeps new ≡ verdicts

-- groups whose output had begun stay as they are, and the others have no keys any more but those of no row
abbrev pub AreForgotten : Bool → TableState → TableState → Type 0
AreForgotten true old new = new ≡ old
AreForgotten false old new = new.keys ≡ first_keys (length old.columns)

-- of no row, with pages of rows of these types
abbrev pub no_groups : List ℕ → List Call → List SqlType → List SqlType → ℕ → GroupsState
no_groups columns calls types given page = record {
  table = record { columns = columns; calls = calls; types = types; keys = first_keys (length columns); partials = first_partials (length columns) calls };
  left = record { types = given; page = page; rows = [] };
  begun = false;
}

-- as they were made
abbrev pub groups_made : GroupsState → GroupsState
groups_made g = record g {
  table = record g.table { keys = first_keys (length g.table.columns); partials = first_partials (length g.table.columns) g.table.calls };
  left = record g.left { rows = [] };
  begun = false;
}

-- the next page, or none where no row is left
abbrev pub IsGiven : RowsLeft → Option TypedPage → RowsLeft → Type 0
IsGiven old None new = (old.rows ≡ []) × (new ≡ old)
IsGiven old (Some page) new = IsNextPage old page new

-- nothing is left of groups of which this is said
abbrev pub is_over : GroupsState → List Verdict → Bool
is_over g verdicts = not (has_more g.begun g.left.rows verdicts)

-- but for the groups, the rows that are left and whether the output has begun
abbrev pub IsAsBefore : GroupsState → GroupsState → Type 0
IsAsBefore old new = record new {
  table = record new.table { keys = old.table.keys; partials = old.table.partials };
  left = record new.left { rows = old.left.rows };
  begun = old.begun;
} ≡ old
