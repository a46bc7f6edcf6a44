-- What `FilterProject` holds, and what it may still give and fail on.
use Rattle.std.specs.Prelude.{◌≡◌, ℕ, List, [], ◌++◌, Bool, Option, Some, None, map, option_map}
use Rattle.std.specs.Option.{option_or}
use Rattle.sql_values.specs.declared.types.SqlType.{SqlType}
use Rattle.sql_values.specs.declared.value.Value.{Value}
use Rattle.sql_values.specs.declared.fail.Fail.{Fail}
use Rattle.col_pages.specs.Pages.{TypedPage}
use Rattle.sql_exprs.specs.declared.expr.Expr.{Expr}
use Rattle.sql_exprs.specs.Forms.{form_view}
use Rattle.relation_laws.specs.Verdicts.{Verdict}
use Rattle.page_processor.specs.Judged.{first_failure, rows_before}
use Rattle.row_ops.specs.RowJudges.{row_judge}

-- its node, the types of its input, its expressions, the page that it has still to give, the failure of the
-- first row that failed, and whether it was told to finish
pub record FilterState : Type 0 where
  pub node : ℕ
  pub types : List SqlType
  pub predicate : Option Expr
  pub columns : List Expr
  pub held : Option TypedPage
  pub failure : Option Fail
  pub is_told : Bool

-- what its expressions say of a row
abbrev pub judge_in : FilterState → List Value → Verdict
judge_in s = row_judge s.types (option_map form_view s.predicate) (map form_view s.columns)

abbrev pub rows_held : Option TypedPage → List (List Value)
rows_held None = []
rows_held (Some page) = page.rows

-- rows, and those that come after them where nothing failed before
abbrev pub unless_failed : Option Fail → List (List Value) → List (List Value) → List (List Value)
unless_failed None rows later = rows ++ later
unless_failed (Some kind) rows later = rows

-- what it holds, and then what the judge keeps of the rows to come before the first that fails
abbrev pub FilterGives : (List Value → Verdict) → Option TypedPage → Option Fail → List (List Value) → List (List Value) → Type 0
FilterGives judge held failure X B = B ≡ unless_failed failure (rows_held held) (rows_before judge X)

-- the failure of the first row that fails, of those that it took in and those to come
abbrev pub FilterFails : (List Value → Verdict) → ℕ → Option Fail → List (List Value) → ℕ → Fail → Type 0
FilterFails judge own failure X node kind = (node ≡ own) × (option_or failure (first_failure judge X) ≡ Some kind)
