-- What the words and the numbers of a plan document say. A word that is unknown says what the last
-- of its kind does, and a number that is too large is 0.
use Rattle.std.specs.Prelude.{ℕ, ◌^◌, List, codes, nat_lt, if◌then◌else◌, unwrap_or, option_and_then, Bool, false}
use Rattle.serde_json.specs.Data.{Data}
use Rattle.serde_json.specs.Find.{as_bool}
use Rattle.sql_values.specs.declared.types.SqlType.{SqlType}
use Rattle.sql_values.specs.declared.types.SqlType.TheVariants as kind
use Rattle.sql_values.specs.declared.relational.Call.{Call}
use Rattle.sql_values.specs.declared.relational.Call.TheVariants as aggregate
use Rattle.sql_values.specs.declared.relational.JoinKind.{JoinKind}
use Rattle.sql_values.specs.declared.relational.JoinKind.TheVariants as join
use Rattle.sql_values.specs.declared.order.Order.{Order}
use Rattle.sql_values.specs.declared.order.Order.TheVariants as order
use Rattle.sql_values.specs.TypeTexts.{type_of_text}
use Rattle.sql_functions.specs.declared.name.CallName.{CallName}
use Rattle.sql_functions.specs.declared.name.CallName.TheVariants as name
use Rattle.json_paths.specs.declared.key.Key.{Key}
use Rattle.plan_grammar.specs.declared.words.StepWord.{StepWord}
use Rattle.plan_grammar.specs.declared.words.StepWord.TheVariants as word
use Rattle.plan_grammar.specs.Json.{number_of, number_under, same_text, text_of, text_under, under}
use Rattle.plan_docs.specs.declared.node.NodeStep.{NodeStep}
use Rattle.plan_docs.specs.declared.node.NodeStep.TheVariants as step
use Rattle.plan_docs.specs.declared.plan.Placement.{Placement}
use Rattle.plan_docs.specs.declared.plan.Placement.TheVariants as placement

abbrev pub small : ℕ → ℕ
small n = if nat_lt n (2 ^ 32) then n else 0

abbrev pub small_number : Data → ℕ
small_number d = small (number_of d)

abbrev pub small_under : Key → Data → ℕ
small_under key d = small (number_under key d)

abbrev pub truth_under : Key → Data → Bool
truth_under key d = unwrap_or (option_and_then as_bool (under key d)) false

abbrev pub type_named : List ℕ → SqlType
type_named text = unwrap_or (type_of_text text) kind.Boolean

abbrev pub type_of : Data → SqlType
type_of d = type_named (text_of d)

abbrev pub type_under : Key → Data → SqlType
type_under key d = type_named (text_under key d)

abbrev pub call_named : List ℕ → CallName
call_named text =
    if same_text text (codes "+") then name.Add
    else if same_text text (codes "-") then name.Subtract
    else if same_text text (codes "*") then name.Multiply
    else if same_text text (codes "/") then name.Divide
    else if same_text text (codes "%") then name.Modulo
    else if same_text text (codes "neg") then name.Neg
    else if same_text text (codes "=") then name.Equal
    else if same_text text (codes "<>") then name.Unequal
    else if same_text text (codes "<") then name.Less
    else if same_text text (codes "<=") then name.LessEqual
    else if same_text text (codes ">") then name.Greater
    else if same_text text (codes ">=") then name.GreaterEqual
    else if same_text text (codes "is_distinct") then name.IsDistinct
    else if same_text text (codes "is_null") then name.IsNull
    else if same_text text (codes "not") then name.Not
    else if same_text text (codes "and") then name.And
    else if same_text text (codes "or") then name.Or
    else if same_text text (codes "coalesce") then name.Coalesce
    else if same_text text (codes "like") then name.Like
    else if same_text text (codes "length") then name.Length
    else if same_text text (codes "concat") then name.Concat
    else if same_text text (codes "add_days") then name.AddDays
    else if same_text text (codes "days_between") then name.DaysBetween
    else if same_text text (codes "year") then name.Year
    else if same_text text (codes "month") then name.Month
    else name.Day

-- the aggregate call of that name on a column
abbrev pub aggregate_named : List ℕ → ℕ → Call
aggregate_named text column =
    if same_text text (codes "count") then aggregate.Count column
    else if same_text text (codes "sum") then aggregate.Sum column
    else if same_text text (codes "min") then aggregate.Min column
    else if same_text text (codes "max") then aggregate.Max column
    else if same_text text (codes "avg") then aggregate.Avg column
    else aggregate.CountAll

abbrev pub join_named : List ℕ → JoinKind
join_named text = if same_text text (codes "LEFT") then join.Left else join.Inner

abbrev pub order_named : List ℕ → Order
order_named text = if same_text text (codes "DESC") then order.Descending else order.Ascending

abbrev pub placement_named : List ℕ → Placement
placement_named text =
    if same_text text (codes "SOURCE") then placement.Source
    else if same_text text (codes "HASH") then placement.Hash
    else placement.Single

abbrev pub half_of : StepWord → NodeStep
half_of word.Partial = step.Partial
half_of w = step.Single
