-- The lists of a plan document whose entries are no nodes.
use Rattle.std.specs.Prelude.{ℕ, List, map, slice_get, Option, Some, None}
use Rattle.serde_json.specs.Data.{Data}
use Rattle.sql_values.specs.declared.types.Column.{Column}
use Rattle.sql_values.specs.declared.types.SqlType.{SqlType}
use Rattle.sql_values.specs.declared.relational.Call.{Call}
use Rattle.sql_values.specs.declared.order.KeySpec.{KeySpec}
use Rattle.json_paths.specs.declared.key.Key.TheVariants as key
use Rattle.plan_grammar.specs.Json.{entries_in, text_of, text_under}
use Rattle.plan_docs.specs.declared.node.DynamicFilter.{DynamicFilter}
use Rattle.plan_trees.specs.declared.tree.Pair.{Pair}
use Rattle.plan_docs.specs.Words.{aggregate_named, order_named, small_number, small_under, truth_under, type_of, type_under}

abbrev pub number_from : Option Data → ℕ
number_from None = 0
number_from (Some d) = small_number d

abbrev pub number_at : ℕ → List Data → ℕ
number_at i ds = number_from (slice_get ds i)

abbrev pub pair_of : Data → Pair
pair_of d = record { left = number_at 0 (entries_in d); right = number_at 1 (entries_in d) }

abbrev pub filter_of : Data → DynamicFilter
filter_of d = record {
  id = small_under key.Id d;
  key = small_under key.Key d;
  scan = small_under key.Scan d;
  column = small_under key.Column d;
  wait = truth_under key.Wait d;
}

abbrev pub sort_key_of : Data → KeySpec
sort_key_of d = record { column = small_under key.Column d; order = order_named (text_under key.Order d) }

abbrev pub call_of : Data → Call
call_of d = aggregate_named (text_under key.Name d) (small_under key.Column d)

abbrev pub column_of : Data → Column
column_of d = record { name = text_under key.Name d; kind = type_under key.Type d }

abbrev pub names_of : List Data → List (List ℕ)
names_of ds = map text_of ds

abbrev pub kinds_of : List Data → List SqlType
kinds_of ds = map type_of ds

abbrev pub numbers_of : List Data → List ℕ
numbers_of ds = map small_number ds

abbrev pub pairs_of : List Data → List Pair
pairs_of ds = map pair_of ds

abbrev pub filters_of : List Data → List DynamicFilter
filters_of ds = map filter_of ds

abbrev pub sort_keys_of : List Data → List KeySpec
sort_keys_of ds = map sort_key_of ds

abbrev pub calls_of : List Data → List Call
calls_of ds = map call_of ds

abbrev pub columns_of : List Data → List Column
columns_of ds = map column_of ds
