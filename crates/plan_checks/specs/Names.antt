-- Code 4: a name that nothing has, or a name or an id that is given a second time.
use Rattle.std.specs.Prelude.{ℕ, List, [], ◌∷◌, ◌++◌, codes, slice_get, take, Bool, true, false, not, ◌&&◌, ◌==◌, if◌then◌else◌, Option, Some, None}
use Rattle.std.specs.Option.{is_some}
use Rattle.std.specs.List.{find, list_any}
use Rattle.serde_json.specs.Data.{Data}
use Rattle.json_paths.specs.declared.key.Key.TheVariants as key
use Rattle.json_paths.specs.declared.step.Step.{Step}
use Rattle.json_paths.specs.declared.step.Step.TheVariants as step
use Rattle.plan_grammar.specs.declared.kind.Kind.{Kind}
use Rattle.plan_grammar.specs.declared.kind.Kind.TheVariants as kind
use Rattle.plan_grammar.specs.Json.{entries_under, number_of, same_text, text_of, text_under}
use Rattle.plan_grammar.specs.Spots.{Spot}
use Rattle.plan_checks.specs.Types.{is_type}

abbrev pub is_call : List ℕ → Bool
is_call text = list_any (same_text text) (
    codes "+" ∷ codes "-" ∷ codes "*" ∷ codes "/" ∷ codes "%" ∷ codes "neg"
    ∷ codes "=" ∷ codes "<>" ∷ codes "<" ∷ codes "<=" ∷ codes ">" ∷ codes ">="
    ∷ codes "is_distinct" ∷ codes "is_null" ∷ codes "not" ∷ codes "and" ∷ codes "or" ∷ codes "coalesce"
    ∷ codes "like" ∷ codes "length" ∷ codes "concat"
    ∷ codes "add_days" ∷ codes "days_between" ∷ codes "year" ∷ codes "month" ∷ codes "day" ∷ [])

abbrev pub is_aggregate : List ℕ → Bool
is_aggregate text = list_any (same_text text) (
    codes "count_all" ∷ codes "count" ∷ codes "sum" ∷ codes "min" ∷ codes "max" ∷ codes "avg" ∷ [])

abbrev pub has_name : List ℕ → Data → Bool
has_name name d = same_text (text_under key.Name d) name

-- the first table of the document that has the name
abbrev pub table_named : List ℕ → Data → Option Data
table_named name document = find (has_name name) (entries_under key.Tables document)

abbrev pub has_column : List ℕ → Option Data → Bool
has_column name None = false
has_column name (Some table) = list_any (has_name name) (entries_under key.Columns table)

-- whether the table that a scan is of has the column
abbrev pub scan_has : List ℕ → Data → Data → Bool
scan_has name scan document = has_column name (table_named (text_under key.Table scan) document)

abbrev pub index_of_step : Option Step → ℕ
index_of_step (Some (step.Index i)) = i
index_of_step s = 0

-- the index at a place of a path
abbrev pub step_index : ℕ → List Step → ℕ
step_index place path = index_of_step (slice_get path place)

-- the index of the table, or fragment, that a path leads into
abbrev pub part_index : List Step → ℕ
part_index path = step_index 1 path

abbrev pub columns_of : Option Data → List Data
columns_of None = []
columns_of (Some table) = entries_under key.Columns table

-- the columns of a table that come before the one that a path leads into
abbrev pub columns_before : List Step → Data → List Data
columns_before path document =
    take (step_index 3 path) (columns_of (slice_get (entries_under key.Tables document) (part_index path)))

abbrev pub is_table_name : Kind → Bool
is_table_name kind.TableName = true
is_table_name k = false

abbrev pub is_node_id : Kind → Bool
is_node_id kind.NodeId = true
is_node_id k = false

abbrev pub is_filter_id : Kind → Bool
is_filter_id kind.FilterId = true
is_filter_id k = false

abbrev pub names_table : List ℕ → Spot → Bool
names_table name s = is_table_name s.kind && same_text (text_of s.value) name

abbrev pub numbers_node : ℕ → Spot → Bool
numbers_node id s = is_node_id s.kind && (number_of s.value == id)

abbrev pub numbers_filter : ℕ → Spot → Bool
numbers_filter id s = is_filter_id s.kind && (number_of s.value == id)

-- the name at a place, whose owner and value these are: `before` are the places before it
abbrev pub misnames : Kind → Data → List Spot → List Step → Data → Data → Bool
misnames kind.TableName document before path owner value = list_any (names_table (text_of value)) before
misnames kind.ColumnName document before path owner value = list_any (has_name (text_of value)) (columns_before path document)
misnames kind.NodeId document before path owner value = list_any (numbers_node (number_of value)) before
misnames kind.FilterId document before path owner value = list_any (numbers_filter (number_of value)) before
misnames kind.Type document before path owner value = not (is_type (text_of value))
misnames kind.ScanTable document before path owner value = not (is_some (table_named (text_of value) document))
misnames kind.ScanColumn document before path owner value = not (scan_has (text_of value) owner document)
misnames kind.CallName document before path owner value = not (is_call (text_of value))
misnames kind.AggregateName document before path owner value = not (is_aggregate (text_of value))
misnames k document before path owner value = false

abbrev pub is_misnamed : Data → List Spot → Spot → Bool
is_misnamed document before s = misnames s.kind document before s.path s.owner s.value

-- the first place whose name nothing has, or a place before it has too
abbrev pub first_misnamed : Data → List Spot → List Spot → Option Spot
first_misnamed document before [] = None
first_misnamed document before (s ∷ rest) =
    if is_misnamed document before s then Some s else first_misnamed document (before ++ s ∷ []) rest
