-- The form of the node that a value writes. Tables and columns are numbered in the document.
use Rattle.std.specs.Prelude.{ℕ, zero, suc, List, [], map, Option, Some, None}
use Rattle.serde_json.specs.Data.{Data}
use Rattle.sql_values.specs.declared.types.SqlType.{SqlType}
use Rattle.json_paths.specs.declared.key.Key.{Key}
use Rattle.json_paths.specs.declared.key.Key.TheVariants as key
use Rattle.plan_grammar.specs.declared.words.OpWord.{OpWord}
use Rattle.plan_grammar.specs.declared.words.OpWord.TheVariants as op
use Rattle.plan_grammar.specs.declared.words.StepWord.{StepWord}
use Rattle.plan_grammar.specs.declared.words.StepWord.TheVariants as word
use Rattle.plan_grammar.specs.Json.{entries_under, text_under, under}
use Rattle.plan_grammar.specs.Words.{op_of, step_of}
use Rattle.plan_docs.specs.Cells.{rows_of_node}
use Rattle.plan_docs.specs.Exprs.{expr_form, expr_under}
use Rattle.plan_docs.specs.Names.{places_of, scanned_columns, table_of, types_named}
use Rattle.plan_docs.specs.Nodes.{NodeForm, scan, values, remote, filter, project, join, aggregate, aggregate_final, sort, top_n, top_n_final, limit, limit_final, union}
use Rattle.plan_docs.specs.Parts.{calls_of, filters_of, kinds_of, numbers_of, pairs_of, sort_keys_of}
use Rattle.plan_docs.specs.Words.{half_of, join_named, small, small_under}

abbrev pub id_of : Data → ℕ
id_of d = small_under key.Id d

-- no rows of no columns: what stands for a node that is missing
abbrev pub nothing : NodeForm
nothing = values 0 [] []

abbrev pub scan_of : Data → Data → NodeForm
scan_of document d =
    scan (id_of d) (small (table_of document d))
    (places_of (scanned_columns document d) (entries_under key.Columns d))
    (types_named (scanned_columns document d) (entries_under key.Columns d))

abbrev pub values_with : List SqlType → Data → NodeForm
values_with types d = values (id_of d) types (rows_of_node types (entries_under key.Rows d))

abbrev pub values_of : Data → NodeForm
values_of d = values_with (kinds_of (entries_under key.Types d)) d

abbrev pub remote_of : Data → NodeForm
remote_of d = remote (id_of d) (small_under key.Fragment d)

abbrev pub filter_of : Data → NodeForm → NodeForm
filter_of d input = filter (id_of d) (expr_under key.Predicate d) input

abbrev pub project_of : Data → NodeForm → NodeForm
project_of d input = project (id_of d) (map expr_form (entries_under key.Columns d)) input

abbrev pub join_node : Data → NodeForm → NodeForm → NodeForm
join_node d left right =
    join (id_of d) (join_named (text_under key.Kind d)) (pairs_of (entries_under key.On d)) (filters_of (entries_under key.Filters d)) left right

-- a node of step FINAL, and one of another step
abbrev pub aggregate_of : StepWord → Data → NodeForm → NodeForm
aggregate_of word.Final d input = aggregate_final (id_of d) input
aggregate_of w d input = aggregate (id_of d) (half_of w) (numbers_of (entries_under key.Keys d)) (calls_of (entries_under key.Calls d)) input

abbrev pub sort_of : Data → NodeForm → NodeForm
sort_of d input = sort (id_of d) (sort_keys_of (entries_under key.Keys d)) input

abbrev pub top_n_of : StepWord → Data → NodeForm → NodeForm
top_n_of word.Final d input = top_n_final (id_of d) input
top_n_of w d input = top_n (id_of d) (half_of w) (small_under key.Count d) (sort_keys_of (entries_under key.Keys d)) input

abbrev pub limit_of : StepWord → Data → NodeForm → NodeForm
limit_of word.Final d input = limit_final (id_of d) input
limit_of w d input = limit (id_of d) (half_of w) (small_under key.Count d) input

abbrev pub union_of : Data → NodeForm → NodeForm → NodeForm
union_of d left right = union (id_of d) left right

abbrev pub inner_node : (Data → NodeForm) → Option Data → NodeForm
inner_node inner None = nothing
inner_node inner (Some d) = inner d

abbrev pub inner_under : (Data → NodeForm) → Key → Data → NodeForm
inner_under inner key d = inner_node inner (under key d)

-- the nodes below are read by `inner`
abbrev pub node_by : (Data → NodeForm) → Data → Data → OpWord → NodeForm
node_by inner document d op.Scan = scan_of document d
node_by inner document d op.Values = values_of d
node_by inner document d op.Remote = remote_of d
node_by inner document d op.Filter = filter_of d (inner_under inner key.Input d)
node_by inner document d op.Project = project_of d (inner_under inner key.Input d)
node_by inner document d op.Join = join_node d (inner_under inner key.Left d) (inner_under inner key.Right d)
node_by inner document d op.Aggregate = aggregate_of (step_of d) d (inner_under inner key.Input d)
node_by inner document d op.Sort = sort_of d (inner_under inner key.Input d)
node_by inner document d op.TopN = top_n_of (step_of d) d (inner_under inner key.Input d)
node_by inner document d op.Limit = limit_of (step_of d) d (inner_under inner key.Input d)
node_by inner document d op.Union = union_of d (inner_under inner key.Left d) (inner_under inner key.Right d)
node_by inner document d op.Unknown = nothing

-- so many nodes above one another
unfoldable pub node_at : ℕ → Data → Data → NodeForm
node_at zero document d = nothing
node_at (suc n) document d = node_by (node_at n document) document d (op_of d)

-- a fragment has at most 32
unfoldable pub node_form : Data → Data → NodeForm
node_form document d = node_at 32 document d
