-- The grammar of the plan document: the keys of an object, the entries of a list.
use Rattle.std.specs.Prelude.{ℕ, ◌+◌, List, [], ◌==◌, Bool, true, false, if◌then◌else◌}
use Rattle.serde_json.specs.Data.{Data}
use Rattle.json_paths.specs.declared.key.Key.TheVariants as key
use Rattle.plan_grammar.specs.declared.kind.Kind.{Kind}
use Rattle.plan_grammar.specs.declared.kind.Kind.TheVariants as kind
use Rattle.plan_grammar.specs.declared.tables.Part.{Part}
use Rattle.plan_grammar.specs.declared.words.FormWord.{FormWord}
use Rattle.plan_grammar.specs.declared.words.FormWord.TheVariants as form
use Rattle.plan_grammar.specs.declared.words.OpWord.{OpWord}
use Rattle.plan_grammar.specs.declared.words.OpWord.TheVariants as op
use Rattle.plan_grammar.specs.declared.words.OutputWord.{OutputWord}
use Rattle.plan_grammar.specs.declared.words.OutputWord.TheVariants as output
use Rattle.plan_grammar.specs.declared.words.StepWord.{StepWord}
use Rattle.plan_grammar.specs.declared.words.StepWord.TheVariants as step
use Rattle.plan_grammar.specs.Json.{has_entry}
use Rattle.plan_grammar.specs.Tables as table
use Rattle.plan_grammar.specs.Words.{form_of, is_count_all, op_of, output_of, step_of}

abbrev pub output_parts : OutputWord → List Part
output_parts output.Hash = table.hash_output
output_parts word = table.output

abbrev pub join_parts : Bool → List Part
join_parts filtered = if filtered then table.filtered_join else table.join

-- a node of step FINAL has the keys that all steps have
abbrev pub aggregate_parts : StepWord → List Part
aggregate_parts step.Single = table.aggregate
aggregate_parts step.Partial = table.aggregate
aggregate_parts word = table.step_node

abbrev pub topn_parts : StepWord → List Part
topn_parts step.Single = table.topn
topn_parts step.Partial = table.topn
topn_parts word = table.step_node

abbrev pub limit_parts : StepWord → List Part
limit_parts step.Single = table.limit
limit_parts step.Partial = table.limit
limit_parts word = table.step_node

abbrev pub parts_of_node : OpWord → Data → List Part
parts_of_node op.Scan d = table.scan
parts_of_node op.Values d = table.values
parts_of_node op.Remote d = table.remote
parts_of_node op.Filter d = table.filter
parts_of_node op.Project d = table.project
parts_of_node op.Join d = join_parts (has_entry key.Filters d)
parts_of_node op.Aggregate d = aggregate_parts (step_of d)
parts_of_node op.Sort d = table.sort
parts_of_node op.TopN d = topn_parts (step_of d)
parts_of_node op.Limit d = limit_parts (step_of d)
parts_of_node op.Union d = table.union
parts_of_node op.Unknown d = table.node

abbrev pub parts_of_form : FormWord → List Part
parts_of_form form.Col = table.col
parts_of_form form.Lit = table.lit
parts_of_form form.Null = table.null
parts_of_form form.Call = table.call
parts_of_form form.Cast = table.cast
parts_of_form form.Case = table.case

abbrev pub call_parts : Bool → List Part
call_parts count_all = if count_all then table.count_all else table.aggregate_call

-- the keys of an object, in the order of the walk
abbrev pub parts_of : Kind → Data → List Part
parts_of kind.Document d = table.document
parts_of kind.Table d = table.table
parts_of kind.Column d = table.column
parts_of kind.FirstFragment d = table.first_fragment
parts_of kind.Fragment d = table.fragment
parts_of kind.Output d = output_parts (output_of d)
parts_of kind.Node d = parts_of_node (op_of d) d
parts_of kind.Expression d = parts_of_form (form_of d)
parts_of kind.Form d = parts_of_form (form_of d)
parts_of kind.Branch d = table.branch
parts_of kind.Filter d = table.dynamic_filter
parts_of kind.AggregateCall d = call_parts (is_count_all d)
parts_of kind.SortKey d = table.sort_key
parts_of k d = []

abbrev pub is_unknown_output : OutputWord → Bool
is_unknown_output output.Unknown = true
is_unknown_output word = false

abbrev pub is_unknown_step : StepWord → Bool
is_unknown_step step.Unknown = true
is_unknown_step word = false

abbrev pub is_unknown_op : OpWord → Bool
is_unknown_op op.Unknown = true
is_unknown_op word = false

-- the operators that have a step
abbrev pub has_steps : OpWord → Bool
has_steps op.Aggregate = true
has_steps op.TopN = true
has_steps op.Limit = true
has_steps word = false

-- an object whose word is no known one is asked only for the keys that all its rows have
abbrev pub is_open : Kind → Data → Bool
is_open kind.Output d = is_unknown_output (output_of d)
is_open kind.Node d = if has_steps (op_of d) then is_unknown_step (step_of d) else is_unknown_op (op_of d)
is_open k d = false

-- a list whose entries are places: a row of a values node is none
abbrev pub has_entries : Kind → Bool
has_entries kind.ResultNames = true
has_entries kind.Tables = true
has_entries kind.Columns = true
has_entries kind.Fragments = true
has_entries kind.HashColumns = true
has_entries kind.ScanColumns = true
has_entries kind.Types = true
has_entries kind.Rows = true
has_entries kind.Expressions = true
has_entries kind.Arguments = true
has_entries kind.Branches = true
has_entries kind.Pairs = true
has_entries kind.Pair = true
has_entries kind.Filters = true
has_entries kind.GroupKeys = true
has_entries kind.AggregateCalls = true
has_entries kind.SortKeys = true
has_entries k = false

-- the first fragment of the list is the one without an output
abbrev pub fragment_at : ℕ → Kind
fragment_at i = if i == 0 then kind.FirstFragment else kind.Fragment

abbrev pub element_of : Kind → ℕ → Kind
element_of kind.ResultNames i = kind.ResultName
element_of kind.Tables i = kind.Table
element_of kind.Columns i = kind.Column
element_of kind.Fragments i = fragment_at i
element_of kind.HashColumns i = kind.ColumnNumber
element_of kind.ScanColumns i = kind.ScanColumn
element_of kind.Types i = kind.Type
element_of kind.Rows i = kind.Row
element_of kind.Expressions i = kind.Expression
element_of kind.Arguments i = kind.Form
element_of kind.Branches i = kind.Branch
element_of kind.Pairs i = kind.Pair
element_of kind.Pair i = kind.ColumnNumber
element_of kind.Filters i = kind.Filter
element_of kind.GroupKeys i = kind.ColumnNumber
element_of kind.AggregateCalls i = kind.AggregateCall
element_of kind.SortKeys i = kind.SortKey
element_of k i = k

-- how many nodes or forms stand above one another, this one among them
abbrev pub depth_of : Kind → ℕ → ℕ
depth_of kind.Node above = above + 1
depth_of kind.Form above = above + 1
depth_of kind.Expression above = 1
depth_of k above = above
