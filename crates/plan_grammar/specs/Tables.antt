-- The objects of the plan document: the keys of each, in the order of the walk, and what stands under them.
use Rattle.std.specs.Prelude.{List, [], ◌∷◌}
use Rattle.json_paths.specs.declared.key.Key.{Key}
use Rattle.json_paths.specs.declared.key.Key.TheVariants as key
use Rattle.plan_grammar.specs.declared.kind.Kind.{Kind}
use Rattle.plan_grammar.specs.declared.kind.Kind.TheVariants as kind
use Rattle.plan_grammar.specs.declared.tables.Part.{Part}

abbrev pub part : Key → Kind → Part
part k d = record { key = k; kind = d }

-- the document
abbrev pub document : List Part
document = part key.Version kind.Version ∷ part key.Output kind.ResultNames ∷ part key.Tables kind.Tables ∷ part key.Fragments kind.Fragments ∷ []

-- a table
abbrev pub table : List Part
table = part key.Name kind.TableName ∷ part key.Columns kind.Columns ∷ []

-- a column of a table
abbrev pub column : List Part
column = part key.Name kind.ColumnName ∷ part key.Type kind.Type ∷ []

-- the first fragment
abbrev pub first_fragment : List Part
first_fragment = part key.Id kind.FragmentId ∷ part key.Placement kind.Placement ∷ part key.Root kind.Node ∷ []

-- every other fragment
abbrev pub fragment : List Part
fragment = part key.Id kind.FragmentId ∷ part key.Placement kind.Placement ∷ part key.Output kind.Output ∷ part key.Root kind.Node ∷ []

-- an output to one task or to all
abbrev pub output : List Part
output = part key.Kind kind.OutputKind ∷ []

-- an output by the hash of columns
abbrev pub hash_output : List Part
hash_output = part key.Kind kind.OutputKind ∷ part key.Columns kind.HashColumns ∷ []

-- a node of no known op
abbrev pub node : List Part
node = part key.Id kind.NodeId ∷ part key.Op kind.Op ∷ []

abbrev pub scan : List Part
scan = part key.Id kind.NodeId ∷ part key.Op kind.Op ∷ part key.Table kind.ScanTable ∷ part key.Columns kind.ScanColumns ∷ []

abbrev pub values : List Part
values = part key.Id kind.NodeId ∷ part key.Op kind.Op ∷ part key.Types kind.Types ∷ part key.Rows kind.Rows ∷ []

abbrev pub remote : List Part
remote = part key.Id kind.NodeId ∷ part key.Op kind.Op ∷ part key.Fragment kind.FragmentNumber ∷ []

abbrev pub filter : List Part
filter = part key.Id kind.NodeId ∷ part key.Op kind.Op ∷ part key.Predicate kind.Expression ∷ part key.Input kind.Node ∷ []

abbrev pub project : List Part
project = part key.Id kind.NodeId ∷ part key.Op kind.Op ∷ part key.Columns kind.Expressions ∷ part key.Input kind.Node ∷ []

-- a join without dynamic filters
abbrev pub join : List Part
join = part key.Id kind.NodeId ∷ part key.Op kind.Op ∷ part key.Kind kind.JoinKind ∷ part key.On kind.Pairs ∷ part key.Left kind.Node ∷ part key.Right kind.Node ∷ []

-- a join with dynamic filters
abbrev pub filtered_join : List Part
filtered_join = part key.Id kind.NodeId ∷ part key.Op kind.Op ∷ part key.Kind kind.JoinKind ∷ part key.On kind.Pairs ∷ part key.Left kind.Node ∷ part key.Right kind.Node ∷ part key.Filters kind.Filters ∷ []

-- a node of step FINAL, or of no known step
abbrev pub step_node : List Part
step_node = part key.Id kind.NodeId ∷ part key.Op kind.Op ∷ part key.Step kind.Step ∷ part key.Input kind.Node ∷ []

-- an aggregate of step SINGLE or PARTIAL
abbrev pub aggregate : List Part
aggregate = part key.Id kind.NodeId ∷ part key.Op kind.Op ∷ part key.Step kind.Step ∷ part key.Keys kind.GroupKeys ∷ part key.Calls kind.AggregateCalls ∷ part key.Input kind.Node ∷ []

abbrev pub sort : List Part
sort = part key.Id kind.NodeId ∷ part key.Op kind.Op ∷ part key.Keys kind.SortKeys ∷ part key.Input kind.Node ∷ []

-- a top n of step SINGLE or PARTIAL
abbrev pub topn : List Part
topn = part key.Id kind.NodeId ∷ part key.Op kind.Op ∷ part key.Step kind.Step ∷ part key.Count kind.Count ∷ part key.Keys kind.SortKeys ∷ part key.Input kind.Node ∷ []

-- a limit of step SINGLE or PARTIAL
abbrev pub limit : List Part
limit = part key.Id kind.NodeId ∷ part key.Op kind.Op ∷ part key.Step kind.Step ∷ part key.Count kind.Count ∷ part key.Input kind.Node ∷ []

abbrev pub union : List Part
union = part key.Id kind.NodeId ∷ part key.Op kind.Op ∷ part key.Left kind.Node ∷ part key.Right kind.Node ∷ []

-- an expression: a column
abbrev pub col : List Part
col = part key.Col kind.ColumnNumber ∷ []

-- a literal
abbrev pub lit : List Part
lit = part key.Lit kind.LitText ∷ part key.Type kind.Type ∷ []

abbrev pub null : List Part
null = part key.Null kind.Type ∷ []

abbrev pub call : List Part
call = part key.Call kind.CallName ∷ part key.Args kind.Arguments ∷ []

abbrev pub cast : List Part
cast = part key.Cast kind.Form ∷ part key.Type kind.Type ∷ []

abbrev pub case : List Part
case = part key.Case kind.Branches ∷ part key.Else kind.Form ∷ []

-- a branch of a case
abbrev pub branch : List Part
branch = part key.When kind.Form ∷ part key.Then kind.Form ∷ []

-- an aggregate call of no column
abbrev pub count_all : List Part
count_all = part key.Name kind.AggregateName ∷ []

-- every other aggregate call
abbrev pub aggregate_call : List Part
aggregate_call = part key.Name kind.AggregateName ∷ part key.Column kind.ColumnNumber ∷ []

abbrev pub sort_key : List Part
sort_key = part key.Column kind.ColumnNumber ∷ part key.Order kind.Order ∷ []

-- a dynamic filter of a join
abbrev pub dynamic_filter : List Part
dynamic_filter = part key.Id kind.FilterId ∷ part key.Key kind.PairNumber ∷ part key.Scan kind.ScanId ∷ part key.Column kind.ColumnNumber ∷ part key.Wait kind.Wait ∷ []
