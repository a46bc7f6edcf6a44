-- Code 2: what stands at a place has the wrong kind of JSON, is an object with a key too few or too
-- many, or is no word of those that may stand there.
use Rattle.std.specs.Prelude.{ℕ, List, [], ◌∷◌, ◌++◌, length, codes, Bool, not, ◌&&◌, ◌||◌, ◌==◌, if◌then◌else◌, Option, Some, None, option_and_then}
use Rattle.std.specs.Option.{is_some}
use Rattle.std.specs.List.{list_all, position_from}
use Rattle.serde_json.specs.Data.{Data}
use Rattle.serde_json.specs.Find.{as_array, as_bool, as_null, as_number, as_str, as_u64}
use Rattle.json_paths.specs.declared.key.Key.TheVariants as key
use Rattle.json_paths.specs.declared.step.Step.{Step}
use Rattle.json_paths.specs.declared.step.Step.TheVariants as step
use Rattle.plan_grammar.specs.declared.kind.Kind.{Kind}
use Rattle.plan_grammar.specs.declared.kind.Kind.TheVariants as kind
use Rattle.plan_grammar.specs.declared.tables.Part.{Part}
use Rattle.plan_grammar.specs.Grammar.{is_open, is_unknown_op, is_unknown_output, is_unknown_step, parts_of}
use Rattle.plan_grammar.specs.Json.{entries_count, entries_in, entries_under, has_entry, members_count, number_of, same_text, text_of}
use Rattle.plan_grammar.specs.Spots.{Spot}
use Rattle.plan_grammar.specs.Words.{op_named, output_named, step_named}
use Rattle.plan_checks.specs.declared.shapes.Shape.{Shape}
use Rattle.plan_checks.specs.declared.shapes.Shape.TheVariants as shape

-- what may stand at a place
abbrev pub shape_of : Kind → Shape
shape_of kind.Document = shape.Object
shape_of kind.Version = shape.One
shape_of kind.ResultNames = shape.List
shape_of kind.ResultName = shape.Text
shape_of kind.Tables = shape.List
shape_of kind.Table = shape.Object
shape_of kind.TableName = shape.Text
shape_of kind.Columns = shape.List
shape_of kind.Column = shape.Object
shape_of kind.ColumnName = shape.Text
shape_of kind.Type = shape.Text
shape_of kind.Fragments = shape.List
shape_of kind.FirstFragment = shape.Object
shape_of kind.Fragment = shape.Object
shape_of kind.FragmentId = shape.Number
shape_of kind.Placement = shape.PlacementWord
shape_of kind.Output = shape.Object
shape_of kind.OutputKind = shape.OutputWord
shape_of kind.HashColumns = shape.List
shape_of kind.ColumnNumber = shape.Number
shape_of kind.Node = shape.Object
shape_of kind.NodeId = shape.Number
shape_of kind.Op = shape.OpWord
shape_of kind.ScanTable = shape.Text
shape_of kind.ScanColumns = shape.List
shape_of kind.ScanColumn = shape.Text
shape_of kind.Types = shape.List
shape_of kind.Rows = shape.List
shape_of kind.Row = shape.Row
shape_of kind.FragmentNumber = shape.Number
shape_of kind.Expressions = shape.List
shape_of kind.Expression = shape.Object
shape_of kind.Form = shape.Object
shape_of kind.LitText = shape.Text
shape_of kind.CallName = shape.Text
shape_of kind.Arguments = shape.List
shape_of kind.Branches = shape.List
shape_of kind.Branch = shape.Object
shape_of kind.JoinKind = shape.JoinWord
shape_of kind.Pairs = shape.List
shape_of kind.Pair = shape.Pair
shape_of kind.Filters = shape.List
shape_of kind.Filter = shape.Object
shape_of kind.FilterId = shape.Number
shape_of kind.PairNumber = shape.Number
shape_of kind.ScanId = shape.Number
shape_of kind.Wait = shape.Flag
shape_of kind.Step = shape.StepWord
shape_of kind.GroupKeys = shape.List
shape_of kind.AggregateCalls = shape.List
shape_of kind.AggregateCall = shape.Object
shape_of kind.AggregateName = shape.Text
shape_of kind.SortKeys = shape.List
shape_of kind.SortKey = shape.Object
shape_of kind.Order = shape.OrderWord
shape_of kind.Count = shape.Number

abbrev pub has_keys : List Part → Data → Bool
has_keys parts d = list_all (λ part. has_entry part.key d) parts

-- an object with exactly the keys of its table; each table has a key, so that no other value has
-- them all. One of no known row may have more.
abbrev pub is_whole : Kind → Data → Bool
is_whole kind d = has_keys (parts_of kind d) d && (is_open kind d || (members_count d == length (parts_of kind d)))

abbrev pub is_list : Data → Bool
is_list d = is_some (as_array d)

-- a whole number of 64 bits without a sign
abbrev pub is_number : Data → Bool
is_number d = is_some (option_and_then as_u64 (as_number d))

abbrev pub is_text : Data → Bool
is_text d = is_some (as_str d)

abbrev pub is_flag : Data → Bool
is_flag d = is_some (as_bool d)

-- a text or null
abbrev pub is_cell : Data → Bool
is_cell d = is_some (as_null d) || is_text d

-- a list of so many entries
abbrev pub is_wide : ℕ → Data → Bool
is_wide width d = is_list d && (entries_count d == width)

-- how many cells a row of a values node has
abbrev pub row_width : Data → ℕ
row_width node = length (entries_under key.Types node)

abbrev pub is_row : ℕ → Data → Bool
is_row width d = is_wide width d && list_all is_cell (entries_in d)

abbrev pub is_placement : List ℕ → Bool
is_placement text = same_text text (codes "SINGLE") || same_text text (codes "SOURCE") || same_text text (codes "HASH")

abbrev pub is_join_kind : List ℕ → Bool
is_join_kind text = same_text text (codes "INNER") || same_text text (codes "LEFT")

abbrev pub is_order : List ℕ → Bool
is_order text = same_text text (codes "ASC") || same_text text (codes "DESC")

abbrev pub has_shape : Shape → Spot → Bool
has_shape shape.Object s = is_whole s.kind s.value
has_shape shape.List s = is_list s.value
has_shape shape.Pair s = is_wide 2 s.value
has_shape shape.Row s = is_row (row_width s.owner) s.value
has_shape shape.Number s = is_number s.value
has_shape shape.One s = number_of s.value == 1
has_shape shape.Text s = is_text s.value
has_shape shape.Flag s = is_flag s.value
has_shape shape.OpWord s = not (is_unknown_op (op_named (text_of s.value)))
has_shape shape.StepWord s = not (is_unknown_step (step_named (text_of s.value)))
has_shape shape.OutputWord s = not (is_unknown_output (output_named (text_of s.value)))
has_shape shape.PlacementWord s = is_placement (text_of s.value)
has_shape shape.JoinWord s = is_join_kind (text_of s.value)
has_shape shape.OrderWord s = is_order (text_of s.value)

abbrev pub is_misshapen : Spot → Bool
is_misshapen s = not (has_shape (shape_of s.kind) s)

abbrev pub index_steps : Option ℕ → List Step
index_steps None = []
index_steps (Some i) = step.Index i ∷ []

-- the first entry of a list that is no cell
abbrev pub bad_cell : Data → Option ℕ
bad_cell d = position_from (λ c. not (is_cell c)) 0 (entries_in d)

-- from a row that has its length on to its first entry that is no cell
abbrev pub cell_steps : Kind → Data → Data → List Step
cell_steps kind.Row owner d = if is_wide (row_width owner) d then index_steps (bad_cell d) else []
cell_steps k owner d = []

-- where a fault of a place is: a cell of a row is no place of its own
abbrev pub fault_path : Spot → List Step
fault_path s = s.path ++ cell_steps s.kind s.owner s.value
