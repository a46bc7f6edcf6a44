-- Code 3: a list, a text, a number or a depth is beyond its limit.
use Rattle.std.specs.Prelude.{ℕ, ◌^◌, List, length, Bool, true, false, not, ◌&&◌, ◌||◌, ◌==◌, nat_le, nat_lt, Option}
use Rattle.std.specs.List.{count_by, find}
use Rattle.serde_json.specs.Data.{Data}
use Rattle.json_paths.specs.declared.key.Key.TheVariants as key
use Rattle.plan_grammar.specs.declared.kind.Kind.{Kind}
use Rattle.plan_grammar.specs.declared.kind.Kind.TheVariants as kind
use Rattle.plan_grammar.specs.Json.{entries_count, entries_under, number_of, text_of}
use Rattle.plan_grammar.specs.Spots.{Spot}
use Rattle.plan_checks.specs.declared.limits.Bound.{Bound}
use Rattle.plan_checks.specs.declared.limits.Bound.TheVariants as bound

-- the limit of a place
abbrev pub bound_of : Kind → Bound
bound_of kind.ResultNames = bound.Entries 1 256
bound_of kind.ResultName = bound.Name
bound_of kind.Tables = bound.Entries 0 64
bound_of kind.TableName = bound.Name
bound_of kind.Columns = bound.Entries 1 256
bound_of kind.ColumnName = bound.Name
bound_of kind.Fragments = bound.Entries 1 64
bound_of kind.FragmentId = bound.Below (2 ^ 31)
bound_of kind.HashColumns = bound.Entries 1 16
bound_of kind.ColumnNumber = bound.Below (2 ^ 31)
bound_of kind.Node = bound.Levels 32
bound_of kind.NodeId = bound.Below (2 ^ 32)
bound_of kind.ScanTable = bound.Name
bound_of kind.ScanColumns = bound.Entries 1 256
bound_of kind.ScanColumn = bound.Name
bound_of kind.Types = bound.Entries 1 256
bound_of kind.Rows = bound.Entries 0 10000
bound_of kind.FragmentNumber = bound.Below (2 ^ 31)
bound_of kind.Expressions = bound.Entries 1 256
bound_of kind.Form = bound.Levels 24
bound_of kind.Branches = bound.Entries 1 64
bound_of kind.Pairs = bound.Entries 1 16
bound_of kind.Filters = bound.Entries 0 16
bound_of kind.FilterId = bound.Below (2 ^ 32)
bound_of kind.PairNumber = bound.Below (2 ^ 31)
bound_of kind.ScanId = bound.Below (2 ^ 32)
bound_of kind.GroupKeys = bound.Entries 0 16
bound_of kind.AggregateCalls = bound.Entries 0 64
bound_of kind.SortKeys = bound.Entries 1 16
bound_of kind.Count = bound.Below (2 ^ 31)
bound_of k = bound.Free

abbrev pub is_within : ℕ → ℕ → ℕ → Bool
is_within least most n = nat_le least n && nat_le n most

abbrev pub exceeds : Bound → Spot → Bool
exceeds bound.Free s = false
exceeds bound.Name s = not (is_within 1 128 (length (text_of s.value)))
exceeds (bound.Entries least most) s = not (is_within least most (entries_count s.value))
exceeds (bound.Below most) s = nat_le most (number_of s.value)
exceeds (bound.Levels most) s = nat_lt most s.level

-- too many nodes or filters: reported at the document's list of fragments
abbrev pub is_crowded : ℕ → ℕ → Kind → Bool
is_crowded nodes filters kind.Fragments = nat_lt 256 nodes || nat_lt 64 filters
is_crowded nodes filters k = false

abbrev pub lacks_both : Kind → Data → Data → Bool
lacks_both kind.AggregateCalls owner calls = (entries_count calls == 0) && (length (entries_under key.Keys owner) == 0)
lacks_both k owner calls = false

-- neither keys nor calls: reported at an aggregate's calls
abbrev pub lacks_work : Spot → Bool
lacks_work s = lacks_both s.kind s.owner s.value

abbrev pub is_beyond : ℕ → ℕ → Spot → Bool
is_beyond nodes filters s = exceeds (bound_of s.kind) s || is_crowded nodes filters s.kind || lacks_work s

abbrev pub is_node_kind : Kind → Bool
is_node_kind kind.Node = true
is_node_kind k = false

abbrev pub is_node : Spot → Bool
is_node s = is_node_kind s.kind

abbrev pub is_filter_kind : Kind → Bool
is_filter_kind kind.Filter = true
is_filter_kind k = false

abbrev pub is_filter : Spot → Bool
is_filter s = is_filter_kind s.kind

-- the first place that is beyond a limit
abbrev pub first_beyond : List Spot → Option Spot
first_beyond all = find (is_beyond (count_by is_node all) (count_by is_filter all)) all
