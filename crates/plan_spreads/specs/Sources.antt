-- What a remote source reads, and the first one whose fragment gives its rows in another way than its reader needs.
use Rattle.std.specs.Prelude.{ℕ, ◌-◌, List, length, nat_le, slice_get, Bool, true, false, if◌then◌else◌, Option, Some, None}
use Rattle.std.specs.Option.{option_or}
use Rattle.json_paths.specs.declared.key.Key.TheVariants as key
use Rattle.sql_exprs.specs.Typing.{Path, under}
use Rattle.plan_docs.specs.declared.node.NodeStep.{NodeStep}
use Rattle.plan_docs.specs.declared.node.NodeStep.TheVariants as half
use Rattle.plan_docs.specs.declared.plan.Output.{Output}
use Rattle.plan_docs.specs.declared.plan.Output.TheVariants as output
use Rattle.plan_docs.specs.declared.plan.Placement.{Placement}
use Rattle.plan_docs.specs.declared.plan.Placement.TheVariants as placement
use Rattle.plan_docs.specs.Nodes.{NodeForm, scan, values, remote, step, join, union}
use Rattle.plan_docs.specs.Operators.{OperatorForm, part}
use Rattle.plan_trees.specs.HalvedSteps as halved
use Rattle.plan_docs.specs.Plans.{FragmentForm}

-- a source reads a fragment after its own: `later` has those from `first` on
abbrev pub fragment_read : ℕ → List FragmentForm → ℕ → Option FragmentForm
fragment_read first later fragment = if nat_le first fragment then slice_get later (fragment - first) else None

abbrev pub output_of : Option FragmentForm → Output
output_of None = output.Result
output_of (Some f) = f.output

-- one task reads what goes to one task; tasks that share tables read all rows each
abbrev pub fits_reader : Placement → Output → Bool
fits_reader placement.Single output.Single = true
fits_reader placement.Source output.Broadcast = true
fits_reader placement.Hash output.Broadcast = true
fits_reader placement.Hash (output.Hash columns) = true
fits_reader p o = false

abbrev pub source_fault : Placement → ℕ → List FragmentForm → Path → ℕ → Option Path
source_fault p first later path fragment =
    if fits_reader p (output_of (fragment_read first later fragment)) then None else Some path

-- the first remote source of a node's, in the order of the walk
abbrev pub misread : Placement → ℕ → List FragmentForm → Path → NodeForm → Option Path
misread p first later path (scan id table columns types) = None
misread p first later path (values id types rows) = None
misread p first later path (remote id fragment) = source_fault p first later path fragment
misread p first later path (step id operator input) = misread p first later (under path key.Input) input
misread p first later path (join id kind on filters left right) =
    option_or (misread p first later (under path key.Left) left) (misread p first later (under path key.Right) right)
misread p first later path (union id left right) =
    option_or (misread p first later (under path key.Left) left) (misread p first later (under path key.Right) right)

-- the number of keys of a PARTIAL aggregate
abbrev pub step_keys : NodeStep → List ℕ → ℕ
step_keys half.Partial keys = length keys
step_keys half.Single keys = 0

abbrev pub operator_keys : OperatorForm → ℕ
operator_keys (part w (halved.aggregate keys calls)) = step_keys w keys
operator_keys operator = 0

abbrev pub half_keys : NodeForm → ℕ
half_keys (step id operator input) = operator_keys operator
half_keys node = 0

abbrev pub root_keys : Option FragmentForm → ℕ
root_keys None = 0
root_keys (Some f) = half_keys f.root

-- the number of keys of the other half of a FINAL aggregate over this input
abbrev pub keys_read : ℕ → List FragmentForm → NodeForm → ℕ
keys_read first later (remote id fragment) = root_keys (fragment_read first later fragment)
keys_read first later node = 0
