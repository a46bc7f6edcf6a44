-- Plans whose scans have a type for each column, and whose constant rows have a value for each type.
use Rattle.std.specs.Prelude.{◌≡◌, List, [], ◌∷◌, length}
use Rattle.relation_laws.specs.Widths.{HaveWidth}
use Rattle.plan_docs.specs.Nodes.{NodeForm, scan, values, remote, step, join, union}
use Rattle.plan_docs.specs.Plans.{FragmentForm}

abbrev pub LeavesFit : NodeForm → Type 0
LeavesFit (scan id table columns types) = length columns ≡ length types
LeavesFit (values id types rows) = HaveWidth (length types) rows
LeavesFit (remote id fragment) = Unit {0}
LeavesFit (step id operator input) = LeavesFit input
LeavesFit (join id kind on filters left right) = LeavesFit left × LeavesFit right
LeavesFit (union id left right) = LeavesFit left × LeavesFit right

abbrev pub AllLeavesFit : List FragmentForm → Type 0
AllLeavesFit [] = Unit {0}
AllLeavesFit (f ∷ fs) = LeavesFit f.root × AllLeavesFit fs
