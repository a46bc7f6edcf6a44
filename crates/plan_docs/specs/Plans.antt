-- The form of a plan: what it says, without the memory that holds it.
use Rattle.std.specs.Prelude.{ℕ, List, map}
use Rattle.plan_docs.specs.declared.plan.Fragment.{Fragment}
use Rattle.plan_docs.specs.declared.plan.Output.{Output}
use Rattle.plan_docs.specs.declared.plan.Placement.{Placement}
use Rattle.plan_docs.specs.declared.plan.Plan.{Plan}
use Rattle.plan_docs.specs.declared.plan.TableDoc.{TableDoc}
use Rattle.plan_docs.specs.Nodes.{NodeForm, node_view}

pub record FragmentForm : Type 0 where
  pub placement : Placement
  pub output : Output
  pub root : NodeForm

-- the names of the result, the tables, and the fragments
pub record PlanForm : Type 0 where
  pub output : List (List ℕ)
  pub tables : List TableDoc
  pub fragments : List FragmentForm

abbrev pub fragment_view : Fragment → FragmentForm
fragment_view f = record { placement = f.placement; output = f.output; root = node_view f.root }

abbrev pub plan_view : Plan → PlanForm
plan_view p = record { output = p.output; tables = p.tables; fragments = map fragment_view p.fragments }
