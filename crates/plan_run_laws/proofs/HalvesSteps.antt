-- The step of a node that is cut in halves, over an edge to one task.
use Rattle.std.proofs.Common.{ℕ, ◌<◌, List, arith}
use Rattle.sql_values.specs.declared.value.Value.{Value}
use Rattle.bag_laws.specs.Laws.{TaskRows}
use Rattle.bag_laws.proofs.BagLemmas.{bag_from_same}
use Rattle.plan_trees.specs.TreeForms.{TreeForm, remote, step}
use Rattle.plan_trees.specs.TreeTypes.{types_of}
use Rattle.plan_trees.specs.Modes.{Mode}
use Rattle.plan_trees.specs.HalvedSteps.{HalvedForm, whole_step}
use Rattle.plan_run_laws.specs.RunPlans.{single}
use Rattle.plan_run_laws.specs.Runs.{AllInPieces, EdgePassed, InPieces}
use Rattle.plan_run_laws.specs.Spreads.{Says, Together, whole}
use Rattle.plan_run_laws.specs.Stages.{Makes, first_half, second_half}
use Rattle.plan_run_laws.proofs.PieceLemmas.{pieces-gather}
use Rattle.plan_run_laws.proofs.StepTables.{merged, pieces-same}

-- the pieces of a list that the tree below gives
pub passed_pieces : (mode : Mode) (tables : List (List (List Value))) (t : TreeForm) (h : HalvedForm) (m : ℕ) (ins parts got : TaskRows)
    (below : Together mode t tables m ins) → AllInPieces (Makes mode (first_half (types_of t) h)) m ins parts → EdgePassed single m 1 parts got
    → InPieces (Makes mode (first_half (types_of t) h)) below.rows (got 0)
passed_pieces mode tables t h m ins parts got below each passed =
    pieces-same (Makes mode (first_half (types_of t) h)) (pieces-gather (Makes mode (first_half (types_of t) h)) m ins parts each) below.same (passed 0 (omega arith))

pub halves_step : (mode : Mode) (tables : List (List (List Value))) (id source : ℕ) (t : TreeForm) (h : HalvedForm) (m : ℕ) (ins parts got out : TaskRows)
    (below : Together mode t tables m ins) → AllInPieces (Makes mode (first_half (types_of t) h)) m ins parts → EdgePassed single m 1 parts got
    → ((k : ℕ) → k < 1 → Makes mode (second_half (types_of t) h) (got k) (out k))
    → Says whole mode (step id (whole_step h) (remote source t)) tables 1 out
halves_step mode tables id source t h m ins parts got out below each passed makes =
    let o = merged mode (types_of t) h below.rows (got 0) (out 0) (passed_pieces mode tables t h m ins parts got below each passed) (makes 0 (omega arith)) in
    (o.order, (below.rows, below.given, bag_from_same below.rows o.order o.same), o.gives)
