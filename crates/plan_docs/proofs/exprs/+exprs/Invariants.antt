use Rattle.std.proofs.Common.{◌≡◌, ◌+◌, ◌*◌, map, take}
use Rattle.serde_json.specs.View.{view}
use Rattle.sql_exprs.specs.Forms.{branch_view, form_view}
use Rattle.plan_docs.specs.Exprs.{branch_by, form_at}
use Rattle.plan_docs.proofs.exprs.+exprs.Given as goal

abbrev pub decreases-read_args : goal.decreases-read_args
decreases-read_args l = 5 * l.levels + 3

abbrev pub decreases-read_branch : goal.decreases-read_branch
decreases-read_branch l = 5 * l.levels + 2

abbrev pub decreases-read_branches : goal.decreases-read_branches
decreases-read_branches l = 5 * l.levels + 3

abbrev pub decreases-read_form : goal.decreases-read_form
decreases-read_form l = 5 * l.levels + 4

abbrev pub decreases-read_levels : goal.decreases-read_levels
decreases-read_levels l = 5 * l.levels

abbrev pub decreases-read_member : goal.decreases-read_member
decreases-read_member l = 5 * l.levels + 1

abbrev pub invariant-read_args-loop-entry : goal.invariant-read_args-loop-entry
invariant-read_args-loop-entry l = map form_view l.args.items ≡ map (form_at l.levels) (map view (take l.entry-index l.entries))

abbrev pub invariant-read_branches-loop-entry : goal.invariant-read_branches-loop-entry
invariant-read_branches-loop-entry l =
    map branch_view l.branches.items ≡ map (branch_by (form_at l.levels)) (map view (take l.entry-index l.entries))
