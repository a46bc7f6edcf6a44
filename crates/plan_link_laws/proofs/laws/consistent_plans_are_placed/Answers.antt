use Rattle.plan_docs.specs.Plans.{plan_view}
use Rattle.plan_link_laws.proofs.DocumentLemmas.{parts_fit_widths, plan_fits_widths, plan_is_placed, plan_tree, roots_are_placed}
use Rattle.plan_link_laws.proofs.laws.consistent_plans_are_placed.Goals as goal

pub returns : goal.returns
returns c = record {
  tree = plan_tree (plan_view c.args.plan.now);
  widths = plan_fits_widths (plan_view c.args.plan.now);
  parts = parts_fit_widths (plan_view c.args.plan.now);
  placed = plan_is_placed (plan_view c.args.plan.now);
  roots = roots_are_placed (plan_view c.args.plan.now);
}
