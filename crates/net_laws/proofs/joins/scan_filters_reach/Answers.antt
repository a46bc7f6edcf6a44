use Rattle.plan_docs.specs.Plans.{plan_view}
use Rattle.plan_layout.specs.Filters.{scan_filters}
use Rattle.plan_layout.specs.Layouts.{layout_of}
use Rattle.plan_layout.proofs.ScanFilterLemmas.{scan_filters_are_for}
use Rattle.net_laws.proofs.BuiltLemmas.{plan_scan_filters}
use Rattle.net_laws.proofs.joins.scan_filters_reach.Goals as goal

pub returns : goal.returns
returns c = λ consistent p tasks pipe scan reads.
    let plan = plan_view c.args.plan.now in
    plan_scan_filters plan consistent p tasks scan (scan_filters (layout_of p plan) pipe) (scan_filters_are_for (layout_of p plan) pipe scan reads)
