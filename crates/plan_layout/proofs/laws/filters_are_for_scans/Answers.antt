use Rattle.plan_layout.proofs.ScanFilterLemmas.{scan_filters_are_for}
use Rattle.plan_layout.proofs.laws.filters_are_for_scans.Goals as goal

pub returns : goal.returns
returns c = scan_filters_are_for
