-- The pipes of a layout that have a scan take from a table.
use Rattle.std.proofs.Common.{◌≡◌, ℕ, ◌+◌, List, [], ◌∷◌, ◌++◌, refl, Some}
use Rattle.std.specs.Prelude.{slice_get}
use Rattle.plan_docs.specs.Nodes.{NodeForm}
use Rattle.plan_docs.specs.Nodes as node
use Rattle.plan_docs.specs.Plans.{FragmentForm, PlanForm}
use Rattle.plan_spreads.proofs.EachLemmas.{Each, each_at, each_join}
use Rattle.plan_layout.specs.declared.pipe.Parallelism.{Parallelism}
use Rattle.plan_layout.specs.Edges.{target_of}
use Rattle.plan_layout.specs.Layouts.{fragment_pipes, laid, layout_of, site_of}
use Rattle.plan_layout.specs.Pipes.{PipeForm}
use Rattle.plan_layout.specs.Steps.{scan_read, source_of}
use Rattle.plan_layout.proofs.PipeLemmas.{each_block}
use Rattle.net_laws.specs.Tidy.{IsOwnScan}

abbrev HasOwnScan : PipeForm → Type 0
HasOwnScan pipe = IsOwnScan pipe.source pipe.scan

own_scan : (n : NodeForm) → IsOwnScan (source_of n) (scan_read n)
own_scan (node.scan id place columns types) = tt
own_scan (node.values id types list) = refl
own_scan (node.remote id number) = refl
own_scan (node.step id operator input) = own_scan input
own_scan (node.join id kind on filters left right) = own_scan left
own_scan (node.union id left right) = refl

all_scans : (p : Parallelism) (fragments : List FragmentForm) (fs : List FragmentForm) (number : ℕ) (done : List PipeForm) → Each HasOwnScan done
    → Each HasOwnScan (laid p fragments number done fs)
all_scans p fragments [] number done each = each
all_scans p fragments (f ∷ fs) number done each =
    let s = site_of p fragments number f in
    let target = target_of number f.output done in
    all_scans p fragments fs (number + 1) (done ++ fragment_pipes s done target f.root)
    (each_join HasOwnScan done (fragment_pipes s done target f.root) each
    (each_block HasOwnScan s (λ next aim n. own_scan n) (λ pipe at numbers h. refl) (λ pipe numbers h. h) done target f.root))

pub plan_scans : (p : Parallelism) (plan : PlanForm) (at : ℕ) (pipe : PipeForm) → slice_get (layout_of p plan) at ≡ Some pipe → IsOwnScan pipe.source pipe.scan
plan_scans p plan at pipe is = each_at HasOwnScan (layout_of p plan) at pipe is (all_scans p plan.fragments plan.fragments 0 [] tt)
