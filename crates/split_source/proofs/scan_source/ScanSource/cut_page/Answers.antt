use Rattle.std.proofs.Common.{rules, ◌≡◌, ◌++◌, ◌+◌, ◌-◌, ◌≤◌, ℕ, map, take, drop, arith, ap, sym, ◌∙◌}
use Rattle.sql_values.specs.Cells.{cut}
use Rattle.split_source.specs.Scans.{claimed, given}
use Rattle.split_source.specs.InScanSource.{scan_view}
use Rattle.split_source.proofs.ScanLemmas.{given_more, still_more}
use Rattle.split_source.proofs.scan_source.ScanSource.cut_page.Goals as goal

pub invariant_of-self : goal.invariant_of-self
invariant_of-self c =
    let s = c.self.inside in
    let i = c.self.invariant in
    let p = i.place in
    let k : ℕ = c.min.result in
    let few : k ≤ s.high - s.low = search rules in
    record {
      scannable = record { size = i.scannable.size; page = i.scannable.page; most = i.scannable.most; few = i.scannable.few; count = i.scannable.count; some = i.scannable.some; fits = i.scannable.fits };
      columns = i.columns;
      place = record {
        order = omega (arith, few, p.order);
        within = p.within;
        still = still_more (cut s.columns.items) (claimed (scan_view s)) s.table.now.rows s.low s.high k p.order p.within few p.still;
        over = λ e. let same : s.low ≡ s.high = p.over e in omega (arith, few, same);
      };
    }

pub returns-clause-page : goal.returns-clause-page
returns-clause-page c =
    let s = c.self.inside in
    let p = c.self.invariant.place in
    let k : ℕ = c.min.result in
    let few : k ≤ s.high - s.low = search rules in
    let more = given_more (cut s.columns.items) (claimed (scan_view s)) s.table.now.rows s.low s.high k p.order p.within few p.still in
    let size : (s.low + k) - s.low ≡ k = omega arith in
    let page : c.in_ok-page.page.rows ≡ map (cut s.columns.items) (take ((s.low + k) - s.low) (drop s.low s.table.now.rows)) = search rules in
    more ∙ ap (λ v. given v ++ map (cut s.columns.items) (take k (drop s.low s.table.now.rows))) c.self.view_is ∙ ap (λ ys. given c.args.self.now ++ ys) (sym (page ∙ ap (λ j. map (cut s.columns.items) (take j (drop s.low s.table.now.rows))) size))
