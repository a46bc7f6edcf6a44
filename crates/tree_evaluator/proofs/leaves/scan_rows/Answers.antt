use Rattle.std.proofs.Common.{◌≡◌, ◌∙◌, ◌+◌, ◌-◌, ◌++◌, List, ap, sym, arith, drop, map, subst, take}
use Rattle.sql_values.specs.declared.types.SqlType.{SqlType}
use Rattle.sql_values.specs.Cells.{cut}
use Rattle.col_pages.specs.Pages.{TypedPage}
use Rattle.col_pages.specs.Fits.{AllFit}
use Rattle.tree_evaluator.proofs.LeafLemmas.{part_fits, part_more}
use Rattle.tree_evaluator.proofs.leaves.scan_rows.Goals as goal

pub push-requires-clause-fits : goal.push-requires-clause-fits
push-requires-clause-fits c =
    subst (λ (ts : List SqlType). AllFit ts c.in_ok-page.page.rows) (sym c.loop-low.invariant.types)
    (subst (AllFit c.args.types.now) (sym (ap (λ (p : TypedPage). p.rows) c.in_ok-page.ensures))
    (part_fits c.args.types.now c.args.columns.now c.args.rows.now c.loop-low.low (c.loop-low.low + c.min.result - c.loop-low.low) c.requires.fits))

pub loop-low-preserved : goal.loop-low-preserved
loop-low-preserved c =
    let count : c.loop-low.low + c.min.result - c.loop-low.low ≡ c.min.result = omega arith in
    record {
      types = ap (λ (p : TypedPage). p.types) c.in_ok-push.ensures.ok ∙ c.loop-low.invariant.types;
      rows = ap (λ (p : TypedPage). p.rows) c.in_ok-push.ensures.ok
          ∙ (λ i. c.loop-low.invariant.rows i ++ ap (λ (p : TypedPage). p.rows) c.in_ok-page.ensures i)
          ∙ ap (λ n. map (cut c.args.columns.now) (take c.loop-low.low c.args.rows.now) ++ map (cut c.args.columns.now) (take n (drop c.loop-low.low c.args.rows.now))) count
          ∙ part_more c.args.columns.now c.args.rows.now c.loop-low.low c.min.result;
      within = omega (arith, c.min.ensures, c.len-in-loop-low.ensures, c.len.ensures, c.loop-low-test.true);
    }
