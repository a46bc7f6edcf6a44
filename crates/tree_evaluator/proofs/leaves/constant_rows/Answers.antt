use Rattle.std.proofs.Common.{ap, arith, length}
use Rattle.std.proofs.lemmas.List.FromFn.{length-range_with_len}
use Rattle.tree_evaluator.proofs.LeafLemmas.{whole_fit, whole_rows}
use Rattle.tree_evaluator.proofs.leaves.constant_rows.Goals as goal

pub scan_rows-requires-clause-beside : goal.scan_rows-requires-clause-beside
scan_rows-requires-clause-beside c = omega (arith, ap length c.as_slice.ensures.value, ap length c.in_ok-columns.ensures, length-range_with_len 0 (length c.args.types.now))

pub scan_rows-requires-clause-fits : goal.scan_rows-requires-clause-fits
scan_rows-requires-clause-fits c = rw (c.as_slice.ensures.value, c.in_ok-columns.ensures) (whole_fit c.args.types.now c.args.rows.now c.requires.fits)

pub returns : goal.returns
returns c = rw (← whole_rows c.args.types.now c.args.rows.now c.requires.fits) (rw (c.as_slice.ensures.value, c.in_ok-columns.ensures) at c.scan_rows.ensures)
