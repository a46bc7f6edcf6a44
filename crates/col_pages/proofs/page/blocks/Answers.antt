use Rattle.std.proofs.Common.{◌<◌, length, arith}
use Rattle.std.proofs.lemmas.List.{get_or_default}
use Rattle.col_pages.proofs.PageLemmas.{blocks-more, cells-fit}
use Rattle.col_pages.proofs.page.blocks.Goals as goal

pub block-requires-clause-fits : goal.block-requires-clause-fits
block-requires-clause-fits c =
    let within : c.loop-place.place < length c.args.types.now = omega (arith, c.requires.beside) in
    cells-fit c.args.types.now c.args.columns.now _ c.loop-place.place _ _ c.requires.fits c.loop-place-test.true c.requires.beside
    (get_or_default _ _ _ _ within) (get_or_default _ _ _ _ c.loop-place-test.true)

pub loop-place-preserved : goal.loop-place-preserved
loop-place-preserved c =
    let within : c.loop-place.place < length c.args.types.now = omega (arith, c.requires.beside) in
    rw (c.in_ok-push.ensures.items, c.loop-place.invariant, c.into_run.ensures, c.in_ok-block.ensures)
    (blocks-more c.args.types.now c.args.columns.now _ c.loop-place.place _ _ c.requires.beside c.loop-place-test.true (get_or_default _ _ _ _ within) (get_or_default _ _ _ _ c.loop-place-test.true))
