use Rattle.std.proofs.Common.{◌-◌, take, drop, length-take, arith}
use Rattle.col_pages.proofs.PageLemmas.{kinds-blocks, filled-blocks, length-blocks, common-blocks, rows-blocks}
use Rattle.col_pages.proofs.page.Page.of_rows.Goals as goal

pub of_blocks-requires-clause-some : goal.of_blocks-requires-clause-some
of_blocks-requires-clause-some c =
    rw c.in_ok-blocks.ensures (omega (arith, c.requires.some, length-blocks _ _ (take (c.args.high - c.args.low) (drop c.args.low c.args.rows.now)) c.requires.beside))

pub of_blocks-requires-clause-kinds : goal.of_blocks-requires-clause-kinds
of_blocks-requires-clause-kinds c =
    rw (c.in_ok-blocks.ensures, c.in_ok-from_slice.ensures.items) (kinds-blocks _ _ (take (c.args.high - c.args.low) (drop c.args.low c.args.rows.now)) c.requires.beside)

pub of_blocks-requires-clause-level : goal.of_blocks-requires-clause-level
of_blocks-requires-clause-level c =
    rw (c.in_ok-blocks.ensures, common-blocks _ _ (take (c.args.high - c.args.low) (drop c.args.low c.args.rows.now)) c.requires.some c.requires.beside) (filled-blocks _ _ _)

pub of_blocks-requires-clause-few : goal.of_blocks-requires-clause-few
of_blocks-requires-clause-few c =
    rw (c.in_ok-blocks.ensures, common-blocks _ _ (take (c.args.high - c.args.low) (drop c.args.low c.args.rows.now)) c.requires.some c.requires.beside)
    (omega (arith, c.requires.few, length-take (c.args.high - c.args.low) (drop c.args.low c.args.rows.now)))

pub returns : goal.returns
returns c =
    rw (c.in_ok-blocks.ensures, c.in_ok-from_slice.ensures.items, common-blocks _ _ (take (c.args.high - c.args.low) (drop c.args.low c.args.rows.now)) c.requires.some c.requires.beside, rows-blocks _ _ (take (c.args.high - c.args.low) (drop c.args.low c.args.rows.now)) c.requires.beside) at c.of_blocks.ensures
