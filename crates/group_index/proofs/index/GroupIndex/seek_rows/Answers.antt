use Rattle.std.proofs.Common.{map, ap, ◌∙◌, arith}
use Rattle.sql_values.specs.Cells.{cut}
use Rattle.cell_hashes.specs.Hashes.{hash_of}
use Rattle.group_index.proofs.KeyLemmas.{guess-of_each, stands-more}
use Rattle.group_index.proofs.index.GroupIndex.seek_rows.Goals as goal

pub find_from-requires : goal.find_from-requires
find_from-requires c =
    let guesses = c.in_ok-guesses.guesses.items in
    let hashes = c.self.inside.chains in
    c.index.ensures
    ∙ guess-of_each (cut c.args.columns.now) c.args.self.now c.args.page.now.rows hashes c.deref.result.now guesses c.loop-position.position c.index.result.now
    (c.self.invariant.0 ∙ ap (map hash_of) c.self.view_is) (c.deref.ensures.value ∙ c.in_ok-hashes.ensures) c.in_ok-guesses.ensures
    (omega (arith, c.loop-position-test.true, c.len-position-end.ensures.len))

pub loop-position-preserved : goal.loop-position-preserved
loop-position-preserved c =
    c.in_ok-push.ensures.items
    ∙ stands-more (cut c.args.columns.now) c.args.self.now c.args.page.now.rows c.loop-position.found.items c.loop-position.position c.find_from.result
    (omega (arith, c.loop-position-test.true, c.len-position-end.ensures.len)) c.loop-position.invariant c.find_from.ensures
