use Rattle.std.proofs.Common.{map, ap, ◌∙◌}
use Rattle.sql_values.specs.Cells.{cut}
use Rattle.cell_hashes.specs.Hashes.{hash_of}
use Rattle.group_index.proofs.KeyLemmas.{guess-by_hash}
use Rattle.group_index.proofs.index.GroupIndex.find_cells.Goals as goal

pub find_cells_from-requires : goal.find_cells_from-requires
find_cells_from-requires g c =
    let key = cut c.args.columns.now (g.C.Cells.values c.args.cells.now) in
    c.last_of-guess.ensures ∙ guess-by_hash c.args.self.now c.self.inside.chains key c.hash_cells.result (c.self.invariant.0 ∙ ap (map hash_of) c.self.view_is) c.hash_cells.ensures
