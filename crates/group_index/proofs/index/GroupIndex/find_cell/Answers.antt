use Rattle.std.proofs.Common.{◌∷◌, [], map, ap, ◌∙◌}
use Rattle.sql_values.specs.Cells.{lent_value}
use Rattle.cell_hashes.specs.Hashes.{hash_of}
use Rattle.group_index.proofs.KeyLemmas.{guess-by_hash}
use Rattle.group_index.proofs.index.GroupIndex.find_cell.Goals as goal

pub find_cell_from-requires : goal.find_cell_from-requires
find_cell_from-requires c =
    let key = lent_value c.args.key ∷ [] in
    c.last_of-guess.ensures ∙ guess-by_hash c.args.self.now c.self.inside.chains key c.hash_value.result (c.self.invariant.0 ∙ ap (map hash_of) c.self.view_is) c.hash_value.ensures
