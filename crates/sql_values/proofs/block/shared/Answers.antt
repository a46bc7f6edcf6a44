use Rattle.std.proofs.Common.{◌≡◌, length, ap, ◌∙◌, arith}
use Rattle.std.specs.List.{range_with_len}
use Rattle.sql_values.specs.Blocks.{TypedCells, chosen}
use Rattle.sql_values.proofs.SharedLemmas.{places-below, places-whole}
use Rattle.sql_values.proofs.block.shared.Goals as goal

pub of_dictionary-requires : goal.of_dictionary-requires
of_dictionary-requires c =
    let count : c.in-Ok.count ≡ length c.in_ok-of.field-0.cells = grind arith in
    places-below (length c.in_ok-of.field-0.cells) c.in_ok-ids.ids.items (c.in_ok-ids.ensures ∙ ap (range_with_len 0) count)

pub returns : goal.returns
returns c =
    let count : c.in-Ok.count ≡ length c.args.block.cells = grind arith in
    c.of_dictionary.ensures ∙ ap (λ (t : TypedCells). chosen t c.in_ok-ids.ids.items) c.in_ok-of.ensures
    ∙ places-whole c.args.block c.in_ok-ids.ids.items (c.in_ok-ids.ensures ∙ ap (range_with_len 0) count)
