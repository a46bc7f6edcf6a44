use Rattle.std.proofs.Common.{◌++◌, flat_map}
use Rattle.plan_wiring.specs.Bells.{gather_bells, spread_bells}
use Rattle.plan_wiring.specs.Wirings.{cell_bells, filter_bells}
use Rattle.plan_wiring.proofs.BellLemmas.{numbers_behind}
use Rattle.plan_wiring.proofs.wiring.share_of.Goals as goal

pub returns-clause-bells : goal.returns-clause-bells
returns-clause-bells c =
    let gathers = flat_map gather_bells c.in_ok-gathers.gathers.items in
    let spreads = flat_map spread_bells c.in_ok-spreads.spreads.items in
    let cells = cell_bells c.in_ok-cells.cells.items in
    numbers_behind c.args.bells.now.next c.cells_of.new.bells.next c.filters_of.new.bells.next (gathers ++ spreads ++ cells) (filter_bells c.in_ok-filters.filters.items)
    (numbers_behind c.args.bells.now.next c.spreads_of.new.bells.next c.cells_of.new.bells.next (gathers ++ spreads) cells
    (numbers_behind c.args.bells.now.next c.gathers_of.new.bells.next c.spreads_of.new.bells.next gathers spreads c.in_ok-gathers.ensures.bells c.in_ok-spreads.ensures.bells)
    c.in_ok-cells.ensures.bells) c.in_ok-filters.ensures.bells
