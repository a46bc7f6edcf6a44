use Rattle.std.proofs.Common.{◌∙◌, All, IsTrue, ap, map, rules, subst, sym}
use Rattle.std.proofs.lemmas.List.Elements.{All-map}
use Rattle.plan_wiring.specs.Handed.{SeatsForm, seats_view}
use Rattle.net_parts.specs.Pipes.{pipe_view}
use Rattle.net_parts.specs.Stocks.{stock_of}
use Rattle.net_making.specs.Nets.{HasTask}
use Rattle.net_making.proofs.NetLemmas.{can_make, have_filter_cells, is_stocked, net_made}
use Rattle.net_making.proofs.nets.drivers_of.Goals as goal

pub make_all-requires-clause-can : goal.make_all-requires-clause-can
make_all-requires-clause-can g c =
    let layout = map pipe_view c.args.layout.now.pipes.items in
    let pipes = c.as_slice-pipes.result.now in
    let same = c.as_slice-pipes.ensures.value in
    let yes : IsTrue c.have_tasks.result = search rules in
    let tasks = subst (All HasTask) (ap (map pipe_view) same) (All-map HasTask pipe_view pipes (c.have_tasks.ensures yes)) in
    let filters = c.in_ok-filters.ensures ∙ ap (λ seats. map (λ (s : SeatsForm). s.filters) (map seats_view seats)) c.as_slice-2.ensures.value
    ∙ ap (map (λ (s : SeatsForm). s.filters)) c.in_ok-seats.ensures in
    can_make _ layout c.in_ok-types.types.items (ap (map pipe_view) (sym same)) c.as_slice-3.ensures.value c.in_ok-types.ensures
    c.requires.fits c.requires.readable c.requires.few
    (have_filter_cells layout c.args.tables.now c.args.split c.args.wiring.now.pipes.items c.in_ok-filters.filters tasks c.requires.wired.shares filters)
    c.requires.split c.requires.page

pub make_all-requires-clause-stocked : goal.make_all-requires-clause-stocked
make_all-requires-clause-stocked g c =
    is_stocked _ (map pipe_view c.args.layout.now.pipes.items) c.args.wiring.now.pipes.items c.in_ok-stock.stock (ap (map pipe_view) (sym c.as_slice-pipes.ensures.value)) c.requires.wired.shares
    (c.in_ok-stock.ensures ∙ ap stock_of c.in_ok-seats.ensures)

pub returns : goal.returns
returns g c =
    net_made (λ drivers. drivers.items) c.make_all.result _ (map pipe_view c.args.layout.now.pipes.items) c.args.wiring.now.pipes.items c.in_ok-stock.stock c.args.wiring.now.bells
    (ap (map pipe_view) (sym c.as_slice-pipes.ensures.value)) c.requires.wired.shares (c.in_ok-stock.ensures ∙ ap stock_of c.in_ok-seats.ensures)
    (c.in_ok-cells.ensures ∙ ap (λ seats. map (λ (s : SeatsForm). s.cells) (map seats_view seats)) c.as_slice.ensures.value ∙ ap (map (λ (s : SeatsForm). s.cells)) c.in_ok-seats.ensures)
    (c.in_ok-filters.ensures ∙ ap (λ seats. map (λ (s : SeatsForm). s.filters) (map seats_view seats)) c.as_slice-2.ensures.value
    ∙ ap (map (λ (s : SeatsForm). s.filters)) c.in_ok-seats.ensures)
    c.requires.wired.bells c.make_all.ensures.fresh c.make_all.ensures.are
