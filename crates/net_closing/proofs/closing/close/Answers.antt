use Rattle.std.proofs.Common.{arith, map, refl}
use Rattle.std.proofs.lemmas.Result.{IfOk-weaker}
use Rattle.plan_layout.specs.Pipes.{pipe_view}
use Rattle.net_closing.proofs.CloseLemmas.{all_settled, taken_of_cells, taken_of_filter_cells, taken_of_net}
use Rattle.net_closing.proofs.LeftLemmas.{parts_of_all}
use Rattle.net_closing.proofs.closing.close.Goals as goal

pub are_followed-requires-clause-joins : goal.are_followed-requires-clause-joins
are_followed-requires-clause-joins g c =
    taken_of_cells (map pipe_view c.args.layout.now) c.args.drivers.items c.requires.net c.no_notes-notes.result c.take_all.new.notes c.in_ok-parts.parts c.no_notes-notes.ensures c.in_ok-parts.ensures
    (λ number lt. c.in_ok-cover_all.ensures number (omega (arith, c.len.ensures, c.args.drivers.ok.0, lt)))

pub are_followed-requires-clause-filters : goal.are_followed-requires-clause-filters
are_followed-requires-clause-filters g c =
    taken_of_filter_cells (map pipe_view c.args.layout.now) c.args.drivers.items c.requires.net c.no_notes-notes.result c.take_all.new.notes c.in_ok-parts.parts c.no_notes-notes.ensures c.in_ok-parts.ensures
    (λ number lt. c.in_ok-cover_all.ensures number (omega (arith, c.len.ensures, c.args.drivers.ok.0, lt)))

pub settle-requires : goal.settle-requires
settle-requires g c =
    taken_of_net (map pipe_view c.args.layout.now) c.args.drivers.items c.requires.net c.no_notes-notes.result c.take_all.new.notes c.in_ok-parts.parts c.no_notes-notes.ensures c.in_ok-parts.ensures

pub returns-clause-settled : goal.returns-clause-settled
returns-clause-settled g c =
    let layout = map pipe_view c.args.layout.now in
    let drivers = c.args.drivers.items in
    let parts = c.in_ok-parts.parts in
    let taken = c.in_ok-parts.ensures in
    let followed = c.if-not-are_followed.ensures in
    IfOk-weaker c.settle.result _ _ (λ _ back. all_settled layout drivers c.requires.net c.no_notes-notes.result c.take_all.new.notes parts c.no_notes-notes.ensures taken (followed.joins refl)
    (followed.filters refl) (back drivers (parts_of_all drivers parts taken.all))) c.settle.ensures.back

pub returns-clause-rows : goal.returns-clause-rows
returns-clause-rows g c =
    let drivers = c.args.drivers.items in
    let parts = c.in_ok-parts.parts in
    IfOk-weaker c.settle.result _ _ (λ _ given. given drivers (parts_of_all drivers parts c.in_ok-parts.ensures.all)) c.settle.ensures.rows

pub returns-clause-passed : goal.returns-clause-passed
returns-clause-passed g c = IfOk-weaker c.settle.result _ _ (λ _ counts. counts c.args.drivers.items c.in_ok-parts.ensures.all.passed) c.settle.ensures.passed
