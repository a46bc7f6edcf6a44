use Rattle.std.proofs.Common.{List, ap, map, subst, sym}
use Rattle.net_parts.specs.PlacedFilter.{PlacedFilter}
use Rattle.net_parts.specs.Filters.{scan_filters}
use Rattle.net_parts.specs.Pipes.{PipeForm, StepForm, pipe_view, step_view}
use Rattle.net_parts.specs.Makes.{StepsFit}
use Rattle.net_parts.specs.Nets.{IsTargetFor}
use Rattle.net_parts.specs.Makings.{AreStagesOf, typing_in}
use Rattle.net_parts.proofs.StockLemmas.{left_then, nets_left, stocked_left}
use Rattle.net_making.proofs.DriverLemmas.{made_for, made_new, ok_left}
use Rattle.net_making.proofs.driver.driver_of.Goals as goal

pub source_of-requires-clause-fits : goal.source_of-requires-clause-fits
source_of-requires-clause-fits g c = (c.requires.can.fits c.args.own (pipe_view c.args.pipe.now) c.requires.there).source

pub stages_for-requires-clause-fits : goal.stages_for-requires-clause-fits
stages_for-requires-clause-fits g c =
    let types = typing_in c.args.making.now in
    subst (λ (steps : List StepForm). StepsFit types (types c.args.own).halved steps (types c.args.own).taken) (ap (map step_view) (sym c.as_slice.ensures.value))
    (c.requires.can.fits c.args.own (pipe_view c.args.pipe.now) c.requires.there).steps

pub target_of-requires : goal.target_of-requires
target_of-requires g c = record { stocked = stocked_left c.args.making.now c.args.stock.now c.source_of.new.stock c.in_ok-source.ensures.left c.requires.stocked }

pub returns-clause-left : goal.returns-clause-left
returns-clause-left g c =
    ok_left c.new.result c.args.stock.now c.target_of.new.stock
    (left_then c.args.stock.now c.source_of.new.stock c.target_of.new.stock c.in_ok-source.ensures.left c.in_ok-target.ensures.left)

pub returns-clause-fresh : goal.returns-clause-fresh
returns-clause-fresh g c = made_new c.new.result c.args.number c.in_ok-source.source c.in_ok-stages.stages.items c.in_ok-target.target c.new.ensures

pub returns-clause-is : goal.returns-clause-is
returns-clause-is g c =
    let m = c.args.making.now in
    let own = c.args.own in
    let task = c.args.task in
    let pipe = pipe_view c.args.pipe.now in
    let stages = c.in_ok-stages.stages.items in
    let steps = ap (map step_view) c.as_slice.ensures.value in
    made_for m c.args.stock.now own task pipe c.new.result c.args.number c.in_ok-source.source stages c.in_ok-target.target c.new.ensures
    c.in_ok-source.ensures.is
    (λ labels labelled net for.
    subst (λ (layout : List PipeForm). AreStagesOf net own task (scan_filters layout pipe) pipe.steps stages) (sym for.layout)
    (subst (λ (filters : List PlacedFilter). AreStagesOf net own task filters pipe.steps stages) c.requires.filters
    (subst (λ (steps : List StepForm). AreStagesOf net own task c.args.filters.now steps stages) steps (c.in_ok-stages.ensures.are labels net for))))
    (nets_left m c.args.stock.now c.source_of.new.stock (λ net. IsTargetFor net own task pipe.target c.in_ok-target.target) c.in_ok-source.ensures.left c.in_ok-target.ensures.is)
