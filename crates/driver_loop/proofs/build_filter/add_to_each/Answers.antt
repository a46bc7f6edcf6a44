use Rattle.std.proofs.Common.{◌++◌, ◌+◌, ◌<◌, ◌∙◌, arith, length}
use Rattle.std.proofs.Math.Seq.{map-set_same}
use Rattle.std.proofs.lemmas.Grind.{drop_more_same}
use Rattle.std.proofs.lemmas.List.{drop-set-lt}
use Rattle.driver_loop.specs.BuildFilters.{but_domain}
use Rattle.driver_loop.proofs.BuildFilterLemmas.{left_is, one_fed}
use Rattle.driver_loop.proofs.build_filter.add_to_each.Goals as goal

pub returns-in_err-add-clause-same : goal.returns-in_err-add-clause-same
returns-in_err-add-clause-same c =
    map-set_same but_domain c.loop-place.filters c.loop-place.place c.add.new.self c.index-filters-place.result c.add.ensures.same ∙ c.loop-place.invariant.same

pub loop-place-preserved : goal.loop-place-preserved
loop-place-preserved c =
    let i = c.loop-place.invariant in
    let filters = c.loop-place.filters in
    let place = c.loop-place.place in
    let new = c.add.new.self in
    let within : place < length filters = omega arith in
    record {
      same = map-set_same but_domain filters place new c.index-filters-place.result c.add.ensures.same ∙ i.same;
      rest = drop-set-lt (place + 1) filters place new (omega arith) ∙ drop_more_same filters c.args.filters.now place i.rest;
      taken = λ rows all. one_fed (rows ++ c.args.page.now.rows) filters place new within
          (c.in_ok-add.ensures.taken rows (left_is rows filters c.args.filters.now place c.index-filters-place.result within i.same i.rest all)) (i.taken rows all);
    }

pub returns-clause-taken : goal.returns-clause-taken
returns-clause-taken c = λ rows all k d less. c.loop-place.invariant.taken rows all k d (omega (arith, less))
