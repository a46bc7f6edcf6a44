use Rattle.std.proofs.Common.{◌+◌, ◌<◌, ◌∙◌, ◌≤◌, Option, arith, get_or, length, subst, true}
use Rattle.std.specs.Prelude.{MatchOption}
use Rattle.std.proofs.Math.Seq.{map-set_same}
use Rattle.std.proofs.lemmas.List.Elements.{All-set}
use Rattle.blocked.specs.declared.blocked_on.BlockedOn.{BlockedOn}
use Rattle.driver_loop.specs.BuildFilters.{IsFilterOf, IsPublishedPart, IsStuckPart, build_filter_made, parts_refused}
use Rattle.driver_loop.proofs.BuildFilterLemmas.{one_published, rang_more, refused_more, stuck_part}
use Rattle.driver_loop.proofs.build_filter.BuildFilterPublishDomains.publish_all.Goals as goal

pub returns-in_err-on-clause-made : goal.returns-in_err-on-clause-made
returns-in_err-on-clause-made g c =
    map-set_same build_filter_made c.loop-place.filters c.loop-place.place c.publish_domain.new.self c.index-filters-place.result c.publish_domain.ensures.made ∙ c.loop-place.invariant.made

pub returns-in_err-on-clause-of : goal.returns-in_err-on-clause-of
returns-in_err-on-clause-of g c = λ rows all.
    let own = c.loop-place.invariant.of rows all in
    All-set (IsFilterOf rows true) c.loop-place.filters c.loop-place.place c.publish_domain.new.self
    (c.publish_domain.ensures.of rows (own c.loop-place.place c.index-filters-place.result (omega arith))) own

pub returns-in-Some-clause-made : goal.returns-in-Some-clause-made
returns-in-Some-clause-made g c =
    map-set_same build_filter_made c.loop-place.filters c.loop-place.place c.publish_domain.new.self c.index-filters-place.result c.publish_domain.ensures.made ∙ c.loop-place.invariant.made

pub returns-in-Some-clause-of : goal.returns-in-Some-clause-of
returns-in-Some-clause-of g c = λ rows all.
    let own = c.loop-place.invariant.of rows all in
    All-set (IsFilterOf rows true) c.loop-place.filters c.loop-place.place c.publish_domain.new.self
    (c.publish_domain.ensures.of rows (own c.loop-place.place c.index-filters-place.result (omega arith))) own

pub returns-in-Some-clause-answer : goal.returns-in-Some-clause-answer
returns-in-Some-clause-answer g c =
    let i = c.loop-place.invariant in
    let filters = c.loop-place.filters in
    let place = c.loop-place.place in
    let new = c.publish_domain.new.self in
    let d = c.index-filters-place.result in
    let within : place < length filters = omega arith in
    let s = subst (λ (o : Option BlockedOn). MatchOption o (IsPublishedPart new) (λ on. IsStuckPart (get_or filters place d) new on × g.B.Bells.shown c.publish_domain.new.bells on.bell on.seen))
    c.in-Some.is c.in_ok-on.ensures.answer in
    (stuck_part c.args.filters.now filters place new d c.in-Some.on within i.before i.refused s.0, s.1)

pub returns-in-Some-clause-rang : goal.returns-in-Some-clause-rang
returns-in-Some-clause-rang g c = λ bell times rang.
    rang_more (g.B.Bells.rang c.loop-place.bells bell) (g.B.Bells.rang c.publish_domain.new.bells bell) c.loop-place.filters c.publish_domain.new.self c.index-filters-place.result c.loop-place.place bell
    (omega arith) (λ t. c.in_ok-on.ensures.rang bell t) times (c.loop-place.invariant.rang bell times rang)

pub loop-place-preserved : goal.loop-place-preserved
loop-place-preserved g c =
    let i = c.loop-place.invariant in
    let filters = c.loop-place.filters in
    let place = c.loop-place.place in
    let new = c.publish_domain.new.self in
    let d = c.index-filters-place.result in
    let within : place < length filters = omega arith in
    let is = subst (λ (o : Option BlockedOn). MatchOption o (IsPublishedPart new) (λ on. IsStuckPart (get_or filters place d) new on × g.B.Bells.shown c.publish_domain.new.bells on.bell on.seen))
    c.in-None.is c.in_ok-on.ensures.answer in
    record {
      made = map-set_same build_filter_made filters place new d c.publish_domain.ensures.made ∙ i.made;
      of = λ rows all. All-set (IsFilterOf rows true) filters place new (c.publish_domain.ensures.of rows (i.of rows all place d within)) (i.of rows all);
      before = one_published filters place new within is i.before;
      refused = refused_more (parts_refused c.args.filters.now) filters place new d within i.refused c.publish_domain.ensures.refused;
      shown = λ bell count shown. c.in_ok-on.ensures.bells bell count (i.shown bell count shown);
      rang = λ bell times rang. rang_more (g.B.Bells.rang c.loop-place.bells bell) (g.B.Bells.rang c.publish_domain.new.bells bell) filters new d place bell within
          (λ t. c.in_ok-on.ensures.rang bell t) times (i.rang bell times rang);
    }
