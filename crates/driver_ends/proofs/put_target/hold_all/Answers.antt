use Rattle.std.proofs.Common.{◌≡◌, ◌+◌, ◌<◌, [], length, map, rules, arith, sym, ap, ◌∙◌}
use Rattle.std.proofs.Math.Seq.{map-set_same}
use Rattle.std.proofs.lemmas.List.{length-set, length_push}
use Rattle.std.proofs.lemmas.List.Elements.{All-set}
use Rattle.output_buffer.specs.Edges.{end_count}
use Rattle.output_buffer.specs.Seats.{GatherPutState}
use Rattle.col_pages.specs.Pages.{TypedPage}
use Rattle.driver_ends.specs.Outlets.{OutletInOrder, OutletState, rows_sent}
use Rattle.driver_ends.specs.Targets.{add_each}
use Rattle.driver_ends.proofs.TargetLemmas.{add_none, clear_before, each_same, held_more, length_same}
use Rattle.driver_ends.proofs.put_target.hold_all.Goals as goal

pub hold-requires-clause-going : goal.hold-requires-clause-going
hold-requires-clause-going c =
    let seats = c.loop-page.invariant.seats in
    let long = length_same (λ (l : OutletState). l.seat) c.loop-page.outlets c.args.outlets.now seats in
    let fewer : length c.loop-page.pages.items ≡ c.len-place.result + 1 = omega (arith, ap length c.in-Some.ensures.items, length_push c.pop.new.self.items c.in-Some.page, c.len-place.ensures) in
    let less : c.len-place.result < length c.args.outlets.now = omega (arith, fewer, long, c.loop-page.invariant.few) in
    ap (λ (s : GatherPutState). end_count s.put) (each_same (λ (l : OutletState). l.seat) c.loop-page.outlets c.args.outlets.now seats c.len-place.result c.index-outlets-place.result)
    ∙ c.requires.going c.len-place.result c.index-outlets-place.result less

pub loop-page-preserved : goal.loop-page-preserved
loop-page-preserved c =
    let i = c.loop-page.invariant in
    let d = c.index-outlets-place.result in
    let n = c.len-place.result in
    let fewer : length c.loop-page.pages.items ≡ n + 1 = omega (arith, ap length c.in-Some.ensures.items, length_push c.pop.new.self.items c.in-Some.page, c.len-place.ensures) in
    let is : n ≡ length c.pop.new.self.items = omega (arith, c.len-place.ensures, c.pop.new.self.ok.0) in
    record {
      few = omega (arith, fewer, i.few, is, length-set c.loop-page.outlets n c.hold.new.self);
      clear = λ k e less. clear_before c.loop-page.outlets c.hold.new.self n (length c.loop-page.pages.items) fewer i.clear k e (omega (arith, less, is));
      order = All-set OutletInOrder c.loop-page.outlets n c.hold.new.self c.hold.ensures.order i.order;
      seats = map-set_same (λ (l : OutletState). l.seat) c.loop-page.outlets n c.hold.new.self d c.hold.ensures.seat ∙ i.seats;
      sent = held_more c.loop-page.outlets c.pop.new.self.items c.in-Some.page c.hold.new.self d n is (omega (arith, fewer, i.few)) c.hold.ensures.sent
          ∙ ap (λ pages. add_each (map rows_sent c.loop-page.outlets) (map (λ (p : TypedPage). p.rows) pages)) (sym c.in-Some.ensures.items)
          ∙ i.sent;
    }

pub returns-clause-sent : goal.returns-clause-sent
returns-clause-sent c =
    let none : c.loop-page.pages.items ≡ [] = search rules in
    sym (add_none (map rows_sent c.loop-page.outlets))
    ∙ ap (λ pages. add_each (map rows_sent c.loop-page.outlets) (map (λ (p : TypedPage). p.rows) pages)) (sym none)
    ∙ c.loop-page.invariant.sent
