use Rattle.std.proofs.Common.{◌≡◌, [], length, refl, rules, arith, sym, ap, subst, ◌∙◌}
use Rattle.std.proofs.lemmas.List.{length-map}
use Rattle.driver_ends.specs.Outlets.{new_outlet}
use Rattle.driver_ends.specs.Targets.{FitsKind}
use Rattle.driver_ends.proofs.TargetLemmas.{new_early, new_in_order, new_sent}
use Rattle.driver_ends.proofs.put_target.PutTarget.new.Goals as goal

pub invariant_of-result : goal.invariant_of-result
invariant_of-result c =
    let long : length c.in_ok-outlets.outlets.items ≡ length c.args.seats.items = ap length c.in_ok-outlets.ensures ∙ length-map c.args.seats.items new_outlet in
    record {
      fits = subst (FitsKind c.args.kind) (sym long) c.requires.fits;
      waits = λ is. refl;
      early = λ is. new_early c.args.seats.items c.in_ok-outlets.outlets.items c.in_ok-outlets.ensures c.requires.fresh;
      order = new_in_order c.args.seats.items c.in_ok-outlets.outlets.items c.in_ok-outlets.ensures c.requires.fresh;
      none = search rules;
      room = omega (arith, long, c.in_ok-room.ensures.capacity, c.len.ensures, c.args.seats.ok.0);
    }

pub returns-clause-sent : goal.returns-clause-sent
returns-clause-sent c = record {
  spread = [];
  whole = refl;
  sent = new_sent c.args.kind c.args.seats.items c.in_ok-outlets.outlets.items c.in_ok-outlets.ensures c.requires.fresh;
}
