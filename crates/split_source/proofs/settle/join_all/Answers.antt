use Rattle.std.proofs.Common.{rules, ◌≡◌, [], ◌∷◌, ◌++◌, arith, ap, sym, ◌∙◌, subst}
use Rattle.split_source.specs.declared.draws.Drawn.{Drawn}
use Rattle.split_source.specs.Claims.{together}
use Rattle.split_source.specs.Gathered.{drawn_by, Joined}
use Rattle.split_source.proofs.JoinLemmas.{joined_one, joined_none, front_of}
use Rattle.split_source.proofs.settle.join_all.Goals as goal

pub loop-seat-preserved : goal.loop-seat-preserved
loop-seat-preserved c =
    let i = c.loop-seat.invariant in
    let is : c.loop-seat.seats.items ≡ c.pop.new.self.items ++ c.in-Some.seat ∷ [] = c.in-Some.ensures.items in
    let joined : c.join.new.pen.me.0 ≡ together c.loop-seat.pen.me.0 (drawn_by c.in-Some.seat) = ap (λ m. m.0) c.join.ensures.joined in (
      c.join.ensures.place ∙ i.0,
      omega (arith, ap (λ (v : Drawn). v.seats) joined),
      ap (λ m. m.1) c.join.ensures.joined,
      front_of (record { table = c.args.word.now.table_id; of = c.args.word.now.key }) c.loop-seat.seats.items c.pop.new.self.items c.in-Some.seat is i.3,
      λ after j. i.4 after (subst (λ xs. Joined c.loop-seat.pen.me.0 xs after) (sym is) (joined_one c.loop-seat.pen.me.0 c.pop.new.self.items c.in-Some.seat after (subst (λ v. Joined v c.pop.new.self.items after) joined j))),
    )

pub returns-clause-joined : goal.returns-clause-joined
returns-clause-joined c =
    let none : c.loop-seat.seats.items ≡ [] = search rules in
    c.loop-seat.invariant.4 c.loop-seat.pen.me.0 (subst (λ xs. Joined c.loop-seat.pen.me.0 xs c.loop-seat.pen.me.0) (sym none) (joined_none c.loop-seat.pen.me.0))
