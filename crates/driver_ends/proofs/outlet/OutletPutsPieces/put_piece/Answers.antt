use Rattle.std.proofs.Common.{◌≡◌, ℕ, ◌+◌, [], ◌∷◌, ◌++◌, Bool, true, false, cond, length, rules, arith, sym, ap, subst, ◌∙◌}
use Rattle.std.proofs.lemmas.List.{length_push}
use Rattle.std.specs.Prelude.{nat_eq}
use Rattle.blocked.specs.Rings.{rings_at}
use Rattle.output_buffer.specs.declared.piece.Piece.{Piece}
use Rattle.driver_ends.specs.Outlets.{OutletState, outlet_dues, outlet_put}
use Rattle.driver_ends.proofs.outlet.OutletPutsPieces.put_piece.Goals as goal

one_more : (mine : Bool) (times n m : ℕ) → m ≡ n + 1 → (times + cond mine n 0) + cond mine 1 0 ≡ times + cond mine m 0
one_more true times n m is = omega (arith, is)
one_more false times n m is = omega arith

-- a ring for a piece that was put is the one that is due
dues_more : (bell number : ℕ) (old new : OutletState) (piece : Piece) → number ≡ old.seat.edge.bells.piece → new ≡ outlet_put old piece →
    (times : ℕ) → (times + outlet_dues old bell) + rings_at bell number ≡ times + outlet_dues new bell
dues_more bell number old new piece its is times =
    ap (λ n. (times + outlet_dues old bell) + rings_at bell n) its
    ∙ one_more (nat_eq bell old.seat.edge.bells.piece) times (length old.seat.put) (length (old.seat.put ++ piece ∷ [])) (length_push old.seat.put piece)
    ∙ ap (λ (l : OutletState). times + outlet_dues l bell) (sym is)

pub returns-in_ok-ring-in-Ok-clause-rang : goal.returns-in_ok-ring-in-Ok-clause-rang
returns-in_ok-ring-in-Ok-clause-rang g c = λ bell times was.
    let before = times + outlet_dues c.args.self.now bell in
    subst (g.B.Bells.rang c.ring.new.self bell)
    (dues_more bell c.in-Ok.due.number c.args.self.now c.put_behind.new.self c.args.piece c.in-Ok.ensures.due c.in-Ok.ensures.put times)
    (c.ring.ensures.rang bell before (c.read-seen.ensures.rang bell before was))

pub returns-in-Err-clause-full : goal.returns-in-Err-clause-full
returns-in-Err-clause-full g c = search rules
