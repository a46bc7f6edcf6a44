use Rattle.std.proofs.Common.{◌∙◌, arith}
use Rattle.stage_moves.proofs.MoveLemmas.{giver-before}
use Rattle.stage_moves.proofs.moves.is_giver_finished.Goals as goal

pub returns : goal.returns
returns g c = c.is_finished.ensures ∙ giver-before g.S.Operator c.args.ended c.args.stages.now c.args.place _ (omega (arith, c.if-place-eq0.false)) c.requires c.index-stages-place.is
