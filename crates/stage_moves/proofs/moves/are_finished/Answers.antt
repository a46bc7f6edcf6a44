use Rattle.std.proofs.Common.{◌∙◌, arith}
use Rattle.stage_moves.proofs.MoveLemmas.{last-is}
use Rattle.stage_moves.proofs.moves.are_finished.Goals as goal

pub returns : goal.returns
returns g c = c.is_finished.ensures ∙ last-is g.S.Operator c.args.ended c.args.stages.now _ (omega (arith, c.if-count-eq0.false)) c.index-stages-count.is
