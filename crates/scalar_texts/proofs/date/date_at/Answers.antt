use Rattle.std.proofs.Common.{arith, ◌∙◌, FitsSigned, w32, w64, to_z-of_z}
use Rattle.jiff_core.proofs.SignedLemmas.{signed_arith}
use Rattle.scalar_texts.proofs.DateLemmas.{date_text_is}
use Rattle.scalar_texts.proofs.date.date_at.Goals as goal

pub returns-in-Ok : goal.returns-in-Ok
returns-in-Ok c =
    let narrow : FitsSigned w32 c.args.day = c.ranges.day in
    let same = simp to_z-of_z at c.from.ensures in
    let wide : FitsSigned w64 c.from.result = omega (arith, signed_arith, same) in
    let value = simp to_z-of_z at c.in-Ok.ensures.value in
    date_text_is c.in-Ok.date c.args.day (value ∙ same) (omega (arith, signed_arith)) (omega (arith, signed_arith))
