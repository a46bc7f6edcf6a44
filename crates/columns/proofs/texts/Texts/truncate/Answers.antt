use Rattle.std.proofs.Common.{◌≤◌, length, arith}
use Rattle.columns.proofs.TextLemmas.{AreTexts-by, AreTexts-take, takes}
use Rattle.columns.proofs.texts.Texts.truncate.Goals as goal

pub invariant_of-self : goal.invariant_of-self
invariant_of-self c =
    let within : c.args.len ≤ length c.self.inside.ends.items = grind (arith, takes) in
    AreTexts-by _ _ _ _ _ _ (grind arith) (grind arith) (grind arith) (AreTexts-take c.self.inside.bytes.items c.self.inside.ends.items c.self.inside.nulls.items c.args.len within c.self.invariant)
