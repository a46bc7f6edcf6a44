use Rattle.std.proofs.Common.{◌≡◌, ◌++◌, length, arith}
use Rattle.std.proofs.lemmas.Grind.{common_steps}
use Rattle.columns.proofs.TextLemmas.{AreTexts-by, AreTexts-push}
use Rattle.columns.proofs.texts.Texts.add.Goals as goal

pub invariant_of-self-2 : goal.invariant_of-self-2
invariant_of-self-2 c =
    let end : c.len.result ≡ length (c.self.inside.bytes.items ++ c.args.text.now) = grind (arith, common_steps) in
    AreTexts-by _ _ _ _ _ _ (grind arith) (grind arith) (grind arith)
    (AreTexts-push c.self.inside.bytes.items c.self.inside.ends.items c.args.text.now c.len.result c.self.inside.nulls.items c.args.missing end c.utf8.text c.self.invariant)
