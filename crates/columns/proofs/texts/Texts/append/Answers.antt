use Rattle.std.proofs.Common.{◌≡◌, ◌+◌, ◌^◌, ◌<◌, length, ap, arith}
use Rattle.std.proofs.lemmas.Grind.{common_steps}
use Rattle.columns.proofs.TextLemmas.{AreTexts-by, AreTexts-append, texts_of-append, ends-fit}
use Rattle.columns.proofs.texts.Texts.append.Goals as goal

pub append_ends-requires-clause-fits : goal.append_ends-requires-clause-fits
append_ends-requires-clause-fits c =
    let fits : c.len-start.result + length c.other.inside.bytes.items < 2 ^ 64 = omega (arith, c.extend_from_slice.new.self.ok, c.extend_from_slice.new.self.small, c.in_ok-extend_from_slice.ensures.len, ap length c.as_slice.ensures.value) in
    rw c.as_slice-3.ensures.value (ends-fit c.other.inside.bytes.items c.other.inside.ends.items c.other.inside.nulls.items c.len-start.result (2 ^ 64) c.other.invariant fits)

pub invariant_of-self-2 : goal.invariant_of-self-2
invariant_of-self-2 c =
    let start : c.len-start.result ≡ length c.self.inside.bytes.items = grind (arith, common_steps) in
    AreTexts-by _ _ _ _ _ _ (grind arith) (grind arith) (grind arith)
    (AreTexts-append c.self.inside.bytes.items c.self.inside.ends.items c.other.inside.bytes.items c.other.inside.ends.items c.self.inside.nulls.items c.other.inside.nulls.items c.len-start.result start c.self.invariant c.other.invariant)

pub returns-clause-ok : goal.returns-clause-ok
returns-clause-ok c =
    let start : c.len-start.result ≡ length c.self.inside.bytes.items = grind (arith, common_steps) in
    let same = texts_of-append c.self.inside.bytes.items c.self.inside.ends.items c.other.inside.bytes.items c.other.inside.ends.items c.self.inside.nulls.items c.other.inside.nulls.items c.len-start.result start c.self.invariant c.other.invariant in
    grind (arith, same)
