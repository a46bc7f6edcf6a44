use Rattle.std.proofs.Common.{◌<◌, length, arith}
use Rattle.columns.proofs.TextLemmas.{text-utf8, reads}
use Rattle.columns.proofs.texts.Texts.get.Goals as goal

pub from_utf8_unchecked-requires : goal.from_utf8_unchecked-requires
from_utf8_unchecked-requires c =
    let within : c.args.place < length c.self.inside.ends.items = grind (arith, reads) in
    rw c.deref.ensures.value
    (text-utf8 c.self.inside.bytes.items c.self.inside.ends.items c.self.inside.nulls.items c.args.place c.start_of-start.result c.index-end.result.now (grind arith) c.index-end.ensures within c.self.invariant)
