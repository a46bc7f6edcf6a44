use Rattle.std.proofs.Common.{◌≤◌, length, arith}
use Rattle.columns.proofs.TextLemmas.{AreTexts-by, AreTexts-cut, start-le-start, texts_of-cut, cuts}
use Rattle.columns.proofs.texts.Texts.cut.Goals as goal

pub slice_bounds-from_slice-count : goal.slice_bounds-from_slice-count
slice_bounds-from_slice-count c =
    let within : c.args.high ≤ length c.self.inside.ends.items = grind (arith, cuts) in
    let order = start-le-start c.self.inside.bytes.items c.self.inside.ends.items c.self.inside.nulls.items c.args.low c.args.high c.requires.order within c.self.invariant in
    grind (arith, order)

pub slice_bounds-from_slice-start : goal.slice_bounds-from_slice-start
slice_bounds-from_slice-start c = slice_bounds-from_slice-count c

pub invariant_of-result : goal.invariant_of-result
invariant_of-result c =
    let within : c.args.high ≤ length c.self.inside.ends.items = grind (arith, cuts) in
    AreTexts-by _ _ _ _ _ _ (grind arith) (grind arith) (grind arith)
    (AreTexts-cut c.self.inside.bytes.items c.self.inside.ends.items c.self.inside.nulls.items c.args.low c.args.high c.start_of-start.result c.start_of-end.result (grind arith) (grind arith) c.requires.order within c.self.invariant)

pub returns : goal.returns
returns c =
    let within : c.args.high ≤ length c.self.inside.ends.items = grind (arith, cuts) in
    let same = texts_of-cut c.self.inside.bytes.items c.self.inside.ends.items c.self.inside.nulls.items c.args.low c.args.high c.start_of-start.result c.start_of-end.result (grind arith) (grind arith) c.requires.order within c.self.invariant in
    grind (arith, same)
