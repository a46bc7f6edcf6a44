use Rattle.std.proofs.Common.{◌≡◌, ◌≤◌, false, arith, length}
use Rattle.std.proofs.lemmas.List.{take_all}
use Rattle.operator_examples.specs.Samples.{has_null}
use Rattle.operator_examples.proofs.SampleLemmas.{none_null}
use Rattle.operator_examples.proofs.not_null.first_null.Goals as goal

pub returns : goal.returns
returns c =
    let end : length c.args.page.now.rows ≤ c.loop-place.place = omega arith in
    let none : has_null c.args.column c.args.page.now.rows ≡ false = rw take_all at c.loop-place.invariant in
    (none, none_null c.args.column c.args.page.now.rows none)
