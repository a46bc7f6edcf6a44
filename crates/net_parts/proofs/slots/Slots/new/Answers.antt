use Rattle.std.proofs.Common.{◌≡◌, ◌∙◌, None, ap, arith}
use Rattle.std.specs.Prelude.{replicate}
use Rattle.net_parts.proofs.slots.Slots.new.Goals as goal

pub returns : goal.returns
returns g c =
    let all : c.loop-number._number ≡ c.args.count = omega (arith, c.loop-number-test.false, c.loop-number.auto._number-end) in
    c.loop-number.invariant ∙ ap (λ n. replicate n None) all
