use Rattle.std.proofs.Common.{rules, ◌≡◌, ◌+◌, ◌-◌, take, drop, length, min, arith, ap, ◌∙◌}
use Rattle.page_window.proofs.WindowLemmas.{between_end}
use Rattle.page_window.proofs.window.PageWindow.copies.Goals as goal

pub returns : goal.returns
returns c =
    let held = c.args.self.now.held in
    let count : c.len.result ≡ length held = search rules in
    let place : c.loop-place.place ≡ c.args.from + min c.args.most (length held - c.args.from) = omega arith in
    c.loop-place.invariant ∙ ap (λ n. drop c.args.from (take n held)) place ∙ between_end held c.args.from c.args.most
