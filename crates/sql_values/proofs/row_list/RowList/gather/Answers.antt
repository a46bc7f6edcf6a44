use Rattle.std.proofs.Common.{◌≡◌, ◌∙◌, ℕ, [], ap, arith}
use Rattle.sql_values.proofs.RowListLemmas.{gathered, gathered-none, gathered-more}
use Rattle.sql_values.proofs.row_list.RowList.gather.Goals as goal

pub loop-place-init : goal.loop-place-init
loop-place-init c = c.new-block.ensures ∙ gathered-none _ c.args.column c.args.self.now c.args.low

pub loop-place-preserved : goal.loop-place-preserved
loop-place-preserved c =
    gathered-more c.args.kind c.args.column c.args.self.now c.args.low c.loop-place.place c.loop-place.block _ _ _
    c.loop-place.invariant c.cell.ensures c.in_ok-push.ensures.taken c.in_ok-push.ensures.ok (c.requires.fits c.loop-place.place [] (omega (arith, c.requires.within))) c.loop-place.auto.place (omega (arith, c.requires.within))

pub returns : goal.returns
returns c =
    let end : c.loop-place.place ≡ c.args.high = omega (arith, c.loop-place.auto.place-end, c.requires.order) in
    c.loop-place.invariant ∙ ap (λ (n : ℕ). gathered c.args.kind c.args.column c.args.self.now c.args.low n) end
