use Rattle.std.proofs.Common.{◌≡◌, length, ap, ◌∙◌, arith}
use Rattle.sql_values.specs.Cells.{cell, lent_value}
use Rattle.group_index.specs.Keys.{key_at}
use Rattle.group_index.proofs.KeyLemmas.{key-wide, one-cell}
use Rattle.group_index.proofs.index.GroupIndex.is_key.Goals as goal

pub returns-then-self-eq1 : goal.returns-then-self-eq1
returns-then-self-eq1 c =
    let key = key_at c.args.self.now c.args.place in
    let wide : length key ≡ c.self.inside.width = key-wide c.self.inside.width c.self.inside.keys c.args.self.now c.args.place c.self.view_is c.requires c.self.invariant.1 in
    one-cell key (lent_value c.cell.result) (lent_value c.args.key) c.is_same.result (omega (arith, wide, c.if-self-eq1.true))
    (c.cell.ensures ∙ ap (λ keys. cell (key_at keys c.args.place) 0) c.self.view_is) c.is_same.ensures
