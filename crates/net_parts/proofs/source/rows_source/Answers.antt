use Rattle.std.proofs.Common.{◌≡◌, ◌∙◌, [], ℕ, ap, drop, refl, sym}
use Rattle.row_ops.specs.ValueRows.{ValuesState}
use Rattle.driver_loop.specs.RowsSources.{RowsState}
use Rattle.net_parts.proofs.source.rows_source.Goals as goal

pub returns-clause-is : goal.returns-clause-is
returns-clause-is g c = λ net own task.
    let op : ValuesState = c.new-op.result in
    let none : op.given ≡ 0 = ap (λ (s : ValuesState). s.given) (sym c.new-op.ensures.fresh.made) in
    let all : op.rows ≡ c.in_ok-rows.rows =
    ap (λ (n : ℕ). drop n op.rows) (sym none) ∙ sym ((c.new-op.ensures.gives [] c.in_ok-rows.rows).1 refl) in
    record {
      own = c.new.result;
      is = c.rows.ensures;
      of = ap (λ (s : RowsState). s.rows) c.new.ensures ∙ all ∙ c.in_ok-rows.ensures;
    }
