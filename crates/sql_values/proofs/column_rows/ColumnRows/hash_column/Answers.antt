use Rattle.std.proofs.Common.{◌<◌, [], length, get_or, ap, sym, ◌∙◌, arith}
use Rattle.sql_values.specs.declared.value.Value.{Value}
use Rattle.sql_values.specs.declared.value.Value.TheVariants.{Null}
use Rattle.sql_values.specs.Buckets.{bytes_of, hash_after}
use Rattle.sql_values.specs.Cells.{cell}
use Rattle.sql_values.specs.ColumnRows.{TypedRows}
use Rattle.sql_values.proofs.ColumnRowsLemmas.{count-seen, reach, cell-rows_of, cell-rows_past}
use Rattle.sql_values.proofs.column_rows.ColumnRows.hash_column.Goals as goal

pub hash_cells-requires : goal.hash_cells-requires
hash_cells-requires c =
    omega (arith, count-seen _ _ _ _ _ c.self.invariant c.self.view_is, reach _ _ _ c.args.column c.in-Some.block.now c.self.invariant.filled (rw c.deref.ensures.value at c.in-Some.ensures.lookup.1) (omega (arith, ap length c.deref.ensures.value, c.in-Some.ensures.lookup.3.0)))

pub returns-in-Some : goal.returns-in-Some
returns-in-Some c = record {
  len = c.hash_cells.ensures.len;
  each = λ k h.
      let within : k < c.self.inside.count = omega (arith, h, count-seen _ _ _ _ _ c.self.invariant c.self.view_is) in
      let read = cell-rows_of _ _ _ c.args.column _ c.in-Some.block.now within c.self.invariant.filled (rw c.deref.ensures.value at c.in-Some.ensures.lookup.1) (omega (arith, ap length c.deref.ensures.value, c.in-Some.ensures.lookup.3.0)) in
      c.hash_cells.ensures.each k h ∙ ap (λ (v : Value). hash_after (get_or c.args.hashes.now k 0) (bytes_of v))
      (sym read ∙ ap (λ (r : TypedRows). cell (get_or r.rows k []) c.args.column) c.self.view_is);
}

pub returns-in-None : goal.returns-in-None
returns-in-None c = record {
  len = c.hash_nulls.ensures.len;
  each = λ k h.
      let within : k < c.self.inside.count = omega (arith, h, count-seen _ _ _ _ _ c.self.invariant c.self.view_is) in
      let read = cell-rows_past _ _ _ c.args.column _ within c.self.invariant.filled (omega (arith, ap length c.deref.ensures.value, c.in-None.ensures.lookup.3)) in
      c.hash_nulls.ensures.each k h ∙ ap (λ (v : Value). hash_after (get_or c.args.hashes.now k 0) (bytes_of v))
      (sym read ∙ ap (λ (r : TypedRows). cell (get_or r.rows k []) c.args.column) c.self.view_is);
}
