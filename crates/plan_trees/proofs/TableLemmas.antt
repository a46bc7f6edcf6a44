-- The order of the tables' rows changes nothing that is allowed.
use Rattle.std.proofs.Common.{List}
use Rattle.std.proofs.lemmas.List.Sorted.{IsPermutation-map, IsPermutation-sym, IsPermutation-trans}
use Rattle.sql_values.specs.declared.value.Value.{Value}
use Rattle.sql_values.specs.Cells.{cut}
use Rattle.plan_trees.specs.TreeForms.{TreeForm, scan, values, remote, step, join, union}
use Rattle.plan_trees.specs.Allowed.{Gives, Mode, scanned, table_rows}
use Rattle.plan_trees.specs.Laws.{SameTables}

module _ (mode : Mode) (tables others : List (List (List Value))) (same : SameTables tables others) where
  pub other_tables : (tree : TreeForm) (rows : List (List Value)) → Gives mode tree tables rows → Gives mode tree others rows
  other_tables (scan id table columns types) rows h =
      IsPermutation-trans (scanned others table columns) (scanned tables table columns) rows
      (IsPermutation-sym (scanned tables table columns) (scanned others table columns)
      (IsPermutation-map (cut columns) (table_rows tables table) (table_rows others table) (same table)))
      h
  other_tables (values id types constants) rows h = h
  other_tables (remote id input) rows (a, h, is) = (a, other_tables input a h, is)
  other_tables (step id s input) rows (a, h, gives) = (a, other_tables input a h, gives)
  other_tables (join id kind on left right) rows (a, b, h, k, is) = (a, b, other_tables left a h, other_tables right b k, is)
  other_tables (union id left right) rows (a, b, h, k, is) = (a, b, other_tables left a h, other_tables right b k, is)
