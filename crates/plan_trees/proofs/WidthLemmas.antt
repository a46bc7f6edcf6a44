-- The rows that a tree gives have its width.
use Rattle.std.proofs.Common.{◌+◌, List, ◌++◌, sym, ◌∙◌, length, subst}
use Rattle.std.proofs.lemmas.List.{length-append}
use Rattle.std.proofs.lemmas.List.Elements.{All-append, All-map}
use Rattle.std.proofs.lemmas.List.Sorted.{All-permutation}
use Rattle.sql_values.specs.declared.value.Value.{Value}
use Rattle.sql_values.specs.Cells.{cut}
use Rattle.relation_laws.specs.Joins.{join_of}
use Rattle.relation_laws.specs.Widths.{HaveWidth}
use Rattle.relation_laws.proofs.WidthLemmas.{cut_width, join_width}
use Rattle.plan_trees.specs.TreeForms.{TreeForm, scan, values, remote, step, join, union}
use Rattle.plan_trees.specs.TreeTypes.{types_of}
use Rattle.plan_trees.specs.Allowed.{Gives, Mode, scanned, table_rows, width_of}
use Rattle.plan_trees.specs.Widths.{FitsWidths}
use Rattle.plan_trees.proofs.JudgeLemmas.{Wide}
use Rattle.plan_trees.proofs.StepLemmas.{step_width}

module _ (mode : Mode) (tables : List (List (List Value))) where
  pub rows_have_width : (tree : TreeForm) (rows : List (List Value)) → FitsWidths tree → Gives mode tree tables rows → HaveWidth (width_of tree) rows
  rows_have_width (scan id table columns types) rows fits h =
      All-permutation (Wide (length types)) (scanned tables table columns) rows h
      (All-map (Wide (length types)) (cut columns) (table_rows tables table) (λ k d lt. cut_width columns _ ∙ fits))
  rows_have_width (values id types constants) rows fits h = All-permutation (Wide (length types)) constants rows h fits
  rows_have_width (remote id input) rows fits (a, h, same) = All-permutation (Wide (width_of input)) a rows same (rows_have_width input a fits h)
  rows_have_width (step id s input) rows fits (a, h, gives) = step_width mode (types_of input) s a rows (rows_have_width input a fits h) gives
  rows_have_width (join id kind on left right) rows fits (a, b, h, k, same) =
      subst (λ n. HaveWidth n rows) (sym (length-append (types_of left) (types_of right)))
      (All-permutation (Wide (width_of left + width_of right)) (join_of kind on (width_of left) (width_of right) a b) rows same
      (join_width kind on (width_of left) (width_of right) a b (rows_have_width left a fits.0 h) (rows_have_width right b fits.1 k)))
  rows_have_width (union id left right) rows fits (a, b, h, k, same) =
      All-permutation (Wide (width_of left)) (a ++ b) rows same
      (All-append (Wide (width_of left)) a b (rows_have_width left a fits.0 h)
      (subst (λ n. HaveWidth n b) (sym fits.2) (rows_have_width right b fits.1 k)))
