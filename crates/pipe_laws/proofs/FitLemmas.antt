-- What the tables' types say of trees, and of the rows that come from them.
use Rattle.std.proofs.Common.{◌≡◌, List, ◌++◌, length, sym, ap}
use Rattle.std.specs.Prelude.{IsTrue}
use Rattle.std.proofs.lemmas.List.Elements.{All-weaker}
use Rattle.std.proofs.lemmas.List.Sorted.{All-permutation}
use Rattle.sql_values.specs.declared.types.SqlType.{SqlType}
use Rattle.sql_values.specs.declared.value.Value.{Value}
use Rattle.sql_values.specs.ColumnRows.{fits_row}
use Rattle.bag_laws.specs.Weights.{SameWeights}
use Rattle.bag_laws.proofs.BagLemmas.{bag_from_same, same-sym}
use Rattle.col_pages.specs.Fits.{AllFit}
use Rattle.plan_trees.specs.Widths.{FitsWidths}
use Rattle.plan_trees.specs.TreeForms.{TreeForm}
use Rattle.plan_trees.specs.TreeForms as tree
use Rattle.stage_meanings.specs.Fits.{FitsTables}
use Rattle.plan_run_laws.specs.Spreads.{Tables}
use Rattle.stage_meanings.proofs.MeaningLemmas.{front-fits}
use Rattle.stage_meanings.proofs.OwnLemmas.{fits-width}

-- a tree that fits tables fits in its widths
pub fits_widths : (t : TreeForm) (tables : Tables) → FitsTables t tables → FitsWidths t
fits_widths (tree.scan id table columns types) tables fits = sym fits.1
fits_widths (tree.values id types rows) tables fits =
    All-weaker (λ (row : List Value). IsTrue (fits_row types row)) (λ (row : List Value). length row ≡ length types) (λ row fit. fits-width types row fit) rows fits.1
fits_widths (tree.remote id input) tables fits = fits_widths input tables fits
fits_widths (tree.step id s input) tables fits = fits_widths input tables fits.1
fits_widths (tree.join id kind on left right) tables fits = (fits_widths left tables fits.0, fits_widths right tables fits.1)
fits_widths (tree.union id left right) tables fits = (fits_widths left tables fits.1, fits_widths right tables fits.2, ap length fits.0)

pub same_fits : (types : List SqlType) (took rows : List (List Value)) → SameWeights took rows → AllFit types rows → AllFit types took
same_fits types took rows same fit =
    All-permutation (λ (row : List Value). IsTrue (fits_row types row)) rows took (bag_from_same rows took (same-sym same)) fit

pub front_of_source : (types : List SqlType) (took rest rows : List (List Value)) → SameWeights (took ++ rest) rows → AllFit types rows → AllFit types took
front_of_source types took rest rows same fit = front-fits types took rest (same_fits types (took ++ rest) rows same fit)
