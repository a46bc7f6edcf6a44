-- The rows of the records of a text are those of its parts.
use Rattle.std.proofs.Common.{◌≡◌, ◌≢◌, ◌≤◌, ◌+◌, ◌++◌, ◌∷◌, ◌∙◌, ℕ, suc, List, [], length, Option, None, Some, Result, Ok, refl, sym, ap, arith, length-append}
use Rattle.std.proofs.lemmas.Bool.{eqb-true}
use Rattle.csv_tables.specs.Fields.{value_of_field}
use Rattle.csv_tables.specs.Places.{Place, first_and_rest, in_place}
use Rattle.csv_tables.specs.Parts.{IsCut}
use Rattle.csv_tables.specs.Tables.{IsTable, cells_from, differs_at, records_of, row_of_record, rows_from, rows_under, table_of}
use Rattle.csv_tables.proofs.PartLemmas.{records_cut}
use Rattle.csv_tables.proofs.BuildLemmas.{row_is}
use Rattle.csv_tables.proofs.FitLemmas.{list_same, parts, read_in_place, row_read}
use Rattle.sql_values.specs.declared.types.Column.{Column}
use Rattle.sql_values.specs.declared.value.Value.{Value}

abbrev Record : Type 0
Record = List (List ℕ)

both_read : {A : Type 0} (here : Result A Place) (later : Result (List A) Place) (x : A) (xs all : List A) → here ≡ Ok x → later ≡ Ok xs → all ≡ x ∷ xs → first_and_rest here later ≡ Ok all
both_read here later x xs all e f g = rw (e, f, g) refl

-- cells that were read are those of any other row
cells_moved : (row other at : ℕ) (columns : List Column) (fields : Record) (vs : List Value) → cells_from row at columns fields ≡ Ok vs → cells_from other at columns fields ≡ Ok vs
cells_moved row other at [] fields vs e = e
cells_moved row other at (column ∷ columns) [] vs e = e
cells_moved row other at (column ∷ columns) (field ∷ fields) vs e =
    let p = parts (in_place row at (value_of_field column.kind field)) (cells_from row (at + 1) columns fields) vs e in
    let read = read_in_place row at (value_of_field column.kind field) p.first p.here_is in
    both_read _ _ p.first p.others vs (ap (in_place other at) read) (cells_moved row other (at + 1) columns fields p.others p.later_is) p.all_is

-- rows that were read are those of any other place, if they are not too many there
rows_moved : (columns : List Column) (limit row other : ℕ) (records : List Record) (rows : List (List Value)) → rows_from columns limit row records ≡ Ok rows → other + length rows ≤ limit + 1
    → rows_from columns limit other records ≡ Ok rows
rows_moved columns limit row other [] rows e few = e
rows_moved columns limit row other (fields ∷ more) rows e few =
    let p = parts (row_of_record columns limit row fields) (rows_from columns limit (row + 1) more) rows e in
    let read = row_read columns limit row fields p.first p.here_is in
    let size : length rows ≡ suc (length p.others) = ap length p.all_is in
    let within : other ≢ limit + 1 = λ same. absurd (omega (arith, size, few, same)) in
    let here = row_is columns limit other fields within (eqb-true (length fields) (length columns) read.wide) in
    both_read _ _ p.first p.others rows (here ∙ cells_moved row other 0 columns fields p.first read.cells)
    (rows_moved columns limit (row + 1) (other + 1) more p.others p.later_is (omega (arith, size, few))) p.all_is

-- the rows of some records, and of those behind them
rows_behind : (columns : List Column) (limit row next : ℕ) (records later : List Record) (rows more : List (List Value)) → rows_from columns limit row records ≡ Ok rows → next ≡ row + length rows
    → rows_from columns limit next later ≡ Ok more → rows_from columns limit row (records ++ later) ≡ Ok (rows ++ more)
rows_behind columns limit row next [] later rows more e n f =
    let none : rows ≡ [] = list_same (Ok rows) rows [] refl (sym e) in
    let same : next ≡ row = n ∙ rw none (omega arith) in
    rw (none, ← same) f
rows_behind columns limit row next (fields ∷ records) later rows more e n f =
    let p = parts (row_of_record columns limit row fields) (rows_from columns limit (row + 1) records) rows e in
    let size : length rows ≡ suc (length p.others) = ap length p.all_is in
    both_read _ _ p.first (p.others ++ more) (rows ++ more) p.here_is
    (rows_behind columns limit (row + 1) next records later p.others more p.later_is (omega (arith, size, n)) f)
    (ap (λ (l : List (List Value)). l ++ more) p.all_is)

-- the rows of a part, read by itself, stand behind those of the parts before it, if they are not too many together
pub part_added : (columns : List Column) (limit : ℕ) (before part : List Record) (rows more : List (List Value)) → (length rows ≤ limit → rows_from columns limit 1 before ≡ Ok rows)
    → rows_from columns limit 1 part ≡ Ok more → length (rows ++ more) ≤ limit → rows_from columns limit 1 (before ++ part) ≡ Ok (rows ++ more)
part_added columns limit before part rows more e f few =
    let size = length-append rows more in
    rows_behind columns limit 1 (1 + length rows) before part rows more (e (omega (arith, size, few))) refl
    (rows_moved columns limit 1 (1 + length rows) part more f (omega (arith, size, few)))

under_part : (columns : List Column) (limit : ℕ) (difference : Option ℕ) (records part : List Record) (rows more : List (List Value)) → rows_under difference columns limit records ≡ Ok rows
    → rows_from columns limit 1 part ≡ Ok more → length (rows ++ more) ≤ limit → rows_under difference columns limit (records ++ part) ≡ Ok (rows ++ more)
under_part columns limit None records part rows more e f few = part_added columns limit records part rows more (λ h. e) f few
under_part columns limit (Some column) records part rows more e f few = cc e

-- the same below a header
records_behind : (columns : List Column) (limit : ℕ) (records part : List Record) (rows more : List (List Value)) → table_of columns limit records ≡ Ok rows
    → rows_from columns limit 1 part ≡ Ok more → length (rows ++ more) ≤ limit → table_of columns limit (records ++ part) ≡ Ok (rows ++ more)
records_behind columns limit [] part rows more e f few = cc e
records_behind columns limit (header ∷ records) part rows more e f few = under_part columns limit (differs_at 0 header columns) records part rows more e f few

pub table_behind : (columns : List Column) (limit : ℕ) (first rest : List ℕ) (rows more : List (List Value)) → IsCut first rest → IsTable columns limit first rows
    → rows_from columns limit 1 (records_of rest) ≡ Ok more → length (rows ++ more) ≤ limit → IsTable columns limit (first ++ rest) (rows ++ more)
table_behind columns limit first rest rows more cut table f few = record {
  reads = rw (records_cut first rest cut) (records_behind columns limit (records_of first) (records_of rest) rows more table.reads f few);
}
