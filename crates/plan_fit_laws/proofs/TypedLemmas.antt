-- What follows from the types of a node: of its expressions, its calls and its rows.
use Rattle.std.proofs.Common.{◌≡◌, ℕ, ◌+◌, zero, suc, List, [], ◌∷◌, length, map, Bool, true, false, refl, ap, subst, arith}
use Rattle.std.specs.Cmp.Derive.{both_true}
use Rattle.std.specs.Prelude.{IsTrue, Option, Some, None, Result, Ok, Err, slice_get, if◌then◌else◌}
use Rattle.std.specs.List.{position_from}
use Rattle.std.proofs.lemmas.List.Elements.{All-nil}
use Rattle.sql_values.specs.declared.relational.Call.{Call}
use Rattle.sql_values.specs.declared.relational.Call.TheVariants.{CountAll, Count, Sum, Min, Max, Avg}
use Rattle.sql_values.specs.declared.types.SqlType.{SqlType}
use Rattle.sql_values.specs.declared.types.SqlType.TheVariants.{Bigint, Decimal}
use Rattle.sql_values.specs.declared.table.Table.{Table}
use Rattle.sql_values.specs.ColumnRows.{fits_row}
use Rattle.sql_functions.specs.CallTypes.{type_at}
use Rattle.json_paths.specs.declared.key.Key.{Key}
use Rattle.sql_exprs.specs.Forms.{Form}
use Rattle.sql_exprs.specs.Meaning.{kind_of}
use Rattle.sql_exprs.specs.Typing.{Path, entry, form_type, typed_then}
use Rattle.sql_exprs.proofs.TypingLemmas.{kind_is, typed_then_ok}
use Rattle.accumulators.specs.Columns.{column_of}
use Rattle.accumulators.specs.Limits.{are_allowed, can_add, is_short}
use Rattle.plan_docs.specs.declared.plan.TableDoc.{TableDoc}
use Rattle.plan_trees.specs.Allowed.{scanned}
use Rattle.col_pages.specs.Fits.{AllFit}
use Rattle.page_processor.specs.Typed.{AllTyped}
use Rattle.plan_types.specs.declared.row_types.RowTypes.{RowTypes}
use Rattle.plan_types.specs.RowTypes.{plain}
use Rattle.plan_types.specs.Aggregates.{has_column, is_summed, takes, takes_not}
use Rattle.plan_types.specs.Aggregates as few
use Rattle.plan_types.specs.Cells.{cell_fault}
use Rattle.plan_types.specs.Faults.{entry_fault, or_fault}
use Rattle.plan_types.specs.Nodes.{same_rows}
use Rattle.plan_types.specs.Operators.{column_types}
use Rattle.sql_values.specs.Columns.{kinds}
use Rattle.tree_evaluator.specs.Fits.{TablesFit}
use Rattle.tree_evaluator.specs.Stops.{rows_of_table}
use Rattle.tree_evaluator.proofs.FitLemmas.{rows_cut}
use Rattle.plan_fit_laws.specs.Tables.{HaveColumns}
use Rattle.plan_spreads.proofs.EachLemmas.{first_false, rest_none, second_true}
use Rattle.plan_link_laws.proofs.PlaceLemmas.{not_false}
use Rattle.plan_fit_laws.proofs.ScanLemmas.{ScanFits}

pub scan_fit : (docs : List TableDoc) (tables : List Table) (n : ℕ) (columns : List ℕ) (types : List SqlType) → HaveColumns docs tables → TablesFit tables
    → length types ≡ length columns → ScanFits (slice_get docs n) columns types → AllFit types (scanned (map rows_of_table tables) n columns)
scan_fit docs [] n columns types own fit beside h = All-nil (λ row. IsTrue (fits_row types row))
scan_fit [] (t ∷ tables) n columns types own fit beside h = absurd cc
scan_fit (doc ∷ docs) (t ∷ tables) zero columns types own fit beside h =
    let same : t.columns ≡ doc.columns = cc own in
    let rows : AllFit (kinds t.columns) t.rows = fit 0 t (omega arith) in
    rows_cut (kinds doc.columns) t.rows columns types beside (subst (λ cs. AllFit (kinds cs) t.rows) same rows) h
scan_fit (doc ∷ docs) (t ∷ tables) (suc n) columns types own fit beside h =
    let rest : HaveColumns docs tables = cc own in
    scan_fit docs tables n columns types rest (λ k d within. fit (suc k) d (omega (arith, within))) beside h

-- each expression has a type, and these are the types
pub record AreTyped (types : List SqlType) (forms : List Form) (found : List SqlType) : Type 0 where
  pub typed : AllTyped types forms
  pub same : map (kind_of types) forms ≡ found

pub are_typed : (types : List SqlType) (path : Path) (i : ℕ) (forms : List Form) (found : List SqlType) → column_types types path i forms ≡ Ok found → AreTyped types forms found
are_typed types path i [] found e = record { typed = tt; same = cc }
are_typed types path i (form ∷ forms) found e =
    typed_then_ok (form_type types (entry path i) form) (λ kind. typed_then (column_types types path (i + 1) forms) (λ kinds. Ok (kind ∷ kinds))) found (AreTyped types (form ∷ forms) found) e
    (λ kind h g. typed_then_ok (column_types types path (i + 1) forms) (λ kinds. Ok (kind ∷ kinds)) found (AreTyped types (form ∷ forms) found) g
    (λ kinds h2 g2.
    let rest = are_typed types path (i + 1) forms kinds h2 in
    let first = kind_is types (entry path i) form kind h in
    let others = rest.same in
    record {
      typed = (record { path = entry path i; kind = kind; is = h }, rest.typed);
      same = cc (first, others, g2);
    }))

pub boolean_same : (b : Bool) (path : Path) (columns : List SqlType) (types : RowTypes) → (if b then Ok (plain columns) else Err path) ≡ Ok types → columns ≡ types.columns
boolean_same true path columns types e = let same : plain columns ≡ types = cc e in ap (λ (t : RowTypes). t.columns) same
boolean_same false path columns types e = cc

-- a fault that there is none of says nothing
pub unless_fault : (o : Option Path) (r : Result RowTypes Path) (types : RowTypes) → or_fault o r ≡ Ok types → (o ≡ None) × (r ≡ Ok types)
unless_fault None r types e = (refl, e)
unless_fault (Some path) r types e = cc

pub same_columns : (below types : RowTypes) → same_rows below ≡ Ok types → below.columns ≡ types.columns
same_columns below types e = let same : plain below.columns ≡ types = cc e in ap (λ (t : RowTypes). t.columns) same

-- where no entry is reported, none is at fault
pub no_entry : (path : Path) (k : Key) (o : Option ℕ) → entry_fault path k o ≡ None → o ≡ None
no_entry path k None e = refl
no_entry path k (Some i) e = cc

pub joined_columns : (b : Bool) (o : Option Path) (path : Path) (columns : List SqlType) (types : RowTypes) → (if b then Err path else or_fault o (Ok (plain columns))) ≡ Ok types → columns ≡ types.columns
joined_columns true o path columns types e = cc
joined_columns false o path columns types e = same_columns (plain columns) types (unless_fault o (Ok (plain columns)) types e).1

-- a column that can be summed has a type that can be added
summed_short : (kind : SqlType) → is_summed kind ≡ true → is_short kind ≡ true
summed_short (Decimal p s) h = h
summed_short Bigint h = refl
summed_short kind h = cc

-- a decimal of so few digits can be averaged
few_average : (kind : SqlType) (column : ℕ) → few.is_short kind ≡ true → can_add kind (Avg column) ≡ true
few_average (Decimal p s) column h = h
few_average kind column h = cc

-- a call that takes its column can be made
taken_adds : (types : List SqlType) (call : Call) → takes types call ≡ true → can_add (type_at types (column_of call)) call ≡ true
taken_adds types CountAll h = refl
taken_adds types (Count column) h = refl
taken_adds types (Sum column) h = summed_short (type_at types column) (second_true (has_column types column) (is_summed (type_at types column)) h)
taken_adds types (Min column) h = refl
taken_adds types (Max column) h = refl
taken_adds types (Avg column) h = few_average (type_at types column) column (second_true (has_column types column) (few.is_short (type_at types column)) h)

-- where no call is reported, all can be made
pub calls_allowed : (types : List SqlType) (i : ℕ) (calls : List Call) → position_from (takes_not types) i calls ≡ None → IsTrue (are_allowed types calls)
calls_allowed types i [] e = refl
calls_allowed types i (call ∷ calls) e =
    let here = not_false (takes types call) (first_false (takes_not types call) i (position_from (takes_not types) (i + 1) calls) e) in
    let rest = calls_allowed types (i + 1) calls (rest_none (takes_not types call) i (position_from (takes_not types) (i + 1) calls) e) in
    both_true (taken_adds types call here) rest

pub no_cell : (path : Path) (o : Option (ℕ × ℕ)) → cell_fault path o ≡ None → o ≡ None
no_cell path None e = refl
no_cell path (Some (i, j)) e = cc
