-- Columns evaluated one after the other, as rows that are projected one after the other.
use Rattle.std.proofs.Common.{◌≡◌, ℕ, ◌<◌, ◌≤◌, suc, true, List, [], ◌∷◌, ◌++◌, length, take, map, refl, ap, sym, ◌∙◌, arith, append_assoc, subst, Some, None, Option}
use Rattle.std.specs.Prelude.{Result, Ok, Err, replicate}
use Rattle.std.specs.List.{range_with_len}
use Rattle.std.specs.Option.{option_or}
use Rattle.std.proofs.lemmas.List.{append-nil, length-map, take-map}
use Rattle.std.proofs.lemmas.List.FromFn.{length-range_with_len}
use Rattle.sql_values.specs.declared.types.SqlType.{SqlType}
use Rattle.sql_values.specs.declared.value.Value.{Value}
use Rattle.sql_values.specs.declared.fail.Fail.{Fail}
use Rattle.sql_values.specs.Blocks.{TypedCells, with_cells}
use Rattle.sql_values.specs.ColumnRows.{AreFilled, common_length, cons_each, kinds_of, rows_of, fits_row}
use Rattle.col_pages.specs.Pages.{TypedPage}
use Rattle.sql_functions.specs.Outcomes.{Outcome}
use Rattle.sql_exprs.specs.Forms.{Form}
use Rattle.sql_exprs.specs.Meaning.{kind_of, value_of}
use Rattle.sql_exprs.specs.Pages.{cell_at}
use Rattle.relation_laws.specs.Aggregates.{all_values, with_first}
use Rattle.relation_laws.specs.Verdicts.{Verdict, verdict_of}
use Rattle.plan_trees.specs.Judges.{project_judge}
use Rattle.page_processor.specs.Judged.{failed_first, first_failure, given_first, judged, rows_before}
use Rattle.page_processor.specs.Positions.{block_at, calm_positions, failure_in, failure_or, first_position, value_or_null}
use Rattle.page_processor.specs.Columns.{AreColumnsUpTo, first_row, positions_before, row_failure, row_failure_or, row_from, row_positions}
use Rattle.col_pages.specs.Fits.{AllFit}
use Rattle.page_processor.specs.Typed.{AllTyped}
use Rattle.page_processor.proofs.FilterLemmas.{Agree, all_rows, first_fits, rest_fits, row_at, same_failure, same_rows, shown, shown_value}

pub ok_same : (r : Result (List Value) Fail) (xs ys : List Value) → r ≡ Ok xs → r ≡ Ok ys → xs ≡ ys
ok_same r xs ys d e = cc

module _ (types : List SqlType) (rows : List (List Value)) where
  -- one column more: its failures take positions out, before the others are evaluated
  abbrev at : Form → ℕ → Outcome
  at form = cell_at types form rows

  abbrev from : List Form → ℕ → Result (List Value) Fail
  from forms = row_from types rows forms

  one_column : (form : Form) (forms : List Form) (p : ℕ) (ps : List ℕ) (here : Outcome) (later : Result (List Value) Fail) → from forms p ≡ later
      → row_positions (from (form ∷ forms)) ps ≡ row_positions (from forms) (calm_positions (at form) ps)
      → first_row (all_values (here ∷ map (λ f. at f p) forms)) p (row_positions (from (form ∷ forms)) ps) ≡ row_positions (from forms) (first_position here p (calm_positions (at form) ps))
  one_column form forms p ps (Err kind) later l rest = refl
  one_column form forms p ps (Ok v) (Ok vs) l rest = rw l (ap (λ qs. p ∷ qs) rest)
  one_column form forms p ps (Ok v) (Err kind) l rest = rw l refl

  pub column_positions : (form : Form) (forms : List Form) (ps : List ℕ) → row_positions (from (form ∷ forms)) ps ≡ row_positions (from forms) (calm_positions (at form) ps)
  column_positions form forms [] = refl
  column_positions form forms (p ∷ ps) = one_column form forms p ps (at form p) (from forms p) refl (column_positions form forms ps)

  one_failure : (form : Form) (forms : List Form) (p : ℕ) (ps : List ℕ) (here : Outcome) (later : Result (List Value) Fail) → from forms p ≡ later
      → row_failure (from (form ∷ forms)) ps ≡ option_or (row_failure (from forms) (calm_positions (at form) ps)) (failure_in (at form) ps)
      → row_failure_or (all_values (here ∷ map (λ f. at f p) forms)) (row_failure (from (form ∷ forms)) ps)
      ≡ option_or (row_failure (from forms) (first_position here p (calm_positions (at form) ps))) (failure_or here (failure_in (at form) ps))
  one_failure form forms p ps (Err kind) later l rest = refl
  one_failure form forms p ps (Ok v) (Ok vs) l rest = rw l rest
  one_failure form forms p ps (Ok v) (Err kind) l rest = rw l refl

  pub column_failure : (form : Form) (forms : List Form) (ps : List ℕ) → row_failure (from (form ∷ forms)) ps ≡ option_or (row_failure (from forms) (calm_positions (at form) ps)) (failure_in (at form) ps)
  column_failure form forms [] = refl
  column_failure form forms (p ∷ ps) = one_failure form forms p ps (at form p) (from forms p) refl (column_failure form forms ps)

  pub no_columns : (ps : List ℕ) → row_positions (from []) ps ≡ ps
  no_columns [] = refl
  no_columns (p ∷ ps) = ap (λ qs. p ∷ qs) (no_columns ps)

  pub no_failure : (ps : List ℕ) → row_failure (from []) ps ≡ None
  no_failure [] = refl
  no_failure (p ∷ ps) = no_failure ps

  -- positions before the first without a row are a beginning
  beginning_at : (forms : List Form) (p : ℕ) (ps : List ℕ) (here : Result (List Value) Fail) → take (length (row_positions (from forms) ps)) ps ≡ row_positions (from forms) ps
      → take (length (first_row here p (row_positions (from forms) ps))) (p ∷ ps) ≡ first_row here p (row_positions (from forms) ps)
  beginning_at forms p ps (Ok vs) rest = ap (λ qs. p ∷ qs) rest
  beginning_at forms p ps (Err kind) rest = refl

  pub beginning : (forms : List Form) (ps : List ℕ) → take (length (row_positions (from forms) ps)) ps ≡ row_positions (from forms) ps
  beginning forms [] = refl
  beginning forms (p ∷ ps) = beginning_at forms p ps (from forms p) (beginning forms ps)

  no_more_at : (forms : List Form) (p : ℕ) (ps : List ℕ) (here : Result (List Value) Fail) → length (row_positions (from forms) ps) ≤ length ps
      → length (first_row here p (row_positions (from forms) ps)) ≤ suc (length ps)
  no_more_at forms p ps (Ok vs) rest = omega (arith, rest)
  no_more_at forms p ps (Err kind) rest = omega arith

  pub no_more : (forms : List Form) (ps : List ℕ) → length (row_positions (from forms) ps) ≤ length ps
  no_more forms [] = omega arith
  no_more forms (p ∷ ps) = no_more_at forms p ps (from forms p) (no_more forms ps)

  -- the values of a row that is there
  values_here : (o : Outcome) (os : List Outcome) (later : Result (List Value) Fail) (vs : List Value) → all_values os ≡ later
      → ((ws : List Value) → all_values os ≡ Ok ws → ws ≡ map value_or_null os)
      → all_values (o ∷ os) ≡ Ok vs → vs ≡ map value_or_null (o ∷ os)
  values_here (Ok v) os (Ok ws) vs l further e =
      let same : v ∷ ws ≡ vs = ok_same (all_values (Ok v ∷ os)) (v ∷ ws) vs (ap (with_first v) l) e in sym same ∙ ap (λ xs. v ∷ xs) (further ws l)
  values_here (Ok v) os (Err kind) vs l further e = let no : with_first v (Err kind) ≡ Ok vs = ap (with_first v) (sym l) ∙ e in cc
  values_here (Err kind) os later vs l further e = cc

  pub values_are : (os : List Outcome) (vs : List Value) → all_values os ≡ Ok vs → vs ≡ map value_or_null os
  values_are [] vs e = ok_same (Ok []) vs [] e refl
  values_are (o ∷ os) vs e = values_here o os (all_values os) vs refl (values_are os) e

  abbrev pub cut_to : ℕ → TypedCells → TypedCells
  cut_to n block = with_cells block (take n block.cells)

-- some columns were evaluated, and these are left
pub record SoFar (types : List SqlType) (rows : List (List Value)) (forms left : List Form) (positions : List ℕ) (blocks : List TypedCells) (failure : Option Fail) : Type 0 where
  pub rest : row_positions (row_from types rows left) positions ≡ positions_before types rows forms
  pub told : option_or (row_failure (row_from types rows left) positions) failure ≡ row_failure (row_from types rows forms) (range_with_len 0 (length rows))
  pub done : map (cut_to types rows (length (positions_before types rows forms))) blocks ++ map (block_at types rows (positions_before types rows forms)) left
      ≡ map (block_at types rows (positions_before types rows forms)) forms

option_or_none : {A : Type 0} (o : Option A) → option_or o None ≡ o
option_or_none None = refl
option_or_none (Some x) = refl

option_or_assoc : {A : Type 0} (o p q : Option A) → option_or o (option_or p q) ≡ option_or (option_or o p) q
option_or_assoc None p q = refl
option_or_assoc (Some x) p q = refl

module _ (types : List SqlType) (rows : List (List Value)) where
  pub so_far_none : (forms : List Form) (ps : List ℕ) → ps ≡ range_with_len 0 (length rows) → SoFar types rows forms forms ps [] None
  so_far_none forms ps e = record {
    rest = ap (row_positions (row_from types rows forms)) e;
    told = option_or_none (row_failure (row_from types rows forms) ps) ∙ ap (row_failure (row_from types rows forms)) e;
    done = refl;
  }

  cut_block : (form : Form) (left : List Form) (qs final : List ℕ) → row_positions (row_from types rows left) qs ≡ final → cut_to types rows (length final) (block_at types rows qs form) ≡ block_at types rows final form
  cut_block form left qs final e =
      let value : ℕ → Value = λ p. value_or_null (cell_at types form rows p) in
      let cut : take (length final) (map value qs) ≡ map value final =
      take-map value (length final) qs ∙ ap (map value) (ap (λ (fs : List ℕ). take (length fs) qs) (sym e) ∙ beginning types rows left qs ∙ e) in
      ap (λ vs. record { kind = kind_of types form; cells = vs }) cut

  map_one_more : {A B : Type 0} (f : A → B) (xs : List A) (x : A) → map f (xs ++ x ∷ []) ≡ map f xs ++ f x ∷ []
  map_one_more f [] x = refl
  map_one_more f (y ∷ ys) x = ap (λ zs. f y ∷ zs) (map_one_more f ys x)

  pub so_far_more : (forms left more : List Form) (form : Form) (ps qs : List ℕ) (blocks : List TypedCells) (block : TypedCells) (failure found : Option Fail)
      → SoFar types rows forms left ps blocks failure → left ≡ form ∷ more → qs ≡ calm_positions (cell_at types form rows) ps
      → block ≡ block_at types rows (calm_positions (cell_at types form rows) ps) form → found ≡ failure_in (cell_at types form rows) ps
      → SoFar types rows forms more qs (blocks ++ block ∷ []) (option_or found failure)
  so_far_more forms left more form ps qs blocks block failure found so l q b f =
      let final = positions_before types rows forms in
      let rest : row_positions (row_from types rows more) qs ≡ final =
      ap (row_positions (row_from types rows more)) q ∙ sym (column_positions types rows form more ps) ∙ ap (λ fs. row_positions (row_from types rows fs) ps) (sym l) ∙ so.rest in
      let here : cut_to types rows (length final) block ≡ block_at types rows final form =
      ap (cut_to types rows (length final)) (b ∙ ap (λ rs. block_at types rows rs form) (sym q)) ∙ cut_block form more qs final rest in
      record {
        rest = rest;
        told = (λ i. option_or (row_failure (row_from types rows more) (q i)) (option_or (f i) failure))
            ∙ option_or_assoc (row_failure (row_from types rows more) (calm_positions (cell_at types form rows) ps)) (failure_in (cell_at types form rows) ps) failure
            ∙ ap (λ o. option_or o failure) (sym (column_failure types rows form more ps) ∙ ap (λ fs. row_failure (row_from types rows fs) ps) (sym l)) ∙ so.told;
        done = ap (λ bs. bs ++ map (block_at types rows final) more) (map_one_more (cut_to types rows (length final)) blocks block)
            ∙ append_assoc (map (cut_to types rows (length final)) blocks) (cut_to types rows (length final) block ∷ []) (map (block_at types rows final) more)
            ∙ ap (λ x. map (cut_to types rows (length final)) blocks ++ (x ∷ map (block_at types rows final) more)) here
            ∙ ap (λ fs. map (cut_to types rows (length final)) blocks ++ map (block_at types rows final) fs) (sym l) ∙ so.done;
      }

  pub is_evaluated : (forms left : List Form) (ps : List ℕ) (blocks cut : List TypedCells) (failure : Option Fail) → SoFar types rows forms left ps blocks failure → left ≡ []
      → cut ≡ map (cut_to types rows (length ps)) blocks → AreColumnsUpTo types rows forms cut failure
  is_evaluated forms left ps blocks cut failure so l c =
      let final = positions_before types rows forms in
      let whole : ps ≡ final = sym (no_columns types rows ps) ∙ ap (λ fs. row_positions (row_from types rows fs) ps) (sym l) ∙ so.rest in
      record {
        blocks_are = c ∙ ap (λ qs. map (cut_to types rows (length qs)) blocks) whole ∙ sym (append-nil (map (cut_to types rows (length final)) blocks))
            ∙ ap (λ fs. map (cut_to types rows (length final)) blocks ++ map (block_at types rows final) fs) (sym l) ∙ so.done;
        failure_is = ap (λ o. option_or o failure) (sym (no_failure types rows ps)) ∙ ap (λ fs. option_or (row_failure (row_from types rows fs) ps) failure) (sym l) ∙ so.told;
      }

  -- the blocks as rows
  pub level : (forms : List Form) (ps : List ℕ) → AreFilled (length ps) 0 (map (block_at types rows ps) forms)
  level [] ps = refl
  level (form ∷ forms) ps = (length-map ps (λ p. value_or_null (cell_at types form rows p)), level forms ps)

  pub first_length : (forms : List Form) (ps : List ℕ) → 0 < length forms → common_length (map (block_at types rows ps) forms) ≡ length ps
  first_length [] ps l = absurd (omega arith)
  first_length (form ∷ forms) ps l = length-map ps (λ p. value_or_null (cell_at types form rows p))

  pub kinds_are : (forms : List Form) (ps : List ℕ) → kinds_of (map (block_at types rows ps) forms) ≡ map (kind_of types) forms
  kinds_are [] ps = refl
  kinds_are (form ∷ forms) ps = ap (λ ks. kind_of types form ∷ ks) (kinds_are forms ps)

  abbrev row_values : List Form → ℕ → List Value
  row_values forms p = map value_or_null (map (λ form. cell_at types form rows p) forms)

  beside : (f : ℕ → Value) (g : ℕ → List Value) (ps : List ℕ) → cons_each (map f ps) (map g ps) ≡ map (λ p. f p ∷ g p) ps
  beside f g [] = refl
  beside f g (p ∷ ps) = ap (λ xs. (f p ∷ g p) ∷ xs) (beside f g ps)

  no_values : (ps : List ℕ) → replicate {A = List Value} (length ps) [] ≡ map (λ p. []) ps
  no_values [] = refl
  no_values (p ∷ ps) = ap (λ (xs : List (List Value)). [] ∷ xs) (no_values ps)

  pub rows_are : (forms : List Form) (ps : List ℕ) → rows_of (length ps) (map (block_at types rows ps) forms) ≡ map (row_values forms) ps
  rows_are [] ps = no_values ps
  rows_are (form ∷ forms) ps =
      ap (cons_each (map (λ p. value_or_null (cell_at types form rows p)) ps)) (rows_are forms ps) ∙ beside (λ p. value_or_null (cell_at types form rows p)) (row_values forms) ps

  -- rows at positions as judged rows
  abbrev judge : List Form → List Value → Verdict
  judge forms row = verdict_of (all_values (map (λ form. shown types form row) forms))

  rows_at : (forms : List Form) (p : ℕ) (ps : List ℕ) (here : Result (List Value) Fail) → row_from types rows forms p ≡ here
      → map (row_values forms) (row_positions (row_from types rows forms) ps) ≡ rows_before (judge forms) (map (row_at rows) ps)
      → map (row_values forms) (first_row here p (row_positions (row_from types rows forms) ps)) ≡ given_first (verdict_of here) (rows_before (judge forms) (map (row_at rows) ps))
  rows_at forms p ps (Ok vs) h rest =
      let values : row_values forms p ≡ vs = sym (values_are types rows (map (λ form. cell_at types form rows p) forms) vs h) in (λ i. values i ∷ rest i)
  rows_at forms p ps (Err kind) h rest = refl

  pub rows_judged : (forms : List Form) (ps : List ℕ) → map (row_values forms) (row_positions (row_from types rows forms) ps) ≡ rows_before (judge forms) (map (row_at rows) ps)
  rows_judged forms [] = refl
  rows_judged forms (p ∷ ps) = rows_at forms p ps (row_from types rows forms p) refl (rows_judged forms ps)

  failure_at : (here : Result (List Value) Fail) (later : Option Fail) → row_failure_or here later ≡ failed_first (verdict_of here) later
  failure_at (Ok vs) later = refl
  failure_at (Err kind) later = refl

  pub failure_judged : (forms : List Form) (ps : List ℕ) → row_failure (row_from types rows forms) ps ≡ first_failure (judge forms) (map (row_at rows) ps)
  failure_judged forms [] = refl
  failure_judged forms (p ∷ ps) = ap (row_failure_or (row_from types rows forms p)) (failure_judged forms ps) ∙ failure_at (row_from types rows forms p) (first_failure (judge forms) (map (row_at rows) ps))

  shown_values : (forms : List Form) (row : List Value) → AllTyped types forms → fits_row types row ≡ true → map (λ form. shown types form row) forms ≡ map (λ form. value_of types form row) forms
  shown_values [] row typed fit = refl
  shown_values (form ∷ forms) row typed fit = (λ i. shown_value types form row typed.0 fit i ∷ shown_values forms row typed.1 fit i)

  projects_agree : (forms : List Form) (some : List (List Value)) → AllTyped types forms → AllFit types some → Agree (judge forms) (project_judge types forms) some
  projects_agree forms [] typed fit = tt
  projects_agree forms (row ∷ some) typed fit =
      (ap (λ os. verdict_of (all_values os)) (shown_values forms row typed (first_fits types row some fit)), projects_agree forms some typed (rest_fits types row some fit))

  pub is_projected : (forms : List Form) (blocks : List TypedCells) (failure : Option Fail) (page : TypedPage) → 0 < length forms → AllTyped types forms → AllFit types rows
      → AreColumnsUpTo types rows forms blocks failure → page ≡ record { types = kinds_of blocks; rows = rows_of (common_length blocks) blocks }
      → record { page = page; failure = failure } ≡ judged (project_judge types forms) (map (kind_of types) forms) rows
  is_projected forms blocks failure page some typed fit e p =
      let final = positions_before types rows forms in
      let agree = projects_agree forms rows typed fit in
      let kinds : page.types ≡ map (kind_of types) forms = ap (λ (x : TypedPage). x.types) p ∙ ap kinds_of e.blocks_are ∙ kinds_are forms final in
      let count : common_length blocks ≡ length final = ap common_length e.blocks_are ∙ first_length forms final some in
      let given : page.rows ≡ rows_before (project_judge types forms) rows =
      ap (λ (x : TypedPage). x.rows) p ∙ (λ i. rows_of (count i) (e.blocks_are i)) ∙ rows_are forms final ∙ rows_judged forms (range_with_len 0 (length rows))
      ∙ ap (rows_before (judge forms)) (all_rows rows) ∙ same_rows (judge forms) (project_judge types forms) rows agree in
      let told : failure ≡ first_failure (project_judge types forms) rows =
      e.failure_is ∙ failure_judged forms (range_with_len 0 (length rows)) ∙ ap (first_failure (judge forms)) (all_rows rows)
      ∙ same_failure (judge forms) (project_judge types forms) rows agree in
      (λ i. record { page = record { types = kinds i; rows = given i }; failure = told i })

  pub evaluated_some : (forms : List Form) (blocks : List TypedCells) (failure : Option Fail) → AreColumnsUpTo types rows forms blocks failure → 0 < length forms → 0 < length blocks
  evaluated_some forms blocks failure e some = omega (arith, ap length e.blocks_are, length-map forms (block_at types rows (positions_before types rows forms)))

  pub evaluated_level : (forms : List Form) (blocks : List TypedCells) (failure : Option Fail) → AreColumnsUpTo types rows forms blocks failure → 0 < length forms → AreFilled (common_length blocks) 0 blocks
  evaluated_level forms blocks failure e some =
      let final = positions_before types rows forms in
      subst (λ bs. AreFilled (common_length bs) 0 bs) (sym e.blocks_are)
      (subst (λ n. AreFilled n 0 (map (block_at types rows final) forms)) (sym (first_length forms final some)) (level forms final))

  pub evaluated_few : (forms : List Form) (blocks : List TypedCells) (failure : Option Fail) → AreColumnsUpTo types rows forms blocks failure → 0 < length forms → common_length blocks ≤ length rows
  evaluated_few forms blocks failure e some =
      let final = positions_before types rows forms in
      omega (arith, ap common_length e.blocks_are, first_length forms final some, no_more types rows forms (range_with_len 0 (length rows)), length-range_with_len 0 (length rows))
