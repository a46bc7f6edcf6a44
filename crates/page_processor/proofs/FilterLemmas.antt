-- Positions that are kept, and the rows at them.
use Rattle.std.proofs.Common.{◌≡◌, ℕ, ◌+◌, ◌<◌, ◌≤◌, zero, suc, Bool, true, false, List, [], ◌∷◌, ◌++◌, length, get_or, drop, map, refl, ap, sym, ◌∙◌, arith, append_assoc, length-append, subst, Option}
use Rattle.std.specs.Prelude.{All, Ok, Err, if◌then◌else◌}
use Rattle.std.specs.List.{range_with_len}
use Rattle.std.proofs.lemmas.List.{drop_more}
use Rattle.std.proofs.Math.Seq.{get_or-append_seam}
use Rattle.std.proofs.lemmas.List.Elements.{All-cons, All-nil}
use Rattle.sql_values.specs.declared.types.SqlType.{SqlType}
use Rattle.sql_values.specs.declared.value.Value.{Value}
use Rattle.sql_values.specs.declared.fail.Fail.{Fail}
use Rattle.sql_values.specs.ColumnRows.{fits_row}
use Rattle.sql_functions.specs.Outcomes.{GivesType, Outcome, and_then}
use Rattle.sql_functions.specs.Truth.{is_true}
use Rattle.sql_exprs.specs.Forms.{Form}
use Rattle.sql_exprs.specs.Meaning.{kind_of, value_of}
use Rattle.sql_exprs.specs.Pages.{cell_at, in_block}
use Rattle.sql_exprs.proofs.FitLemmas.{value_gives}
use Rattle.sql_exprs.proofs.TypingLemmas.{kind_is}
use Rattle.relation_laws.specs.Verdicts.{Verdict, keeps, drops}
use Rattle.plan_trees.specs.Judges.{filter_judge, filtered}
use Rattle.col_pages.specs.Pages.{TypedPage}
use Rattle.columns.specs.Present.{gather}
use Rattle.page_processor.specs.Judged.{failed_first, first_failure, given_first, judged, rows_before}
use Rattle.page_processor.specs.Positions.{calm_positions, failure_in, failure_or, first_position, true_at, value_or_null, values_at}
use Rattle.page_processor.specs.declared.values.Values.{Values}
use Rattle.std.proofs.lemmas.List.{append-nil, drop_all}
use Rattle.std.proofs.lemmas.List.FromFn.{length-range_with_len}
use Rattle.sql_values.specs.declared.value.Value.TheVariants.{Null}
use Rattle.col_pages.specs.Fits.{AllFit}
use Rattle.page_processor.specs.Typed.{IsTyped}

-- the value on a row, as a block takes it
abbrev pub shown : List SqlType → Form → List Value → Outcome
shown types form row = and_then (value_of types form row) (λ v. Ok (in_block (kind_of types form) v))

as_it_is : (kind : SqlType) (outcome : Outcome) → GivesType kind outcome → and_then outcome (λ v. Ok (in_block kind v)) ≡ outcome
as_it_is kind (Ok v) h = rw h refl
as_it_is kind (Err k) h = refl

pub shown_value : (types : List SqlType) (form : Form) (row : List Value) → IsTyped types form → fits_row types row ≡ true → shown types form row ≡ value_of types form row
shown_value types form row typed fit =
    as_it_is (kind_of types form) (value_of types form row)
    (subst (λ k. GivesType k (value_of types form row)) (sym (kind_is types typed.path form typed.kind typed.is)) (value_gives types row fit typed.path form typed.kind typed.is))

-- judges that say the same of each row
abbrev pub Agree : (List Value → Verdict) → (List Value → Verdict) → List (List Value) → Type 0
Agree judge other [] = Unit {0}
Agree judge other (row ∷ rows) = (judge row ≡ other row) × Agree judge other rows

pub same_rows : (judge other : List Value → Verdict) (rows : List (List Value)) → Agree judge other rows → rows_before judge rows ≡ rows_before other rows
same_rows judge other [] h = refl
same_rows judge other (row ∷ rows) h = (λ i. given_first (h.0 i) (same_rows judge other rows h.1 i))

pub same_failure : (judge other : List Value → Verdict) (rows : List (List Value)) → Agree judge other rows → first_failure judge rows ≡ first_failure other rows
same_failure judge other [] h = refl
same_failure judge other (row ∷ rows) h = (λ i. failed_first (h.0 i) (same_failure judge other rows h.1 i))

pub first_fits : (types : List SqlType) (row : List Value) (rows : List (List Value)) → AllFit types (row ∷ rows) → fits_row types row ≡ true
first_fits types row rows h = h zero [] (omega arith)

pub rest_fits : (types : List SqlType) (row : List Value) (rows : List (List Value)) → AllFit types (row ∷ rows) → AllFit types rows
rest_fits types row rows h = λ k d l. h (suc k) d (omega arith)

filters_agree : (types : List SqlType) (form : Form) (rows : List (List Value)) → IsTyped types form → AllFit types rows → Agree (λ row. filtered row (shown types form row)) (filter_judge types form) rows
filters_agree types form [] typed fit = tt
filters_agree types form (row ∷ rows) typed fit =
    (ap (filtered row) (shown_value types form row typed (first_fits types row rows fit)), filters_agree types form rows typed (rest_fits types row rows fit))

-- the row at a position
abbrev pub row_at : List (List Value) → ℕ → List Value
row_at rows p = get_or rows p []

module _ (types : List SqlType) (form : Form) (rows : List (List Value)) where
  abbrev at : ℕ → Outcome
  at = cell_at types form rows

  abbrev judge : List Value → Verdict
  judge row = filtered row (shown types form row)

  abbrev cells : List ℕ → List Value
  cells ps = map (λ p. value_or_null (at p)) ps

  kept_at : (p : ℕ) (b : Bool) (vs : List Value) (qs ps : List ℕ) → gather rows [] (true_at vs qs) ≡ rows_before judge (map (row_at rows) ps)
      → gather rows [] (if b then p ∷ true_at vs qs else true_at vs qs) ≡ given_first (if b then keeps (row_at rows p) else drops) (rows_before judge (map (row_at rows) ps))
  kept_at p true vs qs ps h = ap (λ xs. row_at rows p ∷ xs) h
  kept_at p false vs qs ps h = h

  one_more : (p : ℕ) (ps : List ℕ) (here : Outcome) → at p ≡ here
      → gather rows [] (true_at (cells (calm_positions at ps)) (calm_positions at ps)) ≡ rows_before judge (map (row_at rows) ps)
      → gather rows [] (true_at (cells (first_position here p (calm_positions at ps))) (first_position here p (calm_positions at ps)))
      ≡ given_first (filtered (row_at rows p) here) (rows_before judge (map (row_at rows) ps))
  one_more p ps (Ok v) h rest = rw h (kept_at p (is_true v) (cells (calm_positions at ps)) (calm_positions at ps) ps rest)
  one_more p ps (Err kind) h rest = refl

  pub filtered_rows : (ps : List ℕ) → gather rows [] (true_at (cells (calm_positions at ps)) (calm_positions at ps)) ≡ rows_before judge (map (row_at rows) ps)
  filtered_rows [] = refl
  filtered_rows (p ∷ ps) = one_more p ps (at p) refl (filtered_rows ps)

  failed_if : (p : ℕ) (b : Bool) (later : Option Fail) → later ≡ failed_first (if b then keeps (row_at rows p) else drops) later
  failed_if p true later = refl
  failed_if p false later = refl

  one_failure : (p : ℕ) (here : Outcome) (later : Option Fail) → failure_or here later ≡ failed_first (filtered (row_at rows p) here) later
  one_failure p (Ok v) later = failed_if p (is_true v) later
  one_failure p (Err kind) later = refl

  pub filtered_failure : (ps : List ℕ) → failure_in at ps ≡ first_failure judge (map (row_at rows) ps)
  filtered_failure [] = refl
  filtered_failure (p ∷ ps) =
      ap (failure_or (at p)) (filtered_failure ps) ∙ one_failure p (at p) (first_failure judge (map (row_at rows) ps))

-- the rows at all positions are the rows
rows_from : (done rows : List (List Value)) (n : ℕ) → n ≡ length done → map (row_at (done ++ rows)) (range_with_len n (length rows)) ≡ rows
rows_from done [] n e = refl
rows_from done (row ∷ rows) n e =
    let here : row_at (done ++ row ∷ rows) n ≡ row = ap (row_at (done ++ row ∷ rows)) e ∙ get_or-append_seam done row rows [] in
    let later : map (row_at ((done ++ row ∷ []) ++ rows)) (range_with_len (n + 1) (length rows)) ≡ rows =
    rows_from (done ++ row ∷ []) rows (n + 1) (omega (arith, e, length-append done (row ∷ []))) in
    let same : (done ++ row ∷ []) ++ rows ≡ done ++ row ∷ rows = append_assoc done (row ∷ []) rows in
    let after : map (row_at (done ++ row ∷ rows)) (range_with_len (n + 1) (length rows)) ≡ rows =
    ap (λ all. map (row_at all) (range_with_len (n + 1) (length rows))) (sym same) ∙ later in
    (λ i. here i ∷ after i)

pub all_rows : (rows : List (List Value)) → map (row_at rows) (range_with_len 0 (length rows)) ≡ rows
all_rows rows = rows_from [] rows 0 refl

-- positions that are left out
true_if : (b : Bool) (p : ℕ) (kept rest : List ℕ) → kept ++ (if b then p ∷ rest else rest) ≡ (if b then kept ++ p ∷ [] else kept) ++ rest
true_if true p kept rest = sym (append_assoc kept (p ∷ []) rest)
true_if false p kept rest = refl

pub true_step : (vs : List Value) (ps kept : List ℕ) (i : ℕ) (v : Value) (p : ℕ) → true_at vs ps ≡ kept ++ true_at (drop i vs) (drop i ps)
    → i < length vs → i < length ps → v ≡ get_or vs i Null → p ≡ get_or ps i 0
    → true_at vs ps ≡ (if is_true v then kept ++ p ∷ [] else kept) ++ true_at (drop (i + 1) vs) (drop (i + 1) ps)
true_step vs ps kept i v p h l m e f =
    let first : drop i vs ≡ v ∷ drop (i + 1) vs = drop_more vs i Null l ∙ ap (λ x. x ∷ drop (i + 1) vs) (sym e) in
    let second : drop i ps ≡ p ∷ drop (i + 1) ps = drop_more ps i 0 m ∙ ap (λ x. x ∷ drop (i + 1) ps) (sym f) in
    h ∙ (λ j. kept ++ true_at (first j) (second j)) ∙ true_if (is_true v) p kept (true_at (drop (i + 1) vs) (drop (i + 1) ps))

pub true_taken : (vs : List Value) (ps kept next : List ℕ) (i : ℕ) → true_at vs ps ≡ kept ++ true_at (drop i vs) (drop i ps)
    → i < length vs → i < length ps → is_true (get_or vs i Null) ≡ true → next ≡ kept ++ get_or ps i 0 ∷ []
    → true_at vs ps ≡ next ++ true_at (drop (i + 1) vs) (drop (i + 1) ps)
true_taken vs ps kept next i h l m t n =
    true_step vs ps kept i (get_or vs i Null) (get_or ps i 0) h l m refl refl
    ∙ ap (λ (b : Bool). (if b then kept ++ get_or ps i 0 ∷ [] else kept) ++ true_at (drop (i + 1) vs) (drop (i + 1) ps)) t
    ∙ ap (λ ks. ks ++ true_at (drop (i + 1) vs) (drop (i + 1) ps)) (sym n)

pub true_left : (vs : List Value) (ps kept next : List ℕ) (i : ℕ) → true_at vs ps ≡ kept ++ true_at (drop i vs) (drop i ps)
    → i < length vs → i < length ps → is_true (get_or vs i Null) ≡ false → next ≡ kept
    → true_at vs ps ≡ next ++ true_at (drop (i + 1) vs) (drop (i + 1) ps)
true_left vs ps kept next i h l m t n =
    true_step vs ps kept i (get_or vs i Null) (get_or ps i 0) h l m refl refl
    ∙ ap (λ (b : Bool). (if b then kept ++ get_or ps i 0 ∷ [] else kept) ++ true_at (drop (i + 1) vs) (drop (i + 1) ps)) t
    ∙ ap (λ ks. ks ++ true_at (drop (i + 1) vs) (drop (i + 1) ps)) (sym n)

true_none : (vs : List Value) → true_at vs [] ≡ []
true_none [] = refl
true_none (v ∷ vs) = refl

pub true_end : (vs : List Value) (ps kept : List ℕ) (i : ℕ) → true_at vs ps ≡ kept ++ true_at (drop i vs) (drop i ps) → length ps ≤ i → kept ≡ true_at vs ps
true_end vs ps kept i h l =
    let none : drop i ps ≡ [] = drop_all i ps l in
    sym (h ∙ ap (λ qs. kept ++ true_at (drop i vs) qs) none ∙ ap (λ qs. kept ++ qs) (true_none (drop i vs)) ∙ append-nil kept)

-- a part of a list, in order
pub record IsPart (xs ys : List ℕ) : Type 0 where
  pub fewer : length xs ≤ length ys
  pub whole : length xs ≡ length ys → xs ≡ ys
  pub below : (k : ℕ) → All (λ p. p < k) ys → All (λ p. p < k) xs

part_none : (ys : List ℕ) → IsPart [] ys
part_none [] = record { fewer = omega arith; whole = λ e. refl; below = λ k h. h }
part_none (y ∷ ys) = record { fewer = omega arith; whole = λ e. absurd (omega (arith, e)); below = λ k h. All-nil (λ p. p < k) }

all_first : (P : ℕ → Type 0) (y : ℕ) (ys : List ℕ) → All P (y ∷ ys) → P y
all_first P y ys h = h zero y (omega arith)

all_rest : (P : ℕ → Type 0) (y : ℕ) (ys : List ℕ) → All P (y ∷ ys) → All P ys
all_rest P y ys h = λ k d l. h (suc k) d (omega arith)

part_with : (y : ℕ) (xs ys : List ℕ) → IsPart xs ys → IsPart (y ∷ xs) (y ∷ ys)
part_with y xs ys p = record {
  fewer = omega (arith, p.fewer);
  whole = λ e. ap (λ zs. y ∷ zs) (p.whole (omega (arith, e)));
  below = λ k h. All-cons (λ q. q < k) y xs (all_first (λ q. q < k) y ys h) (p.below k (all_rest (λ q. q < k) y ys h));
}

part_without : (y : ℕ) (xs ys : List ℕ) → IsPart xs ys → IsPart xs (y ∷ ys)
part_without y xs ys p = record {
  fewer = omega (arith, p.fewer);
  whole = λ e. absurd (omega (arith, e, p.fewer));
  below = λ k h. p.below k (all_rest (λ q. q < k) y ys h);
}

part_if : (b : Bool) (y : ℕ) (xs ys : List ℕ) → IsPart xs ys → IsPart (if b then y ∷ xs else xs) (y ∷ ys)
part_if true y xs ys p = part_with y xs ys p
part_if false y xs ys p = part_without y xs ys p

pub true_part : (vs : List Value) (ps : List ℕ) → IsPart (true_at vs ps) ps
true_part [] ps = part_none ps
true_part (v ∷ vs) [] = part_none []
true_part (v ∷ vs) (p ∷ ps) = part_if (is_true v) p (true_at vs ps) ps (true_part vs ps)

calm_first : (here : Outcome) (p : ℕ) (xs ys : List ℕ) → IsPart xs ys → IsPart (first_position here p xs) (p ∷ ys)
calm_first (Ok v) p xs ys h = part_with p xs ys h
calm_first (Err kind) p xs ys h = part_none (p ∷ ys)

pub calm_part : (outcome : ℕ → Outcome) (ps : List ℕ) → IsPart (calm_positions outcome ps) ps
calm_part outcome [] = part_none []
calm_part outcome (p ∷ ps) = calm_first (outcome p) p (calm_positions outcome ps) ps (calm_part outcome ps)

part_of_part : (xs ys zs : List ℕ) → IsPart xs ys → IsPart ys zs → IsPart xs zs
part_of_part xs ys zs p q = record {
  fewer = omega (arith, p.fewer, q.fewer);
  whole = λ e. p.whole (omega (arith, e, p.fewer, q.fewer)) ∙ q.whole (omega (arith, e, p.fewer, q.fewer));
  below = λ k h. p.below k (q.below k h);
}

range_below : (n m k : ℕ) → n + m ≤ k → All (λ p. p < k) (range_with_len n m)
range_below n zero k h = All-nil (λ p. p < k)
range_below n (suc m) k h = All-cons (λ p. p < k) n (range_with_len (n + 1) m) (omega arith) (range_below (n + 1) m k (omega arith))

-- what a filter makes of the rows, through the positions of all of them
pub record IsFiltered (types : List SqlType) (form : Form) (rows : List (List Value)) (failure : Option Fail) (kept : List ℕ) : Type 0 where
  pub within : All (λ p. p < length rows) kept
  pub few : length kept ≤ length rows
  pub all : length kept ≡ length rows → kept ≡ range_with_len 0 (length rows)
  pub rows_are : gather rows [] kept ≡ rows_before (filter_judge types form) rows
  pub failure_is : failure ≡ first_failure (filter_judge types form) rows

pub is_filtered : (types : List SqlType) (form : Form) (rows : List (List Value)) (values : Values) (ps qs kept : List ℕ) → IsTyped types form → AllFit types rows
    → ps ≡ range_with_len 0 (length rows) → values ≡ values_at types rows ps form → qs ≡ calm_positions (cell_at types form rows) ps → kept ≡ true_at values.block.cells qs
    → IsFiltered types form rows values.failure kept
is_filtered types form rows values ps qs kept typed fit e v c t =
    let range = range_with_len 0 (length rows) in
    let calm = calm_positions (cell_at types form rows) range in
    let cells = map (λ p. value_or_null (cell_at types form rows p)) calm in
    let agree = filters_agree types form rows typed fit in
    let block : values.block.cells ≡ cells =
    ap (λ (x : Values). x.block.cells) v ∙ ap (λ rs. map (λ p. value_or_null (cell_at types form rows p)) (calm_positions (cell_at types form rows) rs)) e in
    let kept_is : kept ≡ true_at cells calm = t ∙ (λ i. true_at (block i) ((c ∙ ap (calm_positions (cell_at types form rows)) e) i)) in
    let part = part_of_part (true_at cells calm) calm range (true_part cells calm) (calm_part (cell_at types form rows) range) in
    let count : length range ≡ length rows = length-range_with_len 0 (length rows) in
    record {
      within = subst (All (λ p. p < length rows)) (sym kept_is) (part.below (length rows) (range_below 0 (length rows) (length rows) (omega arith)));
      few = omega (arith, ap length kept_is, part.fewer, count);
      all = λ l. kept_is ∙ part.whole (omega (arith, ap length kept_is, l, count));
      rows_are = ap (gather rows []) kept_is ∙ filtered_rows types form rows range ∙ ap (rows_before (λ row. filtered row (shown types form row))) (all_rows rows)
          ∙ same_rows (λ row. filtered row (shown types form row)) (filter_judge types form) rows agree;
      failure_is = ap (λ (x : Values). x.failure) v ∙ ap (failure_in (cell_at types form rows)) e ∙ filtered_failure types form rows range
          ∙ ap (first_failure (λ row. filtered row (shown types form row))) (all_rows rows) ∙ same_failure (λ row. filtered row (shown types form row)) (filter_judge types form) rows agree;
    }

pub all_kept : (page : TypedPage) (ps : List ℕ) → ps ≡ range_with_len 0 (length page.rows) → page ≡ record { types = page.types; rows = gather page.rows [] ps }
all_kept page ps e =
    let same : gather page.rows [] ps ≡ page.rows = ap (gather page.rows []) e ∙ all_rows page.rows in
    ap (λ (rows : List (List Value)). record { types = page.types; rows = rows }) (sym same)

pub filter_gives : (types : List SqlType) (form : Form) (rows : List (List Value)) (failure : Option Fail) (kept : List ℕ) (page kept_page : TypedPage)
    → IsFiltered types form rows failure kept → types ≡ page.types → rows ≡ page.rows → kept_page ≡ record { types = page.types; rows = gather page.rows [] kept }
    → record { page = kept_page; failure = failure } ≡ judged (filter_judge types form) types rows
filter_gives types form rows failure kept page kept_page is t r e =
    let same : kept_page.rows ≡ rows_before (filter_judge types form) rows =
    ap (λ (p : TypedPage). p.rows) e ∙ ap (λ (rs : List (List Value)). gather rs [] kept) (sym r) ∙ is.rows_are in
    let kinds : kept_page.types ≡ types = ap (λ (p : TypedPage). p.types) e ∙ sym t in
    (λ i. record { page = record { types = kinds i; rows = same i }; failure = is.failure_is i })
