-- Rows of keys and partial rows, as `FinalAgg` takes them.
use Rattle.std.proofs.Common.{◌≡◌, ℕ, zero, suc, ◌+◌, ◌^◌, ◌≤◌, ◌<◌, List, [], ◌∷◌, ◌++◌, Bool, true, false, length, get_or, map, drop, take, refl, ap, sym, subst, ◌∙◌, arith, append_assoc, drop-cons, length-append}
use Rattle.std.specs.Prelude.{All, ◌&&◌}
use Rattle.std.specs.List.{list_all, range_with_len}
use Rattle.std.proofs.lemmas.Bool.{and_parts}
use Rattle.std.proofs.lemmas.List.{take-append-drop}
use Rattle.std.proofs.lemmas.List.Elements.{All-head, All-tail, All-weaker}
use Rattle.std.proofs.lemmas.List.FromFn.{length-range_with_len}
use Rattle.sql_values.specs.declared.types.SqlType.{SqlType}
use Rattle.sql_values.specs.declared.value.Value.{Value}
use Rattle.sql_values.specs.declared.relational.Call.{Call}
use Rattle.sql_values.specs.Blocks.{fits}
use Rattle.sql_values.specs.Cells.{cell, cut}
use Rattle.sql_values.specs.ColumnRows.{fits_row}
use Rattle.aggregation.specs.Alike.{held_row}
use Rattle.accumulators.specs.Groups.{Group, empty_group}
use Rattle.accumulators.specs.Limits.{is_partial}
use Rattle.aggregation.specs.Finals.{FinalState, IsFinal, layout_in}
use Rattle.col_pages.specs.Fits.{AllFit}
use Rattle.aggregation.specs.Giving.{GroupsState, no_groups}
use Rattle.aggregation.specs.Layouts.{Layout, is_layout_row}
use Rattle.plan_trees.specs.Layouts.{layout_types}
use Rattle.aggregation.proofs.FitLemmas.{RowFits}

pub fits-long : (types : List SqlType) (row : List Value) → RowFits types row → length row ≡ length types
fits-long [] [] h = refl
fits-long [] (v ∷ row) h = cc
fits-long (kind ∷ types) [] h = cc
fits-long (kind ∷ types) (v ∷ row) h = ap suc (fits-long types row (and_parts (fits kind v) (fits_row types row) h).1)

cell-seam : (done row : List Value) (v : Value) (n : ℕ) → n ≡ length done → cell (done ++ v ∷ row) n ≡ v
cell-seam [] row v zero e = refl
cell-seam [] row v (suc n) e = cc
cell-seam (x ∷ done) row v zero e = cc
cell-seam (x ∷ done) row v (suc n) e = cell-seam done row v n (omega (arith, e))

cut-range : (done row : List Value) (n width : ℕ) → n ≡ length done → width ≤ length row → cut (range_with_len n width) (done ++ row) ≡ take width row
cut-range done row n zero e le = refl
cut-range done [] n (suc width) e le = absurd (omega (arith, le))
cut-range done (v ∷ row) n (suc width) e le =
    let again : (done ++ v ∷ []) ++ row ≡ done ++ v ∷ row = append_assoc done (v ∷ []) row in
    let rest : cut (range_with_len (n + 1) width) (done ++ v ∷ row) ≡ take width row
    = ap (cut (range_with_len (n + 1) width)) (sym again) ∙ cut-range (done ++ v ∷ []) row (n + 1) width (omega (arith, e, length-append done (v ∷ []))) (omega (arith, le)) in
    λ i. cell-seam done row v n e i ∷ rest i

-- a row's first columns, and the others behind them
held-same : (width : ℕ) (row : List Value) → width ≤ length row → held_row (range_with_len 0 width) row ≡ row
held-same width row le =
    (λ i. cut-range [] row 0 width refl le i ++ drop (length-range_with_len 0 width i) row) ∙ take-append-drop width row

pub held-rows : (columns : List ℕ) (width : ℕ) (rows : List (List Value)) → columns ≡ range_with_len 0 width → All (λ row. width ≤ length row) rows → map (held_row columns) rows ≡ rows
held-rows columns width [] e all = refl
held-rows columns width (row ∷ rows) e all =
    let here : held_row columns row ≡ row = ap (λ cs. held_row cs row) e ∙ held-same width row (All-head (λ r. width ≤ length r) row rows all) in
    λ i. here i ∷ held-rows columns width rows e (All-tail (λ r. width ≤ length r) row rows all) i

pub layout-long : (kinds types : List SqlType) (calls : List Call) → length kinds ≤ length (layout_types kinds types calls)
layout-long kinds types calls = simp length-append (omega arith)

-- rows of types that begin with those of the keys have their keys
pub layout-rows : (columns : List ℕ) (width : ℕ) (taken : List SqlType) (rows : List (List Value)) → columns ≡ range_with_len 0 width → width ≤ length taken
    → AllFit taken rows → map (held_row columns) rows ≡ rows
layout-rows columns width taken rows e le fit =
    held-rows columns width rows e
    (All-weaker (RowFits taken) (λ row. width ≤ length row) (λ row h. omega (arith, le, fits-long taken row h)) rows fit)

-- one more column
pub columns-more : (held next : List ℕ) (n : ℕ) → held ≡ range_with_len 0 n → next ≡ held ++ n ∷ [] → next ≡ range_with_len 0 (n + 1)
columns-more held next n h e =
    let count : suc n ≡ n + 1 = omega arith in
    let last : n ≡ 0 + n = omega arith in
    e ∙ (λ i. h i ++ last i ∷ []) ∙ sym (ranged 0 n) ∙ ap (range_with_len 0) count
  where
    ranged : (a n : ℕ) → range_with_len a (suc n) ≡ range_with_len a n ++ (a + n) ∷ []
    ranged a zero = let same : a ≡ a + 0 = omega arith in ap (λ (m : ℕ). m ∷ []) same
    ranged a (suc n) = let same : a + 1 + n ≡ a + suc n = omega arith in ap (λ ms. a ∷ ms) (ranged (a + 1) n ∙ ap (λ (m : ℕ). range_with_len (a + 1) n ++ m ∷ []) same)

pub columns-long : (columns : List ℕ) (width : ℕ) → columns ≡ range_with_len 0 width → length columns ≡ width
columns-long columns width e = ap length e ∙ length-range_with_len 0 width

-- rows of a page, one by one
pub rows-stop : (f : List Value → Bool) (rows : List (List Value)) (i : ℕ) (whole : Bool) → i < length rows → f (get_or rows i []) ≡ false → whole ≡ list_all f (drop i rows) → false ≡ whole
rows-stop f rows i whole lt stop e =
    sym (e ∙ ap (list_all f) (drop-cons rows i [] lt) ∙ ap (λ b. b && list_all f (drop (suc i) rows)) stop)

pub rows-pass : (f : List Value → Bool) (rows : List (List Value)) (i : ℕ) (whole : Bool) → i < length rows → f (get_or rows i []) ≡ true → whole ≡ list_all f (drop i rows) → whole ≡ list_all f (drop (i + 1) rows)
rows-pass f rows i whole lt pass e =
    let next : suc i ≡ i + 1 = omega arith in
    e ∙ ap (list_all f) (drop-cons rows i [] lt) ∙ ap (λ b. b && list_all f (drop (suc i) rows)) pass ∙ ap (λ n. list_all f (drop n rows)) next

-- a group of no row says which rows are of the layout
pub layout-told : (s : FinalState) (node width : ℕ) (part : Group) (taken : List SqlType) (groups : GroupsState) (row : List Value) → record { node = node; groups = groups; taken = taken } ≡ s
    → IsFinal width part taken groups → is_layout_row (layout_in s) row ≡ is_partial part.calls part.kinds (drop width row)
layout-told s node width part taken groups row view is =
    let size : length groups.table.columns ≡ width = ap length is.front ∙ length-range_with_len 0 width in
    ap (λ (x : FinalState). is_layout_row (layout_in x) row) (sym view)
    ∙ (λ i. is_partial (sym is.none i).calls (sym is.none i).kinds (drop (size i) row))

pub final-made : (columns : List ℕ) (calls : List Call) (types given : List SqlType) (page width : ℕ) (part : Group) (taken : List SqlType) (g : GroupsState) → g ≡ no_groups columns calls types given page
    → columns ≡ range_with_len 0 width → width ≤ 2 ^ 31 → width ≤ length taken → part ≡ empty_group types calls → IsFinal width part taken g
final-made columns calls types given page width part taken g made front few wide none =
    subst (λ (x : GroupsState). IsFinal width part taken x) (sym made) (record { few = few; front = front; wide = wide; none = none })

pub final-layout : (columns : List ℕ) (calls : List Call) (types given taken : List SqlType) (page width keys node : ℕ) (g : GroupsState) → g ≡ no_groups columns calls types given page
    → columns ≡ range_with_len 0 width → width ≡ keys
    → ◌≡◌ {A = Layout} (layout_in (record { node = node; groups = g; taken = taken })) (record { width = keys; types = types; calls = calls })
final-layout columns calls types given taken page width keys node g made front size =
    ap (λ (x : GroupsState). layout_in (record { node = node; groups = x; taken = taken })) made
    ∙ ap (λ (n : ℕ). record { width = n; types = types; calls = calls }) (ap length front ∙ length-range_with_len 0 width ∙ size)
