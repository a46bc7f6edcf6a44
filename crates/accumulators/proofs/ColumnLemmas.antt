-- Columns that stand one behind the other.
use Rattle.std.proofs.Common.{◌≡◌, ℕ, List, [], ◌∷◌, ◌++◌, length, drop, map, refl, ap, sym, ◌∙◌, arith, drop_at}
use Rattle.std.specs.Prelude.{All, flat_map}
use Rattle.std.proofs.lemmas.List.Elements.{All-head, All-tail}
use Rattle.sql_values.specs.declared.value.Value.{Value}
use Rattle.sql_values.specs.declared.relational.Call.{Call}
use Rattle.sql_values.specs.declared.relational.Call.TheVariants.{CountAll, Count, Sum, Min, Max, Avg}
use Rattle.sql_values.specs.Cells.{cell}
use Rattle.relation_laws.specs.Partials.{call_columns, call_width, merged_call, merged_calls}
use Rattle.accumulators.specs.Columns.{column_of, columns_of}
use Rattle.accumulators.specs.Kept.{Kept, added_row, all_columns, calls_of, kinds_of, merged_each, merged_kept}
use Rattle.accumulators.specs.Limits.{IsKept}

pub width-merged : (call : Call) (p q : List Value) → length (merged_call call p q) ≡ call_width call
width-merged CountAll p q = refl
width-merged (Count column) p q = refl
width-merged (Sum column) p q = refl
width-merged (Min column) p q = refl
width-merged (Max column) p q = refl
width-merged (Avg column) p q = refl

pub width-columns : (call : Call) (cells : List Value) → length (columns_of call cells) ≡ call_width call
width-columns CountAll cells = refl
width-columns (Count column) cells = refl
width-columns (Sum column) cells = refl
width-columns (Min column) cells = refl
width-columns (Max column) cells = refl
width-columns (Avg column) cells = refl

-- the cells of a call's columns do not see what stands behind
pub first : (p more : List Value) → length p ≡ 1 → cell (p ++ more) 0 ≡ cell p 0
first [] more h = absurd (omega arith)
first (v ∷ p) more h = refl

pub first_two : (p more : List Value) → length p ≡ 2 → (cell (p ++ more) 0 ≡ cell p 0) × (cell (p ++ more) 1 ≡ cell p 1)
first_two [] more h = absurd (omega arith)
first_two (v ∷ []) more h = absurd (omega arith)
first_two (v ∷ w ∷ p) more h = (refl, refl)

pub in_front : (call : Call) (p more q : List Value) → length p ≡ call_width call → merged_call call (p ++ more) q ≡ merged_call call p q
in_front CountAll p more q h = refl
in_front (Count column) p more q h = ap (λ v. merged_call (Count column) (v ∷ []) q) (first p more h)
in_front (Sum column) p more q h = ap (λ v. merged_call (Sum column) (v ∷ []) q) (first p more h)
in_front (Min column) p more q h = ap (λ v. merged_call (Min column) (v ∷ []) q) (first p more h)
in_front (Max column) p more q h = ap (λ v. merged_call (Max column) (v ∷ []) q) (first p more h)
in_front (Avg column) p more q h = λ i. merged_call (Avg column) ((first_two p more h).0 i ∷ (first_two p more h).1 i ∷ []) q

pub in_front_too : (call : Call) (p q more : List Value) → length q ≡ call_width call → merged_call call p (q ++ more) ≡ merged_call call p q
in_front_too CountAll p q more h = refl
in_front_too (Count column) p q more h = ap (λ v. merged_call (Count column) p (v ∷ [])) (first q more h)
in_front_too (Sum column) p q more h = ap (λ v. merged_call (Sum column) p (v ∷ [])) (first q more h)
in_front_too (Min column) p q more h = ap (λ v. merged_call (Min column) p (v ∷ [])) (first q more h)
in_front_too (Max column) p q more h = ap (λ v. merged_call (Max column) p (v ∷ [])) (first q more h)
in_front_too (Avg column) p q more h = λ i. merged_call (Avg column) p ((first_two q more h).0 i ∷ (first_two q more h).1 i ∷ [])

pub calls-merged : (ks : List Kept) (columns : List Value) → calls_of (merged_each ks columns) ≡ calls_of ks
calls-merged [] columns = refl
calls-merged (k ∷ ks) columns = ap (λ cs. k.call ∷ cs) (calls-merged ks (drop (call_width k.call) columns))

pub kinds-merged : (ks : List Kept) (columns : List Value) → kinds_of (merged_each ks columns) ≡ kinds_of ks
kinds-merged [] columns = refl
kinds-merged (k ∷ ks) columns = ap (λ cs. k.kind ∷ cs) (kinds-merged ks (drop (call_width k.call) columns))

pub columns-merged : (rows : ℕ) (ks : List Kept) (columns : List Value) → All (IsKept rows) ks
    → all_columns (merged_each ks columns) ≡ merged_calls (calls_of ks) (all_columns ks) columns
columns-merged rows [] columns all = refl
columns-merged rows (k ∷ ks) columns all =
    let w = call_width k.call in
    let own : length k.columns ≡ w = (All-head (IsKept rows) k ks all).width in
    let more = all_columns ks in
    let rest : all_columns (merged_each ks (drop w columns)) ≡ merged_calls (calls_of ks) (drop w (k.columns ++ more)) (drop w columns)
    = columns-merged rows ks (drop w columns) (All-tail (IsKept rows) k ks all)
    ∙ ap (λ p. merged_calls (calls_of ks) p (drop w columns)) (sym (drop_at k.columns more w own)) in
    λ i. sym (in_front k.call k.columns more columns own) i ++ rest i

pub row_columns : (row : List Value) (call : Call) → call_columns (row ∷ []) call ≡ columns_of call (cell row (column_of call) ∷ [])
row_columns row CountAll = refl
row_columns row (Count column) = refl
row_columns row (Sum column) = refl
row_columns row (Min column) = refl
row_columns row (Max column) = refl
row_columns row (Avg column) = refl

abbrev pub columns_of_row : List Value → List Kept → List Value
columns_of_row row ks = flat_map (call_columns (row ∷ [])) (calls_of ks)

-- a row is added as its partial row is merged in
pub rows-merged : (row : List Value) (ks : List Kept) → map (added_row row) ks ≡ merged_each ks (columns_of_row row ks)
rows-merged row [] = refl
rows-merged row (k ∷ ks) =
    let w = call_width k.call in
    let own = call_columns (row ∷ []) k.call in
    let more = columns_of_row row ks in
    let width : length own ≡ w = ap length (row_columns row k.call) ∙ width-columns k.call (cell row (column_of k.call) ∷ []) in
    let head : columns_of k.call (cell row (column_of k.call) ∷ []) ≡ own = sym (row_columns row k.call) in
    let here : added_row row k ≡ merged_kept k (own ++ more)
    = ap (λ (cs : List Value). record { call = k.call; kind = k.kind; columns = cs }) (ap (merged_call k.call k.columns) head ∙ sym (in_front_too k.call k.columns own more width)) in
    let rest : map (added_row row) ks ≡ merged_each ks (drop w (own ++ more)) = rows-merged row ks ∙ ap (merged_each ks) (sym (drop_at own more w width)) in
    λ i. here i ∷ rest i
