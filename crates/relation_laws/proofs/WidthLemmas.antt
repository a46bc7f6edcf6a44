-- The widths of the rows of joins and groups, and of kept rows.
use Rattle.std.proofs.Common.{◌≡◌, ℕ, suc, ◌+◌, List, [], ◌∷◌, ◌++◌, Bool, refl, ◌∙◌, arith, length, map, subst}
use Rattle.std.specs.Prelude.{All, filter, flat_map, not, Ok, Err, Result}
use Rattle.std.proofs.lemmas.List.{length-append, length-map, length-replicate}
use Rattle.std.proofs.lemmas.List.Elements.{All-nil, All-cons, All-head, All-tail, All-append, All-filter}
use Rattle.sql_values.specs.declared.types.SqlType.{SqlType}
use Rattle.sql_values.specs.declared.value.Value.{Value}
use Rattle.sql_values.specs.declared.value.Value.TheVariants.{Null}
use Rattle.sql_values.specs.declared.fail.Fail.{Fail}
use Rattle.sql_values.specs.declared.relational.Call.{Call}
use Rattle.sql_values.specs.declared.relational.JoinKind.{JoinKind}
use Rattle.sql_values.specs.declared.relational.JoinKind.TheVariants.{Inner, Left}
use Rattle.sql_values.specs.Cells.{cell, cut}
use Rattle.sql_functions.specs.Outcomes.{Outcome}
use Rattle.relation_laws.specs.Aggregates.{aggregates_of, all_values, call_result, with_first, within_rows}
use Rattle.relation_laws.specs.Equality.{same_row}
use Rattle.relation_laws.specs.Groups.{distinct, group_of, grouped_row, groups_of, keys_of}
use Rattle.relation_laws.specs.Joins.{are_partners, beside_each, join_of, nulls, partnered}
use Rattle.relation_laws.specs.Verdicts.{Verdict, kept, verdict_of}
use Rattle.relation_laws.specs.Widths.{HaveWidth}

module _ {X : Type 0} (P : X → Type 0) where
  pub All-distinct : (same : X → X → Bool) (xs : List X) → All P xs → All P (distinct same xs)
  All-distinct same [] h = h
  All-distinct same (x ∷ xs) h =
      All-cons P x (filter (λ y. not (same x y)) (distinct same xs)) (All-head P x xs h)
      (All-filter (λ y. not (same x y)) P (distinct same xs) (All-distinct same xs (All-tail P x xs h)))

module _ {X Y : Type 0} (Q : X → Type 0) (P : Y → Type 0) where
  pub All-each : (f : X → Y) → ((x : X) → Q x → P (f x)) → (xs : List X) → All Q xs → All P (map f xs)
  All-each f each [] h = All-nil P
  All-each f each (x ∷ xs) h = All-cons P (f x) (map f xs) (each x (All-head Q x xs h)) (All-each f each xs (All-tail Q x xs h))

  pub All-flat : (f : X → List Y) → ((x : X) → Q x → All P (f x)) → (xs : List X) → All Q xs → All P (flat_map f xs)
  All-flat f each [] h = All-nil P
  All-flat f each (x ∷ xs) h = All-append P (f x) (flat_map f xs) (each x (All-head Q x xs h)) (All-flat f each xs (All-tail Q x xs h))

-- rows of a width
abbrev Wide : ℕ → List Value → Type 0
Wide width row = length row ≡ width

pub cut_width : (columns : List ℕ) (row : List Value) → length (cut columns row) ≡ length columns
cut_width columns row = length-map columns (cell row)

beside_width : (l r : ℕ) (a : List Value) (bs : List (List Value)) → length a ≡ l → HaveWidth r bs → HaveWidth (l + r) (beside_each a bs)
beside_width l r a bs wide h = All-each (Wide r) (Wide (l + r)) (λ b. a ++ b) (λ b w. length-append a b ∙ omega (arith, wide, w)) bs h

partnered_width : (kind : JoinKind) (l r : ℕ) (a : List Value) (bs : List (List Value)) → length a ≡ l → HaveWidth r bs → HaveWidth (l + r) (partnered kind (nulls r) a bs)
partnered_width Inner l r a bs wide h = beside_width l r a bs wide h
partnered_width Left l r a [] wide h =
    All-cons (Wide (l + r)) (a ++ nulls r) [] (length-append a (nulls r) ∙ omega (arith, wide, length-replicate r Null)) (All-nil (Wide (l + r)))
partnered_width Left l r a (b ∷ bs) wide h = beside_width l r a (b ∷ bs) wide h

pub join_width : (kind : JoinKind) (on : List (ℕ × ℕ)) (l r : ℕ) (left right : List (List Value))
    → HaveWidth l left → HaveWidth r right → HaveWidth (l + r) (join_of kind on l r left right)
join_width kind on l r left right wide h =
    All-flat (Wide l) (Wide (l + r)) (λ a. partnered kind (nulls r) a (filter (are_partners on a) right))
    (λ a w. partnered_width kind l r a (filter (are_partners on a) right) w (All-filter (are_partners on a) (Wide r) right h)) left wide

-- the values of outcomes are as many
more_wide : (width : ℕ) (v : Value) (values : Result (List Value) Fail) → HaveWidth width (kept (verdict_of values)) → HaveWidth (suc width) (kept (verdict_of (with_first v values)))
more_wide width v (Ok vs) h = All-cons (Wide (suc width)) (v ∷ vs) [] (omega (arith, All-head (Wide width) vs [] h)) (All-nil (Wide (suc width)))
more_wide width v (Err kind) h = All-nil (Wide (suc width))

pub values_width : (os : List Outcome) → HaveWidth (length os) (kept (verdict_of (all_values os)))
values_width [] = All-cons (Wide 0) [] [] refl (All-nil (Wide 0))
values_width (Err kind ∷ os) = All-nil (Wide (length (Err kind ∷ os)))
values_width (Ok v ∷ os) = more_wide (length os) v (all_values os) (values_width os)

grouped_at : (keys width : ℕ) (key : List Value) (results : Result (List Value) Fail) → length key ≡ keys → HaveWidth width (kept (verdict_of results)) → HaveWidth (keys + width) (kept (grouped_row key results))
grouped_at keys width key (Ok vs) wide h =
    All-cons (Wide (keys + width)) (key ++ vs) [] (length-append key vs ∙ omega (arith, wide, All-head (Wide width) vs [] h)) (All-nil (Wide (keys + width)))
grouped_at keys width key (Err kind) wide h = All-nil (Wide (keys + width))

cuts_width : (columns : List ℕ) (rows : List (List Value)) → HaveWidth (length columns) (map (cut columns) rows)
cuts_width columns [] = All-nil (Wide (length columns))
cuts_width columns (row ∷ rows) = All-cons (Wide (length columns)) (cut columns row) (map (cut columns) rows) (cut_width columns row) (cuts_width columns rows)

keys_width : (columns : List ℕ) (rows : List (List Value)) → HaveWidth (length columns) (keys_of columns rows)
keys_width [] rows = All-cons (Wide 0) [] [] refl (All-nil (Wide 0))
keys_width (column ∷ columns) rows =
    All-distinct (Wide (length (column ∷ columns))) same_row (map (cut (column ∷ columns)) rows) (cuts_width (column ∷ columns) rows)

results_width : (types : List SqlType) (calls : List Call) (rows : List (List Value)) → HaveWidth (length calls) (kept (verdict_of (aggregates_of types calls rows)))
results_width types calls rows =
    let outcomes = map (λ call. within_rows (length rows) (call_result types rows call)) calls in
    subst (λ n. HaveWidth n (kept (verdict_of (all_values outcomes)))) (length-map calls (λ call. within_rows (length rows) (call_result types rows call))) (values_width outcomes)

pub groups_width : (types : List SqlType) (columns : List ℕ) (calls : List Call) (rows : List (List Value))
    → HaveWidth (length columns + length calls) (flat_map kept (groups_of types columns calls rows))
groups_width types columns calls rows =
    let width = length columns + length calls in
    let results : List Value → Result (List Value) Fail = λ key. aggregates_of types calls (group_of columns rows key) in
    let row_of : List Value → Verdict = λ key. grouped_row key (results key) in
    All-flat (λ verdict. HaveWidth width (kept verdict)) (Wide width) kept (λ verdict h. h) (map row_of (keys_of columns rows))
    (All-each (Wide (length columns)) (λ verdict. HaveWidth width (kept verdict)) row_of
    (λ key wide. grouped_at (length columns) (length calls) key (results key) wide (results_width types calls (group_of columns rows key)))
    (keys_of columns rows) (keys_width columns rows))
