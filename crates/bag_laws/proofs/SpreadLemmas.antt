-- What sits by bucket before a join or a grouping sits by bucket behind it.
use Rattle.std.proofs.Common.{◌≡◌, ℕ, ◌+◌, ◌<◌, ◌≤◌, suc, List, [], ◌∷◌, ◌++◌, Bool, true, false, refl, ap, sym, ◌∙◌, arith, length, take, subst, get_or}
use Rattle.std.specs.Prelude.{All, flat_map, sum_by, ◌==◌, ◌&&◌, nat_le, if◌then◌else◌, pos}
use Rattle.std.proofs.lemmas.Bool.{and_from, and_parts, eq-eqb, eqb-true, leb-true}
use Rattle.std.proofs.lemmas.List.{length-append, length-map, length-replicate, length-take}
use Rattle.std.proofs.lemmas.List.Concat.{length-flat_map}
use Rattle.std.proofs.lemmas.List.Elements.{All-head, All-tail}
use Rattle.sql_values.specs.declared.types.SqlType.{SqlType}
use Rattle.sql_values.specs.declared.value.Value.{Value}
use Rattle.sql_values.specs.declared.value.Value.TheVariants.{Null, Decimal}
use Rattle.sql_values.specs.declared.relational.Call.{Call}
use Rattle.sql_values.specs.declared.relational.Call.TheVariants.{CountAll, Count, Sum, Min, Max, Avg}
use Rattle.sql_values.specs.declared.relational.JoinKind.{JoinKind}
use Rattle.sql_values.specs.Cells.{cell, cut}
use Rattle.relation_laws.specs.Groups.{group_of, groups_of, keys_of}
use Rattle.relation_laws.specs.Joins.{join_of}
use Rattle.relation_laws.specs.Partials.{call_columns, call_width, overfull, partial_of, with_rows}
use Rattle.relation_laws.specs.Aggregates.{most_group_rows}
use Rattle.relation_laws.specs.Verdicts.{kept}
use Rattle.relation_laws.specs.Widths.{HaveWidth}
use Rattle.bag_laws.specs.Buckets.{AllBelow, Sits, SitByBucket, at_places, key_bucket}
use Rattle.bag_laws.specs.Pieces.{finals_of, partials_of}
use Rattle.bag_laws.proofs.BagLemmas.{weight-agree}
use Rattle.bag_laws.proofs.BucketLemmas.{sits-cons, sits-head, sits-nil, sits-tail, sits-map}
use Rattle.bag_laws.proofs.JoinLemmas.{sits-join}
use Rattle.bag_laws.proofs.KeyLemmas.{key_bucket-append, key_bucket-cut, key_bucket-take}
use Rattle.bag_laws.proofs.PieceLemmas.{keys_sit, wide}
use Rattle.bag_laws.proofs.VerdictLemmas.{sits-finals_of, sits-groups_of}

module _ {X : Type 0} where
  pub sits-both : (p q : X → Bool) (A : List X) → Sits p A → Sits q A → Sits (λ x. p x && q x) A
  sits-both p q [] s t = sits-nil (λ x. p x && q x)
  sits-both p q (x ∷ A) s t =
      sits-cons (λ y. p y && q y) x A (and_from (p x) (q x) (sits-head p x A s) (sits-head q x A t)) (sits-both p q A (sits-tail p x A s) (sits-tail q x A t))

  pub sits-all : (p : X → Bool) (A : List X) → All (λ x. p x ≡ true) A → Sits p A
  sits-all p [] h = sits-nil p
  sits-all p (x ∷ A) h = sits-cons p x A (All-head (λ y. p y ≡ true) x A h) (sits-all p A (All-tail (λ y. p y ≡ true) x A h))

-- rows of a width
pub sits-width : (width : ℕ) (rows : List (List Value)) → HaveWidth width rows → Sits (wide width) rows
sits-width width rows h = sits-all (wide width) rows (λ k d lt. eq-eqb (length (get_or rows k d)) width (h k d lt))

-- a join's rows are in the buckets of the left side's columns
pub sit-join : (kind : JoinKind) (on : List (ℕ × ℕ)) (l r n : ℕ) (columns : List ℕ) → AllBelow l columns → (left right : ℕ → List (List Value))
    → ((k : ℕ) → k < n → HaveWidth l (left k)) → SitByBucket (key_bucket n columns) n left
    → SitByBucket (key_bucket n columns) n (λ k. join_of kind on l r (left k) (right k))
sit-join kind on l r n columns below left right width sits k lt =
    sits-join kind on l r (λ a. wide l a && (key_bucket n columns a == k)) (λ row. key_bucket n columns row == k)
    (λ a x e.
    let parts = and_parts (wide l a) (key_bucket n columns a == k) e in
    let long : length a ≡ l = eqb-true (length a) l parts.0 in
    ap (λ b. b == k) (key_bucket-append n columns a x (subst (λ w. AllBelow w columns) (sym long) below)) ∙ parts.1)
    (left k) (right k) (sits-both (wide l) (λ a. key_bucket n columns a == k) (left k) (sits-width l (left k) (width k lt)) (sits k lt))

-- a group's row is in the bucket of its key
pub sit-groups_of : (types : List SqlType) (column : ℕ) (columns : List ℕ) (calls : List Call) (n : ℕ) (places : List ℕ) → AllBelow (length (column ∷ columns)) places
    → (lists : ℕ → List (List Value)) → SitByBucket (key_bucket n (at_places (column ∷ columns) places)) n lists
    → SitByBucket (key_bucket n places) n (λ k. flat_map kept (groups_of types (column ∷ columns) calls (lists k)))
sit-groups_of types column columns calls n places below lists sits k lt =
    let C = column ∷ columns in
    sits-groups_of types calls (λ row. key_bucket n (at_places C places) row == k) (λ key. wide (length C) key && (key_bucket n places key == k)) (λ row. key_bucket n places row == k)
    (λ key values e.
    let parts = and_parts (wide (length C) key) (key_bucket n places key == k) e in
    let long : length key ≡ length C = eqb-true (length key) (length C) parts.0 in
    ap (λ b. b == k) (key_bucket-append n places key values (subst (λ w. AllBelow w places) (sym long) below)) ∙ parts.1)
    column columns
    (λ row e. and_from (wide (length C) (cut C row)) (key_bucket n places (cut C row) == k)
    (eq-eqb (length (cut C row)) (length C) (length-map C (cell row))) (ap (λ b. b == k) (sym (key_bucket-cut n C places row below)) ∙ e))
    (lists k) (sits k lt)

-- at least so many columns
abbrev pub reaches : ℕ → List Value → Bool
reaches width row = nat_le width (length row)

pub sit-finals_of : (types : List SqlType) (width : ℕ) (calls : List Call) (n : ℕ) (columns : List ℕ) → AllBelow (suc width) columns
    → (lists : ℕ → List (List Value)) → ((k : ℕ) → k < n → Sits (reaches (suc width)) (lists k)) → SitByBucket (key_bucket n columns) n lists
    → SitByBucket (key_bucket n columns) n (λ k. flat_map kept (finals_of types (suc width) calls (lists k)))
sit-finals_of types width calls n columns below lists reach sits k lt =
    let w = suc width in
    sits-finals_of types calls (λ row. reaches w row && (key_bucket n columns row == k)) (λ key. wide w key && (key_bucket n columns key == k)) (λ row. key_bucket n columns row == k)
    (λ key values e.
    let parts = and_parts (wide w key) (key_bucket n columns key == k) e in
    let long : length key ≡ w = eqb-true (length key) w parts.0 in
    ap (λ b. b == k) (key_bucket-append n columns key values (subst (λ v. AllBelow v columns) (sym long) below)) ∙ parts.1)
    width
    (λ row e.
    let parts = and_parts (reaches w row) (key_bucket n columns row == k) e in
    let long : w ≤ length row = leb-true w (length row) parts.0 in
    and_from (wide w (take w row)) (key_bucket n columns (take w row) == k)
    (eq-eqb (length (take w row)) w (omega (arith, length-take w row, long)))
    (ap (λ b. b == k) (sym (key_bucket-take n w columns row below)) ∙ parts.1))
    (lists k) (sits-both (reaches w) (λ row. key_bucket n columns row == k) (lists k) (reach k lt) (sits k lt))

-- how wide partial rows are
call_columns-width : (rows : List (List Value)) (call : Call) → length (call_columns rows call) ≡ call_width call
call_columns-width rows CountAll = refl
call_columns-width rows (Count column) = refl
call_columns-width rows (Sum column) = refl
call_columns-width rows (Min column) = refl
call_columns-width rows (Max column) = refl
call_columns-width rows (Avg column) = refl

with_rows-width : (calls : List Call) (rows : ℕ) (columns : List Value) → length columns ≡ sum_by call_width calls → length (with_rows calls rows columns) ≡ suc (sum_by call_width calls)
with_rows-width calls rows columns e = either (nat_le rows most_group_rows)
  where
    either : (b : Bool) → length (if b then Decimal (pos rows) ∷ columns else overfull calls) ≡ suc (sum_by call_width calls)
    either true = ap suc e
    either false = ap suc (length-replicate (sum_by call_width calls) Null)

pub partial_of-width : (calls : List Call) (rows : List (List Value)) → length (partial_of calls rows) ≡ suc (sum_by call_width calls)
partial_of-width calls rows =
    with_rows-width calls (length rows) (flat_map (call_columns rows) calls)
    (length-flat_map (call_columns rows) calls ∙ weight-agree (λ call. length (call_columns rows call)) call_width (call_columns-width rows) calls)

pub partials_of-width : (columns : List ℕ) (calls : List Call) (rows : List (List Value))
    → Sits (wide (length columns + suc (sum_by call_width calls))) (partials_of columns calls rows)
partials_of-width columns calls rows =
    let width = length columns + suc (sum_by call_width calls) in
    let row_of : List Value → List Value = λ key. key ++ partial_of calls (group_of columns rows key) in
    sits-map (wide (length columns)) (wide width) row_of
    (λ key e. eq-eqb (length (row_of key)) width
    (omega (arith, length-append key (partial_of calls (group_of columns rows key)), eqb-true (length key) (length columns) e, partial_of-width calls (group_of columns rows key))))
    (keys_of columns rows) (keys_sit columns rows)
