-- The cells of a block have its type, and so rows have the types of their columns.
use Rattle.std.proofs.Common.{◌≡◌, ℕ, ◌<◌, ◌≤◌, ◌+◌, Bool, true, List, [], ◌∷◌, Option, Some, None, length, get_or, take, map, refl, sym, subst, zero, suc}
use Rattle.std.specs.Prelude.{All, IsTrue, replicate, ◌&&◌}
use Rattle.std.proofs.lemmas.List.{take_all}
use Rattle.std.proofs.lemmas.List.Elements.{All-nil, All-cons, All-head, All-tail, All-replicate, All-more, All-same}
use Rattle.sql_values.specs.declared.types.SqlType.{SqlType}
use Rattle.sql_values.specs.declared.types.SqlType.TheVariants as kind
use Rattle.sql_values.specs.declared.value.Value.{Value}
use Rattle.sql_values.specs.declared.value.Value.TheVariants as value
use Rattle.sql_values.specs.declared.plain_block.Held.{Held}
use Rattle.sql_values.specs.declared.plain_block.Held.TheVariants.{Boolean, Bigint, Decimal, Varchar, Date}
use Rattle.columns.specs.Present.{gather}
use Rattle.sql_values.specs.Blocks.{TypedCells, fits, or_null, chosen}
use Rattle.sql_values.specs.Held.{typed}
use Rattle.sql_values.specs.ColumnRows.{cons_each, rows_of, kinds_of, fits_row}

abbrev pub Fit : SqlType → List Value → Type 0
Fit kind vs = All (λ v. IsTrue (fits kind v)) vs

abbrev pub RowsFit : List SqlType → List (List Value) → Type 0
RowsFit kinds rows = All (λ row. IsTrue (fits_row kinds row)) rows

null : (k : SqlType) → IsTrue (fits k value.Null)
null kind.Boolean = refl
null kind.Bigint = refl
null (kind.Decimal p s) = refl
null kind.Varchar = refl
null kind.Date = refl

each : {A : Type 0} (f : A → Value) (k : SqlType) → ((x : A) → IsTrue (fits k (f x))) → (xs : List (Option A)) → Fit k (map (or_null f) xs)
each f k h [] = All-nil (λ v. IsTrue (fits k v))
each f k h (None ∷ xs) = All-cons (λ v. IsTrue (fits k v)) value.Null (map (or_null f) xs) (null k) (each f k h xs)
each f k h (Some x ∷ xs) = All-cons (λ v. IsTrue (fits k v)) (f x) (map (or_null f) xs) (h x) (each f k h xs)

held_fit : (held : Held) → Fit (typed held).kind (typed held).cells
held_fit (Boolean truths) = each value.Boolean kind.Boolean (λ x. refl) truths
held_fit (Bigint numbers) = each value.Bigint kind.Bigint (λ x. refl) numbers
held_fit (Decimal p s numbers) = each value.Decimal (kind.Decimal p s) (λ x. refl) numbers
held_fit (Varchar texts) = each value.Varchar kind.Varchar (λ x. refl) texts
held_fit (Date days) = each value.Date kind.Date (λ x. refl) days

pub cells_fit : (held : Held) (block : TypedCells) → typed held ≡ block → Fit block.kind block.cells
cells_fit held block e = subst (λ (b : TypedCells). Fit b.kind b.cells) e (held_fit held)

both : (a b : Bool) → a ≡ true → b ≡ true → (a && b) ≡ true
both a b h k = rw (h, k) refl

cons_each-fit : (k : SqlType) (kinds : List SqlType) (vs : List Value) (rows : List (List Value)) → Fit k vs → RowsFit kinds rows → RowsFit (k ∷ kinds) (cons_each vs rows)
cons_each-fit k kinds [] rows a b = All-nil (λ row. IsTrue (fits_row (k ∷ kinds) row))
cons_each-fit k kinds (v ∷ vs) [] a b = All-nil (λ row. IsTrue (fits_row (k ∷ kinds) row))
cons_each-fit k kinds (v ∷ vs) (row ∷ rows) a b =
    All-cons (λ row. IsTrue (fits_row (k ∷ kinds) row)) (v ∷ row) (cons_each vs rows)
    (both (fits k v) (fits_row kinds row) (All-head (λ v. IsTrue (fits k v)) v vs a) (All-head (λ row. IsTrue (fits_row kinds row)) row rows b))
    (cons_each-fit k kinds vs rows (All-tail (λ v. IsTrue (fits k v)) v vs a) (All-tail (λ row. IsTrue (fits_row kinds row)) row rows b))

columns_fit : (n : ℕ) (columns : List TypedCells) → All (λ c. Fit c.kind c.cells) columns → RowsFit (kinds_of columns) (rows_of n columns)
columns_fit n [] all = All-replicate (λ row. IsTrue (fits_row [] row)) n [] refl
columns_fit n (c ∷ columns) all =
    cons_each-fit c.kind (kinds_of columns) c.cells (rows_of n columns) (All-head (λ (c : TypedCells). Fit c.kind c.cells) c columns all)
    (columns_fit n columns (All-tail (λ (c : TypedCells). Fit c.kind c.cells) c columns all))

pub rows_fit : (n : ℕ) (columns : List TypedCells) (kinds : List SqlType) → kinds_of columns ≡ kinds → All (λ c. Fit c.kind c.cells) columns → RowsFit kinds (rows_of n columns)
rows_fit n columns kinds e all = subst (λ ks. RowsFit ks (rows_of n columns)) e (columns_fit n columns all)

-- the columns up to a place, and one more
pub columns_more : (columns : List TypedCells) (i : ℕ) (c : TypedCells) → i < length columns → c ≡ get_or columns i c
    → All (λ c. Fit c.kind c.cells) (take i columns) → Fit c.kind c.cells → All (λ c. Fit c.kind c.cells) (take (i + 1) columns)
columns_more columns i c l e all here =
    All-more (λ (c : TypedCells). Fit c.kind c.cells) columns i c l all (subst (λ (c : TypedCells). Fit c.kind c.cells) e here)

pub columns_all : (columns : List TypedCells) (i : ℕ) → length columns ≤ i → All (λ c. Fit c.kind c.cells) (take i columns) → All (λ c. Fit c.kind c.cells) columns
columns_all columns i l all = All-same (λ (c : TypedCells). Fit c.kind c.cells) columns (take i columns) (sym (take_all i columns l)) all

fit_at : (k : SqlType) (cells : List Value) (i : ℕ) → Fit k cells → IsTrue (fits k (get_or cells i value.Null))
fit_at k [] i h = null k
fit_at k (c ∷ cells) zero h = All-head (λ v. IsTrue (fits k v)) c cells h
fit_at k (c ∷ cells) (suc i) h = fit_at k cells i (All-tail (λ v. IsTrue (fits k v)) c cells h)

gathered_fit : (k : SqlType) (cells : List Value) (ps : List ℕ) → Fit k cells → Fit k (gather cells value.Null ps)
gathered_fit k cells [] h = All-nil (λ v. IsTrue (fits k v))
gathered_fit k cells (p ∷ ps) h = All-cons (λ v. IsTrue (fits k v)) (get_or cells p value.Null) (gather cells value.Null ps) (fit_at k cells p h) (gathered_fit k cells ps h)

-- chosen cells fit as those that they are chosen from
pub chosen_fit : (block shown : TypedCells) (ps : List ℕ) → chosen block ps ≡ shown → Fit block.kind block.cells → Fit shown.kind shown.cells
chosen_fit block shown ps e h = subst (λ (b : TypedCells). Fit b.kind b.cells) e (gathered_fit block.kind block.cells ps h)
