-- The cells of a column, taken row by row.
use Rattle.std.proofs.Common.{◌≡◌, ℕ, ◌+◌, ◌-◌, ◌<◌, ◌≤◌, Bool, true, List, [], ◌∷◌, ◌++◌, length, get_or, take, drop, map, refl, ap, sym, ◌∙◌, arith}
use Rattle.std.specs.Prelude.{IsTrue}
use Rattle.std.proofs.lemmas.List.{map_more, get_or-drop, length-drop}
use Rattle.sql_values.specs.declared.types.SqlType.{SqlType}
use Rattle.sql_values.specs.declared.value.Value.{Value}
use Rattle.sql_values.specs.Cells.{cell}
use Rattle.sql_values.specs.Blocks.{TypedCells, fits, offered, with_cells}

-- the cells of a column in the rows from `low` to `place`
abbrev pub gathered : SqlType → ℕ → List (List Value) → ℕ → ℕ → TypedCells
gathered kind column rows low place = record { kind = kind; cells = map (λ row. cell row column) (take (place - low) (drop low rows)) }

pub gathered-none : (kind : SqlType) (column : ℕ) (rows : List (List Value)) (low : ℕ) → record { kind = kind; cells = [] } ≡ gathered kind column rows low low
gathered-none kind column rows low =
    let none : 0 ≡ low - low = omega arith in
    ap (λ (n : ℕ). record { kind = kind; cells = map (λ row. cell row column) (take n (drop low rows)) }) none

more : (f : List Value → Value) (rows : List (List Value)) (low place : ℕ) → low ≤ place → place < length rows → map f (take (place + 1 - low) (drop low rows)) ≡ map f (take (place - low) (drop low rows)) ++ f (get_or rows place []) ∷ []
more f rows low place l h =
    let next : place + 1 - low ≡ (place - low) + 1 = omega arith in
    let here : low + (place - low) ≡ place = omega arith in
    let within : place - low < length (drop low rows) = omega (arith, length-drop low rows) in
    ap (λ (n : ℕ). map f (take n (drop low rows))) next ∙ map_more f (drop low rows) (place - low) [] within
    ∙ ap (λ (row : List Value). map f (take (place - low) (drop low rows)) ++ f row ∷ []) (get_or-drop low rows (place - low) [] ∙ ap (λ (n : ℕ). get_or rows n []) here)

pub gathered-more : (kind : SqlType) (column : ℕ) (rows : List (List Value)) (low place : ℕ) (block next : TypedCells) (taken : Bool) (v : Value) → block ≡ gathered kind column rows low place → v ≡ cell (get_or rows place []) column → taken ≡ fits block.kind v → next ≡ with_cells block (offered taken block.cells v) → IsTrue (fits kind (cell (get_or rows place []) column)) → low ≤ place → place < length rows → next ≡ gathered kind column rows low (place + 1)
gathered-more kind column rows low place block next taken v b e t n f l h =
    let yes : taken ≡ true = t ∙ ap (λ (x : TypedCells). fits x.kind v) b ∙ ap (fits kind) e ∙ f in
    n ∙ ap (λ (x : Bool). with_cells block (offered x block.cells v)) yes ∙ ap (λ (x : TypedCells). with_cells x (x.cells ++ v ∷ [])) b
    ∙ ap (λ (x : Value). record { kind = kind; cells = (gathered kind column rows low place).cells ++ x ∷ [] }) e
    ∙ ap (λ (vs : List Value). record { kind = kind; cells = vs }) (sym (more (λ row. cell row column) rows low place l h))
