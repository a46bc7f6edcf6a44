-- The records of some pages: those of the first of them, and then the others.
use Rattle.std.proofs.Common.{◌≡◌, ◌<◌, ◌≤◌, ◌+◌, ◌*◌, ◌/◌, ◌++◌, ◌∷◌, ℕ, List, [], length, take, get_or, min, Result, Ok, Err, refl, sym, arith, append_assoc, length-append}
use Rattle.std.specs.Prelude.{IfOk}
use Rattle.std.specs.Global.{Vec}
use Rattle.std.proofs.Math.Nat.{div-mul-le_self, mul-le-mul_left}
use Rattle.std.proofs.lemmas.Grind.{flat_map-append}
use Rattle.std.proofs.lemmas.List.{append-nil, take_more}
use Rattle.col_pages.specs.Pages.{TypedPage, rows_in}
use Rattle.csv_tables.specs.ResultTexts.{fields_from, record_text, rows_text}
use Rattle.sql_values.specs.declared.types.SqlType.{SqlType}
use Rattle.sql_values.specs.declared.value.Value.{Value}
use Rattle.table_parts.specs.Printing.{whole_text}

-- half of so many parts of a number is no more than the number
pub half_fits : (n parts : ℕ) → n / parts * (parts / 2) ≤ n
half_fits n parts =
    let half : parts / 2 ≤ parts = omega arith in
    omega (arith, mul-le-mul_left (n / parts) half, div-mul-le_self n parts)

pub rows_in_both : (front back : List TypedPage) → rows_in (front ++ back) ≡ rows_in front ++ rows_in back
rows_in_both [] back = refl
rows_in_both (page ∷ front) back = rw (rows_in_both front back) (sym (append_assoc page.rows (rows_in front) (rows_in back)))

pub whole_of_both : (front back : List (Vec ℕ)) → whole_text (front ++ back) ≡ whole_text front ++ whole_text back
whole_of_both [] back = refl
whole_of_both (chunk ∷ front) back = rw (whole_of_both front back) (sym (append_assoc chunk.items (whole_text front) (whole_text back)))

pub whole_of_one : (chunk : Vec ℕ) → whole_text (chunk ∷ []) ≡ chunk.items
whole_of_one chunk = append-nil chunk.items

text_of_both : (kinds : List SqlType) (first second : List (List Value)) → rows_text kinds (first ++ second) ≡ rows_text kinds first ++ rows_text kinds second
text_of_both kinds first second = flat_map-append (λ row. record_text (fields_from 0 kinds row)) first second

-- what was made of the chunks of two halves
pub both_printed : {E : Type 0} (kinds : List SqlType) (pages front back : List TypedPage) (first second : Vec (Vec ℕ)) (made : Result (Vec (Vec ℕ)) E) → front ++ back ≡ pages
    → whole_text first.items ≡ rows_text kinds (rows_in front) → whole_text second.items ≡ rows_text kinds (rows_in back) → IfOk made (λ chunks. chunks.items ≡ first.items ++ second.items)
    → IfOk made (λ chunks. whole_text chunks.items ≡ rows_text kinds (rows_in pages))
both_printed kinds pages front back first second (Err e) all f s made = tt
both_printed kinds pages front back first second (Ok chunks) all f s made =
    rw (made, whole_of_both first.items second.items, f, s, ← all, rows_in_both front back, text_of_both kinds (rows_in front) (rows_in back)) refl

-- the header's chunk and those of the records
pub whole_printed : {E : Type 0} (header records : List ℕ) (first second : Vec (Vec ℕ)) (made : Result (Vec (Vec ℕ)) E)
    → whole_text first.items ≡ header → whole_text second.items ≡ records → IfOk made (λ chunks. chunks.items ≡ first.items ++ second.items)
    → IfOk made (λ chunks. whole_text chunks.items ≡ header ++ records)
whole_printed header records first second (Err e) f s made = tt
whole_printed header records first second (Ok chunks) f s made = rw (made, whole_of_both first.items second.items, f, s) refl

rows_in_one : (page : TypedPage) → rows_in (page ∷ []) ≡ page.rows
rows_in_one page = append-nil page.rows

-- the rows of one page more
rows_in_more : (pages : List TypedPage) (i : ℕ) (page : TypedPage) → i < length pages → page ≡ get_or pages i page
    → rows_in (take (i + 1) pages) ≡ rows_in (take i pages) ++ page.rows
rows_in_more pages i page lt is =
    rw (take_more pages i page lt, ← is, rows_in_both (take i pages) (page ∷ []), rows_in_one page) refl

-- the records of one page more
pub pages_put : (before old new : List ℕ) (kinds : List SqlType) (pages : List TypedPage) (i : ℕ) (page : TypedPage) → i < length pages → page ≡ get_or pages i page
    → old ≡ before ++ rows_text kinds (rows_in (take i pages)) → new ≡ old ++ rows_text kinds page.rows
    → new ≡ before ++ rows_text kinds (rows_in (take (i + 1) pages))
pages_put before old new kinds pages i page lt is at_old at_new =
    rw (at_new, at_old, rows_in_more pages i page lt is, text_of_both kinds (rows_in (take i pages)) page.rows)
    (append_assoc before (rows_text kinds (rows_in (take i pages))) (rows_text kinds page.rows))

-- the number of rows, with those of one page more
pub rows_counted : (pages : List TypedPage) (i : ℕ) (page : TypedPage) (most count rows next : ℕ) → i < length pages → page ≡ get_or pages i page
    → count ≡ min (length (rows_in (take i pages))) most → rows ≡ length page.rows → next ≡ min (count + rows) most
    → next ≡ min (length (rows_in (take (i + 1) pages))) most
rows_counted pages i page most count rows next lt is at_count at_rows at_next =
    let size = length-append (rows_in (take i pages)) page.rows in
    rw (rows_in_more pages i page lt is) (omega (arith, size, at_count, at_rows, at_next))
