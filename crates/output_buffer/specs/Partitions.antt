-- Rows that are spread over parts by their values in some columns.
use Rattle.std.specs.Prelude.{ℕ, List, filter, flat_map, length, map, slice_index_or, ◌==◌, []}
use Rattle.std.specs.List.{range_with_len}
use Rattle.sql_values.specs.declared.value.Value.{Value}
use Rattle.sql_values.specs.Buckets.{bytes_of, hash_after}
use Rattle.sql_values.specs.Cells.{cut}
use Rattle.col_pages.specs.Pages.{TypedPage}
use Rattle.bag_laws.specs.Buckets.{key_bucket, of_bucket}

-- by which columns, and over how many parts
pub record Partition : Type 0 where
  pub columns : List ℕ
  pub parts : ℕ

-- the rows of one part, in their order
abbrev pub part_of : Partition → TypedPage → ℕ → TypedPage
part_of by page k = record page { rows = of_bucket (key_bucket by.parts by.columns) k page.rows }

-- a page for each part
abbrev pub parts_of : Partition → TypedPage → List TypedPage
parts_of by page = map (part_of by page) (range_with_len 0 by.parts)

-- the rows of all pages, one page behind the other
abbrev pub all_rows : List TypedPage → List (List Value)
all_rows pages = flat_map (λ page. page.rows) pages

-- the hash of a row's values in some columns
abbrev pub hash_of : List ℕ → List Value → ℕ
hash_of columns row = hash_after 14695981039346656037 (flat_map bytes_of (cut columns row))

-- where the rows of a bucket stand, in their order
abbrev pub places_of : List ℕ → ℕ → List ℕ
places_of buckets k = filter (λ place. slice_index_or buckets place 0 == k) (range_with_len 0 (length buckets))

-- the rows at some places
abbrev pub rows_at : List (List Value) → List ℕ → List (List Value)
rows_at rows places = map (λ place. slice_index_or rows place []) places
