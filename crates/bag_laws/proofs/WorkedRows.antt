-- The definitions on rows that were worked out by hand.
use Rattle.std.proofs.Common.{◌≡◌, ℕ, zero, suc, List, [], ◌∷◌, refl}
use Rattle.std.specs.Prelude.{false, pos, true}
use Rattle.sql_values.specs.declared.types.SqlType.TheVariants as type
use Rattle.sql_values.specs.declared.value.Value.{Value}
use Rattle.sql_values.specs.declared.value.Value.TheVariants.{Null, Boolean, Bigint, Decimal}
use Rattle.sql_values.specs.declared.relational.Call.TheVariants.{CountAll, Sum}
use Rattle.relation_laws.specs.Verdicts.{keeps}
use Rattle.bag_laws.specs.Buckets.{at_places, key_bucket, of_bucket}
use Rattle.bag_laws.specs.Gather.{gather}
use Rattle.bag_laws.specs.Pieces.{finals_of, partials_of}

abbrev first_piece : List (List Value)
first_piece = (Bigint (pos 7) ∷ Bigint (pos 1) ∷ []) ∷ (Null ∷ Bigint (pos 2) ∷ []) ∷ (Bigint (pos 7) ∷ Bigint (pos 3) ∷ []) ∷ []

abbrev second_piece : List (List Value)
second_piece = (Null ∷ Null ∷ []) ∷ (Bigint (pos 8) ∷ Null ∷ []) ∷ []

-- a piece's partial rows: the key, the number of rows, the sum
partial_rows : partials_of (0 ∷ []) (CountAll ∷ Sum 1 ∷ []) first_piece
    ≡ (Bigint (pos 7) ∷ Decimal (pos 2) ∷ Decimal (pos 4) ∷ []) ∷ (Null ∷ Decimal (pos 1) ∷ Decimal (pos 2) ∷ []) ∷ []
partial_rows = refl

partial_rows_of_nulls : partials_of (0 ∷ []) (CountAll ∷ Sum 1 ∷ []) second_piece
    ≡ (Null ∷ Decimal (pos 1) ∷ Null ∷ []) ∷ (Bigint (pos 8) ∷ Decimal (pos 1) ∷ Null ∷ []) ∷ []
partial_rows_of_nulls = refl

-- the rows of both, in another order than they were given
final_rows : finals_of (type.Bigint ∷ type.Bigint ∷ []) 1 (CountAll ∷ Sum 1 ∷ [])
    ((Null ∷ Decimal (pos 1) ∷ Null ∷ []) ∷ (Bigint (pos 7) ∷ Decimal (pos 2) ∷ Decimal (pos 4) ∷ [])
    ∷ (Bigint (pos 8) ∷ Decimal (pos 1) ∷ Null ∷ []) ∷ (Null ∷ Decimal (pos 1) ∷ Decimal (pos 2) ∷ []) ∷ [])
    ≡ keeps (Null ∷ Bigint (pos 2) ∷ Bigint (pos 2) ∷ []) ∷ keeps (Bigint (pos 7) ∷ Bigint (pos 2) ∷ Bigint (pos 4) ∷ [])
    ∷ keeps (Bigint (pos 8) ∷ Bigint (pos 1) ∷ Null ∷ []) ∷ []
final_rows = refl

-- without keys each piece gives a row, also one with no rows, and no partial row at all is one group
partial_row_of_nothing : partials_of [] (CountAll ∷ Sum 1 ∷ []) [] ≡ (Decimal (pos 0) ∷ Null ∷ []) ∷ []
partial_row_of_nothing = refl

final_row_of_two : finals_of (type.Bigint ∷ type.Bigint ∷ []) 0 (CountAll ∷ Sum 1 ∷ []) ((Decimal (pos 0) ∷ Null ∷ []) ∷ (Decimal (pos 3) ∷ Decimal (pos 6) ∷ []) ∷ [])
    ≡ keeps (Bigint (pos 3) ∷ Bigint (pos 6) ∷ []) ∷ []
final_row_of_two = refl

final_row_of_nothing : finals_of (type.Bigint ∷ type.Bigint ∷ []) 0 (CountAll ∷ Sum 1 ∷ []) [] ≡ keeps (Bigint (pos 0) ∷ Null ∷ []) ∷ []
final_row_of_nothing = refl

-- with keys no partial row is no group
no_final_row : finals_of (type.Bigint ∷ type.Bigint ∷ []) 1 (CountAll ∷ Sum 1 ∷ []) [] ≡ []
no_final_row = refl

-- the lists of three tasks, and what a bucket takes of them
abbrev lists : ℕ → List ℕ
lists zero = 3 ∷ 1 ∷ []
lists (suc zero) = []
lists (suc (suc k)) = 2 ∷ []

three_tasks : gather 3 lists ≡ 3 ∷ 1 ∷ 2 ∷ []
three_tasks = refl

no_task : gather 0 lists ≡ []
no_task = refl

a_bucket : of_bucket (λ n. n) 2 (3 ∷ 2 ∷ 1 ∷ 2 ∷ []) ≡ 2 ∷ 2 ∷ []
a_bucket = refl

columns_at_places : at_places (5 ∷ 3 ∷ 4 ∷ []) (2 ∷ 0 ∷ []) ≡ 4 ∷ 5 ∷ []
columns_at_places = refl

-- a row is in the bucket of its key columns alone, whatever the others hold
a_key_bucket : of_bucket (key_bucket 4 (0 ∷ [])) 3 ((Boolean true ∷ Boolean false ∷ []) ∷ (Boolean false ∷ Boolean true ∷ []) ∷ [])
    ≡ (Boolean true ∷ Boolean false ∷ []) ∷ []
a_key_bucket = refl
