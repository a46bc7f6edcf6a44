-- The parts of a page that was worked out by hand.
use Rattle.std.proofs.Common.{◌≡◌, List, [], ◌∷◌, refl}
use Rattle.std.specs.Prelude.{false, true}
use Rattle.sql_values.specs.declared.types.SqlType.TheVariants as type
use Rattle.sql_values.specs.declared.value.Value.{Value}
use Rattle.sql_values.specs.declared.value.Value.TheVariants.{Null, Boolean}
use Rattle.col_pages.specs.Pages.{TypedPage}
use Rattle.output_buffer.specs.Partitions.{parts_of}

abbrev page_with : List (List Value) → TypedPage
page_with rows = record { types = type.Boolean ∷ []; rows = rows }

-- the hashes of TRUE and of NULL are odd, and that of FALSE is even
by_the_column : parts_of (record { columns = 0 ∷ []; parts = 2 }) (page_with ((Boolean true ∷ []) ∷ (Boolean false ∷ []) ∷ (Null ∷ []) ∷ []))
    ≡ page_with ((Boolean false ∷ []) ∷ []) ∷ page_with ((Boolean true ∷ []) ∷ (Null ∷ []) ∷ []) ∷ []
by_the_column = refl

-- no row has this column, so each has NULL there
by_no_column : parts_of (record { columns = 1 ∷ []; parts = 2 }) (page_with ((Boolean true ∷ []) ∷ (Boolean false ∷ []) ∷ []))
    ≡ page_with [] ∷ page_with ((Boolean true ∷ []) ∷ (Boolean false ∷ []) ∷ []) ∷ []
by_no_column = refl
