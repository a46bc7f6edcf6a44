-- The definitions on rows that were worked out by hand.
use Rattle.std.proofs.Common.{◌≡◌, List, [], ◌∷◌, refl}
use Rattle.std.specs.Prelude.{◌^◌, ◌-◌, pos, negsuc, Ok, Err}
use Rattle.sql_values.specs.declared.types.SqlType.TheVariants as type
use Rattle.sql_values.specs.declared.value.Value.{Value}
use Rattle.sql_values.specs.declared.value.Value.TheVariants.{Null, Bigint, Decimal, Varchar}
use Rattle.sql_values.specs.declared.fail.Fail.TheVariants.{OutOfRange}
use Rattle.sql_values.specs.declared.relational.Call.TheVariants.{CountAll, Count, Sum, Min, Max, Avg}
use Rattle.sql_values.specs.declared.relational.JoinKind.TheVariants.{Inner, Left}
use Rattle.relation_laws.specs.Aggregates.{aggregates_of}
use Rattle.relation_laws.specs.Groups.{groups_of}
use Rattle.relation_laws.specs.Joins.{join_of}
use Rattle.relation_laws.specs.Partials.{partial_of, merged, results_from}
use Rattle.relation_laws.specs.Verdicts.{keeps}

-- without keys no row is one group, with keys it is none
no_row_globally : groups_of (type.Bigint ∷ []) [] (CountAll ∷ Sum 0 ∷ []) [] ≡ keeps (Bigint (pos 0) ∷ Null ∷ []) ∷ []
no_row_globally = refl

no_row_by_key : groups_of (type.Bigint ∷ []) (0 ∷ []) (CountAll ∷ Sum 0 ∷ []) [] ≡ []
no_row_by_key = refl

-- a sum is judged on the whole group, whatever it passes on the way
abbrev greatest : Value
greatest = Bigint (pos (2 ^ 63 - 1))

a_sum_comes_back_within : aggregates_of (type.Bigint ∷ []) (Sum 0 ∷ []) ((greatest ∷ []) ∷ (Bigint (pos 1) ∷ []) ∷ (Bigint (negsuc 4) ∷ []) ∷ []) ≡ Ok (Bigint (pos 9223372036854775803) ∷ [])
a_sum_comes_back_within = refl

a_sum_stays_outside : aggregates_of (type.Bigint ∷ []) (Sum 0 ∷ []) ((greatest ∷ []) ∷ (Bigint (pos 1) ∷ []) ∷ []) ≡ Err OutOfRange
a_sum_stays_outside = refl

-- NULL has no partner, and NULL in the right side is no partner
abbrev orders : List (List Value)
orders =
    (Bigint (pos 1) ∷ Varchar (97 ∷ []) ∷ []) ∷ (Bigint (pos 1) ∷ Varchar (98 ∷ []) ∷ [])
    ∷ (Null ∷ Varchar (99 ∷ []) ∷ []) ∷ (Bigint (pos 2) ∷ Varchar (100 ∷ []) ∷ []) ∷ []

abbrev parcels : List (List Value)
parcels =
    (Bigint (pos 1) ∷ Varchar (112 ∷ []) ∷ []) ∷ (Bigint (pos 1) ∷ Varchar (113 ∷ []) ∷ [])
    ∷ (Null ∷ Varchar (114 ∷ []) ∷ []) ∷ (Bigint (pos 3) ∷ Varchar (115 ∷ []) ∷ []) ∷ []

an_inner_join : join_of Inner ((0, 0) ∷ []) 2 2 orders parcels
    ≡ (Bigint (pos 1) ∷ Varchar (97 ∷ []) ∷ Bigint (pos 1) ∷ Varchar (112 ∷ []) ∷ [])
    ∷ (Bigint (pos 1) ∷ Varchar (97 ∷ []) ∷ Bigint (pos 1) ∷ Varchar (113 ∷ []) ∷ [])
    ∷ (Bigint (pos 1) ∷ Varchar (98 ∷ []) ∷ Bigint (pos 1) ∷ Varchar (112 ∷ []) ∷ [])
    ∷ (Bigint (pos 1) ∷ Varchar (98 ∷ []) ∷ Bigint (pos 1) ∷ Varchar (113 ∷ []) ∷ []) ∷ []
an_inner_join = refl

a_left_join : join_of Left ((0, 0) ∷ []) 2 2 orders parcels
    ≡ (Bigint (pos 1) ∷ Varchar (97 ∷ []) ∷ Bigint (pos 1) ∷ Varchar (112 ∷ []) ∷ [])
    ∷ (Bigint (pos 1) ∷ Varchar (97 ∷ []) ∷ Bigint (pos 1) ∷ Varchar (113 ∷ []) ∷ [])
    ∷ (Bigint (pos 1) ∷ Varchar (98 ∷ []) ∷ Bigint (pos 1) ∷ Varchar (112 ∷ []) ∷ [])
    ∷ (Bigint (pos 1) ∷ Varchar (98 ∷ []) ∷ Bigint (pos 1) ∷ Varchar (113 ∷ []) ∷ [])
    ∷ (Null ∷ Varchar (99 ∷ []) ∷ Null ∷ Null ∷ [])
    ∷ (Bigint (pos 2) ∷ Varchar (100 ∷ []) ∷ Null ∷ Null ∷ []) ∷ []
a_left_join = refl

-- NULL is a key of its own, and a sum skips NULL
abbrev keyed : List (List Value)
keyed =
    (Null ∷ Bigint (pos 1) ∷ []) ∷ (Varchar (120 ∷ []) ∷ Bigint (pos 2) ∷ [])
    ∷ (Null ∷ Bigint (pos 3) ∷ []) ∷ (Varchar (120 ∷ []) ∷ Null ∷ []) ∷ []

groups_with_a_null_key : groups_of (type.Varchar ∷ type.Bigint ∷ []) (0 ∷ []) (CountAll ∷ Sum 1 ∷ []) keyed
    ≡ keeps (Null ∷ Bigint (pos 2) ∷ Bigint (pos 4) ∷ []) ∷ keeps (Varchar (120 ∷ []) ∷ Bigint (pos 2) ∷ Bigint (pos 2) ∷ []) ∷ []
groups_with_a_null_key = refl

-- an average of decimals: 75.25 of 100.00 and 50.50; a half is rounded away from zero
an_average : aggregates_of (type.Decimal 12 2 ∷ []) (Avg 0 ∷ []) ((Decimal (pos 10000) ∷ []) ∷ (Null ∷ []) ∷ (Decimal (pos 5050) ∷ []) ∷ []) ≡ Ok (Decimal (pos 7525) ∷ [])
an_average = refl

a_half_below_zero : aggregates_of (type.Decimal 2 1 ∷ []) (Avg 0 ∷ []) ((Decimal (negsuc 0) ∷ []) ∷ (Decimal (negsuc 1) ∷ []) ∷ []) ≡ Ok (Decimal (negsuc 1) ∷ [])
a_half_below_zero = refl

-- counts, the least and the greatest skip NULL
over_values : aggregates_of (type.Bigint ∷ []) (CountAll ∷ Count 0 ∷ Min 0 ∷ Max 0 ∷ []) ((Bigint (pos 5) ∷ []) ∷ (Null ∷ []) ∷ (Bigint (negsuc 2) ∷ []) ∷ [])
    ≡ Ok (Bigint (pos 3) ∷ Bigint (pos 2) ∷ Bigint (negsuc 2) ∷ Bigint (pos 5) ∷ [])
over_values = refl

over_no_values : aggregates_of (type.Bigint ∷ []) (CountAll ∷ Count 0 ∷ Min 0 ∷ Max 0 ∷ Sum 0 ∷ []) ((Null ∷ []) ∷ [])
    ≡ Ok (Bigint (pos 1) ∷ Bigint (pos 0) ∷ Null ∷ Null ∷ Null ∷ [])
over_no_values = refl

-- the partial row of two decimals, and the results that it gives
a_partial_row : partial_of (CountAll ∷ Count 0 ∷ Sum 0 ∷ Max 0 ∷ Avg 0 ∷ []) ((Decimal (pos 15) ∷ []) ∷ (Null ∷ []) ∷ (Decimal (pos 4) ∷ []) ∷ [])
    ≡ Decimal (pos 3) ∷ Bigint (pos 2) ∷ Decimal (pos 19) ∷ Decimal (pos 15) ∷ Decimal (pos 19) ∷ Bigint (pos 2) ∷ []
a_partial_row = refl

what_it_tells : results_from (type.Decimal 3 1 ∷ []) (CountAll ∷ Count 0 ∷ Sum 0 ∷ Max 0 ∷ Avg 0 ∷ [])
    (Decimal (pos 3) ∷ Bigint (pos 2) ∷ Decimal (pos 19) ∷ Decimal (pos 15) ∷ Decimal (pos 19) ∷ Bigint (pos 2) ∷ [])
    ≡ Ok (Bigint (pos 3) ∷ Bigint (pos 2) ∷ Decimal (pos 19) ∷ Decimal (pos 15) ∷ Decimal (pos 10) ∷ [])
what_it_tells = refl

-- past 2^63 - 1 rows nothing is known but that
too_many_rows : merged (Count 0 ∷ Sum 0 ∷ [])
    (Decimal (pos (2 ^ 63 - 1)) ∷ Bigint (pos 1) ∷ Decimal (pos 7) ∷ []) (Decimal (pos 1) ∷ Bigint (pos 0) ∷ Null ∷ [])
    ≡ Decimal (pos (2 ^ 63)) ∷ Null ∷ Null ∷ []
too_many_rows = refl

too_many_rows_fail : results_from (type.Bigint ∷ []) (CountAll ∷ []) (Decimal (pos (2 ^ 63)) ∷ []) ≡ Err OutOfRange
too_many_rows_fail = refl

the_most_rows_do_not : results_from (type.Bigint ∷ []) (CountAll ∷ []) (Decimal (pos (2 ^ 63 - 1)) ∷ []) ≡ Ok (greatest ∷ [])
the_most_rows_do_not = refl
