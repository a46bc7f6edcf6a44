-- Joins and groups of no rows.
use Rattle.std.proofs.Common.{◌≡◌, ℕ, List, [], ◌∷◌, ◌++◌, false, refl, ap, map}
use Rattle.std.specs.Prelude.{pos, Ok}
use Rattle.sql_values.specs.declared.types.SqlType.{SqlType}
use Rattle.sql_values.specs.declared.value.Value.{Value}
use Rattle.sql_values.specs.declared.value.Value.TheVariants.{Null, Bigint}
use Rattle.sql_values.specs.declared.relational.Call.{Call}
use Rattle.sql_values.specs.declared.relational.Call.TheVariants.{CountAll, Count, Sum, Min, Max, Avg}
use Rattle.sql_values.specs.declared.relational.JoinKind.TheVariants.{Inner, Left}
use Rattle.relation_laws.specs.Aggregates.{aggregates_of, with_first}
use Rattle.relation_laws.specs.Groups.{groups_of, grouped_row}
use Rattle.relation_laws.specs.Joins.{are_equal, join_of, nulls}
use Rattle.relation_laws.specs.Laws.{of_no_row}
use Rattle.relation_laws.specs.Verdicts.{keeps}

pub null_right : (v : Value) → are_equal v Null ≡ false
null_right Null = refl
null_right v = refl

pub no_left : (on : List (ℕ × ℕ)) (l r : ℕ) (rows : List (List Value)) → join_of Inner on l r rows [] ≡ []
no_left on l r [] = refl
no_left on l r (row ∷ rows) = no_left on l r rows

pub beside_nulls : (on : List (ℕ × ℕ)) (l r : ℕ) (rows : List (List Value)) → join_of Left on l r rows [] ≡ map (λ row. row ++ nulls r) rows
beside_nulls on l r [] = refl
beside_nulls on l r (row ∷ rows) = ap (λ more. (row ++ nulls r) ∷ more) (beside_nulls on l r rows)

pub results_of_nothing : (types : List SqlType) (calls : List Call) → aggregates_of types calls [] ≡ Ok (map of_no_row calls)
results_of_nothing types [] = refl
results_of_nothing types (CountAll ∷ calls) = ap (with_first (Bigint (pos 0))) (results_of_nothing types calls)
results_of_nothing types (Count column ∷ calls) = ap (with_first (Bigint (pos 0))) (results_of_nothing types calls)
results_of_nothing types (Sum column ∷ calls) = ap (with_first Null) (results_of_nothing types calls)
results_of_nothing types (Min column ∷ calls) = ap (with_first Null) (results_of_nothing types calls)
results_of_nothing types (Max column ∷ calls) = ap (with_first Null) (results_of_nothing types calls)
results_of_nothing types (Avg column ∷ calls) = ap (with_first Null) (results_of_nothing types calls)

pub one_group : (types : List SqlType) (calls : List Call) → groups_of types [] calls [] ≡ keeps (map of_no_row calls) ∷ []
one_group types calls = ap (λ results. grouped_row [] results ∷ []) (results_of_nothing types calls)

pub no_group : (types : List SqlType) (column : ℕ) (columns : List ℕ) (calls : List Call) → groups_of types (column ∷ columns) calls [] ≡ []
no_group types column columns calls = refl
