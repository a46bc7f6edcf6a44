-- Types that are found to be equal are the same.
use Rattle.std.proofs.Common.{◌≡◌, ℕ, Bool, true, false, List, [], ◌∷◌, refl}
use Rattle.std.specs.Prelude.{◌&&◌, ◌==◌}
use Rattle.std.specs.List.{list_all}
use Rattle.std.proofs.lemmas.Bool.Decides.{Decides-eqb}
use Rattle.sql_values.specs.declared.types.SqlType.{SqlType}
use Rattle.sql_values.specs.declared.types.SqlType.TheVariants.{Boolean, Bigint, Decimal, Varchar, Date}
use Rattle.sql_functions.specs.declared.name.CallName.TheVariants.{Coalesce}
use Rattle.sql_functions.specs.CallTypes.{are_several, same_type, takes_several, takes_types, type_at}

pub both_true : (a b : Bool) → (a && b) ≡ true → (a ≡ true) × (b ≡ true)
both_true true b h = (refl, h)
both_true false b h = cc

same_decimal : (p s q r : ℕ) → p ≡ q → s ≡ r → Decimal p s ≡ Decimal q r
same_decimal p s q r e f = cc

pub same_type_is : (k l : SqlType) → same_type k l ≡ true → k ≡ l
same_type_is Boolean Boolean h = refl
same_type_is Bigint Bigint h = refl
same_type_is (Decimal p s) (Decimal q r) h =
    let both = both_true (p == q) (s == r) h in
    same_decimal p s q r ((Decides-eqb p q).0 both.0) ((Decides-eqb s r).0 both.1)
same_type_is Varchar Varchar h = refl
same_type_is Date Date h = refl
same_type_is k l h = cc

-- what COALESCE takes is of one type
pub coalesce_takes : (kinds : List SqlType) → takes_types Coalesce kinds ≡ true → list_all (same_type (type_at kinds 0)) kinds ≡ true
coalesce_takes [] h = cc
coalesce_takes (k ∷ []) h = cc
coalesce_takes (k ∷ l ∷ []) h = (both_true (are_several (k ∷ l ∷ [])) (takes_several Coalesce (k ∷ l ∷ [])) h).1
coalesce_takes (k ∷ l ∷ m ∷ kinds) h = (both_true (are_several (k ∷ l ∷ m ∷ kinds)) (takes_several Coalesce (k ∷ l ∷ m ∷ kinds)) h).1
