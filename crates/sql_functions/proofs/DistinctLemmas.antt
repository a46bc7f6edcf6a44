-- Values are distinct where the order tells them apart.
use Rattle.std.proofs.Common.{◌≡◌, Bool, true, false, refl, ap}
use Rattle.std.specs.Ordering.{is_ne}
use Rattle.std.specs.declared.cmp.Ordering.{Ordering}
use Rattle.std.specs.declared.cmp.Ordering.TheVariants.{Less, Equal, Greater}
use Rattle.sql_values.specs.declared.value.Value.{Value}
use Rattle.sql_values.specs.declared.value.Value.TheVariants.{Boolean}
use Rattle.sql_values.specs.Order.{value_cmp}
use Rattle.sql_values.proofs.OrderLemmas.{equal_values}
use Rattle.sql_functions.specs.Comparison.{distinct}

pub distinct_same : (v w : Value) → v ≡ w → distinct v w ≡ Boolean false
distinct_same v w e = ap (λ o. Boolean (is_ne o)) ((equal_values v w).1 e)

not_equal : (o : Ordering) → (o ≡ Equal → ⊥) → is_ne o ≡ true
not_equal Less n = refl
not_equal Equal n = absurd (n refl)
not_equal Greater n = refl

pub distinct_others : (v w : Value) → (v ≡ w → ⊥) → distinct v w ≡ Boolean true
distinct_others v w n = ap Boolean (not_equal (value_cmp v w) (λ e. n ((equal_values v w).0 e)))
