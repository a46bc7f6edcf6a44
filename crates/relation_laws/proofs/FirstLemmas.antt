-- The first of two values in an order, with NULL as the last.
use Rattle.std.proofs.Common.{◌≡◌, List, [], ◌∷◌, ◌++◌, refl, ap, sym, ◌∙◌}
use Rattle.std.specs.Prelude.{if◌then◌else◌}
use Rattle.std.specs.declared.cmp.Ordering.{Ordering}
use Rattle.std.specs.declared.cmp.Ordering.TheVariants.{Less, Equal, Greater}
use Rattle.std.specs.Ordering.{is_lt, is_gt, is_le, nat_cmp, ordering_then, ordering_reverse}
use Rattle.std.proofs.lemmas.Bool.{true≢false}
use Rattle.sql_values.specs.declared.value.Value.{Value}
use Rattle.sql_values.specs.declared.value.Value.TheVariants.{Null, Boolean, Bigint, Decimal, Varchar, Date}
use Rattle.sql_values.specs.declared.order.Order.{Order}
use Rattle.sql_values.specs.declared.order.Order.TheVariants.{Ascending, Descending}
use Rattle.sql_values.specs.Order.{cell_cmp, directed_cmp, null_rank}
use Rattle.sql_values.proofs.OrderLemmas.{cell_cmp_total}
use Rattle.relation_laws.specs.Aggregates.{earlier, first_by}
use Rattle.relation_laws.proofs.OrderLemmas.{first_of, first_of_assoc}
use Rattle.relation_laws.proofs.EqualityLemmas.{value_cmp_exact}

both_equal : (a b : Ordering) → ordering_then a b ≡ Equal → b ≡ Equal
both_equal Less b e = absurd (true≢false (ap is_lt e))
both_equal Equal b e = e
both_equal Greater b e = absurd (true≢false (ap is_gt e))

directed_exact : (order : Order) (v w : Value) → directed_cmp order v w ≡ Equal → v ≡ w
directed_exact Ascending v w e = value_cmp_exact v w e
directed_exact Descending v w e = sym (value_cmp_exact w v e)

cell_exact : (order : Order) (v w : Value) → cell_cmp order v w ≡ Equal → v ≡ w
cell_exact order v w e = directed_exact order v w (both_equal (nat_cmp (null_rank v) (null_rank w)) (directed_cmp order v w) e)

comm_at : (order : Order) (v w : Value) (o : Ordering) → cell_cmp order v w ≡ o → earlier order v w ≡ earlier order w v
comm_at order v w Less e =
    ap (λ u. if is_le u then v else w) e ∙ sym (ap (λ u. if is_le u then w else v) ((cell_cmp_total order).antisymm w v ∙ ap ordering_reverse e))
comm_at order v w Equal e =
    ap (λ u. if is_le u then v else w) e ∙ cell_exact order v w e ∙ sym (ap (λ u. if is_le u then w else v) ((cell_cmp_total order).antisymm w v ∙ ap ordering_reverse e))
comm_at order v w Greater e =
    ap (λ u. if is_le u then v else w) e ∙ sym (ap (λ u. if is_le u then w else v) ((cell_cmp_total order).antisymm w v ∙ ap ordering_reverse e))

pub earlier_comm : (order : Order) (v w : Value) → earlier order v w ≡ earlier order w v
earlier_comm order v w = comm_at order v w (cell_cmp order v w) refl

-- NULL comes after each value
pub null_last : (order : Order) (v : Value) → earlier order Null v ≡ v
null_last Ascending Null = refl
null_last Descending Null = refl
null_last order (Boolean truth) = refl
null_last order (Bigint n) = refl
null_last order (Decimal n) = refl
null_last order (Varchar text) = refl
null_last order (Date n) = refl

pub earlier_assoc : (order : Order) (v w x : Value) → earlier order (earlier order v w) x ≡ earlier order v (earlier order w x)
unfolding first_of
earlier_assoc order v w x = first_of_assoc (cell_cmp_total order) v w x

pub first_by-append : (order : Order) (vs ws : List Value) → first_by order (vs ++ ws) ≡ earlier order (first_by order vs) (first_by order ws)
first_by-append order [] ws = sym (null_last order (first_by order ws))
first_by-append order (v ∷ vs) ws =
    ap (earlier order v) (first_by-append order vs ws) ∙ sym (earlier_assoc order v (first_by order vs) (first_by order ws))
