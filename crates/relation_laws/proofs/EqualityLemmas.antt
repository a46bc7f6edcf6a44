-- Values and rows are the same exactly where they are equal.
use Rattle.std.proofs.Common.{◌≡◌, ℕ, zero, suc, List, Bool, true, false, refl, ap, sym, ◌∙◌}
use Rattle.std.specs.Prelude.{ℤ}
use Rattle.std.specs.Bool.{Decides}
use Rattle.std.specs.declared.cmp.Ordering.{Ordering}
use Rattle.std.specs.declared.cmp.Ordering.TheVariants.{Less, Equal, Greater}
use Rattle.std.specs.Ordering.{ordering_then, ordering_reverse, bool_cmp, nat_cmp, int_cmp, is_eq, is_lt, is_gt}
use Rattle.std.specs.Cmp.{Equal-is}
use Rattle.std.specs.Cmp.Lexicographic.{slice_cmp}
use Rattle.std.proofs.lemmas.Bool.{true≢false}
use Rattle.std.proofs.lemmas.Map.Lookups.{exact_unsigned, exact_signed, exact_bytes}
use Rattle.std.proofs.lemmas.Slice.Eq.{slice_eq-Decides}
use Rattle.sql_values.specs.declared.value.Value.{Value}
use Rattle.sql_values.specs.declared.value.Value.TheVariants.{Null, Boolean, Bigint, Decimal, Varchar, Date}
use Rattle.sql_values.specs.Order.{kind_rank, truth_in, number_in, text_in, value_cmp, content_cmp}
use Rattle.sql_values.proofs.OrderLemmas.{value_cmp_total}
use Rattle.relation_laws.specs.Equality.{same_value, same_row}

-- a value, from its kind and what it holds
rebuilt : ℕ → Bool → ℤ → List ℕ → Value
rebuilt zero truth n text = Boolean truth
rebuilt (suc zero) truth n text = Bigint n
rebuilt (suc (suc zero)) truth n text = Decimal n
rebuilt (suc (suc (suc zero))) truth n text = Varchar text
rebuilt (suc (suc (suc (suc zero)))) truth n text = Date n
rebuilt (suc (suc (suc (suc (suc rank))))) truth n text = Null

rebuilt_is : (v : Value) → rebuilt (kind_rank v) (truth_in v) (number_in v) (text_in v) ≡ v
unfolding rebuilt
rebuilt_is Null = refl
rebuilt_is (Boolean truth) = refl
rebuilt_is (Bigint n) = refl
rebuilt_is (Decimal n) = refl
rebuilt_is (Varchar text) = refl
rebuilt_is (Date n) = refl

both_equal : (a b : Ordering) → ordering_then a b ≡ Equal → (a ≡ Equal) × (b ≡ Equal)
both_equal Less b e = absurd (true≢false (ap is_lt e))
both_equal Equal b e = (refl, e)
both_equal Greater b e = absurd (true≢false (ap is_gt e))

same_truth : (x y : Bool) → bool_cmp x y ≡ Equal → x ≡ y
same_truth true true e = refl
same_truth true false e = absurd (true≢false (ap is_gt e))
same_truth false true e = absurd (true≢false (ap is_lt e))
same_truth false false e = refl

-- the order of values tells them apart
pub value_cmp_exact : (v w : Value) → value_cmp v w ≡ Equal → v ≡ w
value_cmp_exact v w e =
    let ranks = both_equal (nat_cmp (kind_rank v) (kind_rank w)) (content_cmp v w) e in
    let truths = both_equal (bool_cmp (truth_in v) (truth_in w)) (ordering_then (int_cmp (number_in v) (number_in w)) (slice_cmp nat_cmp (text_in v) (text_in w))) ranks.1 in
    let numbers = both_equal (int_cmp (number_in v) (number_in w)) (slice_cmp nat_cmp (text_in v) (text_in w)) truths.1 in
    let rank = exact_unsigned (kind_rank v) (kind_rank w) ranks.0 in
    let truth = same_truth (truth_in v) (truth_in w) truths.0 in
    let number = exact_signed (number_in v) (number_in w) numbers.0 in
    let text = exact_bytes (text_in v) (text_in w) numbers.1 in
    sym (rebuilt_is v) ∙ (λ i. rebuilt (rank i) (truth i) (number i) (text i)) ∙ rebuilt_is w

itself : (o : Ordering) → o ≡ ordering_reverse o → o ≡ Equal
itself Less e = absurd (true≢false (ap is_lt e))
itself Equal e = refl
itself Greater e = absurd (true≢false (ap is_gt e))

pub same_value_decides : (v w : Value) → Decides (same_value v w) (v ≡ w)
same_value_decides v w = (
  λ e. value_cmp_exact v w ((Equal-is (value_cmp v w)).0 e),
  λ e. ap (λ u. is_eq (value_cmp v u)) (sym e) ∙ ap is_eq (itself (value_cmp v v) (value_cmp_total.antisymm v v)),
)

pub same_row_decides : (r s : List Value) → Decides (same_row r s) (r ≡ s)
same_row_decides r s = slice_eq-Decides same_value_decides r s (same_row r s) refl
