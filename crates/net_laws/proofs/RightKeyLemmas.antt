-- The domain of keys is that of any others with the same values, as where tasks have the same rows.
use Rattle.std.proofs.Common.{◌≡◌, ℕ, ◌<◌, zero, suc, List, Bool, true, false, ◌||◌, ◌&&◌, refl, ap, sym, ◌∙◌, arith}
use Rattle.std.proofs.lemmas.List.Folds.{list_any-append}
use Rattle.sql_values.specs.declared.value.Value.{Value}
use Rattle.relation_laws.specs.Equality.{is_present, same_value}
use Rattle.bag_laws.specs.Gather.{gather}
use Rattle.bag_laws.specs.Weights.{SameWeights}
use Rattle.dyn_filter.specs.declared.domain.Domain.{Domain}
use Rattle.dyn_filter.specs.declared.domain.Domain.TheVariants.{Nothing, Values, Range}
use Rattle.dyn_filter.specs.Domains.{IsDomainOf, is_among}
use Rattle.dyn_filter.specs.Lists.{is_in}
use Rattle.net_laws.proofs.OrderLemmas.{any_same}

-- lists that have the same values
abbrev pub HaveSameValues : List Value → List Value → Type 0
HaveSameValues keys others = (v : Value) → is_in keys v ≡ is_in others v

pub same_domain : (domain : Domain) (keys others : List Value) → HaveSameValues keys others → IsDomainOf keys domain → IsDomainOf others domain
same_domain domain keys others same = of domain
  where
    among : (v : Value) → is_among keys v ≡ is_among others v
    among v = ap (λ (b : Bool). is_present v && b) (same v)

    of : (domain : Domain) → IsDomainOf keys domain → IsDomainOf others domain
    of Nothing is = λ v. sym (among v) ∙ is v
    of (Values list) is = record { is = is.is; same = λ v. is.same v ∙ among v }
    of (Range least greatest) (ends, many) = (
      record {
        low = sym (among least) ∙ ends.low;
        high = sym (among greatest) ∙ ends.high;
        within = λ v e. ends.within v (among v ∙ e);
      },
      record {
        some = many.some;
        ascending = many.ascending;
        many = many.many;
        among = λ v e. sym (among v) ∙ many.among v e;
      },
    )

pub in_any_order : (keys others : List Value) → SameWeights keys others → HaveSameValues keys others
in_any_order keys others same v = any_same (same_value v) keys others same

or_itself : (b : Bool) → (b || b) ≡ b
or_itself true = refl
or_itself false = refl

-- so many lists with the same values, one behind the other
pub in_each : (n : ℕ) (lists : ℕ → List Value) (keys : List Value) → 0 < n → ((k : ℕ) → k < n → HaveSameValues (lists k) keys)
    → HaveSameValues (gather n lists) keys
in_each zero lists keys some each = absurd (omega (arith, some))
in_each (suc zero) lists keys some each = each 0 (omega arith)
in_each (suc (suc n)) lists keys some each = λ v.
    let first : is_in (gather (suc n) lists) v ≡ is_in keys v = in_each (suc n) lists keys (omega arith) (λ k lt. each k (omega (arith, lt))) v in
    let last : is_in (lists (suc n)) v ≡ is_in keys v = each (suc n) (omega arith) v in
    list_any-append (same_value v) (gather (suc n) lists) (lists (suc n)) ∙ (λ i. first i || last i) ∙ or_itself (is_in keys v)
