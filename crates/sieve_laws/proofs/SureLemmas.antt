-- Where domains are known, the sieves of their join are sure.
use Rattle.std.proofs.Common.{◌≡◌, ℕ, zero, suc, List, [], ◌∷◌, ◌++◌, Bool, true, false, Option, Some, None, map, refl, ap, sym, subst, ◌∙◌, append-nil, append_assoc, get_or, arith, add-one, Contains, ◌⊎◌, inl, inr}
use Rattle.std.specs.Prelude.{◌||◌, filter}
use Rattle.std.specs.List.{range_with_len}
use Rattle.std.proofs.lemmas.List.Elements.{Contains-append_cases, Contains-append_left, Contains-append_right, Contains-push, Contains-push_cases}
use Rattle.std.proofs.lemmas.List.FromFn.{map-range_with_len_more}
use Rattle.sql_values.specs.declared.value.Value.{Value}
use Rattle.sql_values.specs.Cells.{cell}
use Rattle.operator_core.specs.Rows.{Row}
use Rattle.relation_laws.specs.Joins.{are_partners}
use Rattle.bag_laws.specs.Gather.{gather}
use Rattle.bag_laws.proofs.GatherLemmas.{gather-map}
use Rattle.plan_run_laws.specs.Nets.{of_tasks}
use Rattle.plan_run_laws.specs.Stops.{AllSet, StoppedPipe}
use Rattle.dyn_filter.specs.declared.domain.Domain.{Domain}
use Rattle.dyn_filter.specs.Cells.{AreDomainsOf, IsUnion, all_of}
use Rattle.dyn_filter.specs.Domains.{IsDomainOf}
use Rattle.lost_row_laws.specs.Domains.{sieve_of}
use Rattle.lost_row_laws.specs.Sieves.{Sieve, is_held}
use Rattle.lost_row_laws.specs.Stops.{AreSure}
use Rattle.lost_row_laws.proofs.DomainLemmas.{alone_by}
use Rattle.lost_row_laws.proofs.SieveLemmas.{held_by_either}
use Rattle.sieve_laws.specs.KnownDomains.{AreKnownOf, IsKnownOf, JoinFilter, sieve_known, sieves_of}

module _ (on : List (ℕ × ℕ)) (n : ℕ) (right : StoppedPipe) where
  one_sure : (f : JoinFilter) (known : Option Domain) → ((domain : Domain) → known ≡ Some domain → IsKnownOf on n right f domain) → AreSure on n right (sieve_known (get_or on f.pair (0, 0)).0 known)
  one_sure f None of a held = absurd cc
  one_sure f (Some domain) of a held =
      let k = of domain refl in
      (k.done, alone_by domain on f.pair (gather n (of_tasks right.drivers right.gave)) k.pair k.of a held)

  -- what is held back by one of two lists of sieves, each of which is sure
  both_sure : (first rest : List Sieve) → AreSure on n right first → AreSure on n right rest → AreSure on n right (first ++ rest)
  both_sure first rest one other a held = of (is_held first a) refl (sym (held_by_either first rest a) ∙ held)
    where
      of : (b : Bool) → is_held first a ≡ b → is_held first a || is_held rest a ≡ true → AllSet n right.drivers right.done × (filter (are_partners on a) (gather n (of_tasks right.drivers right.gave)) ≡ [])
      of true is h = one a is
      of false is h = other a (sym (ap (λ (b : Bool). b || is_held rest a) is) ∙ h)

  pub sure : (filters : List JoinFilter) → AreKnownOf on n right filters → AreSure on n right (sieves_of on filters)
  sure [] known = λ a held. absurd cc
  sure (f ∷ filters) known = both_sure (sieve_known (get_or on f.pair (0, 0)).0 f.known) (sieves_of on filters) (one_sure f f.known known.0) (sure filters known.1)

-- the values of all parts
all_of-push : (lists : List (List Value)) (values : List Value) → all_of (lists ++ values ∷ []) ≡ all_of lists ++ values
all_of-push [] values = append-nil values
all_of-push (first ∷ lists) values = ap (λ (rest : List Value). first ++ rest) (all_of-push lists values) ∙ sym (append_assoc first (all_of lists) values)

all_parts : (n : ℕ) (lists : ℕ → List Value) → all_of (map lists (range_with_len 0 n)) ≡ gather n lists
all_parts zero lists = refl
all_parts (suc n) lists =
    ap (λ (m : ℕ). all_of (map lists (range_with_len 0 m))) (sym (add-one n))
    ∙ ap all_of (map-range_with_len_more lists 0 n n (omega arith))
    ∙ all_of-push (map lists (range_with_len 0 n)) (lists n)
    ∙ ap (λ (values : List Value). values ++ lists n) (all_parts n lists)

pub domain_of_parts : (n : ℕ) (column : ℕ) (rows : ℕ → List Row) (domains : List Domain) (domain : Domain)
    → AreDomainsOf (map (λ (k : ℕ). map (λ (row : Row). cell row column) (rows k)) (range_with_len 0 n)) domains → IsUnion domains domain
    → IsDomainOf (map (λ (row : Row). cell row column) (gather n rows)) domain
domain_of_parts n column rows domains domain are union =
    let values : ℕ → List Value = λ k. map (λ (row : Row). cell row column) (rows k) in
    subst (λ (all : List Value). IsDomainOf all domain) (all_parts n values ∙ sym (gather-map n (λ (row : Row). cell row column) rows))
    (union (map values (range_with_len 0 n)) are)

-- a domain that is known has its sieve
abbrev Known : JoinFilter → Domain → List (ℕ × ℕ) → Sieve
Known f domain on = sieve_of (record { column = (get_or on f.pair (0, 0)).0; domain = domain })

first_known : (on : List (ℕ × ℕ)) (f : JoinFilter) (domain : Domain) → f.known ≡ Some domain → Contains (sieve_known (get_or on f.pair (0, 0)).0 f.known) (Known f domain on)
first_known on f domain is = subst (λ (known : Option Domain). Contains (sieve_known (get_or on f.pair (0, 0)).0 known) (Known f domain on)) (sym is) (Contains-push [] (Known f domain on))

pub has_sieve : (on : List (ℕ × ℕ)) (filters : List JoinFilter) (f : JoinFilter) → Contains filters f → (domain : Domain) → f.known ≡ Some domain
    → Contains (sieves_of on filters) (sieve_of (record { column = (get_or on f.pair (0, 0)).0; domain = domain }))
has_sieve on [] f (i, lt, there) domain is = absurd (omega (arith, lt))
has_sieve on (g ∷ filters) f h domain is = of (Contains-append_cases (g ∷ []) filters f h) (λ later. has_sieve on filters f later domain is)
  where
    alone : Contains [] f ⊎ (g ≡ f) → g ≡ f
    alone (inl (i, lt, there)) = absurd (omega (arith, lt))
    alone (inr same) = same

    of : Contains (g ∷ []) f ⊎ Contains filters f → (Contains filters f → Contains (sieves_of on filters) (Known f domain on)) → Contains (sieves_of on (g ∷ filters)) (Known f domain on)
    of (inl one) down =
        Contains-append_left (sieve_known (get_or on g.pair (0, 0)).0 g.known) (sieves_of on filters) (Known f domain on)
        (subst (λ (u : JoinFilter). Contains (sieve_known (get_or on u.pair (0, 0)).0 u.known) (Known f domain on)) (sym (alone (Contains-push_cases [] g f one))) (first_known on f domain is))
    of (inr later) down = Contains-append_right (sieve_known (get_or on g.pair (0, 0)).0 g.known) (sieves_of on filters) (Known f domain on) (down later)
