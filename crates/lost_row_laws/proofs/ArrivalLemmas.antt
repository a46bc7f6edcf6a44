-- A sieve comes down to the scan from which its column comes.
use Rattle.std.proofs.Common.{◌≡◌, ℕ, List, [], ◌∷◌, ◌++◌, Bool, true, Option, Some, None, Contains, refl, sym, subst, ◌⊎◌, inl, inr, arith}
use Rattle.std.specs.Prelude.{◌==◌, if◌then◌else◌, option_and_then}
use Rattle.std.proofs.lemmas.List.Elements.{Contains-append_cases, Contains-append_left, Contains-append_right, Contains-push, Contains-push_cases}
use Rattle.sql_values.specs.declared.types.SqlType.{SqlType}
use Rattle.sql_values.specs.declared.value.Value.{Value}
use Rattle.plan_trees.specs.Allowed.{width_of}
use Rattle.plan_trees.specs.TreeTypes.{types_of}
use Rattle.column_origins.specs.declared.origin.Origin.{Origin}
use Rattle.column_origins.specs.Origins.{left_column, origin_of, passed_by}
use Rattle.plan_run_laws.specs.HalvedSteps.{HalvedForm, aggregate, whole_step}
use Rattle.plan_run_laws.specs.RunPlans.{RunPlan, tree_of_run}
use Rattle.plan_run_laws.specs.RunPlans as plan
use Rattle.lost_row_laws.specs.Arrivals.{arriving}
use Rattle.lost_row_laws.specs.Sieves.{Sieve, over_input, sieve_at}

abbrev sieve : ℕ → (Value → Bool) → Sieve
sieve column pass = record { column = column; pass = pass }

pub front : (s : Sieve) (rest : List Sieve) → Contains (s ∷ rest) s
front s rest = Contains-append_left (s ∷ []) rest s (Contains-push [] s)

behind : (t s : Sieve) (rest : List Sieve) → Contains rest s → Contains (t ∷ rest) s
behind t s rest h = Contains-append_right (t ∷ []) rest s h

pub nothing : (s : Sieve) → Contains [] s → ⊥
nothing s (i, lt, is) = omega (arith, lt)

pub first_or_later : (t s : Sieve) (rest : List Sieve) → Contains (t ∷ rest) s → (t ≡ s) ⊎ Contains rest s
first_or_later t s rest h = of (Contains-append_cases (t ∷ []) rest s h)
  where
    alone : Contains [] s ⊎ (t ≡ s) → t ≡ s
    alone (inl none) = absurd (nothing s none)
    alone (inr same) = same

    of : Contains (t ∷ []) s ⊎ Contains rest s → (t ≡ s) ⊎ Contains rest s
    of (inl one) = inl (alone (Contains-push_cases [] t s one))
    of (inr later) = inr later

module _ (comes : ℕ → Option ℕ) (s : Sieve) (c : ℕ) (is : comes s.column ≡ Some c) where
  put_at : (t : Sieve) (rest : List Sieve) → Contains rest (sieve c s.pass) → (place : Option ℕ) → Contains (sieve_at place t rest) (sieve c s.pass)
  put_at t rest h None = h
  put_at t rest h (Some place) = behind (sieve place t.pass) (sieve c s.pass) rest h

  here : (t : Sieve) (rest : List Sieve) → t ≡ s → Contains (sieve_at (comes t.column) t rest) (sieve c s.pass)
  here t rest same =
      subst (λ (u : Sieve). Contains (sieve_at (comes u.column) u rest) (sieve c s.pass)) (sym same)
      (subst (λ (place : Option ℕ). Contains (sieve_at place s rest) (sieve c s.pass)) (sym is) (front (sieve c s.pass) rest))

  -- over the input the sieve stands at the column from which its own comes
  pub moved_down : (sieves : List Sieve) → Contains sieves s → Contains (over_input comes sieves) (sieve c s.pass)
  moved_down [] h = absurd (nothing s h)
  moved_down (t ∷ sieves) h = of (first_or_later t s sieves h) (λ later. moved_down sieves later)
    where
      of : (t ≡ s) ⊎ Contains sieves s → (Contains sieves s → Contains (over_input comes sieves) (sieve c s.pass))
          → Contains (sieve_at (comes t.column) t (over_input comes sieves)) (sieve c s.pass)
      of (inl same) down = here t (over_input comes sieves) same
      of (inr later) down = put_at t (over_input comes sieves) (down later) (comes t.column)

came : {A : Type 0} (f : ℕ → Option A) (place : Option ℕ) (o : A) → option_and_then f place ≡ Some o → (c : ℕ) × (place ≡ Some c) × (f c ≡ Some o)
came f None o h = absurd cc
came f (Some c) o h = (c, refl, h)

same_number : (n : ℕ) → n == n ≡ true
same_number n = grind arith

at_scan : (id : ℕ) (sieves : List Sieve) (s : Sieve) (o : Origin) → Contains sieves s → Some (record { scan = id; column = s.column }) ≡ Some o
    → Contains (if id == o.scan then sieves else []) (sieve o.column s.pass)
at_scan id sieves s o h is =
    subst (λ (p : Origin). Contains (if id == p.scan then sieves else []) (sieve p.column s.pass)) (same_origin (record { scan = id; column = s.column }) o is)
    (subst (λ (b : Bool). Contains (if b then sieves else []) s) (sym (same_number id)) h)
  where
    same_origin : (p q : Origin) → Some p ≡ Some q → p ≡ q
    same_origin p q e = cc

-- what is cut in halves passes no column on
no_halves : (h : HalvedForm) (types : List SqlType) (place : ℕ) (origins : ℕ → Option Origin) (o : Origin) → option_and_then origins (passed_by (whole_step h) types place) ≡ Some o → ⊥
no_halves (aggregate keys calls) types place origins o is = cc
no_halves h types place origins o is = cc

module _ (own : ℕ → List Sieve) (o : Origin) where
  pub comes_down : (p : RunPlan) (sieves : List Sieve) (s : Sieve) → Contains sieves s → origin_of (tree_of_run p) s.column ≡ Some o
      → Contains (arriving own sieves p o.scan) (sieve o.column s.pass)
  comes_down (plan.scan id table columns types) sieves s h is = at_scan id sieves s o h is
  comes_down (plan.values id types rows) sieves s h is = absurd cc
  comes_down (plan.remote id output m input) sieves s h is = comes_down input sieves s h is
  comes_down (plan.step id does input) sieves s h is =
      let comes = passed_by does (types_of (tree_of_run input)) in
      let split = came (origin_of (tree_of_run input)) (comes s.column) o is in
      comes_down input (over_input comes sieves) (sieve split.0 s.pass) (moved_down comes s split.0 split.1 sieves h) split.2
  comes_down (plan.halves id source output m half input) sieves s h is =
      absurd (no_halves half (types_of (tree_of_run input)) s.column (origin_of (tree_of_run input)) o is)
  comes_down (plan.join id kind on left right) sieves s h is =
      let comes = left_column kind (width_of (tree_of_run left)) in
      let split = came (origin_of (tree_of_run left)) (comes s.column) o is in
      Contains-append_left (arriving own (over_input comes (own id ++ sieves)) left o.scan) (arriving own [] right o.scan) (sieve o.column s.pass)
      (comes_down left (over_input comes (own id ++ sieves)) (sieve split.0 s.pass)
      (moved_down comes s split.0 split.1 (own id ++ sieves) (Contains-append_right (own id) sieves s h)) split.2)
  comes_down (plan.union id left right) sieves s h is = absurd cc
