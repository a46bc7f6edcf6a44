-- What arrives at a scan is what comes down to it, and the sieves of a join arrive at the scans of their columns.
use Rattle.std.proofs.Common.{◌≡◌, ◌⊎◌, inl, inr, ℕ, ◌<◌, List, [], ◌∷◌, ◌++◌, Bool, true, false, Some, None, Contains, refl, ap, sym, subst, arith}
use Rattle.std.specs.Prelude.{◌==◌, if◌then◌else◌}
use Rattle.std.proofs.lemmas.Bool.{lt-ltb}
use Rattle.std.proofs.lemmas.List.Elements.{Contains-append_cases, Contains-append_left, Contains-append_right, Contains-push}
use Rattle.sql_values.specs.declared.relational.JoinKind.{JoinKind}
use Rattle.sql_values.specs.declared.relational.JoinKind.TheVariants.{Inner}
use Rattle.plan_trees.specs.Allowed.{width_of}
use Rattle.plan_trees.specs.TreeTypes.{types_of}
use Rattle.column_origins.specs.declared.origin.Origin.{Origin}
use Rattle.column_origins.specs.Origins.{left_column, origin_of}
use Rattle.plan_run_laws.specs.RunPlans.{RunPlan, tree_of_run}
use Rattle.plan_run_laws.specs.RunPlans as plan
use Rattle.lost_row_laws.specs.Arrivals.{arriving}
use Rattle.lost_row_laws.specs.Sieves.{Sieve, over_input, under}
use Rattle.lost_row_laws.proofs.ArrivalLemmas.{comes_down, moved_down, nothing}
use Rattle.lost_row_laws.specs.Runs.{AreTyped}
use Rattle.sieve_laws.specs.ComingDown.{ComeDown, HasJoin, HaveApart, ScansApart, scans_of}
use Rattle.sieve_laws.proofs.WithinLemmas.{StandBelow, left_below, none_below, over_below, under_below}

same_number : (n : ℕ) → n == n ≡ true
same_number n = grind arith

same_if : (a b : ℕ) → a == b ≡ true → a ≡ b
same_if a b e = grind (arith, e)

only : (id : ℕ) → Contains (id ∷ []) id
only id = Contains-push [] id

module _ (own : ℕ → List Sieve) (s : Sieve) (place : ℕ) where
  -- the sieve that arrives somewhere arrives at a scan
  at_scan : (id : ℕ) (sieves : List Sieve) (b : Bool) → id == place ≡ b → Contains (if b then sieves else []) s → Contains (id ∷ []) place
  at_scan id sieves true is there = subst (λ (at : ℕ). Contains (id ∷ []) at) (same_if id place is) (only id)
  at_scan id sieves false is there = absurd (nothing s there)

  on_either : (left right : RunPlan) (first second : List Sieve) → (Contains first s → Contains (scans_of left) place) → (Contains second s → Contains (scans_of right) place)
      → Contains (first ++ second) s → Contains (scans_of left ++ scans_of right) place
  on_either left right first second one other there = of (Contains-append_cases first second s there)
    where
      of : Contains first s ⊎ Contains second s → Contains (scans_of left ++ scans_of right) place
      of (inl there) = Contains-append_left (scans_of left) (scans_of right) place (one there)
      of (inr there) = Contains-append_right (scans_of left) (scans_of right) place (other there)

  arrives : (p : RunPlan) (sieves : List Sieve) → Contains (arriving own sieves p place) s → Contains (scans_of p) place
  arrives (plan.scan id table columns types) sieves there = at_scan id sieves (id == place) refl there
  arrives (plan.values id types rows) sieves there = absurd (nothing s there)
  arrives (plan.remote id output m input) sieves there = arrives input sieves there
  arrives (plan.join id kind on left right) sieves there =
      let down = over_input (left_column kind (width_of (tree_of_run left))) (own id ++ sieves) in
      on_either left right (arriving own down left place) (arriving own [] right place) (λ there. arrives left down there) (λ there. arrives right [] there) there
  arrives (plan.step id does input) sieves there = arrives input (under (types_of (tree_of_run input)) does sieves) there
  arrives (plan.halves id source output m h input) sieves there = arrives input [] there
  arrives (plan.union id left right) sieves there =
      on_either left right (arriving own [] left place) (arriving own [] right place) (λ there. arrives left [] there) (λ there. arrives right [] there) there

module _ (own due : ℕ → List Sieve) where
  -- what is due at the scans of a run arrives there
  abbrev AllArrive : List Sieve → RunPlan → Type 0
  AllArrive sieves p = (id : ℕ) → Contains (scans_of p) id → (s : Sieve) → Contains (due id) s → Contains (arriving own sieves p id) s

  -- of two sides whose scans are apart, what arrives at a scan of one side comes down that side
  at_left : (left right : RunPlan) (first second : List Sieve) → HaveApart left right
      → ((id : ℕ) → Contains (scans_of left ++ scans_of right) id → (s : Sieve) → Contains (due id) s → Contains (arriving own first left id ++ arriving own second right id) s)
      → AllArrive first left
  at_left left right first second apart all id here s h =
      of (Contains-append_cases (arriving own first left id) (arriving own second right id) s (all id (Contains-append_left (scans_of left) (scans_of right) id here) s h))
    where
      of : Contains (arriving own first left id) s ⊎ Contains (arriving own second right id) s → Contains (arriving own first left id) s
      of (inl there) = there
      of (inr there) = absurd (apart id here (arrives own s id right second there))

  at_right : (left right : RunPlan) (first second : List Sieve) → HaveApart left right
      → ((id : ℕ) → Contains (scans_of left ++ scans_of right) id → (s : Sieve) → Contains (due id) s → Contains (arriving own first left id ++ arriving own second right id) s)
      → AllArrive second right
  at_right left right first second apart all id here s h =
      of (Contains-append_cases (arriving own first left id) (arriving own second right id) s (all id (Contains-append_right (scans_of left) (scans_of right) id here) s h))
    where
      of : Contains (arriving own first left id) s ⊎ Contains (arriving own second right id) s → Contains (arriving own second right id) s
      of (inl there) = absurd (apart id (arrives own s id left first there) here)
      of (inr there) = there

  come_due : (p : RunPlan) (sieves : List Sieve) → AreTyped p → ScansApart p → StandBelow (width_of (tree_of_run p)) sieves → AllArrive sieves p → ComeDown own due sieves p
  come_due (plan.scan id table columns types) sieves typed apart below all = λ s h.
      let there = subst (λ (b : Bool). Contains (if b then sieves else []) s) (same_number id) (all id (only id) s h) in (there, below s there)
  come_due (plan.values id types rows) sieves typed apart below all = tt
  come_due (plan.remote id output m input) sieves typed apart below all = come_due input sieves typed apart below all
  come_due (plan.join id kind on left right) sieves typed apart below all =
      let width = width_of (tree_of_run left) in
      let down = over_input (left_column kind width) (own id ++ sieves) in (
        come_due left down typed.0 apart.0 (over_below (left_column kind width) width (own id ++ sieves) (λ s h c is. left_below kind width s.column c is)) (at_left left right down [] apart.2 all),
        come_due right [] typed.1 apart.1 (none_below (width_of (tree_of_run right))) (at_right left right down [] apart.2 all),
      )
  come_due (plan.step id does input) sieves typed apart below all =
      let types = types_of (tree_of_run input) in come_due input (under types does sieves) typed.1 apart (under_below types does typed.0 sieves below) all
  come_due (plan.halves id source output m h input) sieves typed apart below all = come_due input [] typed apart (none_below (width_of (tree_of_run input))) all
  come_due (plan.union id left right) sieves typed apart below all = (
    come_due left [] typed.0 apart.0 (none_below (width_of (tree_of_run left))) (at_left left right [] [] apart.2 all),
    come_due right [] typed.1 apart.1 (none_below (width_of (tree_of_run right))) (at_right left right [] [] apart.2 all),
  )

pub arriving_comes_down : (own : ℕ → List Sieve) (p : RunPlan) → AreTyped p → ScansApart p → ComeDown own (arriving own [] p) [] p
arriving_comes_down own p typed apart = come_due own (arriving own [] p) p [] typed apart (none_below (width_of (tree_of_run p))) (λ id here s h. h)

inner_column : (width place : ℕ) → place < width → left_column Inner width place ≡ Some place
inner_column width place lt = ap (λ (b : Bool). if b then Some place else None) (lt-ltb place width lt)

module _ (own : ℕ → List Sieve) (at : ℕ) (side : RunPlan) (s : Sieve) (h : Contains (own at) s) (within : s.column < width_of (tree_of_run side)) (o : Origin)
    (is : origin_of (tree_of_run side) s.column ≡ Some o) where
  abbrev arrived : Sieve
  arrived = record { column = o.column; pass = s.pass }

  abbrev Arrives : List Sieve → RunPlan → Type 0
  Arrives sieves p = Contains (arriving own sieves p o.scan) arrived

  here_join : (on : List (ℕ × ℕ)) (right : RunPlan) (sieves : List Sieve) → Arrives sieves (plan.join at Inner on side right)
  here_join on right sieves =
      let comes = left_column Inner (width_of (tree_of_run side)) in
      Contains-append_left (arriving own (over_input comes (own at ++ sieves)) side o.scan) (arriving own [] right o.scan) arrived
      (comes_down own o side (over_input comes (own at ++ sieves)) (record { column = s.column; pass = s.pass })
      (moved_down comes s s.column (inner_column (width_of (tree_of_run side)) s.column within) (own at ++ sieves) (Contains-append_left (own at) sieves s h)) is)

  at_join : (id : ℕ) (kind : JoinKind) (on : List (ℕ × ℕ)) (left right : RunPlan) (sieves : List Sieve) → id ≡ at → kind ≡ Inner → left ≡ side → Arrives sieves (plan.join id kind on left right)
  at_join id kind on left right sieves same inner the =
      subst (λ (i : ℕ). Arrives sieves (plan.join i kind on left right)) (sym same)
      (subst (λ (k : JoinKind). Arrives sieves (plan.join at k on left right)) (sym inner)
      (subst (λ (p : RunPlan). Arrives sieves (plan.join at Inner on p right)) (sym the) (here_join on right sieves)))

  pub own_arrives : (p : RunPlan) (sieves : List Sieve) → HasJoin p at Inner side → Arrives sieves p
  own_arrives (plan.scan id table columns types) sieves has = absurd has
  own_arrives (plan.values id types rows) sieves has = absurd has
  own_arrives (plan.remote id output m input) sieves has = own_arrives input sieves has
  own_arrives (plan.join id kind on left right) sieves (inl (same, inner, the)) = at_join id kind on left right sieves same inner the
  own_arrives (plan.join id kind on left right) sieves (inr (inl has)) =
      let down = over_input (left_column kind (width_of (tree_of_run left))) (own id ++ sieves) in
      Contains-append_left (arriving own down left o.scan) (arriving own [] right o.scan) arrived (own_arrives left down has)
  own_arrives (plan.join id kind on left right) sieves (inr (inr has)) =
      let down = over_input (left_column kind (width_of (tree_of_run left))) (own id ++ sieves) in
      Contains-append_right (arriving own down left o.scan) (arriving own [] right o.scan) arrived (own_arrives right [] has)
  own_arrives (plan.step id does input) sieves has = own_arrives input (under (types_of (tree_of_run input)) does sieves) has
  own_arrives (plan.halves id source output m h input) sieves has = own_arrives input [] has
  own_arrives (plan.union id left right) sieves (inl has) =
      Contains-append_left (arriving own [] left o.scan) (arriving own [] right o.scan) arrived (own_arrives left [] has)
  own_arrives (plan.union id left right) sieves (inr has) =
      Contains-append_right (arriving own [] left o.scan) (arriving own [] right o.scan) arrived (own_arrives right [] has)
