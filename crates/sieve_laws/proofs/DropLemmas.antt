-- What filters in front of a driver's stages lose is held back, and the rest goes on to these stages.
use Rattle.std.proofs.Common.{◌≡◌, ℕ, ◌<◌, zero, suc, List, [], ◌∷◌, ◌++◌, Bool, true, Option, Some, None, Contains, length, get_or, take, refl, ap, sym, subst, ◌∙◌, append-nil, append_assoc, arith, ◌⊎◌, inl, inr}
use Rattle.std.specs.Prelude.{IsTrue, if◌then◌else◌}
use Rattle.std.proofs.lemmas.List.Elements.{All-cons, All-nil, Contains-push_cases}
use Rattle.std.proofs.lemmas.List.Sums.{sum_by-append}
use Rattle.sql_values.specs.declared.fail.Fail.{Fail}
use Rattle.sql_values.specs.declared.types.SqlType.{SqlType}
use Rattle.sql_values.specs.declared.value.Value.{Value}
use Rattle.sql_values.specs.ColumnRows.{fits_row}
use Rattle.col_pages.specs.Fits.{AllFit}
use Rattle.operator_core.specs.declared.operator.Operator.{Ghosts}
use Rattle.operator_core.specs.Rows.{Row}
use Rattle.operator_core.specs.Calls.{FailsNow, IsLawful}
use Rattle.operator_core.specs.Stages.{FailsAfter, Linked, Steps, ToldInTurn, last_finished}
use Rattle.operator_core.proofs.StageLemmas.{Coming-none, Steps-fails, finished-gives, finished-told}
use Rattle.bag_laws.specs.Buckets.{Sits}
use Rattle.bag_laws.specs.Gather.{gather}
use Rattle.bag_laws.specs.Weights.{SameWeights}
use Rattle.bag_laws.proofs.BagLemmas.{same-append, same-from_equal, same-refl, same-sym, same-trans}
use Rattle.bag_laws.proofs.BucketLemmas.{sits-append, sits-head, sits-nil, sits-same, sits-tail}
use Rattle.bag_laws.proofs.GatherLemmas.{gather-none, same-gather, same-gather_append}
use Rattle.plan_trees.specs.Allowed.{strict}
use Rattle.plan_run_laws.specs.Nets.{Lanes, of_tasks}
use Rattle.plan_run_laws.specs.Stops.{AllSet, Flags, Hop}
use Rattle.plan_run_laws.specs.Wholes.{longer}
use Rattle.plan_run_laws.proofs.LaneLemmas.{chosen_lanes}
use Rattle.dyn_filter.specs.declared.domain.Domain.{Domain}
use Rattle.lost_row_laws.specs.Domains.{Filtering, sieve_of}
use Rattle.lost_row_laws.specs.Sieves.{Sieve, is_lost}
use Rattle.lost_row_laws.proofs.DomainLemmas.{lost_by_all}
use Rattle.sieve_laws.specs.FilterLanes.{AllDrop, AreAmong, AreFiltered, Drops, FilterNoted, IsAmong, IsFiltered}
use Rattle.sieve_laws.proofs.OverLemmas.{fitting}
use Rattle.sieve_laws.proofs.SplitLemmas.{fails_after}

-- rows one by one, where all of them sit
pub all_fitting : (types : List SqlType) (rows : List Row) → Sits (fits_row types) rows → AllFit types rows
all_fitting types [] sits = All-nil (λ (row : List Value). IsTrue (fits_row types row))
all_fitting types (row ∷ rows) sits =
    All-cons (λ (row : List Value). IsTrue (fits_row types row)) row rows (sits-head (fits_row types) row rows sits) (all_fitting types rows (sits-tail (fits_row types) row rows sits))

-- what sits in front of others, and behind them
in_front : (test : Row → Bool) (A B : List Row) → Sits test (A ++ B) → Sits test A
in_front test A B sits = record { none_fails = omega (arith, sits.none_fails, sum_by-append (λ x. if test x then 0 else 1) A B) }

-- rows that came: those that went on, those that were lost, and those that are held
pub record LetThrough (sieves : List Sieve) (types : List SqlType) (came took : List Row) (over ended : Bool) : Type 0 where
  pub lost : List Row
  pub held : List Row
  pub all : SameWeights ((took ++ lost) ++ held) came
  pub back : Sits (is_lost strict sieves types) lost
  pub none : ended ≡ true → (over ≡ true) × (held ≡ [])
  pub fit : Sits (fits_row types) took

module _ {S : Type 0} (g : Ghosts S) (laws : IsLawful g) (sieves : List Sieve) (types : List SqlType) where
  -- one filter, whose note knows a domain
  drops_some : (f : FilterNoted) (s : S) (domain : Domain) → f.known ≡ Some domain → Drops g f s → IsAmong sieves types f → (over : Bool) → (g.is_told s ≡ true → over ≡ true)
      → (X Y : List Row) → Steps g s X Y → Sits (fits_row types) X → LetThrough sieves types X Y over (g.is_finished s)
  drops_some f s domain known d among over turn X Y steps fit =
      let some = laws.some_rows s [] (Coming-none (g.is_told s)) in
      let gives = subst (λ (x : List Row). g.may_give (g.as_made s) x (Y ++ some.0)) (append-nil X) (steps.gives [] some.0 (Coming-none (g.is_told s)) some.1) in
      let one : Filtering = record { column = f.column; domain = domain } in
      let l = lost_by_all strict sieves types (one ∷ []) (λ h is. subst (λ (o : Filtering). Contains sieves (sieve_of o) × (o.column < length types)) (only_one one h is) (among domain known))
      (Y ++ some.0) X fit (Y ++ some.0, d.drops domain known X (Y ++ some.0) gives, refl) in
      record {
        lost = l.lost;
        held = some.0;
        all = same-trans (record {
          weighs = λ h. omega (arith, sum_by-append h (Y ++ l.lost) some.0, sum_by-append h Y l.lost, sum_by-append h (Y ++ some.0) l.lost, sum_by-append h Y some.0);
        }) l.all;
        back = l.held;
        none = λ e. (turn (finished-told g laws s e), finished-gives g laws s some.0 e some.1);
        fit = in_front (fits_row types) Y some.0 (in_front (fits_row types) (Y ++ some.0) l.lost (sits-same (fits_row types) (same-sym l.all) fit));
      }
    where
      only_one : (one h : Filtering) → Contains (one ∷ []) h → one ≡ h
      only_one one h c = of (Contains-push_cases [] one h c)
        where
          of : Contains [] h ⊎ (one ≡ h) → one ≡ h
          of (inl (i, lt, is)) = absurd (omega (arith, lt))
          of (inr same) = same

  -- one whose note knows none
  drops_none : (f : FilterNoted) (s : S) → f.known ≡ None → Drops g f s → (over : Bool) → (g.is_told s ≡ true → over ≡ true)
      → (X Y : List Row) → Steps g s X Y → Sits (fits_row types) X → LetThrough sieves types X Y over (g.is_finished s)
  drops_none f s unknown d over turn X Y steps fit =
      let h = d.holds unknown X Y (steps.idle (d.unknown unknown)) in
      record {
        lost = [];
        held = h.0;
        all = same-from_equal (ap (λ (y : List Row). y ++ h.0) (append-nil Y) ∙ h.1);
        back = sits-nil (is_lost strict sieves types);
        none = λ e. (turn (finished-told g laws s e), h.2 e);
        fit = in_front (fits_row types) Y h.0 (subst (Sits (fits_row types)) (sym h.1) fit);
      }

  one_drops : (f : FilterNoted) (s : S) (known : Option Domain) → f.known ≡ known → Drops g f s → IsAmong sieves types f → (over : Bool) → (g.is_told s ≡ true → over ≡ true)
      → (X Y : List Row) → Steps g s X Y → Sits (fits_row types) X → LetThrough sieves types X Y over (g.is_finished s)
  one_drops f s None is d among over turn X Y steps fit = drops_none f s is d over turn X Y steps fit
  one_drops f s (Some domain) is d among over turn X Y steps fit = drops_some f s domain is d among over turn X Y steps fit

  -- one behind the other
  behind : (X M Y : List Row) (over told ended : Bool) → LetThrough sieves types X M over told → LetThrough sieves types M Y told ended → LetThrough sieves types X Y over ended
  behind X M Y over told ended a b = record {
    lost = b.lost ++ a.lost;
    held = b.held ++ a.held;
    all = record {
      weighs = λ h. omega (
        arith,
        a.all.weighs h,
        b.all.weighs h,
        sum_by-append h (M ++ a.lost) a.held,
        sum_by-append h M a.lost,
        sum_by-append h (Y ++ b.lost) b.held,
        sum_by-append h Y b.lost,
        sum_by-append h (Y ++ (b.lost ++ a.lost)) (b.held ++ a.held),
        sum_by-append h Y (b.lost ++ a.lost),
        sum_by-append h b.lost a.lost,
        sum_by-append h b.held a.held,
      );
    };
    back = sits-append (is_lost strict sieves types) b.lost a.lost b.back a.back;
    none = λ e. let later = b.none e in let first = a.none later.0 in (first.0, ap (λ (rows : List Row). rows ++ a.held) later.1 ∙ first.1);
    fit = b.fit;
  }

  all_drop : (filters : List FilterNoted) (stages : List S) → AllDrop g filters stages → AreAmong sieves types filters → (over : Bool) → ToldInTurn g over stages
      → (X Y : List Row) → Linked g stages X Y → Sits (fits_row types) X → LetThrough sieves types X Y over (last_finished g over stages)
  all_drop [] [] d among over turns X Y linked fit = record {
    lost = [];
    held = [];
    all = same-from_equal (append-nil (Y ++ []) ∙ append-nil Y ∙ sym linked);
    back = sits-nil (is_lost strict sieves types);
    none = λ e. (e, refl);
    fit = subst (Sits (fits_row types)) linked fit;
  }
  all_drop [] (s ∷ stages) d among over turns X Y linked fit = absurd d
  all_drop (f ∷ filters) [] d among over turns X Y linked fit = absurd d
  all_drop (f ∷ filters) (s ∷ stages) d among over turns X Y (M, steps, linked) fit =
      let first = one_drops f s f.known refl d.0 among.0 over turns.0 X M steps fit in
      behind X M Y over (g.is_finished s) (last_finished g (g.is_finished s) stages) first
      (all_drop filters stages d.1 among.1 (g.is_finished s) turns.1 M Y linked first.fit)

  pub filtered : (stages : List S) (came took : List Row) (over ended : Bool) → IsFiltered g sieves types stages came took over ended → LetThrough sieves types came took over ended
  filtered stages came took over ended f =
      subst (LetThrough sieves types came took over) f.ended_is (all_drop f.filters stages f.drop f.among over f.turns came took f.linked (fitting types came f.fit))

  -- a filter that a driver failed at is none
  pub calm_front : (filters : List FilterNoted) (stages rest : List S) → AllDrop g filters stages → (X Y : List Row) → Linked g stages X Y → (node : ℕ) (kind : Fail)
      → (place : ℕ) (s : S) → place < length (stages ++ rest) → s ≡ get_or (stages ++ rest) place s → FailsNow g s node kind → (i : ℕ) × (i < length rest) × (s ≡ get_or rest i s)
  calm_front [] [] rest d X Y linked node kind place s lt is fails = (place, lt, is)
  calm_front [] (t ∷ stages) rest d X Y linked node kind place s lt is fails = absurd d
  calm_front (f ∷ filters) [] rest d X Y linked node kind place s lt is fails = absurd d
  calm_front (f ∷ filters) (t ∷ stages) rest d X Y (M, steps, linked) node kind zero s lt is fails =
      let now = subst (λ (u : S). FailsNow g u node kind) is fails in
      absurd (d.0.calm (X ++ []) node kind (Steps-fails g t X M node kind steps now [] (Coming-none (g.is_told t))))
  calm_front (f ∷ filters) (t ∷ stages) rest d X Y (M, steps, linked) node kind (suc place) s lt is fails =
      calm_front filters stages rest d.1 M Y linked node kind place s (omega (arith, lt)) is fails

  pub fails_behind : (stages rest : List S) (came took gave : List Row) (over ended : Bool) → IsFiltered g sieves types stages came took over ended → Linked g rest took gave → ToldInTurn g ended rest
      → (node : ℕ) (kind : Fail) (place : ℕ) (s : S) → place < length (stages ++ rest) → s ≡ get_or (stages ++ rest) place s → FailsNow g s node kind
      → (i : ℕ) × (i < length rest) × (s ≡ get_or rest i s) × FailsAfter g (take i rest) (g.as_made s) ended took node kind
  fails_behind stages rest came took gave over ended f linked turns node kind place s lt is fails =
      let at = calm_front f.filters stages rest f.drop came took f.linked node kind place s lt is fails in
      (at.0, at.1, at.2, fails_after g rest ended took gave node kind at.0 s at.1 at.2 fails linked turns)

  -- the drivers of a scan's pipe
  module _ (n w : ℕ) (stages : ℕ → ℕ → List S) (came took : Lanes) (over ended : Flags) (f : AreFiltered g sieves types n w stages came took over ended) (table : List Row)
      (hop : Hop table (gather n (of_tasks w came)) (AllSet n w over) (Unit {0})) where
    -- what one of them lost
    abbrev Lost : ℕ → ℕ → List Row → Type 0
    Lost k d lost =
        (held : List Row) × SameWeights ((took k d ++ lost) ++ held) (came k d) × Sits (is_lost strict sieves types) lost
        × (ended k d ≡ true → (over k d ≡ true) × (held ≡ []))

    each : (k d : ℕ) → k < n → d < w → (lost : List Row) × Lost k d lost
    each k d lt less =
        let l = filtered (stages k d) (came k d) (took k d) (over k d) (ended k d) (f k d lt less) in (l.lost, (l.held, l.all, l.back, l.none))

    abbrev lost : Lanes
    lost = (chosen_lanes Lost n w each).0

    lost_is : (k d : ℕ) → k < n → d < w → Lost k d (lost k d)
    lost_is = (chosen_lanes Lost n w each).1

    abbrev Held : ℕ → ℕ → List Row → Type 0
    Held k d held = SameWeights ((took k d ++ lost k d) ++ held) (came k d) × (ended k d ≡ true → (over k d ≡ true) × (held ≡ []))

    abbrev held : Lanes
    held = (chosen_lanes Held n w (λ k d lt less. let l = lost_is k d lt less in (l.0, (l.1, l.3)))).0

    held_is : (k d : ℕ) → k < n → d < w → Held k d (held k d)
    held_is = (chosen_lanes Held n w (λ k d lt less. let l = lost_is k d lt less in (l.0, (l.1, l.3)))).1

    -- in one task, and in all of them
    in_task : (k : ℕ) → k < n → SameWeights (of_tasks w (longer took lost) k ++ of_tasks w held k) (of_tasks w came k)
    in_task k lt =
        same-trans (same-sym (same-gather_append w (λ d. took k d ++ lost k d) (held k)))
        (same-gather w (λ d. (took k d ++ lost k d) ++ held k d) (came k) (λ d less. (held_is k d lt less).0))

    in_all : SameWeights (gather n (of_tasks w (longer took lost)) ++ gather n (of_tasks w held)) (gather n (of_tasks w came))
    in_all =
        same-trans (same-sym (same-gather_append n (of_tasks w (longer took lost)) (of_tasks w held)))
        (same-gather n (λ k. of_tasks w (longer took lost) k ++ of_tasks w held k) (of_tasks w came) in_task)

    none_held : AllSet n w ended → gather n (of_tasks w held) ≡ []
    none_held set = gather-none n (of_tasks w held) (λ k lt. gather-none w (held k) (λ d less. ((held_is k d lt less).1 (set k d lt less)).1))

    pub scan_filtered : (lost : Lanes) × Hop table (gather n (of_tasks w (longer took lost))) (AllSet n w ended) (Unit {0})
        × ((k d : ℕ) → k < n → d < w → Sits (is_lost strict sieves types) (lost k d))
    scan_filtered = (
      lost,
      record {
        left = gather n (of_tasks w held) ++ hop.left;
        some = same-trans (same-from_equal (sym (append_assoc (gather n (of_tasks w (longer took lost))) (gather n (of_tasks w held)) hop.left)))
            (same-trans (same-append in_all (same-refl hop.left)) hop.some);
        all = λ set. ap (λ (rows : List Row). rows ++ hop.left) (none_held set) ∙ hop.all (λ k d lt less. ((held_is k d lt less).1 (set k d lt less)).0);
        closed = λ set. tt;
      },
      λ k d lt less. (lost_is k d lt less).2,
    )
