-- The filters of one driver, and those of all drivers.
use Rattle.std.proofs.Common.{◌≡◌, ℕ, ◌<◌, ◌≤◌, zero, suc, List, [], ◌∷◌, ◌++◌, length, Bool, true, refl, ap, ◌∙◌, subst, arith, append-nil}
use Rattle.std.specs.Prelude.{cond, count_by, sum}
use Rattle.std.specs.List.{list_all}
use Rattle.std.proofs.lemmas.List.Sums.{count_by-le-length, sum_by-append}
use Rattle.count_laws.specs.Counts.{most_count}
use Rattle.operator_core.specs.declared.operator.Operator.{Ghosts}
use Rattle.operator_core.specs.Rows.{Row}
use Rattle.operator_core.specs.Calls.{IsLawful}
use Rattle.operator_core.specs.Stages.{Linked, ToldInTurn, last_finished}
use Rattle.operator_core.proofs.StageLemmas.{finished-told}
use Rattle.bag_laws.specs.Gather.{gather}
use Rattle.bag_laws.specs.Weights.{SameWeights}
use Rattle.bag_laws.proofs.BagLemmas.{same-length}
use Rattle.bag_laws.proofs.GatherLemmas.{length-gather-le}
use Rattle.plan_run_laws.specs.Nets.{Lanes, of_tasks}
use Rattle.plan_run_laws.specs.Stops.{AllSet, Flags, Hop}
use Rattle.net_laws.specs.ScanFilters.{IsCountOf, ScanFilter, count_passing, passes_filter, sum_of_drivers, waited_for}
use Rattle.net_laws.specs.FilterStages.{AllHaveFiltered, AreOperatorsOf}
use Rattle.net_laws.proofs.CountedRowLemmas.{all_pass, one_more}
use Rattle.net_laws.proofs.CountingStageLemmas.{gave_of}

-- numbers of drivers, in all
sum_gathered : (n : ℕ) (f h : ℕ → List ℕ) → ((k : ℕ) → k < n → sum (f k) ≤ sum (h k)) → sum (gather n f) ≤ sum (gather n h)
sum_gathered zero f h each = omega arith
sum_gathered (suc n) f h each = omega (
  arith,
  sum_gathered n f h (λ k lt. each k (omega arith)),
  each n (omega arith),
  sum_by-append (λ (x : ℕ). x) (gather n f) (f n),
  sum_by-append (λ (x : ℕ). x) (gather n h) (h n),
)

pub sums_within : (n w : ℕ) (counts others : ℕ → ℕ → ℕ) → ((k d : ℕ) → k < n → d < w → counts k d ≤ others k d) → sum_of_drivers n w counts ≤ sum_of_drivers n w others
sums_within n w counts others each =
    sum_gathered n (λ k. gather w (λ d. counts k d ∷ [])) (λ k. gather w (λ d. others k d ∷ []))
    (λ k lt. sum_gathered w (λ d. counts k d ∷ []) (λ d. others k d ∷ []) (λ d less. omega (arith, each k d lt less)))

-- rows that pass, counted for each driver
module _ (test : Row → Bool) where
  in_task : (w : ℕ) (lists : ℕ → List Row) → count_by test (gather w lists) ≡ sum (gather w (λ d. count_by test (lists d) ∷ []))
  in_task zero lists = refl
  in_task (suc w) lists = omega (
    arith,
    in_task w lists,
    sum_by-append (λ (row : Row). cond (test row) 1 0) (gather w lists) (lists w),
    sum_by-append (λ (x : ℕ). x) (gather w (λ d. count_by test (lists d) ∷ [])) (count_by test (lists w) ∷ []),
  )

  pub in_tasks : (n w : ℕ) (lanes : Lanes) → count_by test (gather n (of_tasks w lanes)) ≡ sum_of_drivers n w (λ k d. count_by test (lanes k d))
  in_tasks zero w lanes = refl
  in_tasks (suc n) w lanes = omega (
    arith,
    in_tasks n w lanes,
    in_task w (lanes n),
    sum_by-append (λ (row : Row). cond (test row) 1 0) (gather n (of_tasks w lanes)) (of_tasks w lanes n),
    sum_by-append (λ (x : ℕ). x) (gather n (λ k. gather w (λ d. count_by test (lanes k d) ∷ []))) (gather w (λ d. count_by test (lanes n d) ∷ [])),
  )

module _ {S : Type 0} (g : Ghosts S) (laws : IsLawful g) where
  -- one driver, from the first filter on
  pub driver_counts : (filters : List ScanFilter) (stages : List S) → AreOperatorsOf g filters stages → (over : Bool) → ToldInTurn g over stages
      → (X Y : List Row) → Linked g stages X Y → last_finished g over stages ≡ true → (over ≡ true) × IsCountOf filters X (length Y)
  driver_counts [] [] are over turns X Y linked finished =
      (finished, record { most = omega (arith, all_pass X, ap (λ (rows : List Row). length rows) linked); least = omega (arith, all_pass X, ap (λ (rows : List Row). length rows) linked) })
  driver_counts [] (s ∷ stages) are over turns X Y linked finished = absurd are
  driver_counts (f ∷ filters) [] are over turns X Y linked finished = absurd are
  driver_counts (f ∷ filters) (s ∷ stages) are over turns X Y (M, steps, linked) finished =
      let behind = driver_counts filters stages are.1 (g.is_finished s) turns.1 M Y linked finished in
      let here = gave_of g laws f s are.0 behind.0 X M steps in
      (turns.0 (finished-told g laws s behind.0), one_more f filters X M (length Y) here.kept here.exact behind.1)

  -- all of them
  module _ (filters : List ScanFilter) (n w : ℕ) (stages : ℕ → ℕ → List S) (came gave : Lanes) (over : Flags) (counts : ℕ → ℕ → ℕ)
      (have : AllHaveFiltered g filters n w stages came gave over counts) (rows : List Row) (hop : Hop rows (gather n (of_tasks w came)) (AllSet n w over) (Unit {0}))
      (few : length rows ≤ most_count) where
    each : (k d : ℕ) → k < n → d < w → (over k d ≡ true) × IsCountOf filters (came k d) (length (gave k d))
    each k d lt less =
        let h = (have k d lt less).0 in
        driver_counts filters (stages k d) h.are (over k d) h.turns (came k d) (gave k d) h.linked h.finished

    all : SameWeights (gather n (of_tasks w came)) rows
    all =
        let none = hop.all (λ k d lt less. (each k d lt less).0) in
        subst (λ (items : List Row). SameWeights items rows) (ap (λ (left : List Row). gather n (of_tasks w came) ++ left) none ∙ append-nil (gather n (of_tasks w came))) hop.some

    -- no driver gave more rows than a count holds
    counted : (k d : ℕ) → k < n → d < w → counts k d ≡ length (gave k d)
    counted k d lt less = omega (
      arith,
      few,
      same-length all,
      length-gather-le n (of_tasks w came) k lt,
      length-gather-le w (came k) d less,
      count_by-le-length (λ (row : Row). list_all (passes_filter row) (waited_for filters)) (came k d),
      (each k d lt less).1.most,
      (have k d lt less).1,
    )

    at_most : sum_of_drivers n w counts ≤ count_passing (waited_for filters) rows
    at_most =
        let test : Row → Bool = λ row. list_all (passes_filter row) (waited_for filters) in
        omega (
          arith,
          sums_within n w counts (λ k d. count_by test (came k d)) (λ k d lt less. omega (arith, counted k d lt less, (each k d lt less).1.most)),
          in_tasks test n w came,
          all.weighs (λ row. cond (test row) 1 0),
        )

    at_least : count_passing filters rows ≤ sum_of_drivers n w counts
    at_least =
        let test : Row → Bool = λ row. list_all (passes_filter row) filters in
        omega (
          arith,
          sums_within n w (λ k d. count_by test (came k d)) counts (λ k d lt less. omega (arith, counted k d lt less, (each k d lt less).1.least)),
          in_tasks test n w came,
          all.weighs (λ row. cond (test row) 1 0),
        )

    pub drivers_count : IsCountOf filters rows (sum_of_drivers n w counts)
    drivers_count = record { most = at_most; least = at_least }
