-- Two drivers whose filters went through the table that `WorkedCounts` has, as they stand when they are finished: those of
-- the first let 1, 2 and 3 through to the filter that is waited for, since nothing was known yet of the other one; those of
-- the second took 3 and NULL when both knew their domains.
use Rattle.std.proofs.Common.{◌≡◌, ℕ, zero, suc, List, [], ◌∷◌, ◌++◌, Bool, true, false, ◌||◌, Option, Some, None, refl, ap, sym, ◌∙◌, subst, arith, append-nil}
use Rattle.std.specs.Prelude.{filter, is_some, length, min, pos}
use Rattle.count_laws.specs.Counts.{most_count}
use Rattle.operator_core.specs.Rows.{Row}
use Rattle.operator_core.specs.Calls.{IsLawful}
use Rattle.operator_core.specs.Stages.{Steps}
use Rattle.sql_values.specs.declared.value.Value.{Value}
use Rattle.sql_values.specs.declared.value.Value.TheVariants.{Null, Boolean, Bigint, Decimal, Varchar, Date}
use Rattle.relation_laws.specs.Equality.{same_value}
use Rattle.bag_laws.specs.Gather.{gather}
use Rattle.bag_laws.proofs.BagLemmas.{same-from_equal}
use Rattle.plan_run_laws.specs.Nets.{Lanes, of_tasks}
use Rattle.plan_run_laws.specs.Stops.{AllSet, Flags, Hop}
use Rattle.dyn_filter.specs.contracts.filter.FilterOpOperator.TheImpl.{ghosts}
use Rattle.dyn_filter.specs.declared.domain.Domain.{Domain}
use Rattle.dyn_filter.specs.declared.domain.Domain.TheVariants.{Nothing, Values}
use Rattle.dyn_filter.specs.Domains.{IsDomainOf, is_among}
use Rattle.dyn_filter.specs.Filters.{AreKept, FilterGives, FilterState, WentBy, unlooked}
use Rattle.dyn_filter.specs.FilterLaws.{kept-all, kept-filter}
use Rattle.dyn_filter.specs.Lists.{is_in}
use Rattle.dyn_filter.specs.Rows.{row_passes}
use Rattle.sieve_laws.specs.FilterLanes.{Drops}
use Rattle.net_laws.specs.ScanFilters.{IsCountOf, sum_of_drivers}
use Rattle.net_laws.specs.FilterStages.{AllHaveFiltered}
use Rattle.net_laws.proofs.OperatorLemmas.{filter_is_of}
use Rattle.net_laws.proofs.CountingDriverLemmas.{drivers_count}
use Rattle.net_laws.proofs.WorkedCounts.{hasty, patient, table}

-- the domains of the keys
abbrev of_hasty : Domain
of_hasty = Values (Bigint (pos 3) ∷ [])

abbrev of_patient : Domain
of_patient = Values (Bigint (pos 2) ∷ Bigint (pos 3) ∷ Bigint (pos 9) ∷ [])

hasty_domain : IsDomainOf hasty.keys of_hasty
hasty_domain = record { is = record { ascending = (tt, tt); some = omega arith; few = omega arith }; same = same }
  where
    same : (v : Value) → is_in (Bigint (pos 3) ∷ []) v ≡ is_among hasty.keys v
    same Null = refl
    same (Boolean truth) = refl
    same (Bigint n) = refl
    same (Decimal n) = refl
    same (Varchar text) = refl
    same (Date n) = refl

last_first : (a b c : Bool) → (a || (b || (c || false))) ≡ (c || (a || (b || (c || false))))
last_first true b true = refl
last_first true b false = refl
last_first false true true = refl
last_first false true false = refl
last_first false false true = refl
last_first false false false = refl

patient_domain : IsDomainOf patient.keys of_patient
patient_domain = record { is = record { ascending = ((refl, (refl, tt)), ((refl, tt), (tt, tt))); some = omega arith; few = omega arith }; same = same }
  where
    same : (v : Value) → is_in (Bigint (pos 2) ∷ Bigint (pos 3) ∷ Bigint (pos 9) ∷ []) v ≡ is_among patient.keys v
    same Null = refl
    same (Boolean truth) = refl
    same (Bigint n) = last_first (same_value (Bigint n) (Bigint (pos 2))) (same_value (Bigint n) (Bigint (pos 3))) (same_value (Bigint n) (Bigint (pos 9)))
    same (Decimal n) = refl
    same (Varchar text) = refl
    same (Date n) = refl

-- a filter that was told to finish and holds nothing
abbrev done : Bool → Option Domain → ℕ → FilterState
done waits known passed =
    record { column = 0; waits = waits; parts = []; bell = 0; note = unlooked []; known = known; held = []; passed = passed; is_told = true }

gives_no_more : (waits : Bool) (known : Option Domain) (Z B : List Row) → Z ≡ [] → FilterGives waits 0 known [] Z B → B ≡ []
gives_no_more waits known Z B none (domain, is, kept, same, are, exact) = same ∙ subst (AreKept (row_passes domain 0) kept) none are

steps : (waits : Bool) (known : Option Domain) (passed : ℕ) (X Y : List Row) → passed ≡ min (length Y) most_count → FilterGives waits 0 known [] X Y → (is_some known ≡ false → WentBy waits [] X Y)
    → Steps ghosts (done waits known passed) X Y
steps waits known passed X Y counted gives went = record {
  gives = λ Z B coming more.
      let came : X ≡ X ++ Z = sym (append-nil X) ∙ ap (λ (rows : List Row). X ++ rows) (sym coming) in
      let gave : Y ≡ Y ++ B = sym (append-nil Y) ∙ ap (λ (rows : List Row). Y ++ rows) (sym (gives_no_more waits known Z B coming more)) in
      subst (λ (rows : List Row). FilterGives waits 0 known [] rows (Y ++ B)) came (subst (λ (rows : List Row). FilterGives waits 0 known [] X rows) gave gives);
  fails = λ Z node kind coming. ((λ never. never), (λ never. never));
  idle = went;
  counted = counted;
}

-- one that lets all through, and one that drops what does not pass
let_through : (passed : ℕ) (X : List Row) → passed ≡ min (length X) most_count → Steps ghosts (done false None passed) X X
let_through passed X counted =
    steps false None passed X X counted (Nothing, tt, X, refl, kept-all (row_passes Nothing 0) X, (λ w. cc w)) (λ unknown. (append-nil X, λ w. cc w))

dropped : (waits : Bool) (domain : Domain) (passed : ℕ) (X : List Row) → passed ≡ min (length (filter (row_passes domain 0) X)) most_count
    → Steps ghosts (done waits (Some domain) passed) X (filter (row_passes domain 0) X)
dropped waits domain passed X counted =
    steps waits (Some domain) passed X (filter (row_passes domain 0) X) counted
    (domain, refl, filter (row_passes domain 0) X, refl, kept-filter (row_passes domain 0) X, λ w. refl) (λ unknown. cc unknown)

-- what came to each driver, and what its last filter gave
abbrev came : Lanes
came task zero = (Bigint (pos 1) ∷ []) ∷ (Bigint (pos 2) ∷ []) ∷ (Bigint (pos 3) ∷ []) ∷ []
came task (suc driver) = (Bigint (pos 3) ∷ []) ∷ (Null ∷ []) ∷ []

abbrev gave : Lanes
gave task zero = (Bigint (pos 2) ∷ []) ∷ (Bigint (pos 3) ∷ []) ∷ []
gave task (suc driver) = (Bigint (pos 3) ∷ []) ∷ []

abbrev counts : ℕ → ℕ → ℕ
counts task zero = 2
counts task (suc driver) = 1

abbrev stages : ℕ → ℕ → List FilterState
stages task zero = done false None 3 ∷ done true (Some of_patient) 2 ∷ []
stages task (suc driver) = done false (Some of_hasty) 1 ∷ done true (Some of_patient) 1 ∷ []

abbrev over : Flags
over task driver = true

-- `FilterOp` drops rows, and keeps the laws of operators
module _ (drops : (s : FilterState) → Drops ghosts (record { column = s.column; known = s.known }) s) (laws : IsLawful ghosts) where
  have : AllHaveFiltered ghosts (hasty ∷ patient ∷ []) 1 2 stages came gave over counts
  have k zero lt less = (
    record {
      are = (filter_is_of (done false None 3) (drops (done false None 3)) hasty refl refl tt, (filter_is_of (done true (Some of_patient) 2) (drops (done true (Some of_patient) 2)) patient refl refl patient_domain, tt));
      turns = (λ told. refl, (λ told. refl, tt));
      linked = (came k 0, let_through 3 (came k 0) refl, (gave k 0, dropped true of_patient 2 (came k 0) refl, refl));
      finished = refl;
    },
    refl,
  )
  have k (suc zero) lt less = (
    record {
      are = (filter_is_of (done false (Some of_hasty) 1) (drops (done false (Some of_hasty) 1)) hasty refl refl hasty_domain, (filter_is_of (done true (Some of_patient) 1) (drops (done true (Some of_patient) 1)) patient refl refl patient_domain, tt));
      turns = (λ told. refl, (λ told. refl, tt));
      linked = (gave k 1, dropped false of_hasty 1 (came k 1) refl, (gave k 1, dropped true of_patient 1 (gave k 1) refl, refl));
      finished = refl;
    },
    refl,
  )
  have k (suc (suc d)) lt less = absurd (omega (arith, less))

  hop : Hop table (gather 1 (of_tasks 2 came)) (AllSet 1 2 over) (Unit {0})
  hop = record { left = []; some = same-from_equal refl; all = λ set. refl; closed = λ set. tt }

  -- three rows
  three_rows : IsCountOf (hasty ∷ patient ∷ []) table (sum_of_drivers 1 2 counts)
  three_rows = drivers_count ghosts laws (hasty ∷ patient ∷ []) 1 2 stages came gave over counts have table hop (omega arith)

three_in_all : sum_of_drivers 1 2 counts ≡ 3
three_in_all = refl
