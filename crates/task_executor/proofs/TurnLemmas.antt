-- One of some drivers had a turn.
use Rattle.std.proofs.Common.{Result, Ok, Err, ◌≡◌, ℕ, zero, suc, ◌<◌, List, [], ◌∷◌, None, Some, length, get_or, refl, sym, subst, arith}
use Rattle.std.specs.Prelude.{Contains, MatchResult, slice_set}
use Rattle.std.proofs.lemmas.List.Elements.{All-cons, All-head, All-nil, All-tail}
use Rattle.driver_loop.specs.Drivers.{DriverState, IsWhole}
use Rattle.driver_loop.specs.declared.run_fault.RunFault.{RunFault}
use Rattle.driver_loop.specs.declared.run_fault.RunFault.TheVariants.{ExprFailed, Memory}
use Rattle.net_laws.specs.Later.{AreLater, IsLaterDriver}
use Rattle.net_laws.proofs.LaterLemmas.{later_same}
use Rattle.net_closing.specs.Closing.{AreWholeDrivers}
use Rattle.task_executor.specs.Turns.{AreFailing, AreUnfailed}
use Rattle.task_executor.proofs.LaterLemmas.{all_same}

pub later_at : (ds : List DriverState) (k : ℕ) (e d : DriverState) → k < length ds → e ≡ get_or ds k e → IsLaterDriver e d → AreLater ds (slice_set ds k d)
later_at [] k e d lt is later = absurd (omega (arith, lt))
later_at (x ∷ ds) zero e d lt is later = (subst (λ (y : DriverState). IsLaterDriver y d) is later, all_same ds)
later_at (x ∷ ds) (suc k) e d lt is later = (later_same x, later_at ds k e d (omega (arith, lt)) is later)

unfailed_at : (ds : List DriverState) (k : ℕ) (d : DriverState) → AreUnfailed ds → d.fault ≡ None → AreUnfailed (slice_set ds k d)
unfailed_at [] k d all none = All-nil (λ (x : DriverState). x.fault ≡ None)
unfailed_at (e ∷ ds) zero d all none = All-cons (λ (x : DriverState). x.fault ≡ None) d ds none (All-tail (λ (x : DriverState). x.fault ≡ None) e ds all)
unfailed_at (e ∷ ds) (suc k) d all none =
    All-cons (λ (x : DriverState). x.fault ≡ None) e (slice_set ds k d) (All-head (λ (x : DriverState). x.fault ≡ None) e ds all)
    (unfailed_at ds k d (All-tail (λ (x : DriverState). x.fault ≡ None) e ds all) none)

pub unfailed_whole : (ds : List DriverState) → AreUnfailed ds → AreWholeDrivers ds
unfailed_whole [] all = All-nil (λ (x : DriverState). IsWhole x.fault)
unfailed_whole (e ∷ ds) all =
    All-cons (λ (x : DriverState). IsWhole x.fault) e ds (subst IsWhole (sym (All-head (λ (x : DriverState). x.fault ≡ None) e ds all)) tt)
    (unfailed_whole ds (All-tail (λ (x : DriverState). x.fault ≡ None) e ds all))

whole_at : (ds : List DriverState) (k : ℕ) (d : DriverState) → AreUnfailed ds → IsWhole d.fault → AreWholeDrivers (slice_set ds k d)
whole_at [] k d all whole = All-nil (λ (x : DriverState). IsWhole x.fault)
whole_at (e ∷ ds) zero d all whole = All-cons (λ (x : DriverState). IsWhole x.fault) d ds whole (unfailed_whole ds (All-tail (λ (x : DriverState). x.fault ≡ None) e ds all))
whole_at (e ∷ ds) (suc k) d all whole =
    All-cons (λ (x : DriverState). IsWhole x.fault) e (slice_set ds k d) (subst IsWhole (sym (All-head (λ (x : DriverState). x.fault ≡ None) e ds all)) tt)
    (whole_at ds k d (All-tail (λ (x : DriverState). x.fault ≡ None) e ds all) whole)

contains_at : (ds : List DriverState) (k : ℕ) (d : DriverState) → k < length ds → Contains (slice_set ds k d) d
contains_at [] k d lt = absurd (omega (arith, lt))
contains_at (e ∷ ds) zero d lt = (0, omega arith, refl)
contains_at (e ∷ ds) (suc k) d lt =
    let c = contains_at ds k d (omega (arith, lt)) in
    let more : suc c.0 < length (e ∷ slice_set ds k d) = omega (arith, c.1) in (suc c.0, more, c.2)

failing_at : (ds : List DriverState) (k : ℕ) (d : DriverState) (fault : RunFault) → k < length ds → AreUnfailed ds → d.fault ≡ Some fault → AreFailing (slice_set ds k d) fault
failing_at ds k d (ExprFailed node kind) lt all failing =
    (whole_at ds k d all (subst IsWhole (sym failing) tt), (d, contains_at ds k d lt, failing))
failing_at ds k d Memory lt all failing = tt

pub served : (r : Result (Unit {0}) RunFault) (ds : List DriverState) (k : ℕ) (d : DriverState) → k < length ds → AreUnfailed ds → MatchResult r (λ x. d.fault ≡ None) (λ fault. d.fault ≡ Some fault)
    → MatchResult r (λ x. AreUnfailed (slice_set ds k d)) (AreFailing (slice_set ds k d))
served (Ok done) ds k d lt all none = unfailed_at ds k d all none
served (Err fault) ds k d lt all failing = failing_at ds k d fault lt all failing

pub later_level : (ds es : List DriverState) → AreLater ds es → length es ≡ length ds
later_level [] [] later = refl
later_level [] (e ∷ es) later = absurd later
later_level (d ∷ ds) [] later = absurd later
later_level (d ∷ ds) (e ∷ es) later = omega (arith, later_level ds es later.1)
