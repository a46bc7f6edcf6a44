-- What a driver keeps, of the one list of rows that its target was given, where there is one.
use Rattle.std.proofs.Common.{◌≡◌, ◌⊎◌, inl, inr, ◌<◌, ℕ, min, List, false, refl, sym, subst, arith}
use Rattle.operator_core.specs.Rows.{Row}
use Rattle.operator_core.specs.Stages.{Linked}
use Rattle.blocked.specs.declared.blocked_on.BlockedOn.{BlockedOn}
use Rattle.count_laws.specs.Counts.{most_count}
use Rattle.stage_moves.specs.Counts.{Counted, LinkedBy}
use Rattle.stage_moves.specs.Looks.{HasWaited, no_looks}
use Rattle.driver_turns.specs.Turns.{StageBlocked, WentOn}
use Rattle.driver_loop.specs.declared.target.Target.{Target}
use Rattle.driver_loop.specs.declared.target.Target.TheVariants.{Result, Build, Put, Deal}
use Rattle.driver_loop.specs.contracts.stage.StageOperator.TheImpl.{ghosts}
use Rattle.driver_loop.specs.Ends.{HasOneList, has_ended, is_told, rows_given, rows_taken, source_looks, source_misses, target_looks, was_given}
use Rattle.driver_loop.specs.Drivers.{CanGoOn, CanGoOnFrom, DriverState, HasCounted, HasWorked, IsDriver, IsDriverTo, IsOver, IsOverTo, WorkedFrom}
use Rattle.driver_loop.specs.Turns.{IsWaiting}

-- the rows that it was given are that list, and no other
pub list_is : (t : Target) → HasOneList t → (rows : List Row) → was_given t rows → rows ≡ rows_given t
list_is (Result result) one rows e = e
list_is (Build build) one rows e = e
list_is (Put put) one rows e = absurd one
list_is (Deal deal) one rows e = sym e

pub list_given : (t : Target) → HasOneList t → was_given t (rows_given t)
list_given (Result result) one = refl
list_given (Build build) one = refl
list_given (Put put) one = absurd one
list_given (Deal deal) one = refl

pub driver_to_list : (d : DriverState) → HasOneList d.target → IsDriver d → IsDriverTo d (rows_given d.target)
driver_to_list d one k = record {
  links = λ w. subst (λ (rows : List Row). Linked ghosts d.stages (rows_taken d.source) rows) (list_is d.target one k.rows (k.given w)) (k.goes.links w);
  turns = k.goes.turns;
  told = k.goes.told;
  counts = λ w. subst (λ (rows : List Row). HasCounted d rows) (list_is d.target one k.rows (k.given w)) (k.goes.counts w);
  over = k.goes.over;
  failed = k.goes.failed;
}

pub over_to_list : (d : DriverState) → HasOneList d.target → IsOver d → IsOverTo d (rows_given d.target)
over_to_list d one o = subst (λ (rows : List Row). IsOverTo d rows) (list_is d.target one o.rows o.given) o.over

pub goes_on_from_list : (d : DriverState) → HasOneList d.target → CanGoOn d → CanGoOnFrom d (rows_given d.target)
goes_on_from_list d one g = subst (λ (rows : List Row). CanGoOnFrom d rows) (list_is d.target one g.rows g.given) g.on

pub went_from_list : (d e : DriverState) → HasOneList d.target → HasOneList e.target → HasWorked d e
    → WentOn ghosts d.stages e.stages (rows_taken d.source) (rows_taken e.source) (rows_given d.target) (rows_given e.target) (has_ended d.source) (has_ended e.source)
went_from_list d e one same w =
    let p : WorkedFrom d e (rows_given d.target) w.units = w.went (rows_given d.target) (list_given d.target one) in
    subst (λ (rows : List Row). WentOn ghosts d.stages e.stages (rows_taken d.source) (rows_taken e.source) (rows_given d.target) rows (has_ended d.source) (has_ended e.source))
    (list_is e.target same p.rows p.given) p.went

-- behind a source that never asks in vain all units are rows
pub counted_from_list : (d e : DriverState) → HasOneList d.target → HasOneList e.target → source_misses e.source ≡ 0 → (w : HasWorked d e)
    → Counted ghosts d.stages e.stages (rows_taken d.source) (rows_taken e.source) (rows_given d.target) (rows_given e.target) w.units
counted_from_list d e one same never w =
    let p : WorkedFrom d e (rows_given d.target) w.units = w.went (rows_given d.target) (list_given d.target one) in
    let low : source_misses e.source < most_count = omega (arith, never) in
    let all : p.entered ≡ w.units = omega (arith, p.units_are, p.within low, never) in
    subst (λ (n : ℕ). Counted ghosts d.stages e.stages (rows_taken d.source) (rows_taken e.source) (rows_given d.target) (rows_given e.target) n) all
    (subst (λ (rows : List Row). Counted ghosts d.stages e.stages (rows_taken d.source) (rows_taken e.source) (rows_given d.target) rows p.entered)
    (list_is e.target same p.rows p.given) p.counts)

-- and its work is the number of rows that entered
pub counts_rows : (d : DriverState) (given : List Row) → source_misses d.source ≡ 0 → HasCounted d given
    → (rows : ℕ) × LinkedBy ghosts d.stages (rows_taken d.source) given rows × (d.work ≡ min rows most_count)
counts_rows d given never c =
    let low : source_misses d.source < most_count = omega (arith, never) in
    (c.rows, c.entered, omega (arith, c.work, c.within low, never))

-- behind a source that never waits it is a stage that waits, or the target
never_waited : (shown : ℕ → ℕ → Type 0) (on : BlockedOn) → HasWaited no_looks no_looks shown on → ⊥
never_waited shown on w = absurd (omega (arith, w.looked))

pub stage_waits : (d e : DriverState) (shown : ℕ → ℕ → Type 0) (on : BlockedOn) → source_looks d.source ≡ no_looks → source_looks e.source ≡ no_looks → IsWaiting d e shown on
    → (StageBlocked ghosts d.stages e.stages shown on × (is_told e.target ≡ false)) ⊎ HasWaited (target_looks d.target) (target_looks e.target) shown on
stage_waits d e shown on was is (inl (inl stage, untold)) = inl (stage, untold)
stage_waits d e shown on was is (inl (inr w, untold)) =
    absurd (never_waited shown on (subst (λ l. HasWaited no_looks l shown on) is (subst (λ l. HasWaited l (source_looks e.source) shown on) was w)))
stage_waits d e shown on was is (inr w) = inr w
