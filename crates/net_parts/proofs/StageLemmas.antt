-- The stages of a driver: those in front, and behind them one for each step.
use Rattle.std.proofs.Common.{◌≡◌, ℕ, suc, ◌-◌, List, [], ◌∷◌, ◌++◌, length, take, drop, ap, sym, subst, ◌∙◌, arith, length-append}
use Rattle.std.proofs.Math.Seq.{drop-append_seam, take-append_seam}
use Rattle.sql_values.specs.declared.types.SqlType.{SqlType}
use Rattle.driver_loop.specs.declared.stage.Stage.{Stage}
use Rattle.plan_layout.specs.declared.filters.PlacedFilter.{PlacedFilter}
use Rattle.plan_layout.specs.Pipes.{StepForm}
use Rattle.pipe_stages.specs.Nets.{AreInFront, AreStagesFor, NetForm, front_stages, step_stages}
use Rattle.pipe_stages.specs.Types.{PipeTypes, types_after}
use Rattle.pipe_stages.specs.Cells.{HasCells, HasFilterCells}
use Rattle.seat_stocks.specs.Labels.{Labels}
use Rattle.net_parts.specs.Makings.{AreStagesOf, IsNetFor, typing_in}
use Rattle.net_parts.specs.declared.making.Making.{Making}

one_each : (net : NetForm) (task : ℕ) (halved : List SqlType) (steps : List StepForm) (between : List SqlType) (stages : List Stage)
    → AreStagesFor net task halved steps between stages → length stages ≡ length steps
one_each net task halved [] between stages are = ap length are
one_each net task halved (step ∷ steps) between [] are = absurd are
one_each net task halved (step ∷ steps) between (s ∷ stages) are =
    ap suc (one_each net task halved steps (types_after net.types halved step between) stages are.1)

module _ (steps : List StepForm) (front own : List Stage) (count : length own ≡ length steps) where
  before : length (front ++ own) - length steps ≡ length front
  before = omega (arith, length-append front own, count)

  front_is : front_stages steps (front ++ own) ≡ front
  front_is = ap (λ n. take n (front ++ own)) before ∙ take-append_seam front own

  behind_is : step_stages steps (front ++ own) ≡ own
  behind_is = ap (λ n. drop n (front ++ own)) before ∙ drop-append_seam front own

pub stages_stand : (m : Making) (own task : ℕ) (filters : List PlacedFilter) (steps : List StepForm) (front behind stages : List Stage) → stages ≡ front ++ behind
    → ((net : NetForm) → HasFilterCells net.links m.filters.now → AreInFront net (typing_in m own).taken filters front)
    → ((net : NetForm) → net.types ≡ typing_in m → HasCells net.links m.cells.now
    → AreStagesFor net task (typing_in m own).halved steps (typing_in m own).taken behind)
    → (labels : Labels) (net : NetForm) → IsNetFor m labels net → AreStagesOf net own task filters steps stages
stages_stand m own task filters steps front behind stages same drops runs labels net for =
    let first = subst (λ (types : ℕ → PipeTypes). AreInFront net (types own).taken filters front) (sym for.types) (drops net for.filters) in
    let rest = subst (λ (types : ℕ → PipeTypes). AreStagesFor net task (types own).halved steps (types own).taken behind) (sym for.types)
    (runs net for.types for.cells) in
    let count = one_each net task (net.types own).halved steps (net.types own).taken behind rest in
    let split_front = ap (front_stages steps) same ∙ front_is steps front behind count in
    let split_behind = ap (step_stages steps) same ∙ behind_is steps front behind count in
    record {
      front = subst (AreInFront net (net.types own).taken filters) (sym split_front) first;
      behind = subst (AreStagesFor net task (net.types own).halved steps (net.types own).taken) (sym split_behind) rest;
    }
