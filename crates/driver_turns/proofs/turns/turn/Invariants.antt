use Rattle.std.proofs.Common.{◌≡◌, ◌+◌, ◌<◌, ◌≤◌, ℕ, List, true}
use Rattle.col_pages.specs.Pages.{most_rows}
use Rattle.operator_core.specs.Rows.{Row}
use Rattle.operator_core.specs.Stages.{last_finished}
use Rattle.stage_moves.specs.Places.{AllLater}
use Rattle.driver_turns.specs.Turns.{WorkedTo, RangDues}
use Rattle.driver_turns.proofs.turns.turn.Given as goal

abbrev pub invariant-loop : goal.invariant-loop
invariant-loop g l = record {
  worked : (Y : List Row) → g.T.PageTarget.was_given l.fn.target Y → WorkedTo g.S.Operator (g.T.PageTarget.was_given l.target) l.fn.stages.items l.stages.items
      (g.I.PageSource.taken l.fn.source) (g.I.PageSource.taken l.source) Y (g.I.PageSource.is_ended l.fn.source) (g.I.PageSource.is_ended l.source)
      (g.I.PageSource.misses l.fn.source) (g.I.PageSource.misses l.source) l.units;
  later : AllLater g.S.Operator l.fn.stages.items l.stages.items;
  made : g.I.PageSource.as_made l.source ≡ g.I.PageSource.as_made l.fn.source;
  target : g.T.PageTarget.as_made l.target ≡ g.T.PageTarget.as_made l.fn.target;
  same : l.quantum ≡ l.fn.quantum;
  few : l.units < l.quantum + most_rows;
  source_looks : (g.I.PageSource.looks l.fn.source).in_vain ≤ (g.I.PageSource.looks l.source).in_vain;
  target_looks : (g.T.PageTarget.looks l.fn.target).in_vain ≤ (g.T.PageTarget.looks l.target).in_vain;
  told : (g.T.PageTarget.is_told l.fn.target ≡ true → last_finished g.S.Operator (g.I.PageSource.is_ended l.fn.source) l.fn.stages.items ≡ true)
      → g.T.PageTarget.is_told l.target ≡ true → last_finished g.S.Operator (g.I.PageSource.is_ended l.source) l.stages.items ≡ true;
  tells : last_finished g.S.Operator (g.I.PageSource.is_ended l.source) l.stages.items ≡ true → g.T.PageTarget.is_told l.target ≡ true;
  bells : (bell count : ℕ) → g.B.Bells.shown l.fn.bells bell count → g.B.Bells.shown l.bells bell count;
  rang : RangDues (g.B.Bells.rang l.fn.bells) (g.B.Bells.rang l.bells) (λ bell. g.I.PageSource.dues l.fn.source bell + g.T.PageTarget.dues l.fn.target bell)
      (λ bell. g.I.PageSource.dues l.source bell + g.T.PageTarget.dues l.target bell);
}
