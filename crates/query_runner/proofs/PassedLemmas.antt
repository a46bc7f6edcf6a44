-- What a run gave, with the counts of the plan's filters.
use Rattle.std.proofs.Common.{◌≡◌, ◌<◌, ◌≤◌, ◌^◌, ℕ, List, All, Result, Ok, Err, length, map, arith}
use Rattle.std.specs.Prelude.{IfOk, MatchResult}
use Rattle.std.proofs.lemmas.List.Elements.{All-map}
use Rattle.sql_values.specs.declared.table.Table.{Table}
use Rattle.count_laws.specs.Counts.{most_count}
use Rattle.task_executor.specs.RunFault.{RunFault}
use Rattle.plan_docs.specs.Plans.{PlanForm}
use Rattle.plan_reader.specs.Trees.{tree_of}
use Rattle.plan_trees.specs.Allowed.{Allows}
use Rattle.task_executor.specs.FilterPassed.{FilterPassed}
use Rattle.task_executor.specs.Nets.{FailsFor, IsNetOf, NetState}
use Rattle.task_executor.specs.PlanCounts.{AreCountable}
use Rattle.task_executor.specs.Passed.{AreCountsIn, HavePassed}
use Rattle.task_executor.specs.Shapes.{AreFew}
use Rattle.task_executor.specs.declared.answer.RunDone.{RunDone}
use Rattle.tree_evaluator.specs.Stops.{rows_of_table}
use Rattle.query_runner.specs.Jobs.{Row}

-- a table whose rows 32 bits count has no more than 64 bits count
countable : (tables : List Table) → AreFew tables → AreCountable (map rows_of_table tables)
countable tables few = All-map (λ (rows : List Row). length rows ≤ most_count) rows_of_table tables (λ k table less. omega (arith, few k table less))

pub run_done : (plan : PlanForm) (tables : List Table) (net : NetState) (answer : Result RunDone RunFault) → IsNetOf plan (map rows_of_table tables) net → AreFew tables
    → ((rows : List (List Row)) (n : NetState) → IsNetOf plan rows n → AreCountable rows → (counts : List FilterPassed) → HavePassed n counts
    → AreCountsIn plan rows counts)
    → MatchResult answer (λ done. Allows (tree_of plan) (map rows_of_table tables) done.rows) (FailsFor (tree_of plan) (map rows_of_table tables))
    → IfOk answer (λ done. HavePassed net done.passed)
    → MatchResult answer (λ done. Allows (tree_of plan) (map rows_of_table tables) done.rows × AreCountsIn plan (map rows_of_table tables) done.passed)
    (FailsFor (tree_of plan) (map rows_of_table tables))
run_done plan tables net (Ok done) is few law gives passed = (gives, law (map rows_of_table tables) net is (countable tables few) done.passed passed)
run_done plan tables net (Err fault) is few law gives passed = gives
