-- What the drivers of a pipe took together of its source, as a net of pipes has it (`Stands` of `pipe_laws`): part of what
-- there was, and all of it where all of them have ended.
use Rattle.std.specs.Prelude.{◌≡◌, ℕ, ◌<◌, List, ◌++◌, true}
use Rattle.bag_laws.specs.Gather.{gather}
use Rattle.operator_core.specs.Rows.{Row}
use Rattle.plan_trees.specs.Allowed.{scanned}
use Rattle.plan_run_laws.specs.Nets.{Lanes, of_tasks}
use Rattle.plan_run_laws.specs.RunPlans.{Output, RunPlan}
use Rattle.plan_run_laws.specs.Spreads.{Tables}
use Rattle.plan_run_laws.specs.Stops.{AllSet, Flags, Hop, PassedSoFar, TookOf}
use Rattle.driver_net_laws.specs.Pipes.{PipeState, stopped}

-- of these columns of a table, in all of so many tasks together: what each of so many drivers took there, and whether its
-- source has ended
abbrev pub TakesTable : Tables → ℕ → ℕ → Lanes → Flags → ℕ → List ℕ → Type 0
TakesTable tables n w took ended place columns = Hop (scanned tables place columns) (gather n (of_tasks w took)) (AllSet n w ended) (Unit {0})

-- of these rows, in each task
abbrev pub TakesRows : {S : Type 0} → ℕ → PipeState S → List Row → Type 0
TakesRows n p rows = (k : ℕ) → k < n → TookOf p.drivers (p.took k) (p.ended k) rows (Unit {0})

-- the drivers of a pipe in a task are done
abbrev pub AreDoneIn : {S : Type 0} → PipeState S → ℕ → Type 0
AreDoneIn p k = (e : ℕ) → e < p.drivers → p.done k e ≡ true

-- in each task of what these two pipes gave in it, whose drivers there are done once all of it was taken
abbrev pub TakesSides : {S : Type 0} → ℕ → PipeState S → PipeState S → PipeState S → Type 0
TakesSides n p left right =
    (k : ℕ) → k < n
    → TookOf p.drivers (p.took k) (p.ended k) (of_tasks left.drivers left.gave k ++ of_tasks right.drivers right.gave k)
    (AreDoneIn left k × AreDoneIn right k)

-- in each of n tasks of what is sent there of all that the pipe of a fragment's root gave in m tasks
abbrev pub TakesRoot : {S : Type 0} → ℕ → PipeState S → Output → ℕ → RunPlan → PipeState S → Type 0
TakesRoot n p output m run root = PassedSoFar output m n (stopped run root) p.drivers p.took p.ended
