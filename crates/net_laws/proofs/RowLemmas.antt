-- What a driver alone in its task took, and so what one took of rows of the plan.
use Rattle.std.proofs.Common.{◌≡◌, ℕ, ◌<◌, List, [], true, None, subst, ap, sym, ◌∙◌, arith}
use Rattle.sql_values.specs.declared.types.SqlType.{SqlType}
use Rattle.bag_laws.specs.Gather.{gather}
use Rattle.operator_core.specs.Rows.{Row}
use Rattle.driver_loop.specs.Drivers.{DriverState}
use Rattle.driver_loop.specs.Ends.{IsBegun, IsDrained, has_ended, rows_taken}
use Rattle.driver_loop.specs.Sources.{Source}
use Rattle.plan_run_laws.specs.Nets.{IsAlone}
use Rattle.plan_run_laws.specs.Stops.{Hop, TookOf}
use Rattle.source_laws.proofs.HopLemmas.{hop_when}
use Rattle.source_laws.proofs.TakeLemmas.{rows_hop}
use Rattle.plan_layout.specs.Pipes.{PipeForm, rows}
use Rattle.driver_net_laws.specs.Nets.{IsRowsFor, IsSourceFor, NetForm, front_stages}
use Rattle.driver_net_laws.specs.States.{Flow, pipe_of}
use Rattle.net_laws.proofs.DriverLemmas.{AllKnown, Known, ended_is, took_is}
use Rattle.net_laws.proofs.FrontLemmas.{none_in_front}

module _ (net : NetForm) (drivers : List DriverState) (flow : Flow) (at : ℕ) (pipe : PipeForm) (task : ℕ) (alone : IsAlone pipe.drivers)
    (k : Known net drivers flow at pipe task 0) (none : front_stages pipe.steps k.driver.stages ≡ []) where
  -- what is said of its one driver is said of the task
  pub alone_took : (put : List Row) (HasClosed : Type 0) → Hop put (rows_taken k.driver.source) (has_ended k.driver.source ≡ true) HasClosed
      → TookOf pipe.drivers ((pipe_of drivers flow at pipe).took task) ((pipe_of drivers flow at pipe).ended task) put HasClosed
  alone_took put HasClosed hop =
      let all : gather pipe.drivers ((pipe_of drivers flow at pipe).took task) ≡ rows_taken k.driver.source =
      ap (λ (n : ℕ). gather n ((pipe_of drivers flow at pipe).took task)) alone ∙ took_is net drivers flow at pipe task 0 k none in
      hop_when (λ (set : (d : ℕ) → d < pipe.drivers → (pipe_of drivers flow at pipe).ended task d ≡ true).
      sym (ended_is net drivers flow at pipe task 0 k none) ∙ set 0 (omega (arith, alone)))
      (subst (λ took. Hop put took (has_ended k.driver.source ≡ true) HasClosed) (sym all) hop)

source_rows_hop : (list : List Row) (source : Source) → IsRowsFor list source → IsBegun source → (has_ended source ≡ true → IsDrained source)
    → Hop list (rows_taken source) (has_ended source ≡ true) (Unit {0})
source_rows_hop list source are begun drained =
    let own_begun = subst IsBegun are.is begun in
    let own_drained = subst (λ (s : Source). has_ended s ≡ true → IsDrained s) are.is drained in
    subst (λ (s : Source). Hop list (rows_taken s) (has_ended s ≡ true) (Unit {0})) (sym are.is)
    (subst (λ all. Hop all are.own.given (are.own.is_ended ≡ true) (Unit {0})) are.of (rows_hop are.own.given are.own.rows are.own.is_ended own_begun own_drained))

pub rows_took : (net : NetForm) (drivers : List DriverState) (flow : Flow) (at : ℕ) (pipe : PipeForm) → AllKnown net drivers flow at pipe
    → (kinds : List SqlType) (list : List Row) → pipe.source ≡ rows kinds list → pipe.scan ≡ None → IsAlone pipe.drivers → (task : ℕ) → task < pipe.tasks
    → TookOf pipe.drivers ((pipe_of drivers flow at pipe).took task) ((pipe_of drivers flow at pipe).ended task) list (Unit {0})
rows_took net drivers flow at pipe known kinds list reads unread alone task in_tasks =
    let k = known task 0 in_tasks (omega (arith, alone)) in
    alone_took net drivers flow at pipe task alone k (none_in_front net at pipe task 0 k.driver k.is unread) list (Unit {0})
    (source_rows_hop list k.driver.source (subst (λ source. IsSourceFor net at task source k.driver.source) reads k.is.source) k.still.begun k.still.drained)
