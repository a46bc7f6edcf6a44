-- A hop said in other words.
use Rattle.std.specs.Prelude.{List}
use Rattle.sql_values.specs.declared.value.Value.{Value}
use Rattle.plan_run_laws.specs.Stops.{Hop}

-- where something else says that it is over
pub hop_when : {put took : List (List Value)} {IsEnded IsOver HasClosed : Type 0} → (IsEnded → IsOver) → Hop put took IsOver HasClosed → Hop put took IsEnded HasClosed
hop_when ends hop = record { left = hop.left; some = hop.some; all = λ ended. hop.all (ends ended); closed = λ ended. hop.closed (ends ended) }

-- where whoever has closed did something else before
pub hop_closed : {put took : List (List Value)} {IsOver HasClosed WasDone : Type 0} → (HasClosed → WasDone) → Hop put took IsOver HasClosed → Hop put took IsOver WasDone
hop_closed does hop = record { left = hop.left; some = hop.some; all = hop.all; closed = λ over. does (hop.closed over) }
