-- Who puts to an edge and who takes from it, as they stand once all seats of the edge came back.
use Rattle.std.specs.Prelude.{◌≡◌, ℕ, ◌<◌, ◌++◌, List, [], Bool, true, false, All, flat_map, length, map}
use Rattle.sql_values.specs.declared.value.Value.{Value}
use Rattle.bag_laws.specs.Weights.{SameWeights, Within}
use Rattle.output_buffer.specs.Edges.{end_count}
use Rattle.output_buffer.specs.Seats.{GatherPutState, GatherTakeState, HasEnded, HaveEnded, SpreadPutState, SpreadTakeState, put_by, taken_by}
use Rattle.driver_ends.specs.declared.put_target.PutKind.{PutKind}
use Rattle.driver_ends.specs.declared.put_target.PutKind.TheVariants.{One, Each, Hash}
use Rattle.driver_ends.specs.Outlets.{OutletInOrder, OutletState, rows_of_held, rows_sent}
use Rattle.driver_ends.specs.Ends.{remote_taken}
use Rattle.driver_ends.specs.Sources.{RemoteState}
use Rattle.driver_ends.specs.Targets.{TargetState}
use Rattle.plan_run_laws.specs.RunPlans.{Output, broadcast, hashed, single}
use Rattle.plan_run_laws.specs.Runs.{sent}

-- an outlet of a target, what it is to get of the rows that wait there, and whether the target was told to finish
pub record Putter : Type 0 where
  pub outlet : OutletState
  pub waits : List (List Value)
  pub is_told : Bool

-- what a target keeps of each of its outlets: no End before it was told to finish, nor while rows wait, nor before a
-- page that is held
pub record KeepsPutter (p : Putter) : Type 0 where
  pub early : p.is_told ≡ false → end_count p.outlet.seat.put ≡ 0
  pub last : 0 < end_count p.outlet.seat.put → p.waits ≡ []
  pub order : OutletInOrder p.outlet

abbrev pub AreTold : List Putter → Type 0
AreTold putters = All (λ p. p.is_told ≡ true) putters

abbrev pub putting_seats : List Putter → List GatherPutState
putting_seats putters = map (λ p. p.outlet.seat) putters

-- the rows that they were given for this edge
abbrev pub rows_for : List Putter → List (List Value)
rows_for putters = flat_map (λ p. rows_sent p.outlet ++ p.waits) putters

abbrev pub HavePutEnds : List GatherPutState → Type 0
HavePutEnds seats = All (λ seat. 0 < end_count seat.put) seats

-- all seats of an edge of one taker came back: part of what was put was taken, and all of it where every End was
pub record GatherCameBack (puts : List GatherPutState) (take : GatherTakeState) : Type 0 where
  pub part : Within take.took (put_by puts)
  pub whole : HasEnded take → SameWeights take.took (put_by puts)
  pub ends : HasEnded take → HavePutEnds puts

-- all seats of an edge of many takers came back: part of what was put was taken, and all of it where as many Ends were
-- taken as there are takers
pub record SpreadCameBack (put : SpreadPutState) (takes : List SpreadTakeState) : Type 0 where
  pub some : 0 < length takes
  pub all : length takes ≡ put.takers
  pub part : Within (taken_by takes) put.put
  pub whole : HaveEnded put takes → SameWeights (taken_by takes) put.put

abbrev pub taking_seats : List RemoteState → List SpreadTakeState
taking_seats takers = map (λ taker. taker.seat) takers

-- the rows that the takers handed on
abbrev pub rows_from : List RemoteState → List (List Value)
rows_from takers = flat_map remote_taken takers

-- the kind of an output, as the plan says it
abbrev pub output_of : PutKind → Output
output_of One = single
output_of Each = broadcast
output_of (Hash by) = hashed by.columns

-- an outlet of a target, to the edge of a task
abbrev pub putter_of : TargetState → ℕ → OutletState → Putter
putter_of target task outlet = record {
  outlet = outlet;
  waits = sent (output_of target.kind) (length target.outlets) task (rows_of_held target.waiting);
  is_told = target.is_told;
}
