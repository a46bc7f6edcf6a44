-- What the drivers of a pipe put to the edges of one that takes their rows: the outlets of their targets, as the laws of
-- edges have them.
use Rattle.std.proofs.Common.{◌≡◌, ℕ, ◌<◌, List, [], ◌∷◌, ◌++◌, true, Option, Some, None, length, map, refl, subst, sym, ap, ◌∙◌, arith}
use Rattle.std.specs.Prelude.{All, option_map, slice_get}
use Rattle.std.proofs.lemmas.List.{length-map}
use Rattle.std.proofs.lemmas.List.Concat.{flat_map-append}
use Rattle.std.proofs.lemmas.List.Elements.{All-append, All-head}
use Rattle.std.proofs.lemmas.Option.{slice_get-map}
use Rattle.bag_laws.specs.Gather.{gather}
use Rattle.bag_laws.proofs.GatherLemmas.{gather-agree, gather-flat_map}
use Rattle.operator_core.specs.Rows.{Row}
use Rattle.output_buffer.specs.Seats.{EdgeId}
use Rattle.driver_ends.specs.Outlets.{OutletState, rows_sent}
use Rattle.driver_ends.specs.Targets.{HasSent, KeepsTarget, TargetState}
use Rattle.driver_loop.specs.Drivers.{DriverState}
use Rattle.driver_loop.specs.Ends.{is_told, was_given}
use Rattle.driver_loop.specs.Seats.{KeepsEnds, puts_of}
use Rattle.driver_loop.specs.declared.target.Target.{Target}
use Rattle.driver_loop.specs.declared.target.Target.TheVariants.{Result, Build, Put, Deal}
use Rattle.plan_run_laws.specs.RunPlans.{Output}
use Rattle.plan_run_laws.specs.Runs.{sent}
use Rattle.source_laws.specs.Edges.{AreTold, KeepsPutter, Putter, putter_of, putting_seats, rows_for}
use Rattle.source_laws.proofs.SentLemmas.{keeps_putter, outlet_sent}
use Rattle.plan_layout.specs.Pipes.{PipeForm, driver_number}
use Rattle.driver_net_laws.specs.Nets.{IsPutFor, NetForm}
use Rattle.driver_net_laws.specs.Settled.{in_pipe, in_task, listed, of_lane, put_to}
use Rattle.driver_net_laws.specs.States.{Flow, pipe_of}
use Rattle.net_laws.proofs.ListLemmas.{Found, found, All-gather, All-gathered, All-left, All-one, All-right}
use Rattle.net_laws.proofs.DriverLemmas.{Known, done_is, lane_is, map_in_pipe, map_in_task}

-- the outlet of a target to the edge of a task
abbrev putters_of : ℕ → Target → List Putter
putters_of to (Result own) = []
putters_of to (Build build) = []
putters_of to (Put put) = listed (option_map (putter_of put to) (slice_get put.outlets to))
putters_of to (Deal deal) = []

abbrev pub putters_in : ℕ → DriverState → List Putter
putters_in to d = putters_of to d.target

seat_found : (put : TargetState) (to : ℕ) (o : Option OutletState)
    → map (λ (p : Putter). p.outlet.seat) (listed (option_map (putter_of put to) o)) ≡ listed (option_map (λ (outlet : OutletState). outlet.seat) o)
seat_found put to None = refl
seat_found put to (Some outlet) = refl

puts_seen : (to : ℕ) (t : Target) → map (λ (p : Putter). p.outlet.seat) (putters_of to t) ≡ listed (slice_get (puts_of t) to)
puts_seen to (Result own) = refl
puts_seen to (Build build) = refl
puts_seen to (Put put) = seat_found put to (slice_get put.outlets to) ∙ ap listed (sym (slice_get-map (λ (outlet : OutletState). outlet.seat) put.outlets to))
puts_seen to (Deal deal) = refl

pub seats_in_task : (to : ℕ) (drivers : List DriverState) (pipe : PipeForm) (task : ℕ)
    → putting_seats (in_task (putters_in to) drivers pipe task) ≡ in_task (put_to to) drivers pipe task
seats_in_task to drivers pipe task = map_in_task (λ (p : Putter). p.outlet.seat) (putters_in to) (put_to to) (λ d. puts_seen to d.target) drivers pipe task

pub seats_in_pipe : (to : ℕ) (drivers : List DriverState) (pipe : PipeForm)
    → putting_seats (in_pipe (putters_in to) drivers pipe) ≡ in_pipe (put_to to) drivers pipe
seats_in_pipe to drivers pipe = map_in_pipe (λ (p : Putter). p.outlet.seat) (putters_in to) (put_to to) (λ d. puts_seen to d.target) drivers pipe

-- putters that were given these rows, and for which something is done where all were told to finish
pub record Putting (putters : List Putter) (rows : List Row) (IsDone : Type 0) : Type 0 where
  pub keeps : All KeepsPutter putters
  pub given : rows_for putters ≡ rows
  pub done : AreTold putters → IsDone

-- of many, one behind the other
pub gather_puts : (n : ℕ) (lists : ℕ → List Putter) (rows : ℕ → List Row) (IsDone : ℕ → Type 0) → ((k : ℕ) → k < n → Putting (lists k) (rows k) (IsDone k))
    → Putting (gather n lists) (gather n rows) ((k : ℕ) → k < n → IsDone k)
gather_puts n lists rows IsDone each = record {
  keeps = All-gather KeepsPutter n lists (λ k below. (each k below).keeps);
  given = gather-flat_map n (λ (p : Putter). rows_sent p.outlet ++ p.waits) lists ∙ gather-agree n (λ k. rows_for (lists k)) rows (λ k below. (each k below).given);
  done = λ told k below. (each k below).done (All-gathered (λ (p : Putter). p.is_told ≡ true) n lists told k below);
}

pub both_put : (putters others : List Putter) (rows more : List Row) (IsDone AreDone : Type 0) → Putting putters rows IsDone → Putting others more AreDone
    → Putting (putters ++ others) (rows ++ more) (IsDone × AreDone)
both_put putters others rows more IsDone AreDone first second = record {
  keeps = All-append KeepsPutter putters others first.keeps second.keeps;
  given = flat_map-append (λ (p : Putter). rows_sent p.outlet ++ p.waits) putters others ∙ (λ i. first.given i ++ second.given i);
  done = λ told. (first.done (All-left (λ (p : Putter). p.is_told ≡ true) putters others told), second.done (All-right (λ (p : Putter). p.is_told ≡ true) putters others told));
}

module _ (net : NetForm) (drivers : List DriverState) (flow : Flow) (at : ℕ) (pipe : PipeForm) (task lane : ℕ) (k : Known net drivers flow at pipe task lane)
    (output : Output) (edges : List EdgeId) (to : ℕ) (puts : IsPutFor output edges k.driver.target) (within : to < length edges) where
  long : length puts.put.outlets ≡ length edges
  long = sym (length-map puts.put.outlets (λ (outlet : OutletState). outlet.seat.edge)) ∙ ap length puts.of

  here : Found puts.put.outlets to
  here = found puts.put.outlets to (omega (arith, long, within))

  keeps : KeepsTarget puts.put
  keeps = subst KeepsEnds puts.is k.still.ends

  has_sent : HasSent puts.put (flow.gave (driver_number pipe task lane))
  has_sent = subst (λ (t : Target). was_given t (flow.gave (driver_number pipe task lane))) puts.is k.given

  lane_putter : of_lane (putters_in to) drivers pipe task lane ≡ putter_of puts.put to here.item ∷ []
  lane_putter =
      lane_is (putters_in to) drivers pipe task lane k.driver k.there ∙ ap (putters_of to) puts.is
      ∙ ap (λ (o : Option OutletState). listed (option_map (putter_of puts.put to) o)) here.there

  keeps_it : KeepsPutter (putter_of puts.put to here.item)
  keeps_it =
      subst (λ (outlet : OutletState). KeepsPutter (putter_of puts.put to outlet)) here.is
      (keeps_putter puts.put to here.item keeps (omega (arith, long, within)))

  rows_it : rows_for (putter_of puts.put to here.item ∷ []) ≡ sent output (length edges) to (flow.gave (driver_number pipe task lane))
  rows_it =
      ap (λ (outlet : OutletState). rows_for (putter_of puts.put to outlet ∷ [])) (sym here.is) ∙ outlet_sent puts.put (flow.gave (driver_number pipe task lane)) (length edges) to here.item keeps has_sent long within
      ∙ ap (λ (o : Output). sent o (length edges) to (flow.gave (driver_number pipe task lane))) puts.sends

  done_it : puts.put.is_told ≡ true → (pipe_of drivers flow at pipe).done task lane ≡ true
  done_it told = done_is net drivers flow at pipe task lane k ∙ k.goes.told k.still.whole (ap is_told puts.is ∙ told)

  -- the outlet of one driver
  pub lane_puts : Putting (of_lane (putters_in to) drivers pipe task lane) (sent output (length edges) to (flow.gave (driver_number pipe task lane)))
      ((pipe_of drivers flow at pipe).done task lane ≡ true)
  lane_puts =
      subst (λ list. Putting list (sent output (length edges) to (flow.gave (driver_number pipe task lane))) ((pipe_of drivers flow at pipe).done task lane ≡ true)) (sym lane_putter)
      (record {
        keeps = All-one KeepsPutter (putter_of puts.put to here.item) keeps_it;
        given = rows_it;
        done = λ told. done_it (All-head (λ (p : Putter). p.is_told ≡ true) (putter_of puts.put to here.item) [] told);
      })
