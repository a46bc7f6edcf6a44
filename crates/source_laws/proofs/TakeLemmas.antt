-- From the rows that a driver put to an edge of many takers to those that they handed on; and of one taker.
use Rattle.std.proofs.Common.{Bool, true, ◌∙◌, ◌≡◌, ◌<◌, List, [], ◌∷◌, ◌++◌, true, refl, ap, sym, arith, subst}
use Rattle.std.specs.Prelude.{All, flat_map}
use Rattle.std.proofs.lemmas.List.{append-nil, append_cancel_left}
use Rattle.std.proofs.lemmas.List.Concat.{flat_map-append}
use Rattle.std.proofs.lemmas.List.Elements.{All-cons, All-nil, All-tail}
use Rattle.sql_values.specs.declared.value.Value.{Value}
use Rattle.bag_laws.specs.Weights.{SameWeights, Within}
use Rattle.bag_laws.proofs.BagLemmas.{same-append, same-exchange, same-flat_map, same-from_equal, same-refl, same-trans}
use Rattle.bag_laws.proofs.WithinLemmas.{within-flat_map}
use Rattle.output_buffer.specs.Edges.{end_count, ends_in}
use Rattle.output_buffer.specs.Seats.{HasEnded, HasTakenEnd, HaveEnded, SpreadPutState, SpreadTakeState, rows_of_piece, rows_of_pieces, taken_by}
use Rattle.output_buffer.proofs.SeatLemmas.{ends_taken}
use Rattle.driver_ends.specs.Deals.{DealState, KeepsDeal, rows_dealt}
use Rattle.driver_ends.specs.Ends.{local_taken, remote_taken}
use Rattle.driver_ends.specs.Outlets.{rows_of_held}
use Rattle.driver_ends.specs.Sources.{HasLocalTaken, HasRemoteTaken, IsLocalEnded, IsRemoteEnded, LocalState, RemoteState}
use Rattle.relation_laws.specs.Sorts.{IsBeginning}
use Rattle.plan_run_laws.specs.Stops.{Hop}
use Rattle.output_buffer.specs.Partitions.{all_rows}
use Rattle.driver_ends.specs.Fetching.{FetchingState, HasFetchTaken, IsFetchEnded, fetch_taken, rows_left}
use Rattle.plan_run_laws.proofs.HopLemmas.{hop-hop}
use Rattle.source_laws.proofs.HopLemmas.{hop_closed}
use Rattle.source_laws.specs.Edges.{AreTold, GatherCameBack, KeepsPutter, Putter, SpreadCameBack, putting_seats, rows_for, rows_from, taking_seats}
use Rattle.source_laws.proofs.PutLemmas.{gather_hop, none_held_behind, none_over, told_by_end}

pub local_hop : (s : LocalState) → HasLocalTaken s (local_taken s) → Hop (rows_of_pieces s.seat.took) (local_taken s) (IsLocalEnded s) (HasEnded s.seat)
local_hop s taken = record {
  left = rows_of_held s.inbox;
  some = same-from_equal (sym taken);
  all = λ over. ap rows_of_held over.clear;
  closed = λ over. over.ended;
}

-- what putters were given for an edge of their task, and what its taker handed on
pub local_edge_hop : (putters : List Putter) (s : LocalState) → All KeepsPutter putters → GatherCameBack (putting_seats putters) s.seat → HasLocalTaken s (local_taken s)
    → Hop (rows_for putters) (local_taken s) (IsLocalEnded s) (AreTold putters)
local_edge_hop putters s kept back taken = hop-hop (gather_hop putters s.seat kept back) (local_hop s taken)

pub fetch_hop : (s : FetchingState) → HasFetchTaken s (fetch_taken s) → Hop (rows_of_pieces s.local.seat.took) (fetch_taken s) (IsFetchEnded s) (HasEnded s.local.seat)
fetch_hop s taken = record {
  left = rows_left s;
  some = same-from_equal (sym taken);
  all = λ over. λ i. all_rows (over.clear i ++ over.none i) ++ rows_of_held (over.ended.clear i);
  closed = λ over. over.ended.ended;
}

-- what putters were given for an edge between fragments, and what the driver that fetches from it handed on
pub fetched_edge_hop : (putters : List Putter) (s : FetchingState) → All KeepsPutter putters → GatherCameBack (putting_seats putters) s.local.seat → HasFetchTaken s (fetch_taken s)
    → Hop (rows_for putters) (fetch_taken s) (IsFetchEnded s) (AreTold putters)
fetched_edge_hop putters s kept back taken = hop-hop (gather_hop putters s.local.seat kept back) (fetch_hop s taken)

pub deal_hop : (d : DealState) → KeepsDeal d → Hop (rows_dealt d) (rows_of_pieces d.seat.put) (0 < end_count d.seat.put) (d.is_told ≡ true)
deal_hop d kept = record {
  left = rows_of_held d.held;
  some = same-refl (rows_dealt d);
  all = none_held_behind d.held (end_count d.seat.put) kept.order.first;
  closed = told_by_end d.is_told (end_count d.seat.put) kept.early;
}

pub spread_hop : (put : SpreadPutState) (takes : List SpreadTakeState) → SpreadCameBack put takes
    → Hop (rows_of_pieces put.put) (rows_of_pieces (taken_by takes)) (All HasTakenEnd takes) (0 < end_count put.put)
spread_hop put takes back = record {
  left = rows.rest;
  some = rows.whole;
  all = λ over. none_over (rows_of_pieces (taken_by takes)) rows.rest (rows_of_pieces put.put) rows.whole (same-flat_map rows_of_piece (back.whole (ended over)));
  closed = λ over. omega (arith, ended over, back.all, back.some, (back.whole (ended over)).weighs ends_in);
}
  where
    rows : Within (rows_of_pieces (taken_by takes)) (rows_of_pieces put.put)
    rows = within-flat_map rows_of_piece back.part

    ended : All HasTakenEnd takes → HaveEnded put takes
    ended over = omega (arith, ends_taken takes over, back.all)

abbrev inboxes : List RemoteState → List (List Value)
inboxes takers = flat_map (λ (taker : RemoteState). rows_of_held taker.inbox) takers

handed_and_held : (takers : List RemoteState) → All (λ s. HasRemoteTaken s (remote_taken s)) takers
    → SameWeights (rows_from takers ++ inboxes takers) (rows_of_pieces (taken_by (taking_seats takers)))
handed_and_held [] taken = same-refl []
handed_and_held (s ∷ takers) taken =
    let more = taken_by (taking_seats takers) in
    let here : rows_of_pieces s.seat.took ≡ remote_taken s ++ rows_of_held s.inbox = taken 0 s (omega arith) in
    let apart : rows_of_pieces (s.seat.took ++ more) ≡ rows_of_pieces s.seat.took ++ rows_of_pieces more = flat_map-append rows_of_piece s.seat.took more in
    same-trans (same-exchange (remote_taken s) (rows_from takers) (rows_of_held s.inbox) (inboxes takers))
    (same-trans (same-append (same-from_equal (sym here)) (handed_and_held takers (All-tail (λ (s : RemoteState). HasRemoteTaken s (remote_taken s)) s takers taken)))
    (same-from_equal (sym apart)))

none_kept : (takers : List RemoteState) → All IsRemoteEnded takers → inboxes takers ≡ []
none_kept [] over = refl
none_kept (s ∷ takers) over =
    let here : rows_of_held s.inbox ≡ [] = ap rows_of_held (over 0 s (omega arith)).clear in
    let rest : inboxes takers ≡ [] = none_kept takers (All-tail IsRemoteEnded s takers over) in
    λ i. here i ++ rest i

took_ends : (takers : List RemoteState) → All IsRemoteEnded takers → All HasTakenEnd (taking_seats takers)
took_ends [] over = All-nil HasTakenEnd
took_ends (s ∷ takers) over =
    All-cons HasTakenEnd s.seat (taking_seats takers) (over 0 s (omega arith)).ended (took_ends takers (All-tail IsRemoteEnded s takers over))

pub remote_hop : (takers : List RemoteState) → All (λ s. HasRemoteTaken s (remote_taken s)) takers
    → Hop (rows_of_pieces (taken_by (taking_seats takers))) (rows_from takers) (All IsRemoteEnded takers) (All HasTakenEnd (taking_seats takers))
remote_hop takers taken = record {
  left = inboxes takers;
  some = handed_and_held takers taken;
  all = none_kept takers;
  closed = took_ends takers;
}

-- rows came to a driver that deals them out, and what its takers handed on
pub dealt_edge_hop : (put came : List (List Value)) (IsOver HasClosed : Type 0) (d : DealState) (takers : List RemoteState)
    → Hop put came IsOver HasClosed → rows_dealt d ≡ came → (d.is_told ≡ true → IsOver) → KeepsDeal d → SpreadCameBack d.seat (taking_seats takers)
    → All (λ s. HasRemoteTaken s (remote_taken s)) takers → Hop put (rows_from takers) (All IsRemoteEnded takers) HasClosed
dealt_edge_hop put came IsOver HasClosed d takers first given told kept back taken =
    hop-hop (hop-hop (subst (λ rows. Hop put rows IsOver HasClosed) (sym given) first) (hop_closed told (deal_hop d kept)))
    (hop-hop (spread_hop d.seat (taking_seats takers) back) (remote_hop takers taken))

-- rows of the plan, of which some were handed on, in order
pub rows_hop : (given rows : List (List Value)) (ended : Bool) → IsBeginning given rows → (ended ≡ true → given ≡ rows) → Hop rows given (ended ≡ true) (Unit {0})
rows_hop given rows ended begun drained = record {
  left = begun.0;
  some = same-from_equal begun.1;
  all = λ over. append_cancel_left given begun.0 [] (begun.1 ∙ sym (drained over) ∙ sym (append-nil given));
  closed = λ over. tt;
}
