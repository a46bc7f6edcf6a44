-- Seats that put to an edge of each task.
use Rattle.std.proofs.Common.{◌≡◌, ℕ, ◌+◌, List, [], ◌∷◌, ◌++◌, All, length, map, refl, ap, sym, subst, ◌∙◌, arith, length-append}
use Rattle.std.specs.List.{range_with_len}
use Rattle.std.proofs.lemmas.List.{map-append}
use Rattle.std.proofs.lemmas.List.Elements.{All-nil, All-push}
use Rattle.std.proofs.lemmas.List.FromFn.{map-range_with_len_more}
use Rattle.output_buffer.specs.Seats.{EdgeId, GatherPutState, new_gather_put}
use Rattle.seat_stocks.specs.Shelves.{IsOn}
use Rattle.seat_stocks.specs.Stocks.{AreLeft, StockForm}
use Rattle.seat_stocks.specs.Labels.{IsLabelled, Labels}
use Rattle.seat_stocks.specs.Lanes.{lane_at}
use Rattle.net_parts.specs.Makings.{IsStocked}
use Rattle.net_parts.specs.declared.making.Making.{Making}
use Rattle.net_parts.proofs.StockLemmas.{left_self, left_then}

abbrev pub edge_of : GatherPutState → EdgeId
edge_of seat = seat.edge

abbrev pub IsNewPut : GatherPutState → Type 0
IsNewPut seat = seat ≡ new_gather_put seat.edge seat.number

pub new_of : (edge : EdgeId) (seat : GatherPutState) → seat ≡ new_gather_put edge seat.number → IsNewPut seat
new_of edge seat is = subst (λ (e : EdgeId). seat ≡ new_gather_put e seat.number) (sym (ap edge_of is)) is

-- seats for the first tasks
pub record SeatsFor (firsts : List ℕ) (at : ℕ) (before : StockForm) (task : ℕ) (now : StockForm) (seats : List GatherPutState) : Type 0 where
  pub left : AreLeft before now
  pub count : length seats ≡ task
  pub fresh : All IsNewPut seats
  pub edges : (labels : Labels) → IsLabelled labels before → map edge_of seats ≡ map (λ task. labels.gathers (lane_at firsts at task)) (range_with_len 0 task)

pub no_seats : (firsts : List ℕ) (at : ℕ) (before : StockForm) → SeatsFor firsts at before 0 before []
no_seats firsts at before = record { left = left_self before; count = refl; fresh = All-nil IsNewPut; edges = λ labels labelled. refl }

pub one_seat : (m : Making) (firsts : List ℕ) (at : ℕ) (before : StockForm) (task : ℕ) (now next : StockForm) (seats : List GatherPutState) (seat : GatherPutState)
    → IsStocked m before → SeatsFor firsts at before task now seats → AreLeft now next → IsOn now.puts (lane_at firsts at task) seat
    → SeatsFor firsts at before (task + 1) next (seats ++ seat ∷ [])
one_seat m firsts at before task now next seats seat stocked made left on =
    let first = made.left.puts (lane_at firsts at task) seat on in
    record {
      left = left_then before now next made.left left;
      count = omega (arith, length-append seats (seat ∷ []), made.count);
      fresh = All-push IsNewPut seats seat made.fresh (new_of (stocked.labels.gathers (lane_at firsts at task)) seat (stocked.labelled.puts (lane_at firsts at task) seat first));
      edges = λ labels labelled.
          let edge : seat.edge ≡ labels.gathers (lane_at firsts at task) = ap edge_of (labelled.puts (lane_at firsts at task) seat first) in
          map-append edge_of seats (seat ∷ []) ∙ (λ i. made.edges labels labelled i ++ edge i ∷ [])
          ∙ sym (map-range_with_len_more (λ task. labels.gathers (lane_at firsts at task)) 0 task task (omega arith));
    }
