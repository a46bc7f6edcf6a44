-- From the rows that putters were given to those that their edge's taker took.
use Rattle.std.proofs.Common.{◌≡◌, ℕ, ◌<◌, List, [], ◌∷◌, ◌++◌, Bool, true, false, refl, ap, sym, arith}
use Rattle.std.specs.Prelude.{All, IfSome, Option, Some, None, flat_map}
use Rattle.std.proofs.lemmas.List.{append-nil, append_assoc}
use Rattle.std.proofs.lemmas.List.Concat.{flat_map-append}
use Rattle.std.proofs.lemmas.List.Elements.{All-cons, All-nil, All-tail}
use Rattle.sql_values.specs.declared.value.Value.{Value}
use Rattle.col_pages.specs.Pages.{TypedPage}
use Rattle.bag_laws.specs.Weights.{SameWeights}
use Rattle.bag_laws.proofs.BagLemmas.{same-append, same-cancel_left, same-exchange, same-flat_map, same-from_equal, same-nil, same-refl, same-sym, same-trans}
use Rattle.bag_laws.proofs.WithinLemmas.{within-flat_map}
use Rattle.output_buffer.specs.Edges.{end_count}
use Rattle.output_buffer.specs.Seats.{GatherPutState, GatherTakeState, HasEnded, put_by, rows_of_piece, rows_of_pieces}
use Rattle.driver_ends.specs.Outlets.{rows_of_held, rows_sent}
use Rattle.plan_run_laws.specs.Stops.{Hop}
use Rattle.plan_run_laws.proofs.HopLemmas.{hop-hop}
use Rattle.source_laws.specs.Edges.{AreTold, GatherCameBack, HavePutEnds, KeepsPutter, Putter, putting_seats, rows_for}

-- no page is held behind an End
pub none_held_behind : (held : Option TypedPage) (ends : ℕ) → IfSome held (λ page. ends ≡ 0) → 0 < ends → rows_of_held held ≡ []
none_held_behind None ends first some = refl
none_held_behind (Some page) ends first some = absurd (omega (arith, first, some))

-- who put an End was told to finish
pub told_by_end : (told : Bool) (ends : ℕ) → (told ≡ false → ends ≡ 0) → 0 < ends → told ≡ true
told_by_end true ends early some = refl
told_by_end false ends early some = absurd (omega (arith, early refl, some))

-- where all of a list is within another, and weighs the same, nothing is left over
pub none_over : {X : Type 0} (A rest B : List X) → SameWeights (A ++ rest) B → SameWeights A B → rest ≡ []
none_over A rest B part whole =
    same-nil (same-cancel_left A (same-trans part (same-trans (same-sym whole) (same-from_equal (sym (append-nil A))))))

-- what they hold, and what waits for them
abbrev left_of : Putter → List (List Value)
left_of p = rows_of_held p.outlet.held ++ p.waits

abbrev held_by : List Putter → List (List Value)
held_by putters = flat_map left_of putters

put_and_held : (putters : List Putter) → SameWeights (rows_of_pieces (put_by (putting_seats putters)) ++ held_by putters) (rows_for putters)
put_and_held [] = same-refl []
put_and_held (p ∷ putters) =
    let put = p.outlet.seat.put in
    let more = put_by (putting_seats putters) in
    let apart : rows_of_pieces (put ++ more) ≡ rows_of_pieces put ++ rows_of_pieces more = flat_map-append rows_of_piece put more in
    let mine : rows_of_pieces put ++ left_of p ≡ rows_sent p.outlet ++ p.waits = sym (append_assoc (rows_of_pieces put) (rows_of_held p.outlet.held) p.waits) in
    same-trans (same-from_equal (ap (λ rows. rows ++ (left_of p ++ held_by putters)) apart))
    (same-trans (same-exchange (rows_of_pieces put) (rows_of_pieces more) (left_of p) (held_by putters))
    (same-append (same-from_equal mine) (put_and_held putters)))

none_held : (putters : List Putter) → All KeepsPutter putters → HavePutEnds (putting_seats putters) → held_by putters ≡ []
none_held [] kept ends = refl
none_held (p ∷ putters) kept ends =
    let some : 0 < end_count p.outlet.seat.put = ends 0 p.outlet.seat (omega arith) in
    let held : rows_of_held p.outlet.held ≡ [] = none_held_behind p.outlet.held (end_count p.outlet.seat.put) ((kept 0 p (omega arith)).order.first) some in
    let here : left_of p ≡ [] = λ i. held i ++ (kept 0 p (omega arith)).last some i in
    let rest : held_by putters ≡ [] =
    none_held putters (All-tail KeepsPutter p putters kept) (All-tail (λ (seat : GatherPutState). 0 < end_count seat.put) p.outlet.seat (putting_seats putters) ends) in
    λ i. here i ++ rest i

all_told : (putters : List Putter) → All KeepsPutter putters → HavePutEnds (putting_seats putters) → AreTold putters
all_told [] kept ends = All-nil (λ (p : Putter). p.is_told ≡ true)
all_told (p ∷ putters) kept ends =
    All-cons (λ (p : Putter). p.is_told ≡ true) p putters
    (told_by_end p.is_told (end_count p.outlet.seat.put) (kept 0 p (omega arith)).early (ends 0 p.outlet.seat (omega arith)))
    (all_told putters (All-tail KeepsPutter p putters kept) (All-tail (λ (seat : GatherPutState). 0 < end_count seat.put) p.outlet.seat (putting_seats putters) ends))

pub put_hop : (putters : List Putter) → All KeepsPutter putters → Hop (rows_for putters) (rows_of_pieces (put_by (putting_seats putters))) (HavePutEnds (putting_seats putters)) (AreTold putters)
put_hop putters kept = record {
  left = held_by putters;
  some = put_and_held putters;
  all = none_held putters kept;
  closed = all_told putters kept;
}

pub took_hop : (puts : List GatherPutState) (take : GatherTakeState) → GatherCameBack puts take → Hop (rows_of_pieces (put_by puts)) (rows_of_pieces take.took) (HasEnded take) (HavePutEnds puts)
took_hop puts take back =
    let rows = within-flat_map rows_of_piece back.part in
    record {
      left = rows.rest;
      some = rows.whole;
      all = λ over. none_over (rows_of_pieces take.took) rows.rest (rows_of_pieces (put_by puts)) rows.whole (same-flat_map rows_of_piece (back.whole over));
      closed = back.ends;
    }

-- what putters were given for an edge, and what its taker took
pub gather_hop : (putters : List Putter) (take : GatherTakeState) → All KeepsPutter putters → GatherCameBack (putting_seats putters) take
    → Hop (rows_for putters) (rows_of_pieces take.took) (HasEnded take) (AreTold putters)
gather_hop putters take kept back = hop-hop (put_hop putters kept) (took_hop (putting_seats putters) take back)
