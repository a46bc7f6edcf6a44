-- What the seats of an edge know together.
use Rattle.std.proofs.Common.{◌≡◌, ℕ, zero, suc, ◌+◌, ◌-◌, ◌<◌, ◌≤◌, length, List, [], ◌∷◌, ◌++◌, refl, sym, ap, ◌∙◌, arith}
use Rattle.std.specs.Prelude.{flat_map, sum_by, All}
use Rattle.std.proofs.lemmas.List.{length_push}
use Rattle.std.proofs.lemmas.List.Elements.{All-cons, All-nil, All-push, All-tail}
use Rattle.std.proofs.lemmas.List.Sums.{sum_by-append, sum_by_push}
use Rattle.bag_laws.proofs.BagLemmas.{weight-flat_map}
use Rattle.bag_laws.specs.Weights.{SameWeights, Within}
use Rattle.output_buffer.specs.declared.edge.EdgeView.{EdgeView}
use Rattle.output_buffer.specs.declared.piece.Piece.{Piece}
use Rattle.output_buffer.specs.declared.piece.Piece.TheVariants.{Rows, End}
use Rattle.output_buffer.specs.Edges.{PagesThenEnds, Shows, ShowsWhole, all_parts, end_count, edge_view, ends_in, with_put, pages_in, together}
use Rattle.output_buffer.specs.Joined.{JoinedPuts, JoinedTakes}
use Rattle.output_buffer.specs.Seats.{SpreadPutState, EdgeId, HasEnded, HasTakenEnd, HaveEnded, MaySpread, GatherPutState, SpreadTakeState, GatherTakeState, new_gather_put, new_gather_puts, put_by, rows_of_piece, rows_of_pieces, taken_by, view_of_gather_put, view_of_spread_take}
use Rattle.output_buffer.proofs.EdgeLemmas.{late_of_end, late_of_more, nothing_left}

pub length_new_gather_puts : (edge : EdgeId) (n : ℕ) → length (new_gather_puts edge n) ≡ n
length_new_gather_puts edge zero = refl
length_new_gather_puts edge (suc n) = omega (arith, length_push (new_gather_puts edge n) (new_gather_put edge n), length_new_gather_puts edge n)

each_new_gather_put : (P : GatherPutState → Type 0) (edge : EdgeId) (n : ℕ) → ((number : ℕ) → P (new_gather_put edge number)) → All P (new_gather_puts edge n)
each_new_gather_put P edge zero each = λ k d less. absurd (omega (arith, less))
each_new_gather_put P edge (suc n) each = All-push P (new_gather_puts edge n) (new_gather_put edge n) (each_new_gather_put P edge n each) (each n)

-- new seats are of their edge, and put nothing
pub new_gather_puts_are_of : (edge : EdgeId) (n : ℕ) → All (λ (s : GatherPutState). s.edge ≡ edge) (new_gather_puts edge n)
new_gather_puts_are_of edge n = each_new_gather_put (λ (s : GatherPutState). s.edge ≡ edge) edge n (λ number. refl)

pub new_gather_puts_are_new : (edge : EdgeId) (n : ℕ) → All (λ (s : GatherPutState). end_count s.put ≡ 0) (new_gather_puts edge n)
new_gather_puts_are_new edge n = each_new_gather_put (λ (s : GatherPutState). end_count s.put ≡ 0) edge n (λ number. refl)

module _ {A B : Type 0} (f : A → List B) (weight : B → ℕ) where
  pub sum_flat_push : (xs : List A) (y : A) → sum_by weight (flat_map f (xs ++ y ∷ [])) ≡ sum_by weight (flat_map f xs) + sum_by weight (f y)
  sum_flat_push xs y = omega (arith, weight-flat_map weight f (xs ++ y ∷ []), weight-flat_map weight f xs, sum_by_push (λ x. sum_by weight (f x)) xs y)

-- a putter's view with one more piece
pub view_with_put : (v : EdgeView) (x : Piece) (n : ℕ) → v ≡ edge_view n (1 - end_count v.put) v.put [] → with_put v x ≡ edge_view n (1 - end_count (v.put ++ x ∷ [])) (v.put ++ x ∷ []) []
view_with_put v x n is =
    let parts : v.parts ≡ n = ap (λ (u : EdgeView). u.parts) is in
    let putting : v.putting - ends_in x ≡ 1 - end_count (v.put ++ x ∷ []) = omega (arith, ap (λ (u : EdgeView). u.putting) is, sum_by_push ends_in v.put x) in
    let took : v.took ≡ [] = ap (λ (u : EdgeView). u.took) is in
    λ i. edge_view (parts i) (putting i) (v.put ++ x ∷ []) (took i)

pub one_end : (put : List Piece) (x : Piece) → end_count put ≡ 0 → end_count (put ++ x ∷ []) ≤ 1
one_end put (Rows page) none = omega (arith, none, sum_by_push ends_in put (Rows page))
one_end put (End number) none = omega (arith, none, sum_by_push ends_in put (End number))

pub ends_of_spread : (seat : SpreadPutState) (x : Piece) → MaySpread seat x → end_count (seat.put ++ x ∷ []) ≤ seat.takers
ends_of_spread seat (Rows page) none = omega (arith, none, sum_by_push ends_in seat.put (Rows page))
ends_of_spread seat (End number) few = omega (arith, few, sum_by_push ends_in seat.put (End number))

-- pages and then Ends, with one more piece
pub order_of_put : (put : List Piece) (x : Piece) → end_count put ≡ 0 → PagesThenEnds put → PagesThenEnds (put ++ x ∷ [])
order_of_put put x going order = late_of_more 0 put x (omega (arith, going)) ∙ order

pub order_of_spread : (seat : SpreadPutState) (x : Piece) → MaySpread seat x → PagesThenEnds seat.put → PagesThenEnds (seat.put ++ x ∷ [])
order_of_spread seat (Rows page) going order = order_of_put seat.put (Rows page) going order
order_of_spread seat (End number) few order = late_of_end 0 seat.put number ∙ order

-- who puts a page put no End before
pub may_spread_pages : (seat : SpreadPutState) (piece : Piece) → MaySpread seat piece → pages_in piece ≤ 1 - end_count seat.put
may_spread_pages seat (Rows page) going = omega (arith, going)
may_spread_pages seat (End number) few = omega arith

pub joined_none : (v : EdgeView) → JoinedPuts v [] v
joined_none v = record { parts = omega arith; once = omega arith; each = All-nil (λ (s : GatherPutState). end_count s.put ≤ 1); putting = omega arith; put = λ weight. omega arith; took = λ weight. refl }

pub joined_one : (before : EdgeView) (front : List GatherPutState) (last : GatherPutState) (after : EdgeView) → end_count last.put ≤ 1 → JoinedPuts (together before (view_of_gather_put last)) front after → JoinedPuts before (front ++ last ∷ []) after
joined_one before front last after once j = record {
  parts = omega (arith, j.parts, length_push front last);
  once = omega (arith, j.once, once, length_push front last, more ends_in);
  each = All-push (λ (s : GatherPutState). end_count s.put ≤ 1) front last j.each once;
  putting = omega (arith, j.putting, once, length_push front last, more ends_in);
  put = λ weight. omega (arith, j.put weight, sum_by-append weight before.put last.put, more weight);
  took = λ weight. omega (arith, j.took weight, sum_by-append weight before.took []);
}
  where
    more : (weight : Piece → ℕ) → sum_by weight (put_by (front ++ last ∷ [])) ≡ sum_by weight (put_by front) + sum_by weight last.put
    more weight = sum_flat_push (λ (s : GatherPutState). s.put) weight front last

-- where all putters' seats were joined into the taker's: what was put is what was taken and what is held
pub held : (take : GatherTakeState) (puts : List GatherPutState) (before after : EdgeView) (items : List Piece) → take.putters < all_parts → length puts ≡ take.putters
    → before ≡ edge_view (all_parts - take.putters) 0 [] take.took → JoinedPuts before puts after → Shows after items
    → (SameWeights (take.took ++ items) (put_by puts)) × (HasEnded take → items ≡ [])
held take puts before after items few all is j shows = (
  record { weighs = λ weight. omega (arith, balanced weight, sum_by-append weight take.took items) },
  λ ended. nothing_left items (omega (arith, ended, j.once, all, balanced ends_in)) (whole.ends_last (omega (arith, ended, j.putting, j.once, all, balanced ends_in, ap (λ (v : EdgeView). v.putting) is))),
)
  where
    whole : ShowsWhole after items
    whole = shows (omega (arith, j.parts, all, few, ap (λ (v : EdgeView). v.parts) is))

    balanced : (weight : Piece → ℕ) → sum_by weight (put_by puts) ≡ sum_by weight take.took + sum_by weight items
    balanced weight = omega (arith, whole.balanced weight, j.put weight, j.took weight, ap (λ (v : EdgeView). sum_by weight v.put) is, ap (λ (v : EdgeView). sum_by weight v.took) is)

pub within : (took items put : List Piece) → SameWeights (took ++ items) put → Within took put
within took items put same = record { rest = items; whole = same }

pub settled : (took items put : List Piece) → items ≡ [] → SameWeights (took ++ items) put → SameWeights took put
settled took items put none same = record { weighs = λ weight. omega (arith, same.weighs weight, sum_by-append weight took items, ap (sum_by weight) none) }

-- where as many Ends were put as there are putters, and none put two, each put one
each_ended : (puts : List GatherPutState) → All (λ s. end_count s.put ≤ 1) puts → length puts ≤ end_count (put_by puts) → All (λ s. 0 < end_count s.put) puts
each_ended [] few ended = All-nil (λ (s : GatherPutState). 0 < end_count s.put)
each_ended (s ∷ puts) few ended =
    let rest : All (λ s. end_count s.put ≤ 1) puts = All-tail (λ (s : GatherPutState). end_count s.put ≤ 1) s puts few in
    let here : end_count s.put ≤ 1 = few 0 s (omega arith) in
    let both : end_count (put_by (s ∷ puts)) ≡ end_count s.put + end_count (put_by puts) = sum_by-append ends_in s.put (put_by puts) in
    All-cons (λ (s : GatherPutState). 0 < end_count s.put) s puts (omega (arith, ended, both, most_ends puts rest)) (each_ended puts rest (omega (arith, ended, both, here)))
  where
    most_ends : (all : List GatherPutState) → All (λ s. end_count s.put ≤ 1) all → end_count (put_by all) ≤ length all
    most_ends [] none = omega arith
    most_ends (x ∷ xs) each = omega (arith, each 0 x (omega arith), most_ends xs (All-tail (λ (s : GatherPutState). end_count s.put ≤ 1) x xs each), sum_by-append ends_in x.put (put_by xs))

-- where every End was taken, each putter put its own
pub gather_ends : (take : GatherTakeState) (puts : List GatherPutState) (before after : EdgeView) → length puts ≡ take.putters → JoinedPuts before puts after
    → (HasEnded take → SameWeights take.took (put_by puts)) → HasEnded take → All (λ s. 0 < end_count s.put) puts
gather_ends take puts before after all j same ended = each_ended puts j.each (omega (arith, all, ended, (same ended).weighs ends_in))

-- at a stop, and where every End was taken
pub gather_stopped : (take : GatherTakeState) (puts : List GatherPutState) (before after : EdgeView) (items : List Piece) → take.putters < all_parts → length puts ≡ take.putters
    → before ≡ edge_view (all_parts - take.putters) 0 [] take.took → JoinedPuts before puts after → Shows after items
    → (Within take.took (put_by puts)) × (HasEnded take → SameWeights take.took (put_by puts))
gather_stopped take puts before after items few all is j shows =
    let h = held take puts before after items few all is j shows in
    (within take.took items (put_by puts) h.0, λ ended. settled take.took items (put_by puts) (h.1 ended) h.0)

pub joined_no_take : (v : EdgeView) → JoinedTakes v [] v
joined_no_take v = record { parts = omega arith; putting = refl; put = λ weight. refl; took = λ weight. omega arith }

pub joined_one_take : (before : EdgeView) (front : List SpreadTakeState) (last : SpreadTakeState) (after : EdgeView) → JoinedTakes (together before (view_of_spread_take last)) front after → JoinedTakes before (front ++ last ∷ []) after
joined_one_take before front last after j = record {
  parts = omega (arith, j.parts, length_push front last);
  putting = omega (arith, j.putting);
  put = λ weight. omega (arith, j.put weight, sum_by-append weight before.put []);
  took = λ weight. omega (arith, j.took weight, sum_by-append weight before.took last.took, sum_flat_push (λ (s : SpreadTakeState). s.took) weight front last);
}

-- where each taker took an End, as many were taken as there are takers
pub ends_taken : (takes : List SpreadTakeState) → All HasTakenEnd takes → length takes ≤ end_count (taken_by takes)
ends_taken [] all = omega arith
ends_taken (x ∷ xs) all = omega (arith, all 0 x (omega arith), ends_taken xs (λ k d less. all (suc k) d (omega (arith, less))), sum_by-append ends_in x.took (taken_by xs))

-- where all takers' seats were joined into the putter's
pub spread_held : (put : SpreadPutState) (takes : List SpreadTakeState) (before after : EdgeView) (items : List Piece) → put.takers < all_parts → 0 < put.takers → end_count put.put ≤ put.takers → length takes ≡ put.takers
    → before ≡ edge_view (all_parts - put.takers) (1 - end_count put.put) put.put [] → JoinedTakes before takes after → Shows after items
    → (SameWeights (taken_by takes ++ items) put.put) × (HaveEnded put takes → items ≡ [])
spread_held put takes before after items few has most all is j shows = (
  record { weighs = λ weight. omega (arith, balanced weight, sum_by-append weight (taken_by takes) items) },
  λ ended. nothing_left items (omega (arith, ended, most, balanced ends_in)) (whole.ends_last (omega (arith, ended, has, balanced ends_in, j.putting, ap (λ (v : EdgeView). v.putting) is))),
)
  where
    whole : ShowsWhole after items
    whole = shows (omega (arith, j.parts, all, few, ap (λ (v : EdgeView). v.parts) is))

    balanced : (weight : Piece → ℕ) → sum_by weight put.put ≡ sum_by weight (taken_by takes) + sum_by weight items
    balanced weight = omega (arith, whole.balanced weight, j.put weight, j.took weight, ap (λ (v : EdgeView). sum_by weight v.put) is, ap (λ (v : EdgeView). sum_by weight v.took) is)

pub spread_stopped : (put : SpreadPutState) (takes : List SpreadTakeState) (before after : EdgeView) (items : List Piece) → put.takers < all_parts → 0 < put.takers → end_count put.put ≤ put.takers → length takes ≡ put.takers
    → before ≡ edge_view (all_parts - put.takers) (1 - end_count put.put) put.put [] → JoinedTakes before takes after → Shows after items
    → (Within (taken_by takes) put.put) × (HaveEnded put takes → SameWeights (taken_by takes) put.put)
spread_stopped put takes before after items few has most all is j shows =
    let h = spread_held put takes before after items few has most all is j shows in
    (within (taken_by takes) items put.put h.0, λ ended. settled (taken_by takes) items put.put (h.1 ended) h.0)
