use Rattle.std.proofs.Common.{◌≡◌, ◌++◌, ◌∷◌, [], List, ℕ, zero, suc, refl, subst, sym}
use Rattle.std.specs.Prelude.{All}
use Rattle.std.proofs.lemmas.List.Elements.{All-nil, All-cons, All-head, All-tail, All-same}
use Rattle.output_buffer.specs.Seats.{EdgeId, GatherPutState, new_gather_put, new_gather_puts}
use Rattle.edge_tests.proofs.put_rows.seat_edge.Goals as goal

abbrev Fresh : GatherPutState → Type 0
Fresh s = s.put ≡ []

behind : (xs : List GatherPutState) (s : GatherPutState) → All Fresh xs → Fresh s → All Fresh (xs ++ s ∷ [])
behind [] s all new = All-cons Fresh s [] new (All-nil Fresh)
behind (x ∷ xs) s all new = All-cons Fresh x (xs ++ s ∷ []) (All-head Fresh x xs all) (behind xs s (All-tail Fresh x xs all) new)

last-of : (xs : List GatherPutState) (s : GatherPutState) → All Fresh (xs ++ s ∷ []) → Fresh s
last-of [] s all = All-head Fresh s [] all
last-of (x ∷ xs) s all = last-of xs s (All-tail Fresh x (xs ++ s ∷ []) all)

all-new : (edge : EdgeId) (n : ℕ) → All Fresh (new_gather_puts edge n)
all-new edge zero = All-nil Fresh
all-new edge (suc n) = behind (new_gather_puts edge n) (new_gather_put edge n) (all-new edge n) refl

pub returns : goal.returns
returns c =
    let popped : c.in_ok-seats.seats.items ≡ c.pop.new.self.items ++ c.in-Some.seat ∷ [] = c.in-Some.ensures.items in
    let all : All Fresh c.in_ok-seats.seats.items = subst (All Fresh) (sym c.in_ok-seats.ensures.puts) (all-new c.args.edge.now.edge c.args.edge.now.putters) in
    subst (All Fresh) (sym c.in_ok-push-2.ensures.items)
    (behind c.args.puts.now.items c.in-Some.seat c.requires (last-of c.pop.new.self.items c.in-Some.seat (subst (All Fresh) popped all)))
