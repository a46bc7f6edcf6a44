-- Targets that put to the edges of all tasks.
use Rattle.std.proofs.Common.{◌≡◌, ℕ, List, [], ◌∷◌, All, None, map, false, refl, ap, sym, ◌∙◌}
use Rattle.std.proofs.lemmas.List.Elements.{All-head, All-tail}
use Rattle.output_buffer.specs.Seats.{EdgeId, GatherPutState}
use Rattle.driver_ends.specs.declared.put_target.PutKind.{PutKind}
use Rattle.driver_ends.specs.Ends.{outlet_as_made, put_as_made}
use Rattle.driver_ends.specs.Outlets.{OutletState, new_outlet}
use Rattle.driver_ends.specs.Targets.{TargetState}
use Rattle.driver_loop.specs.declared.target.Target.TheVariants.{Put}
use Rattle.net_parts.proofs.SeatLemmas.{IsNewPut, edge_of}

abbrev pub new_target : PutKind → List GatherPutState → TargetState
new_target kind seats = record { kind = kind; outlets = map new_outlet seats; waiting = None; is_told = false }

outlets_new : (seats : List GatherPutState) → All IsNewPut seats → map outlet_as_made (map new_outlet seats) ≡ map new_outlet seats
outlets_new [] fresh = refl
outlets_new (seat ∷ seats) fresh =
    let own = All-head IsNewPut seat seats fresh in
    let rest = outlets_new seats (All-tail IsNewPut seat seats fresh) in
    λ i. new_outlet (sym own i) ∷ rest i

pub put_new : (t : TargetState) (kind : PutKind) (seats : List GatherPutState) → t ≡ new_target kind seats → All IsNewPut seats → Put (put_as_made t) ≡ Put t
put_new t kind seats is fresh =
    ap (λ (s : TargetState). Put (put_as_made s)) is
    ∙ ap (λ (outlets : List OutletState). Put (record { kind = kind; outlets = outlets; waiting = None; is_told = false })) (outlets_new seats fresh)
    ∙ sym (ap Put is)

outlet_edges : (seats : List GatherPutState) → map (λ (outlet : OutletState). outlet.seat.edge) (map new_outlet seats) ≡ map edge_of seats
outlet_edges [] = refl
outlet_edges (seat ∷ seats) = ap (λ (es : List EdgeId). seat.edge ∷ es) (outlet_edges seats)

pub put_edges : (t : TargetState) (kind : PutKind) (seats : List GatherPutState) → t ≡ new_target kind seats → map (λ (outlet : OutletState). outlet.seat.edge) t.outlets ≡ map edge_of seats
put_edges t kind seats is = ap (λ (s : TargetState). map (λ (outlet : OutletState). outlet.seat.edge) s.outlets) is ∙ outlet_edges seats

pub same_edges : (f g : ℕ → EdgeId) (numbers : List ℕ) → ((n : ℕ) → f n ≡ g n) → map f numbers ≡ map g numbers
same_edges f g [] same = refl
same_edges f g (n ∷ numbers) same = λ i. same n i ∷ same_edges f g numbers same i
