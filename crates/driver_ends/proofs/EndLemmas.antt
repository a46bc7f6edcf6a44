-- What a driver knows of its target and its source: their Bools, their looks, and the rows that a source handed on.
use Rattle.std.proofs.Common.{◌≡◌, ℕ, zero, suc, ◌+◌, ◌<◌, List, [], ◌∷◌, Bool, true, false, Option, Some, None, Result, Ok, Err, cond, length, get_or, take, map, refl, sym, ap, ◌∙◌, ◌≤◌, arith, append-nil, subst, ◌⊎◌, inl, inr}
use Rattle.std.specs.Prelude.{All, IfOk, IfNone, IfSome, IsOk, IsSome, MatchOption, OnOk, not, ◌&&◌, ◌||◌, find, is_none, nat_eq, nat_lt, sum_by}
use Rattle.std.specs.Bool.{Decides}
use Rattle.std.specs.List.{list_all}
use Rattle.std.proofs.lemmas.Bool.{lt-ltb, true≢false}
use Rattle.std.proofs.lemmas.List.Elements.{All-head, All-tail}
use Rattle.std.proofs.lemmas.List.Folds.{fold-map}
use Rattle.std.proofs.lemmas.List.Sums.{AllPass-from_list_all, list_all-from_AllPass}
use Rattle.col_pages.specs.Pages.{TypedPage}
use Rattle.sql_values.specs.declared.memory.Memory.{Memory}
use Rattle.blocked.specs.declared.blocked_on.BlockedOn.{BlockedOn}
use Rattle.output_buffer.specs.Edges.{end_count}
use Rattle.output_buffer.specs.declared.piece.Piece.{Piece}
use Rattle.output_buffer.specs.Seats.{GatherPutState, new_gather_put, rows_of_pieces}
use Rattle.stage_moves.specs.Looks.{HasWaited}
use Rattle.driver_ends.specs.Ends.{count_of, first_waiting, is_clear, is_through, outlet_as_made, space_of, put_as_made, put_finished, put_looks, put_wants}
use Rattle.driver_ends.specs.Outlets.{IsClear, IsStuck, IsThrough, OutletKept, OutletState, new_outlet, outlet_kept}
use Rattle.driver_ends.specs.Sources.{HoldsLast}
use Rattle.driver_ends.specs.Targets.{AreThrough, HasStuckOutlet, IsFinished, TargetState, Wants, dues_of, fulls_of, may_end}
use Rattle.driver_ends.proofs.TargetLemmas.{same_by}

-- ---- Bools

not_decides : (b : Bool) → Decides (not b) (b ≡ false)
not_decides true = (λ e. absurd (true≢false (sym e)), λ e. absurd (true≢false e))
not_decides false = (λ e. refl, λ e. refl)

none_decides : {X : Type 0} (o : Option X) → Decides (is_none o) (o ≡ None)
none_decides None = (λ e. refl, λ e. refl)
none_decides (Some x) = (λ e. absurd (true≢false (sym e)), λ e. cc)

and_decides : {P Q : Type 0} (a b : Bool) → Decides a P → Decides b Q → Decides (a && b) (P × Q)
and_decides true b p q = (λ e. (p.0 refl, q.0 e), λ h. q.1 h.1)
and_decides false b p q = (λ e. absurd (true≢false (sym e)), λ h. p.1 h.0)

each_decides : {X : Type 0} (p : X → Bool) (P : X → Type 0) → ((x : X) → Decides (p x) (P x)) → (xs : List X) → Decides (list_all p xs) (All P xs)
each_decides p P each xs =
    (λ e k d less. (each (get_or xs k d)).0 (AllPass-from_list_all p xs e k d less), λ all. list_all-from_AllPass p xs (λ k d less. (each (get_or xs k d)).1 (all k d less)))

through_from : (told : Bool) (held : Option TypedPage) (ends : ℕ) → (is_none held && (not told || nat_lt 0 ends)) ≡ true → (held ≡ None) × (told ≡ true → 0 < ends)
through_from told (Some page) ends e = absurd (true≢false (sym e))
through_from true None zero e = absurd (true≢false (sym e))
through_from true None (suc n) e = (refl, λ is. omega arith)
through_from false None ends e = (refl, λ is. absurd (true≢false (sym is)))

through_to : (told : Bool) (held : Option TypedPage) (ends : ℕ) → held ≡ None → (told ≡ true → 0 < ends) → (is_none held && (not told || nat_lt 0 ends)) ≡ true
through_to told (Some page) ends clear ended = cc
through_to false None ends clear ended = refl
through_to true None ends clear ended = lt-ltb 0 ends (ended refl)

pub through_decides : (told : Bool) (outlet : OutletState) → Decides (is_through told outlet) (IsThrough told outlet)
through_decides told outlet =
    let ends = end_count outlet.seat.put in
    (λ e. let t = through_from told outlet.held ends e in record { clear = t.0; ended = t.1 }, λ t. through_to told outlet.held ends t.clear t.ended)

pub wants_decides : (t : TargetState) → Decides (put_wants t) (Wants t)
wants_decides t =
    let d = and_decides (not t.is_told) (list_all is_clear t.outlets) (not_decides t.is_told) (each_decides is_clear IsClear (λ o. none_decides o.held) t.outlets) in
    (λ e. let w = d.0 e in record { going = w.0; clear = w.1 }, λ w. d.1 (w.going, w.clear))

pub finished_decides : (t : TargetState) → Decides (put_finished t) (IsFinished t)
finished_decides t =
    let last = and_decides t.is_told (is_none t.waiting) (λ e. e, λ e. e) (none_decides t.waiting) in
    let d = and_decides (may_end t) (list_all (is_through true) t.outlets) last (each_decides (is_through true) (IsThrough true) (through_decides true) t.outlets) in
    (λ e. let f = d.0 e in record { told = f.0.0; none = f.0.1; through = f.1 }, λ f. d.1 ((f.told, f.none), f.through))

-- where Ends may be put it is finished once all are put, and else it is not
pub finished_where : (t : TargetState) (ends : Bool) → may_end t ≡ true → Decides ends (All (IsThrough true) t.outlets) → Decides ends (IsFinished t)
finished_where t ends may d =
    let last = (and_decides t.is_told (is_none t.waiting) (λ e. e, λ e. e) (none_decides t.waiting)).0 may in
    (λ e. record { told = last.0; none = last.1; through = d.0 e }, λ f. d.1 f.through)

-- ---- what is known of a target

-- a target is as it was made where its outlets are
made_with : (old new : TargetState) → new.kind ≡ old.kind → map outlet_as_made new.outlets ≡ map outlet_as_made old.outlets → put_as_made new ≡ put_as_made old
made_with old new kind each = λ i. record { kind = kind i; outlets = each i; waiting = None; is_told = false }

pub kept_made : (told : Bool) (old new : TargetState) → new.kind ≡ old.kind → map (outlet_kept told) new.outlets ≡ map (outlet_kept told) old.outlets →
    put_as_made new ≡ put_as_made old
kept_made told old new kind kept =
    made_with old new kind (same_by (λ (k : OutletKept). new_outlet (new_gather_put k.edge k.number)) (outlet_kept told) new.outlets old.outlets kept)

pub seats_made : (old new : TargetState) → new.kind ≡ old.kind → map (λ (l : OutletState). l.seat) new.outlets ≡ map (λ (l : OutletState). l.seat) old.outlets →
    put_as_made new ≡ put_as_made old
seats_made old new kind seats =
    made_with old new kind (same_by (λ (s : GatherPutState). new_outlet (new_gather_put s.edge s.number)) (λ (l : OutletState). l.seat) new.outlets old.outlets seats)

-- what a sum over the seats says is the same where the seats are
sum_of_seats : (f : GatherPutState → ℕ) (old new : List OutletState) → map (λ (l : OutletState). l.seat) new ≡ map (λ (l : OutletState). l.seat) old →
    sum_by (λ (l : OutletState). f l.seat) new ≡ sum_by (λ (l : OutletState). f l.seat) old
sum_of_seats f old new seats =
    let over : (xs : List OutletState) → sum_by f (map (λ (l : OutletState). l.seat) xs) ≡ sum_by (λ (l : OutletState). f l.seat) xs = λ xs. fold-map (λ n s. n + f s) (λ (l : OutletState). l.seat) 0 xs in
    sym (over new) ∙ ap (sum_by f) seats ∙ over old

pub same_fulls : (old new : List OutletState) → map (λ (l : OutletState). l.seat) new ≡ map (λ (l : OutletState). l.seat) old → fulls_of new ≡ fulls_of old
same_fulls old new seats = sum_of_seats (λ (s : GatherPutState). s.fulls) old new seats

pub same_dues : (old new : List OutletState) (bell : ℕ) → map (λ (l : OutletState). l.seat) new ≡ map (λ (l : OutletState). l.seat) old → dues_of new bell ≡ dues_of old bell
same_dues old new bell seats = sum_of_seats (λ (s : GatherPutState). cond (nat_eq bell s.edge.bells.piece) (length s.put) 0) old new seats

-- the first outlet that is not through
found_first : (told : Bool) (outlets : List OutletState) (place : ℕ) (d : OutletState) → place < length outlets → All (IsThrough told) (take place outlets) →
    is_through told (get_or outlets place d) ≡ false → find (λ outlet. not (is_through told outlet)) outlets ≡ Some (get_or outlets place d)
found_first told [] place d less before going = absurd (omega (arith, less))
found_first told (x ∷ xs) zero d less before going = ap (λ b. cond (not b) (Some x) (find (λ outlet. not (is_through told outlet)) xs)) going
found_first told (x ∷ xs) (suc place) d less before going =
    ap (λ b. cond (not b) (Some x) (find (λ outlet. not (is_through told outlet)) xs)) ((through_decides told x).1 (All-head (IsThrough told) x (take place xs) before))
    ∙ found_first told xs place d (omega (arith, less)) (All-tail (IsThrough told) x (take place xs) before) going

going_at : (told : Bool) (held : Option TypedPage) (ends : ℕ) → IsSome held ⊎ ((told ≡ true) × (ends ≡ 0)) → (is_none held && (not told || nat_lt 0 ends)) ≡ false
going_at told (Some page) ends left = refl
going_at told None ends (inl some) = absurd (true≢false (sym some))
going_at told None ends (inr h) = (λ i. not (h.0 i) || nat_lt 0 (h.1 i))

-- a stuck outlet is not through
pub stuck_going : (told : Bool) (old new : OutletState) (on : BlockedOn) → IsStuck told old new on → is_through told new ≡ false
stuck_going told old new on stuck = going_at told new.held (end_count new.seat.put) stuck.left

-- a target that is stuck looked in vain, with the count that it names
pub stuck_waited : (old new : TargetState) (shown : ℕ → ℕ → Type 0) (on : BlockedOn) → HasStuckOutlet (may_end new) old.outlets new.outlets on → shown on.bell on.seen →
    HasWaited (put_looks old) (put_looks new) shown on
stuck_waited old new shown on s seen =
    let told = may_end new in
    let going : is_through told (get_or new.outlets s.place s.after) ≡ false = ap (is_through told) (sym s.is) ∙ stuck_going told s.before s.after on s.stuck in
    let first : first_waiting new ≡ Some s.after = found_first told new.outlets s.place s.after s.there s.first going ∙ ap Some (sym s.is) in
    record {
      looked = s.full;
      bell = s.stuck.bell ∙ sym (ap space_of first);
      seen = seen;
      handed = ap count_of first ∙ sym s.stuck.seen;
      unrung = s.stuck.waits;
    }

-- so it did where what it found full before does not count
pub waited_later : (old mid new : TargetState) (shown : ℕ → ℕ → Type 0) (on : BlockedOn) → fulls_of old.outlets ≤ fulls_of mid.outlets →
    HasWaited (put_looks mid) (put_looks new) shown on → HasWaited (put_looks old) (put_looks new) shown on
waited_later old mid new shown on more waited = record {
  looked = omega (arith, waited.looked, more);
  bell = waited.bell;
  seen = waited.seen;
  handed = waited.handed;
  unrung = waited.unrung;
}

-- ---- a target that is through

-- one with no rows to spread is finished where it was told to finish, and takes a page where it was not
pub through_finished : (t : TargetState) → AreThrough t → t.waiting ≡ None → t.is_told ≡ true → put_finished t ≡ true
through_finished t through none told =
    let may : may_end t ≡ true = (λ i. told i && is_none (none i)) in
    (finished_decides t).1 (record { told = told; none = none; through = subst (λ b. All (IsThrough b) t.outlets) may through })

pub through_wants : (t : TargetState) → AreThrough t → t.is_told ≡ false → put_wants t ≡ true
through_wants t through untold = (wants_decides t).1 (record { going = untold; clear = λ k d less. (through k d less).clear })

-- what is not to be spread does not wait
pub none_due : {X : Type 0} (due : Bool) (waiting : Option X) → due ≡ false → (IsSome waiting → due ≡ true) → waiting ≡ None
none_due due None is last = refl
none_due due (Some x) is last = absurd (true≢false (sym (last refl) ∙ is))

-- ---- answers of a look

pub where_ok : {X E P : Type 0} (r : Result X E) → OnOk r P → IsOk r → P
where_ok (Ok x) holds ok = holds
where_ok (Err e) holds ok = absurd (true≢false (sym ok))

pub some_after : (P : Type 0) (Q W : BlockedOn → Type 0) (r : Result (Option BlockedOn) Memory) → IfOk r (λ o. MatchOption o P Q) → ((on : BlockedOn) → Q on → W on) → IfOk r (λ o. IfSome o W)
some_after P Q W (Ok None) answer f = tt
some_after P Q W (Ok (Some on)) answer f = f on answer
some_after P Q W (Err e) answer f = tt

pub none_after : (P W : Type 0) (Q : BlockedOn → Type 0) (r : Result (Option BlockedOn) Memory) → IfOk r (λ o. MatchOption o P Q) → (P → W) → IfOk r (λ o. IfNone o W)
none_after P W Q (Ok None) answer f = f answer
none_after P W Q (Ok (Some on)) answer f = tt
none_after P W Q (Err e) answer f = tt

-- with no page in the inbox all rows were handed on
pub none_left : (took : List Piece) → HoldsLast took None
none_left took = record { before = rows_of_pieces took; whole = sym (append-nil (rows_of_pieces took)) }
