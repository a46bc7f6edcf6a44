-- Targets over edges, as they are seen.
use Rattle.std.specs.Prelude.{◌≡◌, ℕ, ◌<◌, ◌⊎◌, ◌++◌, ◌&&◌, List, [], ◌∷◌, Bool, true, false, All, Option, Some, None, get_or, is_none, length, map, nat_lt, replicate, slice_index_or, sum_by, take}
use Rattle.std.specs.List.{range_with_len}
use Rattle.sql_values.specs.declared.value.Value.{Value}
use Rattle.count_laws.specs.Counts.{Rose}
use Rattle.blocked.specs.declared.blocked_on.BlockedOn.{BlockedOn}
use Rattle.bag_laws.specs.Buckets.{key_bucket, of_bucket}
use Rattle.col_pages.specs.Pages.{TypedPage}
use Rattle.output_buffer.specs.Edges.{end_count}
use Rattle.output_buffer.specs.Seats.{GatherPutState, rows_of_pieces}
use Rattle.driver_ends.specs.declared.put_target.PutKind.{PutKind}
use Rattle.driver_ends.specs.declared.put_target.PutKind.TheVariants.{One, Each, Hash}
use Rattle.driver_ends.specs.Outlets.{IsClear, IsStuck, IsThrough, OutletInOrder, OutletState, outlet_dues, rows_of_held, rows_sent}

-- how it spreads its rows, its outlets, the rows that wait to be spread, and whether it was told to finish
pub record TargetState : Type 0 where
  pub kind : PutKind
  pub outlets : List OutletState
  pub waiting : Option TypedPage
  pub is_told : Bool

-- rows wait first where they are spread over several edges by bucket
abbrev pub may_wait : PutKind → ℕ → Bool
may_wait One outlets = false
may_wait Each outlets = false
may_wait (Hash by) outlets = nat_lt 1 outlets

-- no page comes any more and no rows wait, so that Ends may be put
abbrev pub may_end : TargetState → Bool
may_end t = t.is_told && is_none t.waiting

-- how many outlets a target of this kind has
abbrev pub FitsKind : PutKind → ℕ → Type 0
FitsKind One outlets = outlets ≡ 1
FitsKind Each outlets = 0 < outlets
FitsKind (Hash by) outlets = outlets ≡ by.parts

-- what each of so many outlets has of some rows: all of them, or those of its bucket, in their order
abbrev pub sent_to : PutKind → ℕ → List (List Value) → List (List (List Value))
sent_to One outlets rows = replicate outlets rows
sent_to Each outlets rows = replicate outlets rows
sent_to (Hash by) outlets rows = map (λ k. of_bucket (key_bucket by.parts by.columns) k rows) (range_with_len 0 outlets)

-- each list with what is put behind it
abbrev pub add_each : {X : Type 0} → List (List X) → List (List X) → List (List X)
add_each [] more = []
add_each (xs ∷ lists) [] = xs ∷ lists
add_each (xs ∷ lists) (ys ∷ more) = (xs ++ ys) ∷ add_each lists more

-- these are the rows that it was given: of those that do not wait, each outlet sent, or holds, what it has of them
pub record HasSent (t : TargetState) (given : List (List Value)) : Type 0 where
  pub spread : List (List Value)
  pub whole : given ≡ spread ++ rows_of_held t.waiting
  pub sent : map rows_sent t.outlets ≡ sent_to t.kind (length t.outlets) spread

-- what a target keeps in every state: it has the outlets of its kind, rows wait only where they may, no End is
-- put before it was told to finish, none while rows wait, none before a page that is held, and no page without rows
pub record KeepsTarget (t : TargetState) : Type 0 where
  pub fits : FitsKind t.kind (length t.outlets)
  pub waits : may_wait t.kind (length t.outlets) ≡ false → t.waiting ≡ None
  pub early : may_end t ≡ false → All (λ outlet. end_count outlet.seat.put ≡ 0) t.outlets
  pub order : All OutletInOrder t.outlets

pub record Wants (t : TargetState) : Type 0 where
  pub going : t.is_told ≡ false
  pub clear : All IsClear t.outlets

-- every outlet put all that it may
abbrev pub AreThrough : TargetState → Type 0
AreThrough t = All (IsThrough (may_end t)) t.outlets

-- it was told to finish, no rows wait, it holds no page, and put every End
pub record IsFinished (t : TargetState) : Type 0 where
  pub told : t.is_told ≡ true
  pub none : t.waiting ≡ None
  pub through : All (IsThrough true) t.outlets

abbrev pub dues_of : List OutletState → ℕ → ℕ
dues_of outlets bell = sum_by (λ outlet. outlet_dues outlet bell) outlets

-- how often this bell was to be rung for what it put
abbrev pub dues : TargetState → ℕ → ℕ
dues t bell = dues_of t.outlets bell

-- how often its puts found an edge full
abbrev pub fulls_of : List OutletState → ℕ
fulls_of outlets = sum_by (λ outlet. outlet.seat.fulls) outlets

-- one of its outlets is stuck, and those before it put all that they may
pub record HasStuckOutlet (told : Bool) (old new : List OutletState) (on : BlockedOn) : Type 0 where
  pub place : ℕ
  pub before : OutletState
  pub after : OutletState
  pub there : place < length new
  pub was : before ≡ get_or old place before
  pub is : after ≡ get_or new place after
  pub first : All (IsThrough told) (take place new)
  pub stuck : IsStuck told before after on
  pub full : Rose (fulls_of old) (fulls_of new)

-- each outlet put all that it may, or found its edge full
abbrev pub HaveTried : Bool → List OutletState → List OutletState → Type 0
HaveTried told old new = (place : ℕ) (d : OutletState) → place < length new
    → IsThrough told (get_or new place d) ⊎ ((on : BlockedOn) × IsStuck told (get_or old place d) (get_or new place d) on)

abbrev pub earlier : Option BlockedOn → Option BlockedOn → Option BlockedOn
earlier None on = on
earlier (Some first) on = Some first

-- what a seat put is what it has of the first of some rows
pub record HasPutFirst (kind : PutKind) (outlets place : ℕ) (given : List (List Value)) (seat : GatherPutState) : Type 0 where
  pub first : List (List Value)
  pub rest : List (List Value)
  pub whole : given ≡ first ++ rest
  pub put : rows_of_pieces seat.put ≡ slice_index_or (sent_to kind outlets first) place []

-- so it is of each of some seats
abbrev pub HavePutFirst : PutKind → List (List Value) → List GatherPutState → Type 0
HavePutFirst kind given seats =
    (place : ℕ) (seat : GatherPutState) → place < length seats → seat ≡ get_or seats place seat →
    HasPutFirst kind (length seats) place given seat

-- seats that put all that they were given, and their Ends
pub record HavePutAll (kind : PutKind) (given : List (List Value)) (seats : List GatherPutState) : Type 0 where
  pub rows : map (λ seat. rows_of_pieces seat.put) seats ≡ sent_to kind (length seats) given
  pub ends : All (λ seat. 0 < end_count seat.put) seats
