-- What a step of a fetch gives.
use Rattle.std.specs.Prelude.{◌≡◌, ℕ, ◌+◌, ◌-◌, ◌%◌, ◌<◌, ◌≤◌, ◌++◌, ◌∷◌, List, [], length, drop, min, nat_le, true, Bool, Option, Some, None, slice_get, if◌then◌else◌}
use Rattle.col_pages.specs.Pages.{TypedPage}
use Rattle.count_laws.specs.Counts.{Rose}
use Rattle.run_ports.specs.Delivering.{IfMissed}
use Rattle.run_ports.specs.declared.courier.Delivery.{Delivery}
use Rattle.run_ports.specs.declared.courier.Delivery.TheVariants.{Fresh, Again, Nothing}
use Rattle.exchange_client.specs.Clients.{KeptValue, given_away, pages_given, client_after, is_next}
use Rattle.exchange_client.specs.Fetches.{FetchState, prepared, fresh_of}

-- after so many steps in a row without an accepted reply the courier is not asked
abbrev pub most_fruitless : ℕ
most_fruitless = 64

-- how many replies are kept
abbrev pub most_kept : ℕ
most_kept = 8

-- the reply so many places behind the latest, counted round; none where none is kept
abbrev pub behind_latest : ℕ → List KeptValue → Option KeptValue
behind_latest k kept = slice_get kept (length kept - 1 - k % length kept)

-- what arrives: the fresh reply, one of those that were kept before, or none
abbrev pub arriving : Delivery → List KeptValue → KeptValue → Option KeptValue
arriving Fresh kept fresh = Some fresh
arriving (Again k) kept fresh = behind_latest k kept
arriving Nothing kept fresh = None

-- the latest of these replies
abbrev pub latest : List KeptValue → List KeptValue
latest kept = drop (length kept - most_kept) kept

-- whether so many steps were fruitless that the fresh reply is due
abbrev pub is_due : FetchState → Bool
is_due f = nat_le most_fruitless f.fruitless

-- what a courier delivers, and its counts of missed turns; it is not asked where the fresh reply is due
pub record IsDelivered (due : Bool) (delivery : Delivery) (old new : ℕ) : Type 0 where
  pub later : old ≤ new
  pub cause : IfMissed delivery (Rose old new)
  pub unasked : due ≡ true → (delivery ≡ Fresh) × (new ≡ old)

-- a fetch at the beginning of a step, which is counted as fruitless until a reply is accepted
abbrev pub begun : FetchState → FetchState
begun f = record (prepared f) { fruitless = min (f.fruitless + 1) most_fruitless }

-- a fresh reply as it is kept: without its pages where it is delivered at once, since the client then takes them
abbrev pub kept_of : Delivery → KeptValue → KeptValue
kept_of Fresh fresh = given_away fresh
kept_of (Again k) fresh = fresh
kept_of Nothing fresh = fresh

-- a fetch that keeps the fresh reply, once so many turns were missed
abbrev pub delivered : Delivery → FetchState → ℕ → FetchState
delivered d f missed = record f { kept = latest (f.kept ++ kept_of d (fresh_of f) ∷ []); missed = missed }

-- a fetch once its client took what arrived
abbrev pub taken : FetchState → Option KeptValue → FetchState
taken f arrived = record f {
  client = client_after f.client arrived;
  fruitless = if is_next f.client arrived then 0 else f.fruitless;
}

-- a delivery lets this arrive
pub record HasArrived (due : Bool) (f : FetchState) (arrived : Option KeptValue) (new : FetchState) : Type 0 where
  pub delivery : Delivery
  pub asked : IsDelivered due delivery f.missed new.missed
  pub which : arrived ≡ arriving delivery f.kept (fresh_of f)
  pub after : new ≡ delivered delivery f new.missed

-- a step from a fetch that began it: what arrives, the fetch that keeps the fresh reply, the pages that the step gives,
-- and the fetch afterwards
pub record HasStepped (due : Bool) (f : FetchState) (pages : List TypedPage) (new : FetchState) : Type 0 where
  pub arrived : Option KeptValue
  pub between : FetchState
  pub arrives : HasArrived due f arrived between
  pub given : pages ≡ pages_given f.client arrived
  pub after : new ≡ taken between arrived

-- a turn was missed, and not after too many fruitless steps
abbrev pub HasMissed : FetchState → FetchState → Type 0
HasMissed old new = (old.fruitless < most_fruitless) × Rose old.missed new.missed
