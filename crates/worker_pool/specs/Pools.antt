-- A pool: who is ready for a turn, and what a pick and a put make of it.
use Rattle.std.specs.Prelude.{◌≡◌, ◌⊎◌, ℕ, ◌+◌, ◌-◌, List, [], ◌∷◌, ◌++◌, Bool, true, false, ◌||◌, if◌then◌else◌, Option, Some, None, is_some, sum_by}
use Rattle.count_laws.specs.Counts.{next_count}
use Rattle.feedback_queue.specs.Queue.{FeedbackState, IsTaken, after_offer, all_waiting}
use Rattle.worker_pool.specs.declared.pool.Next.{Next}
use Rattle.worker_pool.specs.declared.pool.Next.TheVariants.{Turn, Wait, Over}
use Rattle.worker_pool.specs.Items.{PlacedItem, Waiting}

-- who is ready, who came back, how many are having a turn, who failed first, and whether one was given up for want of memory
pub record PoolState (T : Type 0) : Type 0 where
  pub ready : FeedbackState (PlacedItem T)
  pub returned : List (PlacedItem T)
  pub at_work : ℕ
  pub first_failed : Option ℕ
  pub is_short : Bool

-- what those that are ready, and those that came back, weigh together, whatever each weighs
abbrev pub weigh : {T : Type 0} → (PlacedItem T → ℕ) → PoolState T → ℕ
weigh h pool = sum_by (λ e. h e.waiter) (all_waiting pool.ready) + sum_by h pool.returned

-- no more turns are given
abbrev pub stops : {T : Type 0} → PoolState T → Bool
stops pool = is_some pool.first_failed || pool.is_short

-- with one more, by the work that was done for it
abbrev pub offered : {T : Type 0} → (T → ℕ) → PlacedItem T → PoolState T → PoolState T
offered work x pool = record pool { ready = after_offer (work x.item) x pool.ready }

-- with all who waited, in their order
abbrev pub all_offered : {T : Type 0} → (T → ℕ) → List (Waiting T) → PoolState T → PoolState T
all_offered work [] pool = pool
all_offered work (w ∷ ws) pool = all_offered work ws (offered work w.runner pool)

-- one fewer is having a turn
abbrev pub left_work : {T : Type 0} → PoolState T → PoolState T
left_work pool = record pool { at_work = pool.at_work - 1 }

-- one was given up for want of memory
abbrev pub fell_short : {T : Type 0} → PoolState T → PoolState T
fell_short pool = record pool { is_short = true }

-- who failed first, where one more came back
abbrev pub first_of : Option ℕ → Bool → ℕ → Option ℕ
first_of (Some first) failed place = Some first
first_of None false place = None
first_of None true place = Some place

-- with one who came back
abbrev pub with_returned : {T : Type 0} → (T → Bool) → PlacedItem T → PoolState T → PoolState T
with_returned has_failed x pool = record pool {
  returned = pool.returned ++ x ∷ [];
  first_failed = first_of pool.first_failed (has_failed x.item) x.place;
}

-- with one that comes: it is ready, unless it needs no turn
abbrev pub admitted : {T : Type 0} → (T → ℕ) → (T → Bool) → (T → Bool) → PlacedItem T → PoolState T → PoolState T
admitted work is_finished has_failed x pool = if is_finished x.item || has_failed x.item then with_returned has_failed x pool else offered work x pool

-- with all that come, numbered from a place on
abbrev pub all_admitted : {T : Type 0} → (T → ℕ) → (T → Bool) → (T → Bool) → ℕ → List T → PoolState T → PoolState T
all_admitted work is_finished has_failed place [] pool = pool
all_admitted work is_finished has_failed place (item ∷ items) pool =
    all_admitted work is_finished has_failed (place + 1) items (admitted work is_finished has_failed (record { place = place; item = item }) pool)

-- with all who waited for a ring that never came
abbrev pub all_returned : {T : Type 0} → (T → Bool) → List (Waiting T) → PoolState T → PoolState T
all_returned has_failed [] pool = pool
all_returned has_failed (w ∷ ws) pool = all_returned has_failed ws (with_returned has_failed w.runner pool)

-- The one that the queue picks has a turn. One waits only while another is having a turn, who may make one ready.
-- It is over where no more turns are given, or nobody can make one ready.
abbrev pub IsPicked : {T : Type 0} → PoolState T → Next (PlacedItem T) → PoolState T → Type 0
IsPicked old (Turn x turn) new =
    (stops old ≡ false)
    × ((work : ℕ) × IsTaken old.ready (work, x) new.ready)
    × (new ≡ record old { ready = new.ready; at_work = next_count old.at_work })
IsPicked old Wait new = (new ≡ old) × (stops old ≡ false) × (all_waiting old.ready ≡ []) × (old.at_work ≡ 0 → ⊥)
IsPicked old Over new = (new ≡ old) × ((stops old ≡ true) ⊎ ((all_waiting old.ready ≡ []) × (old.at_work ≡ 0)))
