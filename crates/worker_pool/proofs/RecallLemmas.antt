-- A take from the queue: who was taken, and who still waits, are those that waited.
use Rattle.std.proofs.Common.{◌≡◌, ℕ, zero, suc, ◌+◌, ◌<◌, List, [], ◌∷◌, Bool, slice_get, Some, sym, arith, subst}
use Rattle.std.specs.Prelude.{flat_map, sum_by}
use Rattle.std.specs.List.{remove}
use Rattle.std.proofs.lemmas.List.Sums.{sum_by-append, sum_by-remove, sum_by_push}
use Rattle.std.proofs.lemmas.Option.{get_or_from_slice_get, slice_get_within}
use Rattle.feedback_queue.specs.declared.level.Entry.{Entry}
use Rattle.feedback_queue.specs.Levels.{LevelState}
use Rattle.feedback_queue.specs.Queue.{FeedbackState, IsTaken, all_waiting, changed_at, gave_turn, waiting_at}
use Rattle.worker_pool.specs.Items.{PlacedItem}
use Rattle.worker_pool.specs.Pools.{PoolState, weigh, with_returned}

module _ {W : Type 0} (h : Entry W → ℕ) where
  in_level : (entries : List (Entry W)) (place : ℕ) (e : Entry W) → slice_get entries place ≡ Some e → sum_by h (remove entries place) + h e ≡ sum_by h entries
  in_level entries place e there =
      subst (λ x. sum_by h (remove entries place) + h x ≡ sum_by h entries) (get_or_from_slice_get entries place e e there)
      (sum_by-remove h entries place e (slice_get_within entries place e there))

  in_levels : (levels : List (LevelState W)) (level place : ℕ) (e : Entry W) → slice_get (waiting_at levels level) place ≡ Some e
      → sum_by h (flat_map (λ l. l.waiting) (changed_at level (gave_turn place) levels)) + h e ≡ sum_by h (flat_map (λ l. l.waiting) levels)
  in_levels [] level place e there = absurd (cc)
  in_levels (l ∷ ls) zero place e there =
      omega (arith, sum_by-append h (remove l.waiting place) (flat_map (λ k. k.waiting) ls), sum_by-append h l.waiting (flat_map (λ k. k.waiting) ls), in_level l.waiting place e there)
  in_levels (l ∷ ls) (suc level) place e there =
      omega (arith, sum_by-append h l.waiting (flat_map (λ k. k.waiting) (changed_at level (gave_turn place) ls)), sum_by-append h l.waiting (flat_map (λ k. k.waiting) ls), in_levels ls level place e there)

  still_wait : (old new : FeedbackState W) (taken : ℕ × W) → IsTaken old taken new
      → sum_by h (all_waiting new) + h (record { work = taken.0; waiter = taken.1 }) ≡ sum_by h (all_waiting old)
  still_wait old new taken is =
      subst (λ levels. sum_by h (flat_map (λ l. l.waiting) levels) + h (record { work = taken.0; waiter = taken.1 }) ≡ sum_by h (all_waiting old)) (sym is.is_given)
      (in_levels old.levels is.pick.level is.pick.place (record { work = taken.0; waiter = taken.1 }) is.there)

-- who is taken and kept is still in the pool
pub kept_weighs : {T : Type 0} (has_failed : T → Bool) (pool : PoolState T) (ready : FeedbackState (PlacedItem T)) (taken : ℕ × PlacedItem T) → IsTaken pool.ready taken ready
    → (h : PlacedItem T → ℕ) → weigh h (with_returned has_failed taken.1 (record pool { ready = ready })) ≡ weigh h pool
kept_weighs has_failed pool ready taken is h =
    omega (arith, sum_by_push h pool.returned taken.1, still_wait (λ e. h e.waiter) pool.ready ready taken is)

-- one fewer waits
pub fewer_wait : {W : Type 0} (old new : FeedbackState W) (taken : ℕ × W) → IsTaken old taken new → sum_by (λ _. 1) (all_waiting new) < sum_by (λ _. 1) (all_waiting old)
fewer_wait old new taken is = omega (arith, still_wait (λ _. 1) old new taken is)
