-- What comes out of a pool.
use Rattle.std.specs.Prelude.{◌≡◌, ℕ, List, Bool, true, false, not, All, Some, length, take, slice_get}
use Rattle.std.specs.List.{AllZip}
use Rattle.worker_pool.specs.declared.end.RunEnd.{RunEnd}
use Rattle.worker_pool.specs.declared.end.RunEnd.TheVariants.{Finished, Failed, Stuck}

-- the item at this place passes
abbrev pub PassesAt : {T : Type 0} → (T → Bool) → List T → ℕ → Type 0
PassesAt {T} test items place = (item : T) × (slice_get items place ≡ Some item) × (test item ≡ true)

-- all are finished, one has failed, or none has and one is not finished
abbrev pub IsEnd : {T : Type 0} → (T → Bool) → (T → Bool) → List T → RunEnd → Type 0
IsEnd is_finished has_failed items Finished = All (λ item. is_finished item ≡ true) items
IsEnd is_finished has_failed items (Failed place) = PassesAt has_failed items place
IsEnd is_finished has_failed items (Stuck place) = All (λ item. has_failed item ≡ false) items × PassesAt (λ item. not (is_finished item)) items place

-- turns have made the items of the first of those that came, one for one
abbrev pub AreFirst : {T : Type 0} → (T → T → Type 0) → List T → List T → Type 0
AreFirst follows came items = AllZip follows (take (length items) came) items
