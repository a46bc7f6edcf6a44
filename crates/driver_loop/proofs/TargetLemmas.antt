-- What a target keeps while it is given rows, and at its end.
use Rattle.std.proofs.Common.{◌≡◌, [], ◌∷◌, ℕ, ◌+◌, List, Bool, true, false, Option, Some, None, refl, sym, ap, ◌∙◌, arith, cond, length, map, replicate, subst}
use Rattle.std.specs.Prelude.{All}
use Rattle.std.specs.List.{range_with_len}
use Rattle.std.proofs.lemmas.List.{length-map}
use Rattle.std.proofs.lemmas.List.FromFn.{length-range_with_len}
use Rattle.bag_laws.specs.Buckets.{key_bucket, of_bucket}
use Rattle.blocked.specs.Rings.{rings_at}
use Rattle.join_index.specs.Keys.{IndexedRows}
use Rattle.driver_loop.specs.declared.target.Target.{Target}
use Rattle.driver_loop.specs.declared.target.Target.TheVariants.{Result, Build, Put, Deal}
use Rattle.driver_ends.specs.declared.put_target.PutKind.{PutKind}
use Rattle.driver_ends.specs.declared.put_target.PutKind.TheVariants.{One, Each, Hash}
use Rattle.driver_ends.specs.Ends.{outlet_as_made, put_as_made}
use Rattle.driver_ends.specs.Outlets.{OutletState, rows_sent}
use Rattle.driver_ends.specs.Targets.{HasSent, TargetState, sent_to}
use Rattle.driver_loop.specs.BuildFilters.{BuildFilterState, IsFilterOf, IsPublishedPart, build_filter_made, parts_dues, parts_refused}
use Rattle.driver_loop.specs.Builds.{BuildState, IsHeldAs, IsPublishedAs, KnowsOwnDomains, KnowsOwnSource, build_dues, build_looks, build_made, build_made_or_lost}
use Rattle.driver_loop.specs.Ends.{target_finished, is_told, rows_given, target_made_or_lost, target_made, was_given}
use Rattle.driver_loop.specs.Seats.{KnowsEnds}
use Rattle.driver_loop.specs.Drivers.{IsBuiltAs}
use Rattle.driver_loop.specs.Turns.{filters_of}
use Rattle.driver_loop.proofs.BuildFilterLemmas.{all_made_start, all_made_twice}

made_twice : (outlets : List OutletState) → map outlet_as_made (map outlet_as_made outlets) ≡ map outlet_as_made outlets
made_twice [] = refl
made_twice (outlet ∷ outlets) = λ i. outlet_as_made outlet ∷ made_twice outlets i

made_kept : (t : Target) → target_made (target_made_or_lost t) ≡ target_made t
made_kept (Result result) = refl
made_kept (Build build) = ap (λ (filters : List BuildFilterState). Build (record (build_made build) { filters = filters })) (all_made_twice build.filters)
made_kept (Put put) = ap (λ (outlets : List OutletState). Put (record { kind = put.kind; outlets = outlets; waiting = None; is_told = false })) (made_twice put.outlets)
made_kept (Deal deal) = refl

pub kept_made : (t u : Target) → target_made_or_lost u ≡ target_made_or_lost t → target_made u ≡ target_made t
kept_made t u e = sym (made_kept u) ∙ ap target_made e ∙ made_kept t

-- of no rows each edge has none
map_none : {X Y : Type 0} (f : X → List Y) → ((x : X) → f x ≡ []) → (xs : List X) → map f xs ≡ replicate (length xs) []
map_none f none [] = refl
map_none f none (x ∷ xs) = λ i. none x i ∷ map_none f none xs i

none_sent : (kind : PutKind) (n : ℕ) → sent_to kind n [] ≡ replicate n []
none_sent One n = refl
none_sent Each n = refl
none_sent (Hash by) n = map_none (λ k. of_bucket (key_bucket by.parts by.columns) k []) (λ k. refl) (range_with_len 0 n) ∙ ap (λ m. replicate m []) (length-range_with_len 0 n)

made_sent : (outlets : List OutletState) → map rows_sent (map outlet_as_made outlets) ≡ replicate (length outlets) []
made_sent [] = refl
made_sent (outlet ∷ outlets) = λ i. [] ∷ made_sent outlets i

none_put : (put : TargetState) → Put (put_as_made put) ≡ Put put → HasSent put []
none_put put e =
    let same : put_as_made put ≡ put = cc in
    subst (λ (put : TargetState). HasSent put []) same (record {
      spread = [];
      whole = refl;
      sent = made_sent put.outlets ∙ ap (λ n. replicate n []) (sym (length-map put.outlets outlet_as_made)) ∙ sym (none_sent put.kind (length (map outlet_as_made put.outlets)));
    })

-- one that is as it was made was given no rows, and was not told to finish
pub made_given : (t : Target) → target_made t ≡ t → was_given t []
made_given (Result result) e = ap rows_given e
made_given (Build build) e = ap rows_given e
made_given (Put put) e = none_put put e
made_given (Deal deal) e = sym (ap rows_given e)

pub made_untold : (t : Target) → target_made t ≡ t → is_told t ≡ false
made_untold (Result result) e = sym (ap is_told e)
made_untold (Build build) e = sym (ap is_told e)
made_untold (Put put) e = sym (ap is_told e)
made_untold (Deal deal) e = sym (ap is_told e)

abbrev pub is_lost : Target → Bool
is_lost (Result result) = false
is_lost (Build build) = build.is_lost
is_lost (Put put) = false
is_lost (Deal deal) = false

lost_kept : (t : Target) → is_lost (target_made_or_lost t) ≡ is_lost t
lost_kept (Result result) = refl
lost_kept (Build build) = refl
lost_kept (Put put) = refl
lost_kept (Deal deal) = refl

lost_not : (over : Bool) (t : Target) → IsBuiltAs over t → is_lost t ≡ false
lost_not over (Result result) b = refl
lost_not over (Build build) b = b.0
lost_not over (Put put) b = refl
lost_not over (Deal deal) b = refl

-- a build that is not lost is published where it is done, and only there
published : (over : Bool) (build : BuildState) → KnowsOwnSource build → KnowsOwnDomains build → build.is_lost ≡ false → build.is_published ≡ over → IsBuiltAs over (Build build)
published true build kept domains whole e =
    let known = kept.known whole e in
    (whole, e, (λ x is first. (refl, (let same : Some x ≡ Some build.source = sym is ∙ known in cc))), (λ _. known), domains.each whole, (λ _. domains.all e))
published false build kept domains whole e = (
  whole,
  e,
  (λ x is first. absurd (let clash : Some x ≡ None = sym is ∙ kept.unknown whole e first in cc)),
  (λ clash. absurd (let c : false ≡ true = clash in cc)),
  domains.each whole,
  (λ clash. absurd (let c : false ≡ true = clash in cc)),
)

-- a target that was not lost, and was kept as it was made, is built as far as it is done
pub built_on : (over now : Bool) (t u : Target) → KnowsEnds u → target_made_or_lost u ≡ target_made_or_lost t → target_finished u ≡ now → IsBuiltAs over t → IsBuiltAs now u
built_on over now t (Result result) kept e done b = tt
built_on over now t (Build build) kept e done b = published now build kept.0 kept.1 (ap is_lost e ∙ lost_kept t ∙ lost_not over t b) done
built_on over now t (Put put) kept e done b = (done, λ is. kept (done ∙ is))
built_on over now t (Deal deal) kept e done b = (done, λ is. kept (done ∙ is))

-- what is said of the filters of a build
abbrev FiltersHold : Target → Type 0
FiltersHold (Result result) = Unit {0}
FiltersHold (Build build) = All (IsFilterOf build.source.rows build.is_told) build.filters
FiltersHold (Put put) = Unit {0}
FiltersHold (Deal deal) = Unit {0}

-- one that was made so
pub made_built : (t : Target) → target_made t ≡ t → IsBuiltAs false t
made_built (Result result) e = tt
made_built (Build build) e = (
  sym (ap is_lost e),
  sym (ap target_finished e),
  (λ x is first. absurd (let clash : Some x ≡ None = sym is ∙ sym (ap known e) in cc)),
  (λ clash. absurd (let c : false ≡ true = clash in cc)),
  subst FiltersHold e (all_made_start build.filters),
  (λ clash. absurd (let c : false ≡ true = clash in cc)),
)
  where
    known : Target → Option IndexedRows
    known (Result result) = None
    known (Build build) = build.note.known
    known (Put put) = None
    known (Deal deal) = None
made_built (Put put) e = (sym (ap target_finished e), λ clash. absurd (let c : false ≡ true = clash in cc))
made_built (Deal deal) e = (sym (ap target_finished e), λ clash. absurd (let c : false ≡ true = clash in cc))

-- a build whose rows were published
pub published_rows : (old new : BuildState) → IsPublishedAs old new → new.source.rows ≡ old.source.rows
published_rows old new p = ap (λ (b : BuildState). b.source.rows) p.new_is

pub published_kept : (old new : BuildState) → IsPublishedAs old new → build_made_or_lost new ≡ build_made_or_lost old
published_kept old new p = ap build_made_or_lost p.new_is

pub published_told : (old new : BuildState) → IsPublishedAs old new → new.is_told ≡ old.is_told
published_told old new p = ap (λ (b : BuildState). b.is_told) p.new_is

pub published_untold : (old new : BuildState) → IsPublishedAs old new → old.is_told ≡ false → new.is_published ≡ old.is_published
published_untold old new p untold = absurd (let clash : true ≡ false = sym p.told ∙ untold in cc)

-- its bell was due once
pub published_dues : (old new : BuildState) (number bell : ℕ) → IsPublishedAs old new → number ≡ old.bell → build_dues new bell ≡ build_dues old bell + rings_at bell number
published_dues old new number bell p e =
    let now : build_dues new bell ≡ rings_at bell old.bell + parts_dues old.filters bell = ap (λ (b : BuildState). build_dues b bell) p.new_is in
    let was : build_dues old bell ≡ 0 + parts_dues old.filters bell = ap (λ (first : Bool). cond first (rings_at bell old.bell) 0 + parts_dues old.filters bell) p.first in
    let same : rings_at bell number ≡ rings_at bell old.bell = ap (rings_at bell) e in
    omega (arith, now, was, same)

-- a build whose cell held another source
pub held_rows : (old new : BuildState) (seen : ℕ) → IsHeldAs old new seen → new.source.rows ≡ old.source.rows
held_rows old new seen h = ap (λ (b : BuildState). b.source.rows) h.new_is

pub held_made : (old new : BuildState) (seen : ℕ) → IsHeldAs old new seen → build_made_or_lost new ≡ build_made_or_lost old
held_made old new seen h = ap build_made_or_lost h.new_is

pub held_told : (old new : BuildState) (seen : ℕ) → IsHeldAs old new seen → new.is_told ≡ old.is_told
held_told old new seen h = ap (λ (b : BuildState). b.is_told) h.new_is

pub held_dues : (old new : BuildState) (seen bell : ℕ) → IsHeldAs old new seen → build_dues new bell ≡ build_dues old bell
held_dues old new seen bell h = ap (λ (b : BuildState). build_dues b bell) h.new_is

-- a target has as many filters as before
lost_made : (t : Target) → length (filters_of (target_made_or_lost t)) ≡ length (filters_of t)
lost_made (Result result) = refl
lost_made (Build build) = length-map build.filters build_filter_made
lost_made (Put put) = refl
lost_made (Deal deal) = refl

pub filters_stay : (t u : Target) → target_made_or_lost u ≡ target_made_or_lost t → length (filters_of u) ≡ length (filters_of t)
filters_stay t u e = sym (lost_made u) ∙ ap (λ (v : Target). length (filters_of v)) e ∙ lost_made t
