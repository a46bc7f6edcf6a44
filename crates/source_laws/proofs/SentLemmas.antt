-- What each outlet of a target was given is what the plan sends to its task.
use Rattle.std.proofs.Common.{◌≡◌, ℕ, ◌<◌, List, [], ◌∷◌, ◌++◌, Bool, true, false, Option, Some, None, refl, ap, sym, ◌∙◌, arith, length, get_or}
use Rattle.std.specs.Prelude.{◌&&◌, is_none, nat_eq}
use Rattle.std.proofs.lemmas.List.{append-nil, get_or-map, get_or-replicate}
use Rattle.std.proofs.lemmas.List.Elements.{filter-append}
use Rattle.std.proofs.lemmas.List.FromFn.{get_or-map-range_with_len}
use Rattle.sql_values.specs.declared.value.Value.{Value}
use Rattle.col_pages.specs.Pages.{TypedPage}
use Rattle.output_buffer.specs.Edges.{end_count}
use Rattle.bag_laws.specs.Buckets.{key_bucket, of_bucket}
use Rattle.driver_ends.specs.declared.put_target.PutKind.{PutKind}
use Rattle.driver_ends.specs.declared.put_target.PutKind.TheVariants.{One, Each, Hash}
use Rattle.driver_ends.specs.Outlets.{OutletState, rows_of_held, rows_sent}
use Rattle.driver_ends.specs.Targets.{FitsKind, HasSent, KeepsTarget, TargetState, sent_to}
use Rattle.bag_laws.specs.Gather.{gather}
use Rattle.bag_laws.proofs.GatherLemmas.{gather-filter}
use Rattle.plan_run_laws.specs.RunPlans.{Output, broadcast, hashed, single}
use Rattle.plan_run_laws.specs.Runs.{sent}
use Rattle.source_laws.specs.Edges.{KeepsPutter, output_of, putter_of, rows_for}

pub sent_is : (kind : PutKind) (n k : ℕ) (rows : List (List Value)) → FitsKind kind n → k < n → get_or (sent_to kind n rows) k [] ≡ sent (output_of kind) n k rows
sent_is One n k rows fits below = get_or-replicate n k rows [] below
sent_is Each n k rows fits below = get_or-replicate n k rows [] below
sent_is (Hash by) n k rows fits below =
    get_or-map-range_with_len (λ (j : ℕ). of_bucket (key_bucket by.parts by.columns) j rows) 0 n k k [] below (omega arith)
    ∙ ap (λ (parts : ℕ). of_bucket (key_bucket parts by.columns) k rows) (sym fits)

-- what is sent of some rows and of more
sent_more : (output : Output) (n k : ℕ) (rows more : List (List Value)) → sent output n k (rows ++ more) ≡ sent output n k rows ++ sent output n k more
sent_more single n k rows more = refl
sent_more broadcast n k rows more = refl
sent_more (hashed columns) n k rows more = filter-append (λ row. nat_eq (key_bucket n columns row) k) rows more

none_sent : (output : Output) (n k : ℕ) → sent output n k [] ≡ []
none_sent single n k = refl
none_sent broadcast n k = refl
none_sent (hashed columns) n k = refl

-- where the target was given these rows, its outlet of a task was given those that are sent to the task
pub outlet_sent : (t : TargetState) (given : List (List Value)) (n k : ℕ) (d : OutletState) → KeepsTarget t → HasSent t given → length t.outlets ≡ n → k < n
    → rows_for (putter_of t k (get_or t.outlets k d) ∷ []) ≡ sent (output_of t.kind) n k given
outlet_sent t given n k d kept has long below =
    let within : k < length t.outlets = omega (arith, long, below) in
    let m = length t.outlets in
    let waits = rows_of_held t.waiting in
    let spread : rows_sent (get_or t.outlets k d) ≡ sent (output_of t.kind) m k has.spread =
    sym (get_or-map rows_sent t.outlets k d [] within) ∙ ap (λ lists. get_or lists k []) has.sent ∙ sent_is t.kind m k has.spread kept.fits within in
    append-nil (rows_sent (get_or t.outlets k d) ++ sent (output_of t.kind) m k waits)
    ∙ ap (λ rows. rows ++ sent (output_of t.kind) m k waits) spread
    ∙ sym (sent_more (output_of t.kind) m k has.spread waits)
    ∙ (λ i. sent (output_of t.kind) (long i) k (sym has.whole i))

-- Ends are put only once no rows wait
none_waiting : (told : Bool) (waiting : Option TypedPage) (ends : ℕ) → ((told && is_none waiting) ≡ false → ends ≡ 0) → 0 < ends → rows_of_held waiting ≡ []
none_waiting told None ends early some = refl
none_waiting true (Some page) ends early some = absurd (omega (arith, early refl, some))
none_waiting false (Some page) ends early some = absurd (omega (arith, early refl, some))

-- an outlet of a target is a putter
pub keeps_putter : (t : TargetState) (k : ℕ) (d : OutletState) → KeepsTarget t → k < length t.outlets → KeepsPutter (putter_of t k (get_or t.outlets k d))
keeps_putter t k d kept within = record {
  early = λ untold. kept.early (ap (λ b. b && is_none t.waiting) untold) k d within;
  last = λ some.
      ap (sent (output_of t.kind) (length t.outlets) k) (none_waiting t.is_told t.waiting (end_count (get_or t.outlets k d).seat.put) (λ e. kept.early e k d within) some)
      ∙ none_sent (output_of t.kind) (length t.outlets) k;
  order = kept.order k d within;
}

-- what is sent of the rows of all tasks is what is sent of each task's
pub sent-gather : (output : Output) (n k m : ℕ) (lists : ℕ → List (List Value)) → sent output n k (gather m lists) ≡ gather m (λ j. sent output n k (lists j))
sent-gather single n k m lists = refl
sent-gather broadcast n k m lists = refl
sent-gather (hashed columns) n k m lists = gather-filter m (λ row. nat_eq (key_bucket n columns row) k) lists
