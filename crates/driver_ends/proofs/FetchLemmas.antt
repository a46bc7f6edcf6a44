-- What a source that fetches has taken, handed on, and left.
use Rattle.std.proofs.Common.{◌≡◌, ◌-◌, List, [], ◌∷◌, ◌++◌, true, false, Option, Some, None, length, take, refl, sym, ap, ◌∙◌, subst, arith}
use Rattle.std.specs.Prelude.{IfSome, MatchOption}
use Rattle.std.proofs.lemmas.List.{append_assoc, length-append}
use Rattle.std.proofs.lemmas.List.Concat.{flat_map-cons}
use Rattle.std.proofs.Math.Seq.{take-append_seam}
use Rattle.sql_values.specs.declared.value.Value.{Value}
use Rattle.col_pages.specs.Pages.{TypedPage}
use Rattle.output_buffer.specs.Partitions.{all_rows}
use Rattle.output_buffer.specs.Seats.{GatherTakeState, rows_of_pieces}
use Rattle.exchange_client.specs.Fetches.{FetchState, rest}
use Rattle.driver_ends.specs.Outlets.{rows_of_held}
use Rattle.driver_ends.specs.Sources.{HasLocalTaken, IsLocalEnded, LocalState}
use Rattle.driver_ends.specs.Fetching.{FetchingState, HasFetchTaken, KeepsLeft, all_but, fetch_taken, left_of, rows_left}

-- ---- all but what is left

pub all_but_is : (rows before left : List (List Value)) → rows ≡ before ++ left → all_but rows left ≡ before
all_but_is rows before left whole =
    let many : length rows - length left ≡ length before = omega (arith, ap length whole, length-append before left) in
    ap (λ n. take n rows) many ∙ ap (take (length before)) whole ∙ take-append_seam before left

pub all_but_splits : (rows before left : List (List Value)) → rows ≡ before ++ left → rows ≡ all_but rows left ++ left
all_but_splits rows before left whole = whole ∙ ap (λ xs. xs ++ left) (sym (all_but_is rows before left whole))

pub kept_taken : (s : FetchingState) → KeepsLeft s.local s.fetch s.pages → HasFetchTaken s (fetch_taken s)
kept_taken s k = all_but_splits (rows_of_pieces s.local.seat.took) k.before (rows_left s) k.whole

-- ---- a page is handed on

first_left : (local : LocalState) (fetch : FetchState) (page : TypedPage) (pages : List TypedPage) → left_of local fetch (page ∷ pages) ≡ page.rows ++ left_of local fetch pages
first_left local fetch page pages =
    ap (λ rows. rows ++ rows_of_held local.inbox) (flat_map-cons (λ (p : TypedPage). p.rows) page (pages ++ rest fetch))
    ∙ append_assoc page.rows (all_rows (pages ++ rest fetch)) (rows_of_held local.inbox)

pub handed_page : (old new : FetchingState) (page : TypedPage) → new ≡ record old { pages = new.pages } → old.pages ≡ page ∷ new.pages → (taken : List (List Value)) → HasFetchTaken old taken → HasFetchTaken new (taken ++ page.rows)
handed_page old new page rest_is first taken has =
    let left : rows_left old ≡ page.rows ++ left_of old.local old.fetch new.pages = ap (left_of old.local old.fetch) first ∙ first_left old.local old.fetch page new.pages in
    let whole : rows_of_pieces old.local.seat.took ≡ taken ++ page.rows ++ left_of old.local old.fetch new.pages =
    has ∙ ap (λ rows. taken ++ rows) left ∙ sym (append_assoc taken page.rows (left_of old.local old.fetch new.pages)) in
    subst (λ s. HasFetchTaken s (taken ++ page.rows)) (sym rest_is) whole

pub handed_taken : (old new : FetchingState) (page : TypedPage) → KeepsLeft old.local old.fetch old.pages → new ≡ record old { pages = new.pages } → old.pages ≡ page ∷ new.pages → fetch_taken new ≡ fetch_taken old ++ page.rows
handed_taken old new page k rest_is first =
    all_but_is (rows_of_pieces new.local.seat.took) (fetch_taken old ++ page.rows) (rows_left new) (handed_page old new page rest_is first (fetch_taken old) (kept_taken old k))

pub handed_keeps : (old new : FetchingState) (page : TypedPage) → KeepsLeft old.local old.fetch old.pages → new ≡ record old { pages = new.pages } → old.pages ≡ page ∷ new.pages → KeepsLeft new.local new.fetch new.pages
handed_keeps old new page k rest_is first = record {
  before = fetch_taken old ++ page.rows;
  whole = handed_page old new page rest_is first (fetch_taken old) (kept_taken old k);
  over = subst (λ s. s.fetch.window.is_ended ≡ true → IsLocalEnded s.local) (sym rest_is) k.over;
}

pub kept_behind : (local : LocalState) (fetch : FetchState) (old new : List TypedPage) (o : Option TypedPage) → MatchOption o ((old ≡ []) × (new ≡ [])) (λ p. old ≡ p ∷ new) → KeepsLeft local fetch old → KeepsLeft local fetch new
kept_behind local fetch old new None (was, is) k = subst (KeepsLeft local fetch) (was ∙ sym is) k
kept_behind local fetch old new (Some page) first k = handed_keeps (record { local = local; fetch = fetch; pages = old }) (record { local = local; fetch = fetch; pages = new }) page k refl first

pub handed_if : (local : LocalState) (fetch : FetchState) (old new : List TypedPage) (o : Option TypedPage) → MatchOption o ((old ≡ []) × (new ≡ [])) (λ p. old ≡ p ∷ new) → KeepsLeft local fetch old →
    IfSome o (λ page. fetch_taken (record { local = local; fetch = fetch; pages = new }) ≡ fetch_taken (record { local = local; fetch = fetch; pages = old }) ++ page.rows)
handed_if local fetch old new None none k = tt
handed_if local fetch old new (Some page) first k = handed_taken (record { local = local; fetch = fetch; pages = old }) (record { local = local; fetch = fetch; pages = new }) page k refl first

-- ---- a piece is taken

-- what the source below it took goes to what is left
pub taken_below : (old new : LocalState) (fetch : FetchState) (pages : List TypedPage) (taken : List (List Value)) →
    ((rows : List (List Value)) → HasLocalTaken old rows → HasLocalTaken new rows) → rows_of_pieces old.seat.took ≡ taken ++ left_of old fetch pages → rows_of_pieces new.seat.took ≡ taken ++ left_of new fetch pages
taken_below old new fetch pages taken goes whole =
    let ahead = all_rows (pages ++ rest fetch) in
    goes (taken ++ ahead) (whole ∙ sym (append_assoc taken ahead (rows_of_held old.inbox))) ∙ append_assoc taken ahead (rows_of_held new.inbox)

pub kept_below : (old new : LocalState) (fetch : FetchState) (pages : List TypedPage) →
    ((rows : List (List Value)) → HasLocalTaken old rows → HasLocalTaken new rows) → fetch.window.is_ended ≡ false → KeepsLeft old fetch pages → KeepsLeft new fetch pages
kept_below old new fetch pages goes going k = record {
  before = k.before;
  whole = taken_below old new fetch pages k.before goes k.whole;
  over = λ over. absurd (let clash : false ≡ true = sym going ∙ over in cc);
}

-- a piece is taken, and goes to the fetch
pub taken_through : (old : FetchingState) (below : LocalState) (new : FetchingState) →
    ((rows : List (List Value)) → HasLocalTaken old.local rows → HasLocalTaken below rows) → new.local.seat ≡ below.seat → rows_left new ≡ rows_left (record old { local = below }) →
    (taken : List (List Value)) → HasFetchTaken old taken → HasFetchTaken new taken
taken_through old below new goes seat left taken has =
    ap (λ (s : GatherTakeState). rows_of_pieces s.took) seat ∙ taken_below old.local below old.fetch old.pages taken goes has ∙ ap (λ rows. taken ++ rows) (sym left)

pub handed_through : (old : FetchingState) (below : LocalState) (new : FetchingState) → KeepsLeft old.local old.fetch old.pages →
    ((rows : List (List Value)) → HasLocalTaken old.local rows → HasLocalTaken below rows) → new.local.seat ≡ below.seat → rows_left new ≡ rows_left (record old { local = below }) → fetch_taken new ≡ fetch_taken old
handed_through old below new k goes seat left =
    all_but_is (rows_of_pieces new.local.seat.took) (fetch_taken old) (rows_left new) (taken_through old below new goes seat left (fetch_taken old) (kept_taken old k))
