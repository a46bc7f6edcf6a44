-- Groups at their places, and what changes with one of them.
use Rattle.std.proofs.Common.{◌≡◌, ℕ, ◌+◌, ◌^◌, ◌<◌, ◌≤◌, zero, suc, List, [], ◌∷◌, ◌++◌, length, get_or, set, take, drop, map, refl, ap, sym, subst, ◌∙◌, append_assoc, arith, ◌⊎◌, inl, inr}
use Rattle.std.specs.Prelude.{All, true, flat_map, pos, replicate, sum_by}
use Rattle.std.proofs.lemmas.Bool.{cases_eq}
use Rattle.std.proofs.lemmas.List.{get_or-set_other, get_or-set_same, get_or-take, get_or_append_left, length-append, length-map, length-set, length-take, length-take-le}
use Rattle.std.proofs.Math.Seq.{get_or-append_seam}
use Rattle.std.proofs.lemmas.List.Elements.{All-cons, All-head, All-nil, All-tail}
use Rattle.sql_values.specs.declared.types.SqlType.{SqlType}
use Rattle.sql_values.specs.declared.value.Value.{Value}
use Rattle.sql_values.specs.declared.value.Value.TheVariants.{Null, Decimal}
use Rattle.sql_values.specs.ColumnRows.{TypedRows}
use Rattle.sql_values.specs.declared.relational.Call.{Call}
use Rattle.sql_values.specs.declared.relational.Call.TheVariants.{CountAll, Count, Sum, Min, Max, Avg}
use Rattle.relation_laws.specs.Aggregates.{most_group_rows}
use Rattle.relation_laws.specs.Partials.{call_columns, call_width, partial_of, with_rows}
use Rattle.accumulators.specs.Columns.{columns_of, kind_in}
use Rattle.accumulators.specs.GroupLists.{AreGroups, GroupList, IsSameBut, group_at, group_list, groups_from, no_group, none_in}
use Rattle.accumulators.specs.Groups.{Group, IsGroup, group_kept}
use Rattle.accumulators.specs.Kept.{Kept, added_row, all_columns, calls_of, kinds_of, merged_each, merged_kept}
use Rattle.accumulators.specs.KeptColumns.{CanMergeEachAt, CanTakeAt, IsKeptAt, IsLong, KeptColumn, added_at, all_kept_at, begun_behind, but_kept, column_calls, column_kinds, first_kept, kept_at, merged_each_at, no_kept}
use Rattle.accumulators.specs.Limits.{CanMergeEach, CanTake, IsKept, are_columns}
use Rattle.relation_laws.proofs.PartialLemmas.{beyond_most, within_most}
use Rattle.accumulators.proofs.ColumnLemmas.{width-columns}
use Rattle.accumulators.proofs.GroupLemmas.{none-column}

pub calls-at : (place : ℕ) (cols : List KeptColumn) → calls_of (all_kept_at place cols) ≡ column_calls cols
calls-at place [] = refl
calls-at place (c ∷ cols) = ap (λ xs. c.call ∷ xs) (calls-at place cols)

pub kinds-at : (place : ℕ) (cols : List KeptColumn) → kinds_of (all_kept_at place cols) ≡ column_kinds cols
kinds-at place [] = refl
kinds-at place (c ∷ cols) = ap (λ xs. c.kind ∷ xs) (kinds-at place cols)

pub length-groups : (from : ℕ) (rows : List ℕ) (cols : List KeptColumn) → length (groups_from from rows cols) ≡ length rows
length-groups from [] cols = refl
length-groups from (r ∷ rows) cols = omega (arith, length-groups (from + 1) rows cols)

group-there : (from : ℕ) (rows : List ℕ) (cols : List KeptColumn) (i : ℕ) (d : Group) → i < length rows
    → get_or (groups_from from rows cols) i d ≡ group_kept (get_or rows i 0) (all_kept_at (from + i) cols)
group-there from [] cols i d lt = absurd (omega (arith, lt))
group-there from (r ∷ rows) cols zero d lt = let here : from ≡ from + 0 = omega arith in ap (λ n. group_kept r (all_kept_at n cols)) here
group-there from (r ∷ rows) cols (suc i) d lt =
    let here : from + 1 + i ≡ from + suc i = omega arith in
    group-there (from + 1) rows cols i d (omega (arith, lt)) ∙ ap (λ n. group_kept (get_or rows i 0) (all_kept_at n cols)) here

pub at-place : (rows : List ℕ) (cols : List KeptColumn) (i : ℕ) → i < length rows → group_at (group_list rows cols) i ≡ group_kept (get_or rows i 0) (all_kept_at i cols)
at-place rows cols i lt =
    let here : 0 + i ≡ i = omega arith in
    group-there 0 rows cols i no_group lt ∙ ap (λ n. group_kept (get_or rows i 0) (all_kept_at n cols)) here

groups-same : (from : ℕ) (rows : List ℕ) (cols now : List KeptColumn) → ((j : ℕ) → from ≤ j → j < from + length rows → all_kept_at j now ≡ all_kept_at j cols)
    → groups_from from rows now ≡ groups_from from rows cols
groups-same from [] cols now same = refl
groups-same from (r ∷ rows) cols now same =
    let first : all_kept_at from now ≡ all_kept_at from cols = same from (omega arith) (omega arith) in
    let rest : groups_from (from + 1) rows now ≡ groups_from (from + 1) rows cols = groups-same (from + 1) rows cols now (λ j h k. same j (omega (arith, h)) (omega (arith, k))) in
    λ k. group_kept r (first k) ∷ rest k

groups-set : (from : ℕ) (rows : List ℕ) (cols now : List KeptColumn) (i x : ℕ) → ((j : ℕ) → (j ≡ from + i → ⊥) → all_kept_at j now ≡ all_kept_at j cols) → i < length rows
    → groups_from from (set rows i x) now ≡ set (groups_from from rows cols) i (group_kept x (all_kept_at (from + i) now))
groups-set from [] cols now i x same lt = absurd (omega (arith, lt))
groups-set from (r ∷ rows) cols now zero x same lt =
    let here : from ≡ from + 0 = omega arith in
    let rest : groups_from (from + 1) rows now ≡ groups_from (from + 1) rows cols = groups-same (from + 1) rows cols now (λ j h k. same j (λ e. omega (arith, e, h))) in
    λ k. group_kept x (all_kept_at (here k) now) ∷ rest k
groups-set from (r ∷ rows) cols now (suc i) x same lt =
    let here : from + 1 + i ≡ from + suc i = omega arith in
    let first : all_kept_at from now ≡ all_kept_at from cols = same from (λ e. omega (arith, e)) in
    let rest : groups_from (from + 1) (set rows i x) now ≡ set (groups_from (from + 1) rows cols) i (group_kept x (all_kept_at (from + 1 + i) now))
    = groups-set (from + 1) rows cols now i x (λ j ne. same j (λ e. ne (omega (arith, e)))) (omega (arith, lt)) in
    λ k. group_kept r (first k) ∷ (rest ∙ ap (λ n. set (groups_from (from + 1) rows cols) i (group_kept x (all_kept_at n now))) here) k

groups-take : (from n : ℕ) (rows : List ℕ) (cols : List KeptColumn) → groups_from from (take n rows) cols ≡ take n (groups_from from rows cols)
groups-take from zero [] cols = refl
groups-take from zero (r ∷ rows) cols = refl
groups-take from (suc n) [] cols = refl
groups-take from (suc n) (r ∷ rows) cols = ap (λ gs. group_kept r (all_kept_at from cols) ∷ gs) (groups-take (from + 1) n rows cols)

groups-more : (from : ℕ) (rows : List ℕ) (cols now : List KeptColumn) (x : ℕ) → ((j : ℕ) → from ≤ j → j < from + length rows → all_kept_at j now ≡ all_kept_at j cols)
    → groups_from from (rows ++ x ∷ []) now ≡ groups_from from rows cols ++ group_kept x (all_kept_at (from + length rows) now) ∷ []
groups-more from [] cols now x same = let here : from ≡ from + 0 = omega arith in ap (λ n. group_kept x (all_kept_at n now) ∷ []) here
groups-more from (r ∷ rows) cols now x same =
    let here : from + 1 + length rows ≡ from + length (r ∷ rows) = omega arith in
    let first : all_kept_at from now ≡ all_kept_at from cols = same from (omega arith) (omega arith) in
    let rest : groups_from (from + 1) (rows ++ x ∷ []) now ≡ groups_from (from + 1) rows cols ++ group_kept x (all_kept_at (from + 1 + length rows) now) ∷ []
    = groups-more (from + 1) rows cols now x (λ j h k. same j (omega (arith, h)) (omega (arith, k))) in
    λ k. group_kept r (first k) ∷ (rest ∙ ap (λ n. groups_from (from + 1) rows cols ++ group_kept x (all_kept_at n now) ∷ []) here) k

-- the first groups alone
pub taken-list : (n : ℕ) (rows : List ℕ) (cols : List KeptColumn) → group_list (take n rows) cols ≡ record (group_list rows cols) { groups = take n (group_list rows cols).groups }
taken-list n rows cols = λ i. record { calls = column_calls cols; kinds = column_kinds cols; groups = groups-take 0 n rows cols i }

shorter : (n m : ℕ) (cols : List KeptColumn) → n ≤ m → All (IsLong m) cols → All (IsLong n) cols
shorter n m [] le all = All-nil (IsLong n)
shorter n m (c ∷ cols) le all =
    All-cons (IsLong n) c cols (omega (arith, le, All-head (IsLong m) c cols all)) (shorter n m cols le (All-tail (IsLong m) c cols all))

pub taken-are : (none : Group) (n : ℕ) (rows : List ℕ) (cols : List KeptColumn) → AreGroups none rows cols → AreGroups none (take n rows) cols
taken-are none n rows cols is =
    let few : length (take n rows) ≤ length rows = omega (arith, length-take n rows) in
    record {
      few_calls = is.few_calls;
      of_calls = is.of_calls;
      of_kinds = is.of_kinds;
      long = shorter (length (take n rows)) (length rows) cols few is.long;
      each = λ j h. subst (λ (r : ℕ). IsGroup r (all_kept_at j cols)) (sym (get_or-take n rows j 0 (omega (arith, h, length-take n rows)))) (is.each j (omega (arith, h, few)));
    }

-- what stays where only the group at a place changes
kept-but : (place j : ℕ) (cols : List KeptColumn) → (j ≡ place → ⊥) → all_kept_at j cols ≡ map (kept_at j) (map (but_kept place) cols)
kept-but place j [] ne = refl
kept-but place j (c ∷ cols) ne =
    let rest = kept-but place j cols ne in
    λ k. record { call = c.call; kind = c.kind; columns = sym (get_or-set_other c.kept place j [] [] ne) k } ∷ rest k

calls-but : (place : ℕ) (cols : List KeptColumn) → column_calls (map (but_kept place) cols) ≡ column_calls cols
calls-but place [] = refl
calls-but place (c ∷ cols) = ap (λ xs. c.call ∷ xs) (calls-but place cols)

kinds-but : (place : ℕ) (cols : List KeptColumn) → column_kinds (map (but_kept place) cols) ≡ column_kinds cols
kinds-but place [] = refl
kinds-but place (c ∷ cols) = ap (λ xs. c.kind ∷ xs) (kinds-but place cols)

long-but : (n place : ℕ) (cols : List KeptColumn) → All (IsLong n) cols → All (IsLong n) (map (but_kept place) cols)
long-but n place [] all = All-nil (IsLong n)
long-but n place (c ∷ cols) all =
    All-cons (IsLong n) (but_kept place c) (map (but_kept place) cols) (omega (arith, All-head (IsLong n) c cols all, length-set c.kept place [])) (long-but n place cols (All-tail (IsLong n) c cols all))

but-long : (n place : ℕ) (cols : List KeptColumn) → All (IsLong n) (map (but_kept place) cols) → All (IsLong n) cols
but-long n place [] all = All-nil (IsLong n)
but-long n place (c ∷ cols) all =
    All-cons (IsLong n) c cols (omega (arith, All-head (IsLong n) (but_kept place c) (map (but_kept place) cols) all, length-set c.kept place []))
    (but-long n place cols (All-tail (IsLong n) (but_kept place c) (map (but_kept place) cols) all))

module _ (place : ℕ) (cols now : List KeptColumn) (same : map (but_kept place) now ≡ map (but_kept place) cols) where
  kept-elsewhere : (j : ℕ) → (j ≡ place → ⊥) → all_kept_at j now ≡ all_kept_at j cols
  kept-elsewhere j ne = kept-but place j now ne ∙ ap (map (kept_at j)) same ∙ sym (kept-but place j cols ne)

  calls-stay : column_calls now ≡ column_calls cols
  calls-stay = sym (calls-but place now) ∙ ap column_calls same ∙ calls-but place cols

  kinds-stay : column_kinds now ≡ column_kinds cols
  kinds-stay = sym (kinds-but place now) ∙ ap column_kinds same ∙ kinds-but place cols

  few-stay : length now ≡ length cols
  few-stay = omega (arith, ap length same, length-map now (but_kept place), length-map cols (but_kept place))

  each-at : (none : Group) (rows : List ℕ) (x : ℕ) → place < length rows → AreGroups none rows cols → IsGroup x (all_kept_at place now) → (j : ℕ) → j < length rows
      → (j ≡ place) ⊎ (j ≡ place → ⊥) → IsGroup (get_or (set rows place x) j 0) (all_kept_at j now)
  each-at none rows x lt is here j h (inl e) =
      subst (λ (n : ℕ). IsGroup (get_or (set rows place x) n 0) (all_kept_at n now)) (sym e)
      (subst (λ (n : ℕ). IsGroup n (all_kept_at place now)) (sym (get_or-set_same rows place x 0 lt)) here)
  each-at none rows x lt is here j h (inr ne) =
      subst (λ (n : ℕ). IsGroup n (all_kept_at j now)) (sym (get_or-set_other rows place j x 0 ne))
      (subst (λ (ks : List Kept). IsGroup (get_or rows j 0) ks) (sym (kept-elsewhere j ne)) (is.each j h))

  pub are-changed : (none : Group) (rows : List ℕ) (x : ℕ) → place < length rows → AreGroups none rows cols → IsGroup x (all_kept_at place now) → AreGroups none (set rows place x) now
  are-changed none rows x lt is here = record {
    few_calls = omega (arith, few-stay, is.few_calls);
    of_calls = is.of_calls ∙ sym calls-stay;
    of_kinds = is.of_kinds ∙ sym kinds-stay;
    long = subst (λ (n : ℕ). All (IsLong n) now) (sym (length-set rows place x))
        (but-long (length rows) place now (subst (λ (ks : List KeptColumn). All (IsLong (length rows)) ks) (sym same) (long-but (length rows) place cols is.long)));
    each = λ j h. each-at none rows x lt is here j (omega (arith, h, length-set rows place x)) (cases_eq j place);
  }

  -- and where that one has too many rows
  pub are-overfull : (none : Group) (rows : List ℕ) (x : ℕ) → place < length rows → AreGroups none rows cols → x ≡ 2 ^ 63 → AreGroups none (set rows place x) now
  are-overfull none rows x lt is e = are-changed none rows x lt is record {
    few = omega (arith, e);
    few_calls = omega (arith, few-stay, is.few_calls, length-map now (kept_at place));
    all_kept = λ few. absurd (omega (arith, e, few));
  }

  pub changed-there : (rows : List ℕ) (x : ℕ) → place < length rows → group_at (group_list (set rows place x) now) place ≡ group_kept x (all_kept_at place now)
  changed-there rows x lt =
      at-place (set rows place x) now place (omega (arith, lt, length-set rows place x)) ∙ ap (λ n. group_kept n (all_kept_at place now)) (get_or-set_same rows place x 0 lt)

  pub calls-there : calls_of (all_kept_at place now) ≡ calls_of (all_kept_at place cols)
  calls-there = calls-at place now ∙ calls-stay ∙ sym (calls-at place cols)

  pub kinds-there : kinds_of (all_kept_at place now) ≡ kinds_of (all_kept_at place cols)
  kinds-there = kinds-at place now ∙ kinds-stay ∙ sym (kinds-at place cols)

  same-list : (rows : List ℕ) (x : ℕ) → place < length rows → IsSameBut place (group_list rows cols) (group_list (set rows place x) now)
  same-list rows x lt =
      let here : 0 + place ≡ place = omega arith in
      let there = changed-there rows x lt in
      let groups : groups_from 0 (set rows place x) now ≡ set (groups_from 0 rows cols) place (group_at (group_list (set rows place x) now) place)
      = groups-set 0 rows cols now place x (λ j ne. kept-elsewhere j (λ e. ne (omega (arith, e)))) lt
      ∙ ap (λ n. set (groups_from 0 rows cols) place (group_kept x (all_kept_at n now))) here
      ∙ ap (λ (g : Group). set (groups_from 0 rows cols) place g) (sym there) in
      record {
        whole = λ i. record { calls = calls-stay i; kinds = kinds-stay i; groups = groups i };
        calls = ap (λ (g : Group). g.calls) there ∙ calls-there ∙ sym (ap (λ (g : Group). g.calls) (at-place rows cols place lt));
        kinds = ap (λ (g : Group). g.kinds) there ∙ kinds-there ∙ sym (ap (λ (g : Group). g.kinds) (at-place rows cols place lt));
      }

  pub same-but : (rows : List ℕ) (x : ℕ) (list : GroupList) → group_list rows cols ≡ list → place < length rows → IsSameBut place list (group_list (set rows place x) now)
  same-but rows x list view lt = subst (λ (l : GroupList). IsSameBut place l (group_list (set rows place x) now)) view (same-list rows x lt)

-- a view of the group at a place
pub view-at : (rows : List ℕ) (cols : List KeptColumn) (place : ℕ) (list : GroupList) → group_list rows cols ≡ list → place < length rows
    → group_kept (get_or rows place 0) (all_kept_at place cols) ≡ group_at list place
view-at rows cols place list view lt = sym (at-place rows cols place lt) ∙ ap (λ (l : GroupList). group_at l place) view

pub length-view : (rows : List ℕ) (cols : List KeptColumn) (list : GroupList) → group_list rows cols ≡ list → length rows ≡ length list.groups
length-view rows cols list view = sym (length-groups 0 rows cols) ∙ ap (λ (l : GroupList). length l.groups) view

-- what the group at a place can take, each call can there
pub can-take_at : (place n : ℕ) (row : List Value) (cols : List KeptColumn) → place < n → All (IsLong n) cols → All (CanTake row) (all_kept_at place cols) → All (CanTakeAt place row) cols
can-take_at place n row [] lt long all = All-nil (CanTakeAt place row)
can-take_at place n row (c ∷ cols) lt long all =
    All-cons (CanTakeAt place row) c cols
    record { within = omega (arith, lt, All-head (IsLong n) c cols long); can = All-head (CanTake row) (kept_at place c) (all_kept_at place cols) all }
    (can-take_at place n row cols lt (All-tail (IsLong n) c cols long) (All-tail (CanTake row) (kept_at place c) (all_kept_at place cols) all))

pub can-merge_at : (place n : ℕ) (cols : List KeptColumn) (columns : List Value) → place < n → All (IsLong n) cols → CanMergeEach (all_kept_at place cols) columns → CanMergeEachAt place cols columns
can-merge_at place n [] columns lt long all = tt
can-merge_at place n (c ∷ cols) columns lt long all =
    (record { within = omega (arith, lt, All-head (IsLong n) c cols long); can = all.0 }, can-merge_at place n cols (drop (call_width c.call) columns) lt (All-tail (IsLong n) c cols long) all.1)

pub all-kept_at : (place n rows : ℕ) (cols : List KeptColumn) → place < n → All (IsLong n) cols → rows ≤ most_group_rows → All (IsKept rows) (all_kept_at place cols) → All (IsKeptAt place rows) cols
all-kept_at place n rows [] lt long few all = All-nil (IsKeptAt place rows)
all-kept_at place n rows (c ∷ cols) lt long few all =
    All-cons (IsKeptAt place rows) c cols
    record { within = omega (arith, lt, All-head (IsLong n) c cols long); few = few; kept = All-head (IsKept rows) (kept_at place c) (all_kept_at place cols) all }
    (all-kept_at place n rows cols lt (All-tail (IsLong n) c cols long) few (All-tail (IsKept rows) (kept_at place c) (all_kept_at place cols) all))

-- the columns of that group, of what was written there
pub added-there : (place n : ℕ) (row : List Value) (cols : List KeptColumn) → place < n → All (IsLong n) cols → all_kept_at place (map (added_at place row) cols) ≡ map (added_row row) (all_kept_at place cols)
added-there place n row [] lt long = refl
added-there place n row (c ∷ cols) lt long =
    let within : place < length c.kept = omega (arith, lt, All-head (IsLong n) c cols long) in
    let here = get_or-set_same c.kept place (added_row row (kept_at place c)).columns [] within in
    let rest = added-there place n row cols lt (All-tail (IsLong n) c cols long) in
    λ i. record { call = c.call; kind = c.kind; columns = here i } ∷ rest i

pub merged-there : (place n : ℕ) (cols : List KeptColumn) (columns : List Value) → place < n → All (IsLong n) cols → all_kept_at place (merged_each_at place cols columns) ≡ merged_each (all_kept_at place cols) columns
merged-there place n [] columns lt long = refl
merged-there place n (c ∷ cols) columns lt long =
    let within : place < length c.kept = omega (arith, lt, All-head (IsLong n) c cols long) in
    let here = get_or-set_same c.kept place (merged_kept (kept_at place c) columns).columns [] within in
    let rest = merged-there place n cols (drop (call_width c.call) columns) lt (All-tail (IsLong n) c cols long) in
    λ i. record { call = c.call; kind = c.kind; columns = here i } ∷ rest i

-- what stays where the first groups do
kept-first : (n j : ℕ) (cols : List KeptColumn) → j < n → all_kept_at j cols ≡ map (kept_at j) (map (first_kept n) cols)
kept-first n j [] lt = refl
kept-first n j (c ∷ cols) lt =
    let rest = kept-first n j cols lt in
    λ k. record { call = c.call; kind = c.kind; columns = sym (get_or-take n c.kept j [] lt) k } ∷ rest k

calls-first : (n : ℕ) (cols : List KeptColumn) → column_calls (map (first_kept n) cols) ≡ column_calls cols
calls-first n [] = refl
calls-first n (c ∷ cols) = ap (λ xs. c.call ∷ xs) (calls-first n cols)

kinds-first : (n : ℕ) (cols : List KeptColumn) → column_kinds (map (first_kept n) cols) ≡ column_kinds cols
kinds-first n [] = refl
kinds-first n (c ∷ cols) = ap (λ xs. c.kind ∷ xs) (kinds-first n cols)

long-first : (n : ℕ) (cols : List KeptColumn) → All (IsLong n) cols → All (IsLong n) (map (first_kept n) cols)
long-first n [] all = All-nil (IsLong n)
long-first n (c ∷ cols) all =
    All-cons (IsLong n) (first_kept n c) (map (first_kept n) cols) (omega (arith, length-take n c.kept, All-head (IsLong n) c cols all)) (long-first n cols (All-tail (IsLong n) c cols all))

first-long : (n : ℕ) (cols : List KeptColumn) → All (IsLong n) (map (first_kept n) cols) → All (IsLong n) cols
first-long n [] all = All-nil (IsLong n)
first-long n (c ∷ cols) all =
    All-cons (IsLong n) c cols (omega (arith, length-take n c.kept, All-head (IsLong n) (first_kept n c) (map (first_kept n) cols) all))
    (first-long n cols (All-tail (IsLong n) (first_kept n c) (map (first_kept n) cols) all))

-- a group of no row
abbrev kept_none : KeptColumn → Kept
kept_none c = record { call = c.call; kind = c.kind; columns = columns_of c.call [] }

kept-begun : (n : ℕ) (cols : List KeptColumn) → All (IsLong n) cols → all_kept_at n (map (begun_behind n) cols) ≡ map kept_none cols
kept-begun n [] all = refl
kept-begun n (c ∷ cols) all =
    let long : length (take n c.kept) ≡ n = length-take-le n c.kept (All-head (IsLong n) c cols all) in
    let here = ap (λ m. get_or (take n c.kept ++ columns_of c.call [] ∷ []) m []) (sym long) ∙ get_or-append_seam (take n c.kept) (columns_of c.call []) [] [] in
    let rest = kept-begun n cols (All-tail (IsLong n) c cols all) in
    λ i. record { call = c.call; kind = c.kind; columns = here i } ∷ rest i

long-begun : (n : ℕ) (cols : List KeptColumn) → All (IsLong n) cols → All (IsLong (n + 1)) (map (begun_behind n) cols)
long-begun n [] all = All-nil (IsLong (n + 1))
long-begun n (c ∷ cols) all =
    All-cons (IsLong (n + 1)) (begun_behind n c) (map (begun_behind n) cols)
    (omega (arith, length-append (take n c.kept) (columns_of c.call [] ∷ []), length-take n c.kept, All-head (IsLong n) c cols all)) (long-begun n cols (All-tail (IsLong n) c cols all))

none-within : (kind : SqlType) (call : Call) → are_columns 0 kind call (columns_of call []) ≡ true
none-within kind CountAll = refl
none-within kind (Count column) = refl
none-within kind (Sum column) = refl
none-within kind (Min column) = refl
none-within kind (Max column) = refl
none-within kind (Avg column) = refl

none-each : (cols : List KeptColumn) → All (IsKept 0) (map kept_none cols)
none-each [] = All-nil (IsKept 0)
none-each (c ∷ cols) = All-cons (IsKept 0) (kept_none c) (map kept_none cols) record { width = width-columns c.call []; within = none-within c.kind c.call } (none-each cols)

none-calls_of : (cols : List KeptColumn) → calls_of (map kept_none cols) ≡ column_calls cols
none-calls_of [] = refl
none-calls_of (c ∷ cols) = ap (λ xs. c.call ∷ xs) (none-calls_of cols)

none-kinds_of : (cols : List KeptColumn) → kinds_of (map kept_none cols) ≡ column_kinds cols
none-kinds_of [] = refl
none-kinds_of (c ∷ cols) = ap (λ xs. c.kind ∷ xs) (none-kinds_of cols)

none-all_columns : (cols : List KeptColumn) → all_columns (map kept_none cols) ≡ flat_map (call_columns []) (column_calls cols)
none-all_columns [] = refl
none-all_columns (c ∷ cols) = λ i. none-column c.call i ++ none-all_columns cols i

none-group_of : (cols : List KeptColumn) → group_kept 0 (map kept_none cols) ≡ record { calls = column_calls cols; kinds = column_kinds cols; partial = partial_of (column_calls cols) [] }
none-group_of cols = λ i. record {
  calls = none-calls_of cols i;
  kinds = none-kinds_of cols i;
  partial = with_rows (none-calls_of cols i) 0 (none-all_columns cols i);
}

module _ (none : Group) (rows : List ℕ) (cols now : List KeptColumn) (is : AreGroups none rows cols) (same : map (first_kept (length rows)) now ≡ map (first_kept (length rows)) cols) where
  kept-before : (j : ℕ) → j < length rows → all_kept_at j now ≡ all_kept_at j cols
  kept-before j lt = kept-first (length rows) j now lt ∙ ap (map (kept_at j)) same ∙ sym (kept-first (length rows) j cols lt)

  calls-before : column_calls now ≡ column_calls cols
  calls-before = sym (calls-first (length rows) now) ∙ ap column_calls same ∙ calls-first (length rows) cols

  kinds-before : column_kinds now ≡ column_kinds cols
  kinds-before = sym (kinds-first (length rows) now) ∙ ap column_kinds same ∙ kinds-first (length rows) cols

  few-before : length now ≤ 2 ^ 20
  few-before = omega (arith, ap length same, length-map now (first_kept (length rows)), length-map cols (first_kept (length rows)), is.few_calls)

  each-before : (j : ℕ) → j < length rows → IsGroup (get_or rows j 0) (all_kept_at j now)
  each-before j lt = subst (λ (ks : List Kept). IsGroup (get_or rows j 0) ks) (sym (kept-before j lt)) (is.each j lt)

  pub are-first : AreGroups none rows now
  are-first = record {
    few_calls = few-before;
    of_calls = is.of_calls ∙ sym calls-before;
    of_kinds = is.of_kinds ∙ sym kinds-before;
    long = first-long (length rows) now (subst (λ (ks : List KeptColumn). All (IsLong (length rows)) ks) (sym same) (long-first (length rows) cols is.long));
    each = each-before;
  }

  pub list-first : group_list rows now ≡ group_list rows cols
  list-first = λ i. record {
    calls = calls-before i;
    kinds = kinds-before i;
    groups = groups-same 0 rows cols now (λ j h k. kept-before j (omega (arith, k))) i;
  }

  module _ (begun : now ≡ map (begun_behind (length rows)) cols) where
    kept-new : all_kept_at (length rows) now ≡ map kept_none cols
    kept-new = ap (all_kept_at (length rows)) begun ∙ kept-begun (length rows) cols is.long

    group-new : IsGroup 0 (all_kept_at (length rows) now)
    group-new = subst (λ (ks : List Kept). IsGroup 0 ks) (sym kept-new) record {
      few = omega arith;
      few_calls = omega (arith, is.few_calls, length-map cols kept_none);
      all_kept = λ few. none-each cols;
    }

    each-new : (j : ℕ) → j < length rows + 1 → (j ≡ length rows) ⊎ (j ≡ length rows → ⊥) → IsGroup (get_or (rows ++ 0 ∷ []) j 0) (all_kept_at j now)
    each-new j lt (inl e) =
        subst (λ (n : ℕ). IsGroup (get_or (rows ++ 0 ∷ []) n 0) (all_kept_at n now)) (sym e)
        (subst (λ (n : ℕ). IsGroup n (all_kept_at (length rows) now)) (sym (get_or-append_seam rows 0 [] 0)) group-new)
    each-new j lt (inr ne) =
        let less : j < length rows = omega (arith, lt, ne) in
        subst (λ (n : ℕ). IsGroup n (all_kept_at j now)) (sym (get_or_append_left rows (0 ∷ []) 0 j less)) (each-before j less)

    pub are-more : AreGroups none (rows ++ 0 ∷ []) now
    are-more =
        let more : length (rows ++ 0 ∷ []) ≡ length rows + 1 = length-append rows (0 ∷ []) in
        record {
          few_calls = few-before;
          of_calls = is.of_calls ∙ sym calls-before;
          of_kinds = is.of_kinds ∙ sym kinds-before;
          long = subst (λ (n : ℕ). All (IsLong n) now) (sym more) (subst (λ (ks : List KeptColumn). All (IsLong (length rows + 1)) ks) (sym begun) (long-begun (length rows) cols is.long));
          each = λ j h. each-new j (omega (arith, h, more)) (cases_eq j (length rows));
        }

    pub list-more : group_list (rows ++ 0 ∷ []) now ≡ record (group_list rows cols) { groups = (group_list rows cols).groups ++ none_in (group_list rows cols) ∷ [] }
    list-more =
        let here : 0 + length rows ≡ length rows = omega arith in
        let groups : groups_from 0 (rows ++ 0 ∷ []) now ≡ groups_from 0 rows cols ++ none_in (group_list rows cols) ∷ []
        = groups-more 0 rows cols now 0 (λ j h k. kept-before j (omega (arith, k)))
        ∙ ap (λ n. groups_from 0 rows cols ++ group_kept 0 (all_kept_at n now) ∷ []) here
        ∙ ap (λ ks. groups_from 0 rows cols ++ group_kept 0 ks ∷ []) kept-new
        ∙ ap (λ (g : Group). groups_from 0 rows cols ++ g ∷ []) (none-group_of cols) in
        λ i. record { calls = calls-before i; kinds = kinds-before i; groups = groups i }

-- no group yet
no-calls : (types : List SqlType) (calls : List Call) → column_calls (map (no_kept types) calls) ≡ calls
no-calls types [] = refl
no-calls types (call ∷ calls) = ap (λ cs. call ∷ cs) (no-calls types calls)

no-kinds : (types : List SqlType) (calls : List Call) → column_kinds (map (no_kept types) calls) ≡ map (kind_in types) calls
no-kinds types [] = refl
no-kinds types (call ∷ calls) = ap (λ ks. kind_in types call ∷ ks) (no-kinds types calls)

no-long : (types : List SqlType) (calls : List Call) → All (IsLong 0) (map (no_kept types) calls)
no-long types [] = All-nil (IsLong 0)
no-long types (call ∷ calls) = All-cons (IsLong 0) (no_kept types call) (map (no_kept types) calls) (omega arith) (no-long types calls)

module _ (none : Group) (types : List SqlType) (calls : List Call) (cols : List KeptColumn) (made : cols ≡ map (no_kept types) calls) where
  pub are-none : length calls ≤ 2 ^ 20 → none.calls ≡ calls → none.kinds ≡ map (kind_in types) calls → AreGroups none [] cols
  are-none few of_calls of_kinds = record {
    few_calls = omega (arith, few, ap length made, length-map calls (no_kept types));
    of_calls = of_calls ∙ sym (ap column_calls made ∙ no-calls types calls);
    of_kinds = of_kinds ∙ sym (ap column_kinds made ∙ no-kinds types calls);
    long = subst (λ (ks : List KeptColumn). All (IsLong 0) ks) (sym made) (no-long types calls);
    each = λ j h. absurd (omega (arith, h));
  }

  pub list-none : group_list [] cols ≡ record { calls = calls; kinds = map (kind_in types) calls; groups = [] }
  list-none = λ i. record { calls = (ap column_calls made ∙ no-calls types calls) i; kinds = (ap column_kinds made ∙ no-kinds types calls) i; groups = [] }

-- the calls of each group are those of all
pub calls-in : (rows : List ℕ) (cols : List KeptColumn) (place : ℕ) (list : GroupList) → group_list rows cols ≡ list → place < length rows
    → ((group_at list place).calls ≡ list.calls) × ((group_at list place).kinds ≡ list.kinds)
calls-in rows cols place list view lt =
    let there = sym (view-at rows cols place list view lt) in (
      ap (λ (g : Group). g.calls) there ∙ calls-at place cols ∙ ap (λ (l : GroupList). l.calls) view,
      ap (λ (g : Group). g.kinds) there ∙ kinds-at place cols ∙ ap (λ (l : GroupList). l.kinds) view,
    )

-- the partial row of a group of few rows, and of one of too many
pub few-partial : (a : ℕ) (ks : List Kept) (g : Group) (v : Value) → group_kept a ks ≡ g → a ≤ most_group_rows → v ≡ Decimal (pos a) → g.partial ≡ v ∷ all_columns ks
few-partial a ks g v view few is =
    sym (ap (λ (x : Group). x.partial) view) ∙ within_most (calls_of ks) a (all_columns ks) few ∙ ap (λ x. x ∷ all_columns ks) (sym is)

pub many-partial : (a : ℕ) (ks : List Kept) (g : Group) (v : Value) (calls : List Call) → group_kept a ks ≡ g → a ≤ 2 ^ 63 → most_group_rows < a → v ≡ Decimal (pos a) → calls ≡ calls_of ks
    → g.partial ≡ v ∷ replicate (sum_by call_width calls) Null
many-partial a ks g v calls view most many is same =
    let full : 2 ^ 63 ≡ a = omega (arith, most, many) in
    sym (ap (λ (x : Group). x.partial) view) ∙ beyond_most (calls_of ks) a (all_columns ks) many
    ∙ (λ i. (ap (λ n. Decimal (pos n)) full ∙ sym is) i ∷ replicate (sum_by call_width (sym same i)) Null)

-- a cell put into a row, and more behind it
pub put-behind : (old mid now : TypedRows) (v : Value) (more whole : List Value) → whole ≡ v ∷ more → mid ≡ record old { begun = old.begun ++ v ∷ [] } → now ≡ record mid { begun = mid.begun ++ more }
    → now ≡ record old { begun = old.begun ++ whole }
put-behind old mid now v more whole is first rest =
    rest
    ∙ ap (λ (r : TypedRows). record r { begun = r.begun ++ more }) first
    ∙ ap (λ (vs : List Value). record old { begun = vs }) (append_assoc old.begun (v ∷ []) more ∙ ap (λ xs. old.begun ++ xs) (sym is))
