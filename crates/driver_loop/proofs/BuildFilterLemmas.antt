-- Filters of a build: one by one, and all of them.
use Rattle.std.proofs.Common.{◌≡◌, ◌≢◌, ◌⊎◌, inl, inr, add-zero, ℕ, zero, suc, ◌+◌, ◌-◌, ◌<◌, ◌≤◌, List, [], ◌∷◌, ◌++◌, Bool, true, false, Option, Some, None, cond, drop, get_or, length, map, set, refl, sym, ap, ◌∙◌, subst, arith}
use Rattle.std.specs.Prelude.{◌&&◌, ◌||◌, All, find, not, sum_by}
use Rattle.std.proofs.lemmas.Bool.{cases_eq}
use Rattle.std.proofs.lemmas.List.{get_or-drop, get_or-set_other, get_or-set_same, length-map, map-append}
use Rattle.std.proofs.lemmas.List.Elements.{All-head, All-map, All-tail}
use Rattle.std.proofs.lemmas.List.Folds.{fold-map}
use Rattle.std.proofs.lemmas.List.Sums.{get_or-le-sum_by, sum_by-set}
use Rattle.count_laws.specs.Counts.{Rose, next_count}
use Rattle.blocked.specs.declared.blocked_on.BlockedOn.{BlockedOn}
use Rattle.blocked.specs.Rings.{rings_at}
use Rattle.sql_values.specs.declared.value.Value.{Value}
use Rattle.sql_values.specs.Cells.{cell}
use Rattle.operator_core.specs.Rows.{Row}
use Rattle.relation_laws.specs.Equality.{is_present}
use Rattle.set_once.specs.Notes.{NoteState, new_note}
use Rattle.dyn_filter.specs.declared.domain.Domain.{Domain}
use Rattle.dyn_filter.specs.declared.domain.Domain.TheVariants.{Nothing, Range, Values}
use Rattle.dyn_filter.specs.Cells.{new_notes, note_at}
use Rattle.dyn_filter.specs.Domains.{IsDomainOf, is_among}
use Rattle.dyn_filter.specs.Lists.{is_in}
use Rattle.dyn_filter.proofs.CellLemmas.{fresh_cells}
use Rattle.dyn_filter.proofs.ListLemmas.{same_itself}
use Rattle.driver_loop.specs.BuildFilters.{BuildFilterState, HasDomainOf, HasStuckPart, IsFilterOf, IsPartHeld, IsPartPublished, IsPublishedPart, IsStuckPart, build_filter_made, but_domain, first_unpublished, part_dues, part_note, part_refused, parts_dues, parts_refused}

-- ---- as it was made

-- one of no values, with notes that know nothing
abbrev pub new_filter : (column part bell : ℕ) (names : List ℕ) → BuildFilterState
new_filter column part bell names = record { column = column; part = part; bell = bell; note = new_notes names; domain = Nothing; is_published = false }

pub new_made : (column part bell : ℕ) (names : List ℕ) → build_filter_made (new_filter column part bell names) ≡ new_filter column part bell names
new_made column part bell names = ap (new_filter column part bell) (fresh_cells names)

never : (b : Bool) → (b && false) ≡ false
never true = refl
never false = refl

no_value : (v : Value) → is_among [] v ≡ false
no_value v = never (is_present v)

pub unknown_part : (names : List ℕ) (part : ℕ) → (note_at (map new_note names) part).known ≡ None
unknown_part [] part = refl
unknown_part (name ∷ names) zero = refl
unknown_part (name ∷ names) (suc part) = unknown_part names part

pub new_starts : (column part bell : ℕ) (names : List ℕ) → IsFilterOf [] false (new_filter column part bell names)
new_starts column part bell names = record {
  of = no_value;
  told = λ clash. absurd (let c : false ≡ true = clash in cc);
  knows = record {
    unknown = λ _ _. unknown_part names part;
    known = λ clash. absurd (let c : false ≡ true = clash in cc);
  };
}

clash : {X : Type 0} (b : Bool) → b ≡ true → b ≡ false → X
clash true e f = cc
clash false e f = cc

-- a domain of no values is Nothing
pub no_values : (d : Domain) → IsDomainOf [] d → d ≡ Nothing
no_values Nothing of = refl
no_values (Values []) of = absurd (omega (arith, of.is.some))
no_values (Values (v ∷ list)) of = absurd (clash (is_in (v ∷ list) v) (ap (λ b. b || is_in list v) (same_itself v)) (of.same v ∙ no_value v))
no_values (Range least greatest) of = absurd (clash (is_among [] least) of.0.low (no_value least))

pub all_made_twice : (filters : List BuildFilterState) → map build_filter_made (map build_filter_made filters) ≡ map build_filter_made filters
all_made_twice [] = refl
all_made_twice (f ∷ filters) = λ i. new_made f.column f.part f.bell (map (λ (n : NoteState Domain). n.cell) f.note.parts) i ∷ all_made_twice filters i

pub all_made_start : (filters : List BuildFilterState) → All (IsFilterOf [] false) (map build_filter_made filters)
all_made_start filters =
    All-map (IsFilterOf [] false) build_filter_made filters (λ k d less.
    let f = get_or filters k d in new_starts f.column f.part f.bell (map (λ (n : NoteState Domain). n.cell) f.note.parts))

-- ---- given values

-- with the values of more rows
pub domain_more : (rows more : List Row) (old new : BuildFilterState) → new.column ≡ old.column
    → ((values : List Value) → IsDomainOf values old.domain → IsDomainOf (values ++ map (λ row. cell row old.column) more) new.domain)
    → HasDomainOf rows old → HasDomainOf (rows ++ more) new
domain_more rows more old new column more_of of =
    subst (λ c. IsDomainOf (map (λ row. cell row c) (rows ++ more)) new.domain) (sym column)
    (subst (λ values. IsDomainOf values new.domain) (sym (map-append (λ (row : Row). cell row old.column) rows more)) (more_of (map (λ row. cell row old.column) rows) of))

pub filter_more : (rows more : List Row) (old new : BuildFilterState) → new.column ≡ old.column → new.is_published ≡ false → old.is_published ≡ false → part_note new ≡ part_note old
    → ((values : List Value) → IsDomainOf values old.domain → IsDomainOf (values ++ map (λ row. cell row old.column) more) new.domain)
    → IsFilterOf rows false old → IsFilterOf (rows ++ more) false new
filter_more rows more old new column unpublished before note more_of f = record {
  of = domain_more rows more old new column more_of f.of;
  told = λ is. clash new.is_published is unpublished;
  knows = record {
    unknown = λ _ none. ap (λ (n : NoteState Domain). n.known) note ∙ f.knows.unknown before (ap (λ (n : NoteState Domain). n.refused) (sym note) ∙ none);
    known = λ is. clash new.is_published is unpublished;
  };
}

-- ---- published, or held

pub part_published : (old new : BuildFilterState) → IsPartPublished old new → (rows : List Row) → IsFilterOf rows true old → IsFilterOf rows true new
part_published old new p rows f = record {
  of = subst (HasDomainOf rows) (sym p.new_is) f.of;
  told = λ _. refl;
  knows = record {
    unknown = λ is none. clash new.is_published (ap (λ (g : BuildFilterState). g.is_published) p.new_is) is;
    known = λ _. ap (λ (n : NoteState Domain). n.known) p.own ∙ ap (λ (g : BuildFilterState). Some g.domain) (sym p.new_is);
  };
}

never_none : (n m : ℕ) → m ≡ next_count n → m ≡ 0 → ⊥
never_none n m is none = absurd (omega (arith, is, none))

pub part_held : (old new : BuildFilterState) (seen : ℕ) → IsPartHeld old new seen → (rows : List Row) → IsFilterOf rows true old → IsFilterOf rows true new
part_held old new seen p rows f = record {
  of = subst (HasDomainOf rows) (sym p.new_is) f.of;
  told = λ _. refl;
  knows = record {
    unknown = λ _ none. absurd (never_none (part_note old).refused (part_note new).refused (ap (λ (n : NoteState Domain). n.refused) p.own) none);
    known = λ is. clash new.is_published is (ap (λ (g : BuildFilterState). g.is_published) p.new_is ∙ p.first);
  };
}

pub refused_still : (old new : BuildFilterState) → IsPartPublished old new → part_refused old ≤ part_refused new
refused_still old new p = let same : (part_note new).refused ≡ (part_note old).refused = ap (λ (n : NoteState Domain). n.refused) p.own in omega (arith, same)

pub refused_risen : (old new : BuildFilterState) (seen : ℕ) → IsPartHeld old new seen → Rose (part_refused old) (part_refused new)
refused_risen old new seen p = let more : (part_note new).refused ≡ next_count (part_note old).refused = ap (λ (n : NoteState Domain). n.refused) p.own in omega (arith, more)

pub refused_up : (old new : BuildFilterState) (seen : ℕ) → IsPartHeld old new seen → part_refused old ≤ part_refused new
refused_up old new seen p = let more : (part_note new).refused ≡ next_count (part_note old).refused = ap (λ (n : NoteState Domain). n.refused) p.own in omega (arith, more)

-- ---- all filters: sums, and the first that is not published

map_twice : {X Y Z : Type 0} (g : Y → Z) (f : X → Y) (xs : List X) → map g (map f xs) ≡ map (λ x. g (f x)) xs
map_twice g f [] = refl
map_twice g f (x ∷ xs) = ap (λ rest. g (f x) ∷ rest) (map_twice g f xs)

-- what a function says of what another keeps is kept
same_by : {X Y Z : Type 0} (g : Y → Z) (f : X → Y) (xs ys : List X) → map f xs ≡ map f ys → map (λ x. g (f x)) xs ≡ map (λ x. g (f x)) ys
same_by g f xs ys same = sym (map_twice g f xs) ∙ ap (map g) same ∙ map_twice g f ys

sum_same : (g : BuildFilterState → ℕ) (old new : List BuildFilterState) → map but_domain new ≡ map but_domain old → sum_by (λ f. g (but_domain f)) new ≡ sum_by (λ f. g (but_domain f)) old
sum_same g old new same =
    let over : (xs : List BuildFilterState) → sum_by g (map but_domain xs) ≡ sum_by (λ f. g (but_domain f)) xs = λ xs. fold-map (λ n f. n + g f) but_domain 0 xs in
    sym (over new) ∙ ap (sum_by g) same ∙ over old

pub fed_made : (old new : List BuildFilterState) → map but_domain new ≡ map but_domain old → map build_filter_made new ≡ map build_filter_made old
fed_made old new same = same_by build_filter_made but_domain new old same

pub fed_refused : (old new : List BuildFilterState) → map but_domain new ≡ map but_domain old → parts_refused new ≡ parts_refused old
fed_refused old new same = sum_same (λ f. part_refused f) old new same

pub fed_dues : (old new : List BuildFilterState) (bell : ℕ) → map but_domain new ≡ map but_domain old → parts_dues new bell ≡ parts_dues old bell
fed_dues old new bell same = sum_same (λ f. part_dues f bell) old new same

-- refusals never fall where those of one filter do not
pub refused_more : (first : ℕ) (filters : List BuildFilterState) (k : ℕ) (f d : BuildFilterState) → k < length filters → first ≤ parts_refused filters
    → part_refused (get_or filters k d) ≤ part_refused f → first ≤ parts_refused (set filters k f)
refused_more first filters k f d within before more =
    omega (arith, sum_by-set (λ (l : BuildFilterState). part_refused l) filters k f d within, before, more)

-- and they rise where those of one rise
pub refused_rose : (first : ℕ) (filters : List BuildFilterState) (k : ℕ) (f d : BuildFilterState) → k < length filters → first ≤ parts_refused filters
    → Rose (part_refused (get_or filters k d)) (part_refused f) → Rose first (parts_refused (set filters k f))
refused_rose first filters k f d within before rose =
    let sum = sum_by-set (λ (l : BuildFilterState). part_refused l) filters k f d within in
    let part = get_or-le-sum_by (λ (l : BuildFilterState). part_refused l) filters k d within in
    omega (arith, sum, part, before, rose)

-- dues of which one filter's grew
pub rang_more : (old new : ℕ → Type 0) (filters : List BuildFilterState) (f d : BuildFilterState) (k bell : ℕ) → k < length filters
    → ((times : ℕ) → old (times + part_dues (get_or filters k d) bell) → new (times + part_dues f bell))
    → (times : ℕ) → old (times + parts_dues filters bell) → new (times + parts_dues (set filters k f) bell)
rang_more old new filters f d k bell within step times rang =
    let g : BuildFilterState → ℕ = λ l. part_dues l bell in
    let sum : parts_dues (set filters k f) bell + g (get_or filters k d) ≡ parts_dues filters bell + g f = sum_by-set g filters k f d within in
    let part : g (get_or filters k d) ≤ parts_dues filters bell = get_or-le-sum_by g filters k d within in
    let before : times + parts_dues filters bell ≡ (times + (parts_dues filters bell - g (get_or filters k d))) + g (get_or filters k d) = omega (arith, part) in
    let after : (times + (parts_dues filters bell - g (get_or filters k d))) + g f ≡ times + parts_dues (set filters k f) bell = omega (arith, part, sum) in
    subst new after (step (times + (parts_dues filters bell - g (get_or filters k d))) (subst old before rang))

-- the first that is not published, behind some that are
pub found_first : (filters : List BuildFilterState) (place : ℕ) (f : BuildFilterState) → place < length filters
    → ((k : ℕ) (d : BuildFilterState) → k < place → IsPublishedPart (get_or filters k d)) → f.is_published ≡ false → first_unpublished (set filters place f) ≡ Some f
found_first [] place f less before left = absurd (omega (arith, less))
found_first (x ∷ xs) zero f less before left = ap (λ b. cond (not b) (Some f) (first_unpublished xs)) left
found_first (x ∷ xs) (suc place) f less before left =
    ap (λ b. cond (not b) (Some x) (first_unpublished (set xs place f))) (before 0 x (omega arith))
    ∙ found_first xs place f (omega (arith, less)) (λ k d lt. before (suc k) d (omega (arith, lt))) left

pub none_first : (filters : List BuildFilterState) → All IsPublishedPart filters → first_unpublished filters ≡ None
none_first [] all = refl
none_first (x ∷ xs) all = ap (λ b. cond (not b) (Some x) (first_unpublished xs)) (All-head IsPublishedPart x xs all) ∙ none_first xs (All-tail IsPublishedPart x xs all)

pub stuck_part : (first filters : List BuildFilterState) (place : ℕ) (f d : BuildFilterState) (on : BlockedOn) → place < length filters
    → ((k : ℕ) (e : BuildFilterState) → k < place → IsPublishedPart (get_or filters k e)) → parts_refused first ≤ parts_refused filters
    → IsStuckPart (get_or filters place d) f on → HasStuckPart first (set filters place f) on
stuck_part first filters place f d on less before refused s = record {
  stuck = f;
  first = found_first filters place f less before s.left;
  bell = s.bell;
  seen = s.seen;
  unrung = s.unrung;
  refused = refused_rose (parts_refused first) filters place f d less refused s.refused;
}

-- ---- one after the other

-- the filters before a place are published
abbrev pub PublishedTo : ℕ → List BuildFilterState → Type 0
PublishedTo place filters = (k : ℕ) (d : BuildFilterState) → k < place → IsPublishedPart (get_or filters k d)

pub one_published : (filters : List BuildFilterState) (place : ℕ) (f : BuildFilterState) → place < length filters → IsPublishedPart f → PublishedTo place filters → PublishedTo (place + 1) (set filters place f)
one_published filters place f less is before k d lt = by (cases_eq k place)
  where
    by : (k ≡ place) ⊎ (k ≢ place) → IsPublishedPart (get_or (set filters place f) k d)
    by (inl e) = subst IsPublishedPart (sym (ap (λ n. get_or (set filters place f) n d) e ∙ get_or-set_same filters place f d less)) is
    by (inr ne) = subst IsPublishedPart (sym (get_or-set_other filters place k f d ne)) (before k d (omega (arith, lt, ne)))

-- those before a place have the values of more rows
abbrev pub FedTo : ℕ → List Row → List BuildFilterState → Type 0
FedTo place rows filters = (k : ℕ) (d : BuildFilterState) → k < place → IsFilterOf rows false (get_or filters k d)

pub one_fed : (rows : List Row) (filters : List BuildFilterState) (place : ℕ) (f : BuildFilterState) → place < length filters → IsFilterOf rows false f → FedTo place rows filters → FedTo (place + 1) rows (set filters place f)
one_fed rows filters place f less is before k d lt = by (cases_eq k place)
  where
    by : (k ≡ place) ⊎ (k ≢ place) → IsFilterOf rows false (get_or (set filters place f) k d)
    by (inl e) = subst (IsFilterOf rows false) (sym (ap (λ n. get_or (set filters place f) n d) e ∙ get_or-set_same filters place f d less)) is
    by (inr ne) = subst (IsFilterOf rows false) (sym (get_or-set_other filters place k f d ne)) (before k d (omega (arith, lt, ne)))

-- where the rest of two lists is the same, so is its first item
pub first_left : {X : Type 0} (xs ys : List X) (i : ℕ) (d : X) → drop i xs ≡ drop i ys → get_or xs i d ≡ get_or ys i d
first_left xs ys i d rest =
    ap (λ k. get_or xs k d) (sym (add-zero i)) ∙ sym (get_or-drop i xs 0 d) ∙ ap (λ l. get_or l 0 d) rest ∙ get_or-drop i ys 0 d ∙ ap (λ k. get_or ys k d) (add-zero i)

pub length_same : {X Y : Type 0} (f : X → Y) (xs ys : List X) → map f xs ≡ map f ys → length xs ≡ length ys
length_same f xs ys same = sym (length-map xs f) ∙ ap length same ∙ length-map ys f

-- a filter that was not given the page yet
pub left_is : (rows : List Row) (now first : List BuildFilterState) (place : ℕ) (d : BuildFilterState) → place < length now → map but_domain now ≡ map but_domain first
    → drop place now ≡ drop place first → All (IsFilterOf rows false) first → IsFilterOf rows false (get_or now place d)
left_is rows now first place d less same rest all =
    subst (IsFilterOf rows false) (sym (first_left now first place d rest)) (all place d (omega (arith, less, length_same but_domain now first same)))
