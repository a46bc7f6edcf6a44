-- What is asked for, by the rows of items.
use Rattle.std.proofs.Common.{◌≡◌, ◌∙◌, ◌&&◌, ◌||◌, Bool, cond, true, false, not, refl, sym, ap, ap₂, subst, List, [], ◌∷◌, ◌++◌, append_assoc, append-nil, Option, Some, None, option_and_then, option_map, unwrap_or, true≢false}
use Rattle.std.specs.List.{find, list_any}
use Rattle.std.specs.Str.{bytes_eq}
use Rattle.std.specs.Prelude.{slice_get}
use Rattle.clap.specs.Words.{Row, all_of, first_of}
use Rattle.clap.specs.Walk.{Text, has_row, more_values, with_values, without}
use Rattle.clap.specs.declared.parser.matches.ValueSource.TheVariants.{CommandLine}
use Rattle.clap.specs.declared.builder.value_parser.Reading.TheVariants.{AsWritten}
use Rattle.command_line.specs.Items.{Item, named, named_in, same_text, valued}
use Rattle.command_line.specs.Options.{are_options, is_again, is_known, option_names, written_in}
use Rattle.command_line.specs.Found.{tables_id}
use Rattle.command_line.proofs.ClassLemmas.{text_is, text_same}
use Rattle.command_line.proofs.FoundLemmas.{added, joined, put}

-- ---- rows

abbrev has_id : Text → Row → Bool
has_id id row = bytes_eq row.id id

abbrev more : Text → Text → List Row → List Row
more id value rows = with_values id AsWritten CommandLine (value ∷ []) rows

-- the row of another id stays
other_row : (id m value : Text) (rows : List Row) → same_text id m ≡ false → find (has_id m) (more id value rows) ≡ find (has_id m) rows
other_row id m value [] apart = rw apart refl
other_row id m value (r ∷ rs) apart = here (bytes_eq r.id id) refl (other_row id m value rs apart)
  where
    here : (b : Bool) → bytes_eq r.id id ≡ b → find (has_id m) (more id value rs) ≡ find (has_id m) rs
        → find (has_id m) (cond b (more_values CommandLine (value ∷ []) r ++ rs) (r ∷ more id value rs)) ≡ find (has_id m) (r ∷ rs)
    here true same behind = let no : bytes_eq r.id m ≡ false = ap (λ t. same_text t m) (text_is r.id id same) ∙ apart in rw no refl
    here false same behind = ap (λ o. cond (bytes_eq r.id m) (Some r) o) behind

abbrev new_of : Text → Text → Row
new_of id value = record { id = id; values = value ∷ []; count = None; source = Some CommandLine; reading = AsWritten }

-- a new row holds the value
new_row : (id value : Text) (rows : List Row) → has_row id rows ≡ false → first_of id (more id value rows) ≡ Some value
new_row id value [] fresh = ap (λ b. option_and_then (λ (k : Row). slice_get k.values 0) (cond b (Some (new_of id value)) None)) (text_same id)
new_row id value (r ∷ rs) fresh = here (bytes_eq r.id id) refl fresh (new_row id value rs)
  where
    here : (b : Bool) → bytes_eq r.id id ≡ b → (b || has_row id rs) ≡ false → (has_row id rs ≡ false → first_of id (more id value rs) ≡ Some value)
        → first_of id (cond b (more_values CommandLine (value ∷ []) r ++ rs) (r ∷ more id value rs)) ≡ Some value
    here true same fresh behind = absurd (true≢false fresh)
    here false same fresh behind = ap (λ b. option_and_then (λ (k : Row). slice_get k.values 0) (cond b (Some r) (find (has_id id) (more id value rs)))) same ∙ behind fresh

-- rows without one of the id are the rows
without_none : (id : Text) (rows : List Row) → has_row id rows ≡ false → without id rows ≡ rows
without_none id [] fresh = refl
without_none id (r ∷ rs) fresh = here (bytes_eq r.id id) fresh (without_none id rs)
  where
    here : (b : Bool) → (b || has_row id rs) ≡ false → (has_row id rs ≡ false → without id rs ≡ rs) → cond b rs (r ∷ without id rs) ≡ r ∷ rs
    here true fresh behind = absurd (true≢false fresh)
    here false fresh behind = ap (λ k. r ∷ k) (behind fresh)

no_row : (id : Text) (rows : List Row) → has_row id rows ≡ false → find (has_id id) rows ≡ None
no_row id [] fresh = refl
no_row id (r ∷ rs) fresh = here (bytes_eq r.id id) fresh (no_row id rs)
  where
    here : (b : Bool) → (b || has_row id rs) ≡ false → (has_row id rs ≡ false → find (has_id id) rs ≡ None) → cond b (Some r) (find (has_id id) rs) ≡ None
    here true fresh behind = absurd (true≢false fresh)
    here false fresh behind = behind fresh

or_same : (a h : Bool) → (a || h) ≡ (a || (a || h))
or_same true h = refl
or_same false h = refl

or_swap : (a b h : Bool) → (a || (b || h)) ≡ (b || (a || h))
or_swap true true h = refl
or_swap true false h = refl
or_swap false true h = refl
or_swap false false h = refl

-- which ids have a row
has_more : (id m value : Text) (rows : List Row) → has_row m (more id value rows) ≡ (same_text id m || has_row m rows)
has_more id m value [] = refl
has_more id m value (r ∷ rs) = here (bytes_eq r.id id) refl (has_more id m value rs)
  where
    here : (b : Bool) → bytes_eq r.id id ≡ b → has_row m (more id value rs) ≡ (same_text id m || has_row m rs)
        → has_row m (cond b (more_values CommandLine (value ∷ []) r ++ rs) (r ∷ more id value rs)) ≡ (same_text id m || (bytes_eq r.id m || has_row m rs))
    here true same behind = or_same (bytes_eq r.id m) (has_row m rs) ∙ ap (λ t. same_text t m || (bytes_eq r.id m || has_row m rs)) (text_is r.id id same)
    here false same behind = ap (λ b. bytes_eq r.id m || b) behind ∙ or_swap (bytes_eq r.id m) (same_text id m) (has_row m rs)

-- the arguments that belong to no option
abbrev pub tables_of : List Row → List Text
tables_of rows = unwrap_or (all_of tables_id rows) []

tables_joined : (word : Text) (rows : List Row) → tables_of (joined word rows) ≡ tables_of rows ++ word ∷ []
tables_joined word [] = refl
tables_joined word (r ∷ rs) = here (bytes_eq r.id tables_id) refl (tables_joined word rs)
  where
    here : (b : Bool) → bytes_eq r.id tables_id ≡ b → tables_of (joined word rs) ≡ tables_of rs ++ word ∷ []
        → tables_of (cond b (more_values CommandLine (word ∷ []) r ++ rs) (r ∷ joined word rs)) ≡ tables_of (r ∷ rs) ++ word ∷ []
    here true same behind = rw same refl
    here false same behind = rw same behind

-- ---- items that may stand behind rows

-- the options of these items are known, and have no row yet
abbrev fresh : List Row → List Item → Bool
fresh rows [] = true
fresh rows (valued name value ∷ items) = (is_known name && not (has_row name rows)) && fresh rows items
fresh rows (named word ∷ items) = fresh rows items

abbrev or_given : Option Text → Option Text → Option Text
or_given None later = later
or_given (Some value) later = Some value

no_name : (name : Text) → is_known name ≡ true → same_text name tables_id ≡ false
no_name name known = by (same_text name tables_id) refl
  where
    by : (b : Bool) → same_text name tables_id ≡ b → b ≡ false
    by true same = sym known ∙ ap is_known (text_is name tables_id same)
    by false same = refl

pub no_table : (name : Text) → is_known name ≡ true → same_text tables_id name ≡ false
no_table name known = by (same_text tables_id name) refl
  where
    by : (b : Bool) → same_text tables_id name ≡ b → b ≡ false
    by true same = sym known ∙ ap is_known (sym (text_is tables_id name same))
    by false same = refl

known_or : (known table has : Bool) → (known ≡ true → table ≡ false) → (known && not (table || has)) ≡ (known && not has)
known_or false table has apart = refl
known_or true table has apart = ap (λ t. not (t || has)) (apart refl)

-- an argument that belongs to no option leaves them
fresh_joined : (word : Text) (rows : List Row) (items : List Item) → fresh (joined word rows) items ≡ fresh rows items
fresh_joined word rows [] = refl
fresh_joined word rows (named other ∷ items) = fresh_joined word rows items
fresh_joined word rows (valued name value ∷ items) = ap₂ (λ a b. a && b)
    (ap (λ h. is_known name && not h) (has_more tables_id name word rows) ∙ known_or (is_known name) (same_text tables_id name) (has_row name rows) (no_table name))
    (fresh_joined word rows items)

four : (k a h g f : Bool) → ((k && not (a || h)) && (not g && f)) ≡ (not (a || g) && ((k && not h) && f))
four true true h g f = refl
four false true h g f = refl
four true false true true f = refl
four true false true false f = refl
four true false false true f = refl
four true false false false f = refl
four false false true true f = refl
four false false true false f = refl
four false false false true f = refl
four false false false false f = refl

-- an option that is added must not stand again
fresh_added : (name value : Text) (rows : List Row) (items : List Item)
    → fresh (more name value rows) items ≡ (not (list_any (is_again name) items) && fresh rows items)
fresh_added name value rows [] = refl
fresh_added name value rows (named word ∷ items) = fresh_added name value rows items
fresh_added name value rows (valued other text ∷ items) =
    ap₂ (λ h f. (is_known other && not h) && f) (has_more name other value rows) (fresh_added name value rows items)
    ∙ four (is_known other) (same_text name other) (has_row other rows) (list_any (is_again name) items) (fresh rows items)

-- what becomes of items behind rows
abbrev Means : List Row → List Item → Option (List Row) → Type 0
Means rows items None = (fresh rows items && are_options items) ≡ false
Means rows items (Some last) = ((fresh rows items && are_options items) ≡ true)
    × ((m : Text) → same_text tables_id m ≡ false → first_of m last ≡ or_given (first_of m rows) (written_in m items))
    × (tables_of last ≡ tables_of rows ++ named_in items)

or_none : (given : Option Text) → given ≡ or_given given None
or_none None = refl
or_none (Some value) = refl

abbrev first : Option Row → Option Text
first = option_and_then (λ r. slice_get r.values 0)

abbrev all : Option Row → List Text
all found = unwrap_or (option_map (λ (r : Row). r.values) found) []

means_named : (word : Text) (rows : List Row) (items : List Item) (last : Option (List Row)) → Means (joined word rows) items last → Means rows (named word ∷ items) last
means_named word rows items None h = ap (λ f. f && are_options items) (sym (fresh_joined word rows items)) ∙ h
means_named word rows items (Some l) h = (
  ap (λ f. f && are_options items) (sym (fresh_joined word rows items)) ∙ h.0,
  λ m apart. h.1 m apart ∙ ap (λ o. or_given (first o) (written_in m items)) (other_row tables_id m word rows apart),
  h.2 ∙ ap (λ t. t ++ named_in items) (tables_joined word rows) ∙ append_assoc (tables_of rows) (word ∷ []) (named_in items),
)

three : (g f o : Bool) → ((g && f) && o) ≡ (f && (g && o))
three true f o = refl
three false true o = refl
three false false o = refl

module _ (name value : Text) (rows : List Row) (items : List Item) where
  written_first : (m : Text) (same : Bool) → same_text name m ≡ same → has_row name rows ≡ false
      → or_given (first_of m (more name value rows)) (written_in m items) ≡ or_given (first_of m rows) (cond same (Some value) (written_in m items))
  written_first m true same none =
      let is : name ≡ m = text_is name m same in
      ap (λ o. or_given o (written_in m items)) (ap (λ t. first_of t (more name value rows)) (sym is) ∙ new_row name value rows none)
      ∙ sym (ap (λ o. or_given (first o) (Some value)) (ap (λ t. find (has_id t) rows) (sym is) ∙ no_row name rows none))
  written_first m false same none = ap (λ o. or_given (first o) (written_in m items)) (other_row name m value rows same)

  fresh_first : is_known name ≡ true → has_row name rows ≡ false
      → (fresh (more name value rows) items && are_options items) ≡ (fresh rows (valued name value ∷ items) && are_options (valued name value ∷ items))
  fresh_first known none =
      ap (λ f. f && are_options items) (fresh_added name value rows items)
      ∙ three (not (list_any (is_again name) items)) (fresh rows items) (are_options items)
      ∙ sym (ap₂ (λ k h. ((k && not h) && fresh rows items) && ((k && not (list_any (is_again name) items)) && are_options items)) known none)

  means_more : is_known name ≡ true → has_row name rows ≡ false → (last : Option (List Row)) → Means (more name value rows) items last → Means rows (valued name value ∷ items) last
  means_more known none None h = sym (fresh_first known none) ∙ h
  means_more known none (Some l) h = (
    sym (fresh_first known none) ∙ h.0,
    λ m apart. h.1 m apart ∙ written_first m (same_text name m) refl none,
    h.2 ∙ ap (λ o. all o ++ named_in items) (other_row name tables_id value rows (no_name name known)),
  )

  means_valued : (known has : Bool) (last : Option (List Row)) → is_known name ≡ known → has_row name rows ≡ has → Means (added name value rows) items last
      → Means rows (valued name value ∷ items) (cond known (cond has None last) None)
  means_valued false has last known none h = ap (λ k. ((k && not (has_row name rows)) && fresh rows items) && ((k && not (list_any (is_again name) items)) && are_options items)) known
  means_valued true true last known none h =
      ap₂ (λ k r. ((k && not r) && fresh rows items) && ((k && not (list_any (is_again name) items)) && are_options items)) known none
  means_valued true false last known none h = means_more known none last (subst (λ r. Means (more name value r) items last) (without_none name rows none) h)

means : (items : List Item) (rows : List Row) → Means rows items (put option_names rows items)
means [] rows = (refl, λ m apart. or_none (first_of m rows), sym (append-nil (tables_of rows)))
means (named word ∷ items) rows = means_named word rows items (put option_names (joined word rows) items) (means items (joined word rows))
means (valued name value ∷ items) rows = means_valued name value rows items (is_known name) (has_row name rows) (put option_names (added name value rows) items) refl refl (means items (added name value rows))

both_known : (k g f o : Bool) → (f && o) ≡ o → (((k && true) && f) && ((k && g) && o)) ≡ ((k && g) && o)
both_known false g f o e = refl
both_known true true f o e = e
both_known true false true o e = refl
both_known true false false o e = refl

-- with no row yet, options that may stand are fresh
fresh_at_first : (items : List Item) → (fresh [] items && are_options items) ≡ are_options items
fresh_at_first [] = refl
fresh_at_first (named word ∷ items) = fresh_at_first items
fresh_at_first (valued name value ∷ items) = both_known (is_known name) (not (list_any (is_again name) items)) (fresh [] items) (are_options items) (fresh_at_first items)

-- what is found where items are put into no rows: nothing where they may not stand, else what is written in them
pub record IsWritten (items : List Item) (rows : List Row) : Type 0 where
  pub stand : are_options items ≡ true
  pub given : (m : Text) → same_text tables_id m ≡ false → first_of m rows ≡ written_in m items
  pub tables : tables_of rows ≡ named_in items

abbrev pub Written : List Item → Option (List Row) → Type 0
Written items None = are_options items ≡ false
Written items (Some rows) = IsWritten items rows

pub written : (items : List Item) → Written items (put option_names [] items)
written items = by (put option_names [] items) (means items [])
  where
    by : (last : Option (List Row)) → Means [] items last → Written items last
    by None h = sym (fresh_at_first items) ∙ h
    by (Some rows) h = record { stand = sym (fresh_at_first items) ∙ h.0; given = λ m apart. h.1 m apart; tables = h.2 }
