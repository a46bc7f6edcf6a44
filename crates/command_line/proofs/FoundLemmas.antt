-- What `clap` makes of arguments: its walk over them gives what the items of the arguments give.
use Rattle.std.proofs.Common.{◌≡◌, ◌∙◌, ◌&&◌, ◌==◌, ℕ, Bool, cond, true, false, refl, sym, ap, ap₂, subst, List, [], ◌∷◌, map, Option, Some, None, option_and_then, true≢false, IsUtf8}
use Rattle.std.specs.List.{find, fold, list_any}
use Rattle.std.specs.Option.{option_map_or}
use Rattle.std.specs.Str.{bytes_eq, chars}
use Rattle.std.specs.Prelude.{nat_lt, slice_get}
use Rattle.clap.specs.Words.{Rule, Row}
use Rattle.clap.specs.Kinds.{Kinds, or_else}
use Rattle.clap.specs.Faults.{flags_fault, long_fault, settle_fault, step_fault, turn_fault, use_fault, walk_fault}
use Rattle.clap.specs.Walk.{Held, Step, Text, Waiting, Walk, after_flag, after_step, arg_by_id, arg_by_long, has_row, idle, long_met, nothing_held, option, positional, pushed, settled, used_by_id, walk_from, walked, with_values, without}
use Rattle.clap.specs.declared.error.kind.ErrorKind.{ErrorKind}
use Rattle.clap.specs.declared.error.kind.ErrorKind.TheVariants as kind
use Rattle.clap.specs.declared.parser.matches.ValueSource.TheVariants.{CommandLine}
use Rattle.clap.specs.declared.builder.value_parser.Reading.TheVariants.{AsWritten}
use Rattle.command_line.specs.Items.{Item, before, end_of_options, first_part, has_equals_sign, is_option, items_from, items_of, named, same_text, second_part, valued}
use Rattle.command_line.specs.Found.{AllTexts, tables_id}
use Rattle.command_line.proofs.ClassLemmas.{Class, IsPlain, class_of, find_id, find_option, first_char, no_short, no_sign, option_built, rules, shape, tables_built, text_is, text_same}
use Rattle.command_line.proofs.ClassLemmas.Class.{is_end, is_long, is_plain, is_short}

-- ---- the walk from where it stands

abbrev held : List Row → Option (Text × List Text) → Held
held rows pending = record { rows = rows; pending = pending; skip = 0 }

abbrev at : List Row → Option (Text × List Text) → Waiting → Bool → Walk
at rows pending waiting ended = record { held = held rows pending; waiting = waiting; position = 1; is_trailing = ended; stopped = None }

abbrev pub none : Kinds → Bool
none [] = true
none (k ∷ ks) = false

-- nothing is known of a name yet, and its value is this
abbrev pub added : Text → Text → List Row → List Row
added name value rows = with_values name AsWritten CommandLine (value ∷ []) (without name rows)

abbrev pub joined : Text → List Row → List Row
joined word rows = with_values tables_id AsWritten CommandLine (word ∷ []) rows

-- the rows of items, or None where one is refused
abbrev pub put : List Text → List Row → List Item → Option (List Row)
put names rows [] = Some rows
put names rows (valued name value ∷ items) = cond (list_any (λ other. same_text other name) names) (cond (has_row name rows) None (put names (added name value rows) items)) None
put names rows (named word ∷ items) = put names (joined word rows) items

module _ (names : List Text) where
  abbrev fault_at : List Row → Option (Text × List Text) → Kinds
  fault_at rows pending = settle_fault (rules names) false (held rows pending)

  abbrev rows_at : List Row → Option (Text × List Text) → List Row
  rows_at rows pending = (settled (rules names) (held rows pending)).rows

  -- the rows once what is pending is used
  abbrev now : List Row → Option (Text × List Text) → Option (List Row)
  now rows pending = cond (none (fault_at rows pending)) (Some (rows_at rows pending)) None

  -- the rows at the end of the arguments, or None where the parse fails
  abbrev pub ending : Kinds → Held → Option (List Row)
  ending walk_faults h = cond (none walk_faults && none (settle_fault (rules names) false h)) (Some (settled (rules names) h).rows) None

  abbrev pub outcome : Walk → List Text → Option (List Row)
  outcome w words = ending (walk_fault (shape names) [] w words) (fold (walked (rules names) []) w words).held

  -- the rows of items behind these rows
  abbrev pub told : Option (List Row) → Option (List Item) → Option (List Row)
  told rows items = option_and_then (λ r. option_and_then (put names r) items) rows

  after_turn : (turn rest : Kinds) (h : Held) → ending (or_else turn rest) h ≡ cond (none turn) (ending rest h) None
  after_turn [] rest h = refl
  after_turn (k ∷ ks) rest h = refl

  outcome_step : (w : Walk) (word : Text) (rest : List Text)
      → outcome w (word ∷ rest) ≡ cond (none (turn_fault (shape names) [] w word)) (outcome (walked (rules names) [] w word) rest) None
  unfolding walk_fault
  outcome_step w word rest = after_turn (turn_fault (shape names) [] w word) (walk_fault (shape names) [] (walked (rules names) [] w word) rest) (fold (walked (rules names) []) (walked (rules names) [] w word) rest).held

  outcome_end : (w : Walk) → outcome w [] ≡ cond (none (settle_fault (rules names) false w.held)) (Some (settled (rules names) w.held).rows) None
  unfolding walk_fault
  outcome_end w = refl

  told_none : (a : Option (List Row)) → told a (Some []) ≡ a
  told_none None = refl
  told_none (Some rows) = refl

  told_when : (b : Bool) (rows : List Row) (items : Option (List Item)) → told (cond b (Some rows) None) items ≡ cond b (told (Some rows) items) None
  told_when true rows items = refl
  told_when false rows items = refl

  told_named : (rows : List Row) (word : Text) (items : Option (List Item)) → told (Some (joined word rows)) items ≡ told (Some rows) (before (named word) items)
  told_named rows word None = refl
  told_named rows word (Some items) = refl

  by_bool : {X : Type 0} (f : Bool → X) (x : X) (b : Bool) → f true ≡ x → f false ≡ x → f b ≡ x
  by_bool f x true t e = t
  by_bool f x false t e = e

  -- an argument behind `--`
  ended_turn : (rows : List Row) (pending : Option (Text × List Text)) (waiting : Waiting) (word : Text)
      → turn_fault (shape names) [] (at rows pending waiting true) word ≡ fault_at rows pending
  ended_turn rows None waiting word = refl
  ended_turn rows (Some p) waiting word = by_bool (λ b. or_else [] (cond (b && false) [] (fault_at rows (Some p)))) (fault_at rows (Some p)) (bytes_eq p.0 tables_id) refl refl

  ended_walk : (rows : List Row) (pending : Option (Text × List Text)) (waiting : Waiting) (word : Text)
      → walked (rules names) [] (at rows pending waiting true) word ≡ at (rows_at rows pending) (Some (tables_id, word ∷ [])) positional true
  unfolding walked
  ended_walk rows None waiting word = refl
  ended_walk rows (Some p) waiting word = by_bool
      (λ b. record {
        held = pushed tables_id word (cond (b && false) (held rows (Some p)) (settled (rules names) (held rows (Some p))));
        waiting = positional;
        position = 1;
        is_trailing = true;
        stopped = None;
      })
      (at (rows_at rows (Some p)) (Some (tables_id, word ∷ [])) positional true) (bytes_eq p.0 tables_id) refl refl

  -- all arguments behind `--` belong to no option
  ended_words : (words : List Text) (rows : List Row) (pending : Option (Text × List Text)) (waiting : Waiting)
      → outcome (at rows pending waiting true) words ≡ told (now rows pending) (Some (map named words))
  ended_words [] rows pending waiting = outcome_end (at rows pending waiting true) ∙ sym (told_none (now rows pending))
  ended_words (word ∷ rest) rows pending waiting =
      outcome_step (at rows pending waiting true) word rest
      ∙ ap₂ (λ (k : Kinds) (w : Walk). cond (none k) (outcome w rest) None) (ended_turn rows pending waiting word) (ended_walk rows pending waiting word)
      ∙ ap (λ o. cond (none (fault_at rows pending)) o None) (ended_words rest (rows_at rows pending) (Some (tables_id, word ∷ [])) positional)
      ∙ sym (told_when (none (fault_at rows pending)) (rows_at rows pending) (Some (map named (word ∷ rest))))

  -- ---- an argument before `--`

  -- no option waits for its value
  abbrev IsAtRest : Waiting → Type 0
  IsAtRest (option name) = ⊥
  IsAtRest _ = Unit {0}

  plain_turn : (rows : List Row) (pending : Option (Text × List Text)) (waiting : Waiting) (word : Text) → IsAtRest waiting → IsPlain word
      → turn_fault (shape names) [] (at rows pending waiting false) word ≡ fault_at rows pending
  plain_turn rows None idle word rest plain = rw (plain.ends, plain.long, plain.short) refl
  plain_turn rows None positional word rest plain = rw (plain.ends, plain.long, plain.short) refl
  plain_turn rows (Some p) idle word rest plain = rw (plain.ends, plain.long, plain.short)
      (by_bool (λ b. cond (b && false) [] (fault_at rows (Some p))) (fault_at rows (Some p)) (bytes_eq p.0 tables_id) refl refl)
  plain_turn rows (Some p) positional word rest plain = rw (plain.ends, plain.long, plain.short)
      (by_bool (λ b. cond (b && false) [] (fault_at rows (Some p))) (fault_at rows (Some p)) (bytes_eq p.0 tables_id) refl refl)
  plain_turn rows pending (option name) word rest plain = absurd rest

  plain_held : (rows : List Row) (p : Text × List Text) (word : Text) (b : Bool)
      → ◌≡◌ {A = Walk} (record {
        held = pushed tables_id word (cond (b && false) (held rows (Some p)) (settled (rules names) (held rows (Some p))));
        waiting = positional;
        position = 1;
        is_trailing = false;
        stopped = None;
      })
      (at (rows_at rows (Some p)) (Some (tables_id, word ∷ [])) positional false)
  plain_held rows p word true = refl
  plain_held rows p word false = refl

  plain_walk : (rows : List Row) (pending : Option (Text × List Text)) (waiting : Waiting) (word : Text) → IsAtRest waiting → IsPlain word
      → walked (rules names) [] (at rows pending waiting false) word ≡ at (rows_at rows pending) (Some (tables_id, word ∷ [])) positional false
  unfolding walked
  plain_walk rows None idle word rest plain = rw (plain.ends, plain.long, plain.short) refl
  plain_walk rows None positional word rest plain = rw (plain.ends, plain.long, plain.short) refl
  plain_walk rows (Some p) idle word rest plain = rw (plain.ends, plain.long, plain.short) (plain_held rows p word (bytes_eq p.0 tables_id))
  plain_walk rows (Some p) positional word rest plain = rw (plain.ends, plain.long, plain.short) (plain_held rows p word (bytes_eq p.0 tables_id))
  plain_walk rows pending (option name) word rest plain = absurd rest

  -- what holds of the arguments behind, where no option waits, and where one does
  abbrev Reads : List Text → Type 0
  Reads words = (rows : List Row) (pending : Option (Text × List Text)) (waiting : Waiting) → IsAtRest waiting
      → outcome (at rows pending waiting false) words ≡ told (now rows pending) (items_from None words)

  abbrev Waits : List Text → Type 0
  Waits words = (rows : List Row) (name : Text) → list_any (λ other. same_text other name) names ≡ true
      → outcome (at rows (Some (name, [])) (option name) false) words ≡ told (Some rows) (items_from (Some name) words)

  plain_item : (word : Text) (rest : List Text) → IsPlain word → items_from None (word ∷ rest) ≡ before (named word) (items_from None rest)
  plain_item word rest plain = rw plain.option refl

  plain_reads : (word : Text) (rest : List Text) → IsPlain word → Reads rest → Reads (word ∷ rest)
  plain_reads word rest plain behind rows pending waiting still =
      outcome_step (at rows pending waiting false) word rest
      ∙ ap₂ (λ (k : Kinds) (w : Walk). cond (none k) (outcome w rest) None) (plain_turn rows pending waiting word still plain) (plain_walk rows pending waiting word still plain)
      ∙ ap (λ o. cond (none (fault_at rows pending)) o None) (behind (rows_at rows pending) (Some (tables_id, word ∷ [])) positional tt ∙ told_named (rows_at rows pending) word (items_from None rest))
      ∙ sym (told_when (none (fault_at rows pending)) (rows_at rows pending) (before (named word) (items_from None rest)))
      ∙ ap (told (now rows pending)) (sym (plain_item word rest plain))

  end_turn : (rows : List Row) (pending : Option (Text × List Text)) (waiting : Waiting) → turn_fault (shape names) [] (at rows pending waiting false) end_of_options ≡ []
  end_turn rows pending idle = refl
  end_turn rows pending positional = refl
  end_turn rows pending (option name) = refl

  end_walk : (rows : List Row) (pending : Option (Text × List Text)) (waiting : Waiting)
      → walked (rules names) [] (at rows pending waiting false) end_of_options ≡ at rows pending waiting true
  unfolding walked
  end_walk rows pending idle = refl
  end_walk rows pending positional = refl
  end_walk rows pending (option name) = refl

  end_step : (rows : List Row) (pending : Option (Text × List Text)) (waiting : Waiting) (rest : List Text)
      → outcome (at rows pending waiting false) (end_of_options ∷ rest) ≡ told (now rows pending) (Some (map named rest))
  end_step rows pending waiting rest =
      outcome_step (at rows pending waiting false) end_of_options rest
      ∙ ap₂ (λ (k : Kinds) (w : Walk). cond (none k) (outcome w rest) None) (end_turn rows pending waiting) (end_walk rows pending waiting)
      ∙ ended_words rest rows pending waiting

  -- ---- an argument `-x`
  short_turn : (rows : List Row) (pending : Option (Text × List Text)) (waiting : Waiting) (y : ℕ) (ys : Text) (c : ℕ) → (y == 45) ≡ false
      → slice_get (chars (y ∷ ys)) 0 ≡ Some c → none (turn_fault (shape names) [] (at rows pending waiting false) (45 ∷ y ∷ ys)) ≡ false
  unfolding flags_fault
  short_turn rows pending idle y ys c single first = rw (single, single, first, no_short names c) refl
  short_turn rows pending positional y ys c single first = rw (single, single, first, no_short names c) refl
  short_turn rows pending (option name) y ys c single first = rw (single, single, first, no_short names c) refl

  short_step : (rows : List Row) (pending : Option (Text × List Text)) (waiting : Waiting) (y : ℕ) (ys : Text) (c : ℕ) (rest : List Text) → (y == 45) ≡ false
      → slice_get (chars (y ∷ ys)) 0 ≡ Some c → outcome (at rows pending waiting false) ((45 ∷ y ∷ ys) ∷ rest) ≡ None
  short_step rows pending waiting y ys c rest single first =
      outcome_step (at rows pending waiting false) (45 ∷ y ∷ ys) rest
      ∙ ap (λ b. cond b (outcome (walked (rules names) [] (at rows pending waiting false) (45 ∷ y ∷ ys)) rest) None) (short_turn rows pending waiting y ys c single first)

  short_item : (y : ℕ) (ys : Text) (rest : List Text) → (y == 45) ≡ false → items_from None ((45 ∷ y ∷ ys) ∷ rest) ≡ None
  short_item y ys rest single = rw single refl

  -- ---- an argument `--name` or `--name=value`
  abbrev met_long : List Row → Option (Text × List Text) → Waiting → Text → Option Rule → Option Text → Held × Step
  met_long rows pending waiting word found value =
      let met = long_met (rules names) found value (held rows pending) in after_flag (rules names) waiting word met.0 met.1

  abbrev long_turn : List Row → Option (Text × List Text) → Waiting → Text → Option Rule → Option Text → Kinds
  long_turn rows pending waiting word found value =
      let met = met_long rows pending waiting word found value in
      or_else (long_fault (rules names) false found value (held rows pending)) (step_fault (shape names) 1 met.0 met.1)

  abbrev long_walk : List Row → Option (Text × List Text) → Waiting → Text → Option Rule → Option Text → Walk
  long_walk rows pending waiting word found value =
      let met = met_long rows pending waiting word found value in after_step (rules names) word (at rows pending waiting false) met.0 met.1

  abbrev long_outcome : List Row → Option (Text × List Text) → Waiting → Text → List Text → Option Rule → Option Text → Option (List Row)
  long_outcome rows pending waiting word rest found value =
      cond (none (long_turn rows pending waiting word found value)) (outcome (long_walk rows pending waiting word found value) rest) None

  module _ (x : ℕ) (xs : Text) where
    abbrev text : Text
    text = x ∷ xs

    abbrev long : Text
    long = 45 ∷ 45 ∷ text

    abbrev name : Text
    name = first_part text

    abbrev value : Text
    value = second_part text

    long_step : (rows : List Row) (pending : Option (Text × List Text)) (waiting : Waiting) (rest : List Text)
        → outcome (at rows pending waiting false) (long ∷ rest)
        ≡ long_outcome rows pending waiting long rest (arg_by_long (rules names) name) (cond (has_equals_sign text) (Some value) None)
    unfolding walked
    long_step rows pending idle rest = outcome_step (at rows pending idle false) long rest
    long_step rows pending positional rest = outcome_step (at rows pending positional false) long rest
    long_step rows pending (option other) rest = outcome_step (at rows pending (option other) false) long rest

  -- what is given for an option
  told_valued : (rows : List Row) (name value : Text) (items : Option (List Item)) → list_any (λ other. same_text other name) names ≡ true
      → cond (has_row name rows) None (told (Some (added name value rows)) items) ≡ told (Some rows) (before (valued name value) items)
  told_valued rows name value None known = by_bool (λ b. cond b None None) None (has_row name rows) refl refl
  told_valued rows name value (Some items) known = rw known refl

  told_unknown : (rows : Option (List Row)) (name value : Text) (items : Option (List Item)) → list_any (λ other. same_text other name) names ≡ false
      → told rows (before (valued name value) items) ≡ None
  told_unknown None name value items unknown = refl
  told_unknown (Some rows) name value None unknown = refl
  told_unknown (Some rows) name value (Some items) unknown = rw unknown refl

  told_nothing : (rows : Option (List Row)) → told rows None ≡ None
  told_nothing None = refl
  told_nothing (Some rows) = refl

  told_open : (rows : Option (List Row)) (owed : Text) (words : List Text) → list_any (λ other. same_text other owed) names ≡ false
      → told rows (items_from (Some owed) words) ≡ None
  told_open rows owed [] unknown = told_nothing rows
  told_open rows owed (word ∷ words) unknown = by_bool (λ b. told rows (cond b None (before (valued owed word) (items_from None words)))) None
      (is_option word) (told_nothing rows) (told_unknown rows owed word (items_from None words) unknown)

  used_once : (settling : Kinds) (again : Bool) (k : ErrorKind) (after : Option (List Row))
      → cond (none (or_else (or_else settling (or_else (cond (again && true) (k ∷ []) []) [])) [])) after None ≡ cond (none settling) (cond again None after) None
  used_once [] true k after = refl
  used_once [] false k after = refl
  used_once (l ∷ ls) again k after = refl

  settled_first : (settling : Kinds) (after : Option (List Row)) → cond (none (or_else settling [])) after None ≡ cond (none settling) after None
  settled_first [] after = refl
  settled_first (k ∷ ks) after = refl

  -- an option that the command has, with its value in the same argument
  valued_outcome : (rows : List Row) (pending : Option (Text × List Text)) (waiting : Waiting) (word : Text) (rest : List Text) (name value : Text)
      → IsAtRest waiting → list_any (λ other. same_text other name) names ≡ true → Reads rest
      → long_outcome rows pending waiting word rest (Some (option_built name)) (Some value) ≡ told (now rows pending) (before (valued name value) (items_from None rest))
  valued_outcome rows pending waiting word rest name value still known behind =
      let used = rows_at rows pending in
      used_once (fault_at rows pending) (has_row name used) kind.ArgumentConflict (outcome (at (added name value used) None idle false) rest)
      ∙ ap (λ o. cond (none (fault_at rows pending)) (cond (has_row name used) None o) None) (behind (added name value used) None idle tt)
      ∙ ap (λ o. cond (none (fault_at rows pending)) o None) (told_valued used name value (items_from None rest) known)
      ∙ sym (told_when (none (fault_at rows pending)) used (before (valued name value) (items_from None rest)))

  -- an option that the command has, with its value in the next argument
  open_outcome : (rows : List Row) (pending : Option (Text × List Text)) (waiting : Waiting) (word : Text) (rest : List Text) (name : Text)
      → IsAtRest waiting → list_any (λ other. same_text other name) names ≡ true → Waits rest
      → long_outcome rows pending waiting word rest (Some (option_built name)) None ≡ told (now rows pending) (items_from (Some name) rest)
  open_outcome rows pending waiting word rest name still known behind =
      let used = rows_at rows pending in
      settled_first (fault_at rows pending) (outcome (at used (Some (name, [])) (option name) false) rest)
      ∙ ap (λ o. cond (none (fault_at rows pending)) o None) (behind used name known)
      ∙ sym (told_when (none (fault_at rows pending)) used (items_from (Some name) rest))

  module _ (x : ℕ) (xs : Text) where
    long_item : (rest : List Text) → items_from None ((45 ∷ 45 ∷ x ∷ xs) ∷ rest)
        ≡ cond (has_equals_sign (x ∷ xs)) (before (valued (first_part (x ∷ xs)) (second_part (x ∷ xs))) (items_from None rest)) (items_from (Some (x ∷ xs)) rest)
    long_item rest = refl

  long_reads : (x : ℕ) (xs : Text) (rest : List Text) → Reads rest → Waits rest → Reads ((45 ∷ 45 ∷ x ∷ xs) ∷ rest)
  long_reads x xs rest reads waits rows pending waiting still =
      long_step x xs rows pending waiting rest
      ∙ ap (λ found. long_outcome rows pending waiting (long x xs) rest found (cond (has_equals_sign (text x xs)) (Some (value x xs)) None)) (find_option (name x xs) names)
      ∙ by_known (list_any (λ other. same_text other (name x xs)) names) (has_equals_sign (text x xs)) refl refl
      ∙ ap (told (now rows pending)) (sym (long_item x xs rest))
    where
      by_known : (known signed : Bool) → list_any (λ other. same_text other (name x xs)) names ≡ known → has_equals_sign (text x xs) ≡ signed
          → long_outcome rows pending waiting (long x xs) rest (cond known (Some (option_built (name x xs))) None) (cond signed (Some (value x xs)) None)
          ≡ told (now rows pending) (cond signed (before (valued (name x xs) (value x xs)) (items_from None rest)) (items_from (Some (text x xs)) rest))
      by_known true true known signed = valued_outcome rows pending waiting (long x xs) rest (name x xs) (value x xs) still known reads
      by_known true false known signed = open_outcome rows pending waiting (long x xs) rest (name x xs) still known waits
          ∙ ap (λ t. told (now rows pending) (items_from (Some t) rest)) (no_sign (text x xs) signed)
      by_known false true unknown signed = sym (told_unknown (now rows pending) (name x xs) (value x xs) (items_from None rest) unknown)
      by_known false false unknown signed = sym (told_open (now rows pending) (text x xs) rest (ap (λ t. list_any (λ other. same_text other t) names) (sym (no_sign (text x xs) signed)) ∙ unknown))

  -- ---- an argument behind an option that waits for its value
  module _ (apart : list_any (λ other. same_text other tables_id) names ≡ false) where
    -- no option has the name under which tables are found
    not_tables : (owed : Text) (b : Bool) → list_any (λ other. same_text other owed) names ≡ true → same_text tables_id owed ≡ b → b ≡ false
    not_tables owed true known same = sym (sym apart ∙ ap (λ t. list_any (λ other. same_text other t) names) (text_is tables_id owed same) ∙ known)
    not_tables owed false known same = refl

    id_of : (owed : Text) → list_any (λ other. same_text other owed) names ≡ true → arg_by_id (rules names) owed ≡ Some (option_built owed)
    id_of owed known =
        ap (λ b. cond b (Some tables_built) (find (λ a. bytes_eq a.id owed) (map option_built names))) (not_tables owed (same_text tables_id owed) known refl)
        ∙ find_id owed names ∙ ap (λ b. cond b (Some (option_built owed)) None) known

    waits_fault : (rows : List Row) (owed : Text) → list_any (λ other. same_text other owed) names ≡ true → none (fault_at rows (Some (owed, []))) ≡ false
    waits_fault rows owed known = ap (λ found. none (option_map_or (λ a. use_fault false a [] rows) found [])) (id_of owed known)

    now_open : (rows : List Row) (owed : Text) → list_any (λ other. same_text other owed) names ≡ true → now rows (Some (owed, [])) ≡ None
    now_open rows owed known = ap (λ b. cond b (Some (rows_at rows (Some (owed, [])))) None) (waits_fault rows owed known)

    used_last : (again : Bool) (k : ErrorKind) (after : Option (List Row)) → cond (none (or_else (cond (again && true) (k ∷ []) []) [])) after None ≡ cond again None after
    used_last true k after = refl
    used_last false k after = refl

    now_given : (rows : List Row) (owed word : Text) → list_any (λ other. same_text other owed) names ≡ true
        → now rows (Some (owed, word ∷ [])) ≡ cond (has_row owed rows) None (Some (added owed word rows))
    now_given rows owed word known =
        ap (λ found. cond (none (option_map_or (λ a. use_fault false a (word ∷ []) rows) found [])) (Some (used_by_id found (word ∷ []) rows)) None) (id_of owed known)
        ∙ used_last (has_row owed rows) kind.ArgumentConflict (Some (added owed word rows))

    open_turn : (rows : List Row) (owed word : Text) → IsPlain word → turn_fault (shape names) [] (at rows (Some (owed, [])) (option owed) false) word ≡ []
    open_turn rows owed word plain = rw (plain.ends, plain.long, plain.short) refl

    given_walk : (rows : List Row) (owed word : Text) (same : Bool) → same ≡ true
        → ◌≡◌ {A = Walk} (record {
          held = held rows (Some (owed, word ∷ []));
          waiting = cond (nat_lt (cond same 1 0) 1) (option owed) idle;
          position = 1;
          is_trailing = false;
          stopped = None;
        }) (at rows (Some (owed, word ∷ [])) idle false)
    given_walk rows owed word true e = refl
    given_walk rows owed word false e = absurd (true≢false (sym e))

    open_walk : (rows : List Row) (owed word : Text) → IsPlain word → list_any (λ other. same_text other owed) names ≡ true
        → walked (rules names) [] (at rows (Some (owed, [])) (option owed) false) word ≡ at rows (Some (owed, word ∷ [])) idle false
    unfolding walked
    open_walk rows owed word plain known = rw (plain.ends, plain.long, plain.short, id_of owed known) (given_walk rows owed word (same_text owed owed) (text_same owed))

    none_more : (settling after : Kinds) → none settling ≡ false → none (or_else settling after) ≡ false
    none_more [] after e = absurd (true≢false e)
    none_more (k ∷ ks) after e = refl

    -- a long option where one still waits for its value
    long_waits : (rows : List Row) (owed word : Text) (rest : List Text) (other : Text) (known : Bool) (given : Option Text) → list_any (λ name. same_text name owed) names ≡ true
        → long_outcome rows (Some (owed, [])) (option owed) word rest (cond known (Some (option_built other)) None) given ≡ None
    long_waits rows owed word rest other false given is = refl
    long_waits rows owed word rest other true (Some v) is =
        let settling = fault_at rows (Some (owed, [])) in
        let used = rows_at rows (Some (owed, [])) in
        ap (λ b. cond b (outcome (at (added other v used) None idle false) rest) None)
        (none_more (or_else settling (use_fault false (option_built other) (v ∷ []) used)) [] (none_more settling (use_fault false (option_built other) (v ∷ []) used) (waits_fault rows owed is)))
    long_waits rows owed word rest other true None is =
        let settling = fault_at rows (Some (owed, [])) in
        ap (λ b. cond b (outcome (at (rows_at rows (Some (owed, []))) (Some (other, [])) (option other) false) rest) None) (none_more settling [] (waits_fault rows owed is))

    told_once : (again : Bool) (rows : List Row) (items : Option (List Item)) → told (cond again None (Some rows)) items ≡ cond again None (told (Some rows) items)
    told_once true rows items = refl
    told_once false rows items = refl

    plain_waits : (word : Text) (rest : List Text) → IsPlain word → Reads rest → Waits (word ∷ rest)
    plain_waits word rest plain reads rows owed known =
        let value : items_from (Some owed) (word ∷ rest) ≡ before (valued owed word) (items_from None rest) = rw plain.option refl in
        outcome_step (at rows (Some (owed, [])) (option owed) false) word rest
        ∙ ap₂ (λ (k : Kinds) (w : Walk). cond (none k) (outcome w rest) None) (open_turn rows owed word plain) (open_walk rows owed word plain known)
        ∙ reads rows (Some (owed, word ∷ [])) idle tt
        ∙ ap (λ o. told o (items_from None rest)) (now_given rows owed word known)
        ∙ told_once (has_row owed rows) (added owed word rows) (items_from None rest)
        ∙ told_valued rows owed word (items_from None rest) known
        ∙ ap (told (Some rows)) (sym value)

    reads_of : (word : Text) (rest : List Text) → Class word → IsUtf8 word → Reads rest → Waits rest → Reads (word ∷ rest)
    reads_of word rest (is_plain plain) utf8 reads waits = plain_reads word rest plain reads
    reads_of word rest (is_end e) utf8 reads waits = subst (λ w. Reads (w ∷ rest)) (sym e) (λ rows pending waiting still. end_step rows pending waiting rest)
    reads_of word rest (is_long x xs e) utf8 reads waits = subst (λ w. Reads (w ∷ rest)) (sym e) (long_reads x xs rest reads waits)
    reads_of word rest (is_short y ys e single) utf8 reads waits = subst (λ w. Reads (w ∷ rest)) (sym e) (λ rows pending waiting still.
        let first = first_char y ys (subst IsUtf8 e utf8) in
        short_step rows pending waiting y ys first.0 rest single first.1 ∙ sym (told_nothing (now rows pending)) ∙ ap (told (now rows pending)) (sym (short_item y ys rest single)))

    waits_of : (word : Text) (rest : List Text) → Class word → IsUtf8 word → Reads rest → Waits (word ∷ rest)
    waits_of word rest (is_plain plain) utf8 reads = plain_waits word rest plain reads
    waits_of word rest (is_end e) utf8 reads = subst (λ w. Waits (w ∷ rest)) (sym e) (λ rows owed known.
        end_step rows (Some (owed, [])) (option owed) rest ∙ ap (λ o. told o (Some (map named rest))) (now_open rows owed known))
    waits_of word rest (is_long x xs e) utf8 reads = subst (λ w. Waits (w ∷ rest)) (sym e) (λ rows owed known.
        long_step x xs rows (Some (owed, [])) (option owed) rest
        ∙ ap (λ found. long_outcome rows (Some (owed, [])) (option owed) (long x xs) rest found (cond (has_equals_sign (text x xs)) (Some (value x xs)) None)) (find_option (name x xs) names)
        ∙ long_waits rows owed (long x xs) rest (name x xs) (list_any (λ other. same_text other (name x xs)) names) (cond (has_equals_sign (text x xs)) (Some (value x xs)) None) known)
    waits_of word rest (is_short y ys e single) utf8 reads = subst (λ w. Waits (w ∷ rest)) (sym e) (λ rows owed known.
        let first = first_char y ys (subst IsUtf8 e utf8) in short_step rows (Some (owed, [])) (option owed) y ys first.0 rest single first.1)

    all_read : (words : List Text) → AllTexts words → Reads words × Waits words
    all_read [] utf8 = (
      λ rows pending waiting still. outcome_end (at rows pending waiting false) ∙ sym (told_none (now rows pending)),
      λ rows owed known. outcome_end (at rows (Some (owed, [])) (option owed) false) ∙ now_open rows owed known,
    )
    all_read (word ∷ rest) utf8 =
        let behind = all_read rest utf8.1 in
        (reads_of word rest (class_of word) utf8.0 behind.0 behind.1, waits_of word rest (class_of word) utf8.0 behind.0)

    -- the walk over arguments gives what their items give
    pub outcome_is : (words : List Text) → AllTexts words → outcome (walk_from nothing_held) words ≡ told (Some []) (items_of words)
    outcome_is words utf8 = (all_read words utf8).0 [] None idle tt
