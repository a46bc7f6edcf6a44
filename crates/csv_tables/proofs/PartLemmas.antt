-- The records of a text are those of its parts.
use Rattle.std.proofs.Common.{◌≡◌, ◌≢◌, ◌≤◌, ◌++◌, ℕ, zero, suc, List, [], ◌∷◌, length, Option, Some, None, true, false, Bool, refl, ap, arith, add-one}
use Rattle.std.specs.Prelude.{if◌then◌else◌, ◌==◌, ◌||◌, All}
use Rattle.std.proofs.lemmas.Bool.{eqb-true}
use Rattle.std.proofs.lemmas.List.Elements.{All-head, All-tail}
use Rattle.csv.specs.Machine.{line_feed, Read, next_record, step, in_field, start_field, is_end, ends_at_end, fields_after, field_after}
use Rattle.csv.specs.Reading.{default_config, is_bom, records, records_from, records_next, strip_bom}
use Rattle.csv.specs.declared.parser.Action.{Action}
use Rattle.csv.specs.declared.parser.Action.TheVariants as act
use Rattle.csv.specs.declared.parser.State.{State}
use Rattle.csv.specs.declared.parser.State.TheVariants as st
use Rattle.csv_tables.specs.Parts.{IsCut, quote, state_after}
use Rattle.csv_tables.specs.Tables.{records_of}
use Rattle.csv_tables.proofs.RecordsLemmas.{nothing_left}

-- the records of bytes, of the first of which some fields and the beginning of one more were read
abbrev pub open_records : State → List (List ℕ) → List ℕ → List ℕ → List (List (List ℕ))
open_records s fields field [] = if ends_at_end s then (fields ++ (field ∷ [])) ∷ [] else []
open_records s fields field (c ∷ rest) =
    if is_end (step default_config s c).1 then fields_after (step default_config s c).1 fields field ∷ open_records (step default_config s c).0 [] [] rest
    else open_records (step default_config s c).0 (fields_after (step default_config s c).1 fields field) (field_after (step default_config s c).1 c field) rest

read_end : (n : ℕ) (first : List (List ℕ)) (b : Bool) → records_next (records_from default_config n) (if b then Some (first, st.StartRecord, []) else None) ≡ (if b then first ∷ [] else [])
read_end n first true = ap (λ (l : List (List (List ℕ))). first ∷ l) (nothing_left default_config n)
read_end n first false = refl

read_step : (n : ℕ) (s : State) (first : List (List ℕ)) (rest : List ℕ) (here : List (List (List ℕ))) (b : Bool) (later : List (List (List ℕ)))
    (o : Option Read) → records_from default_config n s rest ≡ here → records_next (records_from default_config n) o ≡ later
    → records_next (records_from default_config n) (if b then Some (first, s, rest) else o) ≡ (if b then first ∷ here else later)
read_step n s first rest here true later o e more = ap (λ (l : List (List (List ℕ))). first ∷ l) e
read_step n s first rest here false later o e more = more

read_open : (n : ℕ) (s : State) (fields : List (List ℕ)) (field bytes : List ℕ) → length bytes ≤ n
    → records_next (records_from default_config n) (next_record default_config s fields field bytes) ≡ open_records s fields field bytes
unfolding next_record records_from
read_open n s fields field [] h = read_end n (fields ++ (field ∷ [])) (ends_at_end s)
read_open zero s fields field (c ∷ rest) h = absurd (omega (arith, h))
read_open (suc n) s fields field (c ∷ rest) h =
    let to = (step default_config s c).0 in
    let a = (step default_config s c).1 in
    read_step (suc n) to (fields_after a fields field) rest _ (is_end a) _ _
    (read_open n to [] [] rest (omega (arith, h)))
    (read_open (suc n) to (fields_after a fields field) (field_after a c field) rest (omega (arith, h)))

pub all_open : (bytes : List ℕ) → records default_config bytes ≡ open_records st.StartRecord [] [] bytes
unfolding records_from
all_open bytes = rw (add-one (length bytes)) (read_open (length bytes) st.StartRecord [] [] bytes (omega arith))

-- between records nothing of one was read
Open : State → List (List ℕ) → List ℕ → Type 0
Open st.StartRecord fields field = (fields ≡ []) × (field ≡ [])
Open st.AfterCr fields field = (fields ≡ []) × (field ≡ [])
Open st.InComment fields field = (fields ≡ []) × (field ≡ [])
Open st.StartField fields field = Unit {0}
Open st.InField fields field = Unit {0}
Open st.InQuoted fields field = Unit {0}
Open st.AfterQuote fields field = Unit {0}
Open st.InEscape fields field = Unit {0}

open_new : (s : State) → Open s [] []
unfolding Open
open_new st.StartRecord = (refl, refl)
open_new st.AfterCr = (refl, refl)
open_new st.InComment = (refl, refl)
open_new st.StartField = tt
open_new st.InField = tt
open_new st.InQuoted = tt
open_new st.AfterQuote = tt
open_new st.InEscape = tt

abbrev Keeps : List (List ℕ) → List ℕ → ℕ → State × Action → Type 0
Keeps fields field c next = is_end next.1 ≡ false → Open next.0 (fields_after next.1 fields field) (field_after next.1 c field)

keeps_if : (fields : List (List ℕ)) (field : List ℕ) (c : ℕ) (b : Bool) (x y : State × Action) → Keeps fields field c x → Keeps fields field c y → Keeps fields field c (if b then x else y)
keeps_if fields field c true x y h k = h
keeps_if fields field c false x y h k = k

keeps_end : (fields : List (List ℕ)) (field : List ℕ) (c : ℕ) (s : State) → Keeps fields field c (s, act.EndRecord)
keeps_end fields field c s e = absurd (cc e)

keeps_in_field : (fields : List (List ℕ)) (field : List ℕ) (c : ℕ) → Keeps fields field c (in_field default_config c)
unfolding Open
keeps_in_field fields field c =
    keeps_if fields field c (c == 44) (st.StartField, act.EndField) _ (λ e. tt)
    (keeps_if fields field c ((c == 13) || (c == 10)) _ (st.InField, act.Copy) (keeps_end fields field c _) (λ e. tt))

keeps_start_field : (fields : List (List ℕ)) (field : List ℕ) (c : ℕ) → Keeps fields field c (start_field default_config c)
unfolding Open
keeps_start_field fields field c = keeps_if fields field c (c == 34) (st.InQuoted, act.Skip) (in_field default_config c) (λ e. tt) (keeps_in_field fields field c)

keeps_start : (fields : List (List ℕ)) (field : List ℕ) (c : ℕ) → (fields ≡ []) × (field ≡ []) → Keeps fields field c (step default_config st.StartRecord c)
unfolding Open
keeps_start fields field c h = keeps_if fields field c ((c == 13) || (c == 10)) (st.StartRecord, act.Skip) (start_field default_config c) (λ e. h) (keeps_start_field fields field c)

keeps_step : (s : State) (fields : List (List ℕ)) (field : List ℕ) (c : ℕ) → Open s fields field → Keeps fields field c (step default_config s c)
unfolding Open
keeps_step st.StartRecord fields field c h = keeps_start fields field c h
keeps_step st.AfterCr fields field c h = keeps_if fields field c (c == 10) (st.StartRecord, act.Skip) _ (λ e. h) (keeps_start fields field c h)
keeps_step st.InComment fields field c h = keeps_if fields field c (c == 10) (st.StartRecord, act.Skip) (st.InComment, act.Skip) (λ e. h) (λ e. h)
keeps_step st.StartField fields field c h = keeps_start_field fields field c
keeps_step st.InField fields field c h = keeps_in_field fields field c
keeps_step st.InQuoted fields field c h = keeps_if fields field c (c == 34) (st.AfterQuote, act.Skip) (st.InQuoted, act.Copy) (λ e. tt) (λ e. tt)
keeps_step st.AfterQuote fields field c h = keeps_if fields field c (c == 34) (st.InQuoted, act.Copy) (in_field default_config c) (λ e. tt) (keeps_in_field fields field c)
keeps_step st.InEscape fields field c h = λ e. tt

abbrev Records : Type 0
Records = List (List (List ℕ))

cut_here : (s : State) (fields : List (List ℕ)) (field rest : List ℕ) → Open s fields field → s ≡ st.StartRecord
    → open_records s fields field rest ≡ open_records s fields field [] ++ open_records st.StartRecord [] [] rest
unfolding Open
cut_here st.StartRecord fields field rest h e = rw (h.0, h.1) refl
cut_here st.AfterCr fields field rest h e = absurd (cc e)
cut_here st.InComment fields field rest h e = absurd (cc e)
cut_here st.StartField fields field rest h e = absurd (cc e)
cut_here st.InField fields field rest h e = absurd (cc e)
cut_here st.InQuoted fields field rest h e = absurd (cc e)
cut_here st.AfterQuote fields field rest h e = absurd (cc e)
cut_here st.InEscape fields field rest h e = absurd (cc e)

cut_step : (b : Bool) (first : List (List ℕ)) (w x y z rest : Records) → (b ≡ true → w ≡ y ++ rest) → (b ≡ false → x ≡ z ++ rest)
    → (if b then first ∷ w else x) ≡ (if b then first ∷ y else z) ++ rest
cut_step true first w x y z rest h k = ap (λ (l : Records). first ∷ l) (h refl)
cut_step false first w x y z rest h k = k refl

-- what is read of a text of which a part leaves the machine between records
open_cut : (s : State) (fields : List (List ℕ)) (field before rest : List ℕ) → Open s fields field → state_after s before ≡ st.StartRecord
    → open_records s fields field (before ++ rest) ≡ open_records s fields field before ++ open_records st.StartRecord [] [] rest
open_cut s fields field [] rest h e = cut_here s fields field rest h e
open_cut s fields field (c ∷ before) rest h e =
    let to = (step default_config s c).0 in
    let a = (step default_config s c).1 in
    cut_step (is_end a) (fields_after a fields field) _ _ _ _ (open_records st.StartRecord [] [] rest)
    (λ ended. open_cut to [] [] before rest (open_new to) e)
    (λ goes. open_cut to (fields_after a fields field) (field_after a c field) before rest (keeps_step s fields field c h goes) e)

in_field_is_not_start : st.InField ≡ st.StartRecord → ⊥
in_field_is_not_start e = cc e

keep_or_strip : (b : Bool) (a rest : List ℕ) (all : List ℕ) → (if b then a ++ rest else all ++ rest) ≡ (if b then a else all) ++ rest
keep_or_strip true a rest all = refl
keep_or_strip false a rest all = refl

-- one byte of a mark begins a field
mark_one : (a b c : ℕ) → state_after st.StartRecord (a ∷ []) ≡ st.StartRecord → is_bom a b c ≡ false
mark_one a b c e = by_first (a == 0xEF) refl
  where
    by_first : (t : Bool) → (a == 0xEF) ≡ t → is_bom a b c ≡ false
    by_first false h = rw h refl
    by_first true h = absurd (in_field_is_not_start (rw (eqb-true a 0xEF h) at e))

mark_two : (a b c : ℕ) → state_after st.StartRecord (a ∷ b ∷ []) ≡ st.StartRecord → is_bom a b c ≡ false
mark_two a b c e = by_first (a == 0xEF) (b == 0xBB) refl refl
  where
    by_first : (t u : Bool) → (a == 0xEF) ≡ t → (b == 0xBB) ≡ u → is_bom a b c ≡ false
    by_first false u h k = rw h refl
    by_first true false h k = rw (h, k) refl
    by_first true true h k = absurd (in_field_is_not_start (rw (eqb-true a 0xEF h, eqb-true b 0xBB k) at e))

-- the mark of a text is that of its first part
marks : (before rest : List ℕ) → state_after st.StartRecord (strip_bom before) ≡ st.StartRecord → strip_bom rest ≡ rest → strip_bom (before ++ rest) ≡ strip_bom before ++ rest
unfolding strip_bom
marks [] rest e same = same
marks (a ∷ []) [] e same = refl
marks (a ∷ []) (b ∷ []) e same = refl
marks (a ∷ []) (b ∷ c ∷ rest) e same = rw (mark_one a b c e) refl
marks (a ∷ b ∷ []) [] e same = refl
marks (a ∷ b ∷ []) (c ∷ rest) e same = rw (mark_two a b c e) refl
marks (a ∷ b ∷ c ∷ before) rest e same = keep_or_strip (is_bom a b c) before rest (a ∷ b ∷ c ∷ before)

-- the records of a text are those of its parts
pub records_cut : (before rest : List ℕ) → IsCut before rest → records_of (before ++ rest) ≡ records_of before ++ records_of rest
records_cut before rest cut =
    let whole = open_cut st.StartRecord [] [] (strip_bom before) rest (open_new st.StartRecord) cut.fresh in
    rw (marks before rest cut.fresh cut.unmarked, cut.unmarked, all_open (strip_bom before ++ rest), all_open (strip_bom before), all_open rest) whole

-- outside of quotes
Plain : State → Type 0
Plain st.StartRecord = Unit {0}
Plain st.StartField = Unit {0}
Plain st.InField = Unit {0}
Plain st.AfterCr = Unit {0}
Plain st.InQuoted = ⊥
Plain st.AfterQuote = ⊥
Plain st.InEscape = ⊥
Plain st.InComment = ⊥

plain_if : (b : Bool) (x y : State × Action) → Plain x.0 → Plain y.0 → Plain (if b then x else y).0
plain_if true x y h k = h
plain_if false x y h k = k

plain_end : (b : Bool) → Plain (if b then st.AfterCr else st.StartRecord)
unfolding Plain
plain_end true = tt
plain_end false = tt

plain_in_field : (c : ℕ) → Plain (in_field default_config c).0
unfolding Plain
plain_in_field c = plain_if (c == 44) (st.StartField, act.EndField) _ tt (plain_if ((c == 13) || (c == 10)) _ (st.InField, act.Copy) (plain_end (c == 13)) tt)

plain_start_field : (c : ℕ) → (c == 34) ≡ false → Plain (start_field default_config c).0
plain_start_field c e = rw e (plain_in_field c)

plain_start : (c : ℕ) → (c == 34) ≡ false → Plain (step default_config st.StartRecord c).0
unfolding Plain
plain_start c e = plain_if ((c == 13) || (c == 10)) (st.StartRecord, act.Skip) (start_field default_config c) tt (plain_start_field c e)

plain_step : (s : State) (c : ℕ) → Plain s → (c == 34) ≡ false → Plain (step default_config s c).0
unfolding Plain
plain_step st.StartRecord c h e = plain_start c e
plain_step st.AfterCr c h e = plain_if (c == 10) (st.StartRecord, act.Skip) _ tt (plain_start c e)
plain_step st.StartField c h e = plain_start_field c e
plain_step st.InField c h e = plain_in_field c
plain_step st.InQuoted c h e = absurd h
plain_step st.AfterQuote c h e = absurd h
plain_step st.InEscape c h e = absurd h
plain_step st.InComment c h e = absurd h

plain_line_feed : (s : State) → Plain s → (step default_config s 10).0 ≡ st.StartRecord
unfolding Plain
plain_line_feed st.StartRecord h = refl
plain_line_feed st.AfterCr h = refl
plain_line_feed st.StartField h = refl
plain_line_feed st.InField h = refl
plain_line_feed st.InQuoted h = absurd h
plain_line_feed st.AfterQuote h = absurd h
plain_line_feed st.InEscape h = absurd h
plain_line_feed st.InComment h = absurd h

pub is_no_quote : (c : ℕ) → c ≢ quote → (c == 34) ≡ false
is_no_quote c other = by_test (c == 34) refl
  where
    by_test : (b : Bool) → (c == 34) ≡ b → (c == 34) ≡ false
    by_test true e = absurd (other (eqb-true c 34 e))
    by_test false e = e

-- bytes without quotes, the last of which is a line feed
line_ends : (s : State) (line : List ℕ) → Plain s → All (λ b. b ≢ quote) line → state_after s (line ++ line_feed ∷ []) ≡ st.StartRecord
line_ends s [] h none = plain_line_feed s h
line_ends s (c ∷ line) h none =
    line_ends (step default_config s c).0 line (plain_step s c h (is_no_quote c (All-head (λ b. b ≢ quote) c line none))) (All-tail (λ b. b ≢ quote) c line none)

strip_if : (P : List ℕ → Type 0) (b : Bool) (xs ys : List ℕ) → P xs → P ys → P (if b then xs else ys)
strip_if P true xs ys h k = h
strip_if P false xs ys h k = k

abbrev Ends : List ℕ → Type 0
Ends text = state_after st.StartRecord text ≡ st.StartRecord

-- the same of a text with no mark
stripped_ends : (line : List ℕ) → All (λ b. b ≢ quote) line → Ends (strip_bom (line ++ line_feed ∷ []))
unfolding strip_bom Plain
stripped_ends [] none = refl
stripped_ends (a ∷ []) none = line_ends st.StartRecord (a ∷ []) tt none
stripped_ends (a ∷ b ∷ []) none = strip_if Ends (is_bom a b 10) [] (a ∷ b ∷ line_feed ∷ []) refl (line_ends st.StartRecord (a ∷ b ∷ []) tt none)
stripped_ends (a ∷ b ∷ c ∷ line) none =
    let rest = All-tail (λ x. x ≢ quote) c line (All-tail (λ x. x ≢ quote) b (c ∷ line) (All-tail (λ x. x ≢ quote) a (b ∷ c ∷ line) none)) in
    strip_if Ends (is_bom a b c) (line ++ line_feed ∷ []) (a ∷ b ∷ c ∷ line ++ line_feed ∷ []) (line_ends st.StartRecord line tt rest) (line_ends st.StartRecord (a ∷ b ∷ c ∷ line) tt none)

-- a text without quotes may be cut behind each line feed that no mark follows
pub line_feed_cuts : (line rest : List ℕ) → All (λ b. b ≢ quote) line → strip_bom rest ≡ rest → IsCut (line ++ line_feed ∷ []) rest
line_feed_cuts line rest none unmarked = record { fresh = stripped_ends line none; unmarked = unmarked }
