-- The records of bytes without quotes are the fields of their lines.
use Rattle.std.proofs.Common.{◌≡◌, ◌≢◌, ◌<◌, ◌≤◌, ◌+◌, ◌++◌, ◌∷◌, ◌∙◌, ℕ, zero, suc, Bool, true, false, List, [], length, get_or, take, drop, drop-cons, refl, sym, ap, append_assoc, arith, add-one}
use Rattle.std.specs.Prelude.{All, Option, None, Some, if◌then◌else◌, ◌&&◌, ◌==◌, ◌||◌, nat_eq}
use Rattle.std.specs.Cmp.Lexicographic.{pointwise, same_text}
use Rattle.std.proofs.lemmas.Bool.{eq-eqb, eqb-true, false≢true}
use Rattle.std.proofs.lemmas.List.{append-nil, drop-drop, get_or-take, get_or_default, length-take, take-append-drop}
use Rattle.std.proofs.lemmas.List.Elements.{All-head, All-tail, All-drop, All-take}
use Rattle.csv.specs.Machine.{in_field, start_field, is_end, fields_after, field_after}
use Rattle.csv.specs.Reading.{default_config, is_bom, strip_bom}
use Rattle.csv.specs.declared.parser.Action.{Action}
use Rattle.csv.specs.declared.parser.Action.TheVariants as act
use Rattle.csv.specs.declared.parser.State.{State}
use Rattle.csv.specs.declared.parser.State.TheVariants as st
use Rattle.csv_tables.specs.Lines.{ends_line, fields_behind, fields_of_line, records_in}
use Rattle.csv_tables.specs.Parts.{quote}
use Rattle.csv_tables.proofs.PartLemmas.{all_open, is_no_quote, open_records}
use Rattle.memchr.specs.Find.{IsFirstByte, is_byte}

not_true : (b : Bool) → ¬ (b ≡ true) → b ≡ false
not_true true other = absurd (other refl)
not_true false other = refl

-- a search that finds no quote
pub none_found : (text : List ℕ) (r : Option ℕ) → IsFirstByte (is_byte quote) text r → r ≡ None → All (λ b. b ≢ quote) text
none_found text None h e = λ k d lt same. h k (omega arith) lt (eq-eqb _ _ (get_or_default text k 0 d lt ∙ same))
none_found text (Some k) h e = absurd (no_place e)
  where
    no_place : Some k ≡ None → ⊥
    no_place e = absurd (cc e)

abbrev mark : List ℕ
mark = 0xEF ∷ 0xBB ∷ 0xBF ∷ []

-- a text that does not begin with a mark has none to strip
pub unmarked : (text : List ℕ) → pointwise nat_eq (take 3 text) mark ≡ false → text ≡ strip_bom text
unfolding strip_bom
unmarked [] h = refl
unmarked (a ∷ []) h = refl
unmarked (a ∷ b ∷ []) h = refl
unmarked (a ∷ b ∷ c ∷ rest) h = by_tests (a == 0xEF) (b == 0xBB) (c == 0xBF) refl refl refl
  where
    by_tests : (x y z : Bool) → (a == 0xEF) ≡ x → (b == 0xBB) ≡ y → (c == 0xBF) ≡ z → a ∷ b ∷ c ∷ rest ≡ (if x && y && z then rest else a ∷ b ∷ c ∷ rest)
    by_tests false y z e f g = refl
    by_tests true false z e f g = refl
    by_tests true true false e f g = refl
    by_tests true true true e f g = absurd (false≢true (sym (rw (eqb-true a 0xEF e, eqb-true b 0xBB f, eqb-true c 0xBF g) at h)))

is_mark : (rest text : List ℕ) → text ≡ mark ++ rest → rest ≡ strip_bom text
unfolding strip_bom
is_mark rest text e = rw e refl

-- a text behind its mark
pub marked : (text : List ℕ) → pointwise nat_eq (take 3 text) mark ≡ true → drop 3 text ≡ strip_bom text
marked text h = is_mark (drop 3 text) text (sym (take-append-drop 3 text) ∙ ap (λ (l : List ℕ). l ++ drop 3 text) (same_text (take 3 text) mark (sym h)))

stripped_if : (P : List ℕ → Type 0) (b : Bool) (xs ys : List ℕ) → P xs → P ys → P (if b then xs else ys)
stripped_if P true xs ys h k = h
stripped_if P false xs ys h k = k

pub stripped_plain : (text : List ℕ) → All (λ b. b ≢ quote) text → All (λ b. b ≢ quote) (strip_bom text)
unfolding strip_bom
stripped_plain [] h = h
stripped_plain (a ∷ []) h = h
stripped_plain (a ∷ b ∷ []) h = h
stripped_plain (a ∷ b ∷ c ∷ rest) h = stripped_if (All (λ b. b ≢ quote)) (is_bom a b c) rest (a ∷ b ∷ c ∷ rest) (All-drop (λ b. b ≢ quote) 3 (a ∷ b ∷ c ∷ rest) h) h

abbrev Next : Type 0
Next = State × Action

abbrev Records : Type 0
Records = List (List (List ℕ))

-- what is read behind a byte that made this step
abbrev behind_step : Next → List (List ℕ) → List ℕ → ℕ → List ℕ → Records
behind_step next fields field c rest =
    if is_end next.1 then fields_after next.1 fields field ∷ open_records next.0 [] [] rest
    else open_records next.0 (fields_after next.1 fields field) (field_after next.1 c field) rest

first_holds : (a : Bool) (x y : Next) → a ≡ true → (if a then x else y) ≡ x
first_holds a x y h = rw h refl

neither : (a b : Bool) (x y z : Next) → a ≡ false → b ≡ false → (if a then x else if b then y else z) ≡ z
neither a b x y z h k = rw (h, k) refl

either_skips : (a b : Bool) (x y : Next) → (if b then x else if a || b then x else y) ≡ (if a || b then x else y)
either_skips true true x y = refl
either_skips true false x y = refl
either_skips false true x y = refl
either_skips false false x y = refl

-- a carriage return changes nothing for the next record
after_cr : (bytes : List ℕ) → open_records st.AfterCr [] [] bytes ≡ open_records st.StartRecord [] [] bytes
after_cr [] = refl
after_cr (c ∷ rest) = ap (λ (next : Next). behind_step next [] [] c rest) (either_skips (c == 13) (c == 10) (st.StartRecord, act.Skip) (start_field default_config c))

skip_end : (c : ℕ) (rest : List ℕ) → ends_line c ≡ true → open_records st.StartRecord [] [] (c ∷ rest) ≡ open_records st.StartRecord [] [] rest
skip_end c rest h = ap (λ (next : Next). behind_step next [] [] c rest) (first_holds (ends_line c) (st.StartRecord, act.Skip) (start_field default_config c) h)

-- bytes before which a line ends
AtEnd : List ℕ → Type 0
AtEnd [] = Unit {0}
AtEnd (c ∷ rest) = ends_line c ≡ true

-- bytes within a line
InLine : List ℕ → Type 0
InLine [] = Unit {0}
InLine (c ∷ rest) = ((c == 34) ≡ false) × (ends_line c ≡ false) × InLine rest

Unquoted : List ℕ → Type 0
Unquoted [] = Unit {0}
Unquoted (c ∷ rest) = (c == 34) ≡ false

end_no_quote : (c : ℕ) → ends_line c ≡ true → (b : Bool) → (c == 34) ≡ b → (c == 34) ≡ false
end_no_quote c h true e = absurd (false≢true (rw (eqb-true c 34 e) at h))
end_no_quote c h false e = e

unquoted : (line rest : List ℕ) → InLine line → AtEnd rest → Unquoted (line ++ rest)
unfolding InLine AtEnd Unquoted
unquoted [] [] l e = tt
unquoted [] (c ∷ rest) l e = end_no_quote c e (c == 34) refl
unquoted (c ∷ line) rest l e = l.0

-- a field begins as it goes on
begun_field : (fields : List (List ℕ)) (field bytes : List ℕ) → Unquoted bytes → open_records st.StartField fields field bytes ≡ open_records st.InField fields field bytes
unfolding Unquoted
begun_field fields field [] h = refl
begun_field fields field (c ∷ rest) h = ap (λ (next : Next). behind_step next fields field c rest) (unquoted_step (c == 34) h)
  where
    unquoted_step : (b : Bool) → b ≡ false → (if b then (st.InQuoted, act.Skip) else in_field default_config c) ≡ in_field default_config c
    unquoted_step b e = rw e refl

by_feed : (fields : List (List ℕ)) (field rest : List ℕ) → open_records st.InField fields field (10 ∷ rest) ≡ (fields ++ (field ∷ [])) ∷ open_records st.StartRecord [] [] (10 ∷ rest)
by_feed fields field rest = refl

by_return : (fields : List (List ℕ)) (field rest : List ℕ) → open_records st.InField fields field (13 ∷ rest) ≡ (fields ++ (field ∷ [])) ∷ open_records st.StartRecord [] [] (13 ∷ rest)
by_return fields field rest = ap (λ (l : Records). (fields ++ (field ∷ [])) ∷ l) (after_cr rest)

-- a record ends with its line
ended : (fields : List (List ℕ)) (field rest : List ℕ) → AtEnd rest → open_records st.InField fields field rest ≡ (fields ++ (field ∷ [])) ∷ open_records st.StartRecord [] [] rest
unfolding AtEnd
ended fields field [] h = refl
ended fields field (c ∷ rest) h = by_byte (c == 13) (c == 10) refl refl
  where
    by_byte : (cr lf : Bool) → (c == 13) ≡ cr → (c == 10) ≡ lf → open_records st.InField fields field (c ∷ rest) ≡ (fields ++ (field ∷ [])) ∷ open_records st.StartRecord [] [] (c ∷ rest)
    by_byte true lf e f = rw (eqb-true c 13 e) (by_return fields field rest)
    by_byte false true e f = rw (eqb-true c 10 f) (by_feed fields field rest)
    by_byte false false e f = absurd (false≢true (rw (e, f) at h))

one_byte : (fields : List (List ℕ)) (field : List ℕ) (c : ℕ) (line rest : List ℕ) (later : Records) (comma : Bool) → (c == 44) ≡ comma → ends_line c ≡ false → Unquoted (line ++ rest)
    → open_records st.InField (fields ++ (field ∷ [])) [] (line ++ rest) ≡ ((fields ++ (field ∷ [])) ++ fields_behind [] line) ∷ later
    → open_records st.InField fields (field ++ (c ∷ [])) (line ++ rest) ≡ (fields ++ fields_behind (field ++ (c ∷ [])) line) ∷ later
    → open_records st.InField fields field (c ∷ line ++ rest) ≡ (fields ++ (if comma then field ∷ fields_behind [] line else fields_behind (field ++ (c ∷ [])) line)) ∷ later
one_byte fields field c line rest later true e inside clear new same =
    ap (λ (next : Next). behind_step next fields field c (line ++ rest)) (first_holds (c == 44) (st.StartField, act.EndField) _ e)
    ∙ begun_field (fields ++ (field ∷ [])) [] (line ++ rest) clear ∙ new
    ∙ ap (λ (l : List (List ℕ)). l ∷ later) (append_assoc fields (field ∷ []) (fields_behind [] line))
one_byte fields field c line rest later false e inside clear new same =
    ap (λ (next : Next). behind_step next fields field c (line ++ rest)) (neither (c == 44) (ends_line c) (st.StartField, act.EndField) _ (st.InField, act.Copy) e inside) ∙ same

-- the record of a line of which some fields and the beginning of one more were read
line_read : (fields : List (List ℕ)) (field line rest : List ℕ) → InLine line → AtEnd rest
    → open_records st.InField fields field (line ++ rest) ≡ (fields ++ fields_behind field line) ∷ open_records st.StartRecord [] [] rest
unfolding InLine
line_read fields field [] rest l e = ended fields field rest e
line_read fields field (c ∷ line) rest l e =
    one_byte fields field c line rest (open_records st.StartRecord [] [] rest) (c == 44) refl l.1 (unquoted line rest l.2 e)
    (line_read (fields ++ (field ∷ [])) [] line rest l.2 e) (line_read fields (field ++ (c ∷ [])) line rest l.2 e)

line_open : (c : ℕ) (line rest : List ℕ) → InLine (c ∷ line) → AtEnd rest
    → open_records st.StartRecord [] [] (c ∷ line ++ rest) ≡ fields_of_line (c ∷ line) ∷ open_records st.StartRecord [] [] rest
unfolding InLine
line_open c line rest l e =
    ap (λ (next : Next). behind_step next [] [] c (line ++ rest)) (neither (ends_line c) (c == 34) (st.StartRecord, act.Skip) (st.InQuoted, act.Skip) (in_field default_config c) l.1 l.0)
    ∙ line_read [] [] (c ∷ line) rest l e

in_line : (line : List ℕ) → All (λ b. b ≢ quote) line → All (λ b. ends_line b ≡ false) line → InLine line
unfolding InLine
in_line [] plain inside = tt
in_line (c ∷ line) plain inside =
    (is_no_quote c (All-head (λ b. b ≢ quote) c line plain), All-head (λ b. ends_line b ≡ false) c line inside, in_line line (All-tail (λ b. b ≢ quote) c line plain) (All-tail (λ b. ends_line b ≡ false) c line inside))

at_end : (text : List ℕ) (n : ℕ) → (n < length text → ends_line (get_or text n 0) ≡ true) → AtEnd (drop n text)
unfolding AtEnd
at_end [] zero h = tt
at_end [] (suc n) h = tt
at_end (c ∷ text) zero h = h (omega arith)
at_end (c ∷ text) (suc n) h = at_end text n (λ lt. h (omega (arith, lt)))

-- the first record of a text that begins with a line
pub line_first : (text : List ℕ) (n : ℕ) → All (λ b. b ≢ quote) text → 0 < length text → ends_line (get_or text 0 0) ≡ false → All (λ b. ends_line b ≡ false) (take n text)
    → (n < length text → ends_line (get_or text n 0) ≡ true) → records_in text ≡ fields_of_line (take n text) ∷ records_in (drop n text)
line_first [] n plain some first inside end = absurd (omega (arith, some))
line_first (c ∷ text) zero plain some first inside end = absurd (false≢true (sym first ∙ end (omega arith)))
line_first (c ∷ text) (suc n) plain some first inside end =
    let line = c ∷ take n text in
    let here = in_line line (All-take (λ b. b ≢ quote) (suc n) (c ∷ text) plain) inside in
    let rest = at_end (c ∷ text) (suc n) end in
    all_open (c ∷ text) ∙ ap (λ (l : List ℕ). open_records st.StartRecord [] [] (c ∷ l)) (sym (take-append-drop n text)) ∙ line_open c (take n text) (drop n text) here rest
    ∙ ap (λ (l : Records). fields_of_line line ∷ l) (sym (all_open (drop n text)))

byte_there : (text : List ℕ) (i : ℕ) → i < length text → drop i text ≡ get_or text i 0 ∷ drop (i + 1) text
byte_there text i lt = rw (add-one i) (drop-cons text i 0 lt)

-- the end of a line before a record is skipped
pub skipped : (text : List ℕ) (i : ℕ) → i < length text → ends_line (get_or text i 0) ≡ true → records_in (drop (i + 1) text) ≡ records_in (drop i text)
skipped text i lt h =
    let rest = drop (i + 1) text in
    sym (ap records_in (byte_there text i lt) ∙ all_open (get_or text i 0 ∷ rest) ∙ skip_end (get_or text i 0) rest h ∙ sym (all_open rest))

-- only ends of lines
pub nothing_there : (text lines : List ℕ) (n : ℕ) → records_in (drop n text) ≡ records_in text → lines ≡ drop n text → length lines ≡ 0 → records_in text ≡ []
nothing_there text [] n same there none = sym same ∙ ap records_in (sym there) ∙ all_open []
nothing_there text (c ∷ lines) n same there none = absurd (omega (arith, none))

-- the length of the line that a text begins with
pub until_end : (text : List ℕ) (n : ℕ) → n ≤ length text → ((k : ℕ) → 0 ≤ k → k < n → ¬ (ends_line (get_or text k 0) ≡ true)) → All (λ b. ends_line b ≡ false) (take n text)
until_end text n within none = λ k d lt.
    let size = length-take n text in
    let below : k < n = omega (arith, lt, size) in
    ap ends_line (get_or-take n text k d below ∙ sym (get_or_default text k 0 d (omega (arith, below, within)))) ∙ not_true (ends_line (get_or text k 0)) (none k (omega arith) below)

-- a line with no comma
whole_line : (field line : List ℕ) → ((k : ℕ) → k < length line → (get_or line k 0 == 44) ≡ false) → fields_behind field line ≡ (field ++ line) ∷ []
whole_line field [] none = ap (λ (l : List ℕ). l ∷ []) (sym (append-nil field))
whole_line field (c ∷ line) none =
    no_comma (c == 44) (none 0 (omega arith)) ∙ whole_line (field ++ (c ∷ [])) line (λ k lt. none (suc k) (omega (arith, lt))) ∙ ap (λ (l : List ℕ). l ∷ []) (append_assoc field (c ∷ []) line)
  where
    no_comma : (b : Bool) → b ≡ false → (if b then field ∷ fields_behind [] line else fields_behind (field ++ (c ∷ [])) line) ≡ fields_behind (field ++ (c ∷ [])) line
    no_comma b e = rw e refl

-- a line with a comma
to_comma : (field line : List ℕ) (n : ℕ) → n < length line → ((k : ℕ) → k < n → (get_or line k 0 == 44) ≡ false) → (get_or line n 0 == 44) ≡ true
    → fields_behind field line ≡ (field ++ take n line) ∷ fields_behind [] (drop (suc n) line)
to_comma field [] n lt none comma = absurd (omega (arith, lt))
to_comma field (c ∷ line) zero lt none comma = a_comma (c == 44) comma ∙ ap (λ (l : List ℕ). l ∷ fields_behind [] line) (sym (append-nil field))
  where
    a_comma : (b : Bool) → b ≡ true → (if b then field ∷ fields_behind [] line else fields_behind (field ++ (c ∷ [])) line) ≡ field ∷ fields_behind [] line
    a_comma b e = rw e refl
to_comma field (c ∷ line) (suc n) lt none comma =
    no_comma (c == 44) (none 0 (omega arith)) ∙ to_comma (field ++ (c ∷ [])) line n (omega (arith, lt)) (λ k lt. none (suc k) (omega (arith, lt))) comma
    ∙ ap (λ (l : List ℕ). l ∷ fields_behind [] (drop (suc n) line)) (append_assoc field (c ∷ []) (take n line))
  where
    no_comma : (b : Bool) → b ≡ false → (if b then field ∷ fields_behind [] line else fields_behind (field ++ (c ∷ [])) line) ≡ fields_behind (field ++ (c ∷ [])) line
    no_comma b e = rw e refl

pub one_field : (line : List ℕ) → ((k : ℕ) → 0 ≤ k → k < length line → ¬ ((get_or line k 0 == 44) ≡ true)) → fields_of_line line ≡ line ∷ []
one_field line none = whole_line [] line (λ k lt. not_true _ (none k (omega arith) lt))

pub more_fields : (line field rest behind : List ℕ) (n : ℕ) → field ≡ take n line → rest ≡ drop n line → behind ≡ drop 1 rest → n < length line
    → ((k : ℕ) → 0 ≤ k → k < n → ¬ ((get_or line k 0 == 44) ≡ true)) → (get_or line n 0 == 44) ≡ true → fields_of_line line ≡ field ∷ fields_of_line behind
more_fields line field rest behind n front back more lt none comma =
    let there : behind ≡ drop (suc n) line = more ∙ ap (drop 1) back ∙ drop-drop 1 n line ∙ ap (λ (i : ℕ). drop i line) (add-one n) in
    rw (front, there) (to_comma [] line n lt (λ k lt. not_true _ (none k (omega arith) lt)) comma)

-- how many fields there are does not depend on how one began
count_any : (a b line : List ℕ) → length (fields_behind a line) ≡ length (fields_behind b line)
count_any a b [] = refl
count_any a b (c ∷ line) = by_comma (c == 44) (count_any (a ++ (c ∷ [])) (b ++ (c ∷ [])) line)
  where
    by_comma : (t : Bool) → length (fields_behind (a ++ (c ∷ [])) line) ≡ length (fields_behind (b ++ (c ∷ [])) line)
        → length (if t then a ∷ fields_behind [] line else fields_behind (a ++ (c ∷ [])) line) ≡ length (if t then b ∷ fields_behind [] line else fields_behind (b ++ (c ∷ [])) line)
    by_comma true h = refl
    by_comma false h = h

count_comma : (c : ℕ) (line : List ℕ) → (c == 44) ≡ true → length (fields_of_line (c ∷ line)) ≡ suc (length (fields_of_line line))
count_comma c line e = counted (c == 44) e
  where
    counted : (b : Bool) → b ≡ true → length (if b then [] ∷ fields_behind [] line else fields_behind (c ∷ []) line) ≡ suc (length (fields_of_line line))
    counted b e = rw e refl

count_other : (c : ℕ) (line : List ℕ) → (c == 44) ≡ false → length (fields_of_line (c ∷ line)) ≡ length (fields_of_line line)
count_other c line e = counted (c == 44) e ∙ count_any (c ∷ []) [] line
  where
    counted : (b : Bool) → b ≡ false → length (if b then [] ∷ fields_behind [] line else fields_behind (c ∷ []) line) ≡ length (fields_behind (c ∷ []) line)
    counted b e = rw e refl

-- one byte more of a line was looked at
pub comma_counted : (line : List ℕ) (i : ℕ) → i < length line → (get_or line i 0 == 44) ≡ true → length (fields_of_line (drop i line)) ≡ length (fields_of_line (drop (i + 1) line)) + 1
comma_counted line i lt e = let n = ap (λ (l : List ℕ). length (fields_of_line l)) (byte_there line i lt) ∙ count_comma (get_or line i 0) (drop (i + 1) line) e in omega (arith, n)

pub other_counted : (line : List ℕ) (i : ℕ) → i < length line → (get_or line i 0 == 44) ≡ false → length (fields_of_line (drop i line)) ≡ length (fields_of_line (drop (i + 1) line))
other_counted line i lt e = ap (λ (l : List ℕ). length (fields_of_line l)) (byte_there line i lt) ∙ count_other (get_or line i 0) (drop (i + 1) line) e
