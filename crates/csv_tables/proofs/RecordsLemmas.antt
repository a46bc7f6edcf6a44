-- The records that a reader has left, before and after it read one.
use Rattle.std.proofs.Common.{◌≡◌, ◌⊎◌, ◌<◌, ◌≤◌, ◌+◌, ◌++◌, ℕ, zero, suc, List, [], ◌∷◌, length, Option, Some, None, Result, Ok, true, false, Bool, inl, inr, refl, ap, arith, add-one, length-append}
use Rattle.std.specs.Prelude.{IsSome, if◌then◌else◌}
use Rattle.csv.specs.Machine.{Read, next_record, step, is_end, ends_at_end, fields_after, field_after}
use Rattle.csv.specs.Reading.{AreRecords, NextIs, Reached, ReadRecord, ReadsNext, default_config, has_failed, pending_of, records_from, records_next, source_of}
use Rattle.csv.specs.declared.parser.Config.{Config}
use Rattle.csv.specs.declared.parser.State.{State}
use Rattle.csv.specs.declared.parser.State.TheVariants as st
use Rattle.csv.specs.declared.parser.Action.{Action}
use Rattle.csv.specs.declared.parser.Action.TheVariants as act
use Rattle.csv.specs.declared.reader.Reader.{Reader}
use Rattle.csv_tables.specs.Records.{GivesRecord, Reads, left_from, records_left}

-- a record that was read leaves fewer bytes, or nothing at all
abbrev pub Progress : List ℕ → Read → Type 0
Progress bytes read = (length read.2 < length bytes) ⊎ ((read.1 ≡ st.StartRecord) × (read.2 ≡ []))

progress_longer : (c : ℕ) (bytes : List ℕ) (read : Read) → Progress bytes read → Progress (c ∷ bytes) read
progress_longer c bytes read (inl h) = inl (omega (arith, h))
progress_longer c bytes read (inr h) = inr h

same_read : (a b : Read) → Some a ≡ Some b → a ≡ b
same_read a b e = cc e

progress_at_end : (b : Bool) (fields : List (List ℕ)) (read : Read) → (if b then Some (fields, st.StartRecord, []) else None) ≡ Some read → Progress [] read
progress_at_end true fields read h = rw (← same_read (fields, st.StartRecord, []) read h) (inr (refl, refl))
progress_at_end false fields read h = cc h

progress_step : (b : Bool) (c : ℕ) (rest : List ℕ) (here read : Read) (later : Option Read) → here.2 ≡ rest → (later ≡ Some read → Progress rest read)
    → (if b then Some here else later) ≡ Some read → Progress (c ∷ rest) read
progress_step true c rest here read later e more h = rw (← same_read here read h) (inl (rw e (omega arith)))
progress_step false c rest here read later e more h = progress_longer c rest read (more h)

pub progress : (cfg : Config) (s : State) (fields : List (List ℕ)) (field bytes : List ℕ) (read : Read)
    → next_record cfg s fields field bytes ≡ Some read → Progress bytes read
unfolding next_record
progress cfg s fields field [] read e = progress_at_end (ends_at_end s) (fields ++ (field ∷ [])) read e
progress cfg s fields field (c ∷ rest) read e =
    progress_step (is_end (step cfg s c).1) c rest (fields_after (step cfg s c).1 fields field, (step cfg s c).0, rest) read
    (next_record cfg (step cfg s c).0 (fields_after (step cfg s c).1 fields field) (field_after (step cfg s c).1 c field) rest) refl
    (progress cfg (step cfg s c).0 (fields_after (step cfg s c).1 fields field) (field_after (step cfg s c).1 c field) rest read) e

pub nothing_left : (cfg : Config) (n : ℕ) → records_from cfg n st.StartRecord [] ≡ []
unfolding records_from next_record
nothing_left cfg zero = refl
nothing_left cfg (suc n) = refl

enough_more : (cfg : Config) (n m : ℕ) (s : State) (bytes : List ℕ) → length bytes ≤ n → length bytes ≤ m
    → ((t : State) (rest : List ℕ) → length rest < length bytes → records_from cfg n t rest ≡ records_from cfg m t rest)
    → (o : Option Read) → next_record cfg s [] [] bytes ≡ o → records_next (records_from cfg n) o ≡ records_next (records_from cfg m) o
enough_more cfg n m s bytes a b more None e = refl
enough_more cfg n m s bytes a b more (Some read) e = elim (progress cfg s [] [] bytes read e) [
  | inl h ↦ ap (λ (left : List (List (List ℕ))). read.0 ∷ left) (more read.1 read.2 h)
  | inr h ↦ rw (h.0, h.1, nothing_left cfg n, nothing_left cfg m) refl
]

-- the records do not depend on the number, once it is above that of the bytes
pub enough : (cfg : Config) (n m : ℕ) (s : State) (bytes : List ℕ) → length bytes < n → length bytes < m
    → records_from cfg n s bytes ≡ records_from cfg m s bytes
unfolding records_from
enough cfg zero m s bytes a b = absurd (omega (arith, a))
enough cfg (suc n) zero s bytes a b = absurd (omega (arith, b))
enough cfg (suc n) (suc m) s bytes a b =
    enough_more cfg n m s bytes (omega (arith, a)) (omega (arith, b))
    (λ (t : State) (rest : List ℕ) h. enough cfg n m t rest (omega (arith, h, a)) (omega (arith, h, b)))
    (next_record cfg s [] [] bytes) refl

-- the first record that is left
pub left_step : (cfg : Config) (s : State) (bytes : List ℕ) (read : Read) → next_record cfg s [] [] bytes ≡ Some read
    → records_from cfg (length bytes + 1) s bytes ≡ read.0 ∷ records_from cfg (length read.2 + 1) read.1 read.2
unfolding records_from
left_step cfg s bytes read e = rw (add-one (length bytes), e) (elim (progress cfg s [] [] bytes read e) [
  | inl h ↦ ap (λ (more : List (List (List ℕ))). read.0 ∷ more) (enough cfg (length bytes) (length read.2 + 1) read.1 read.2 h (omega arith))
  | inr h ↦ rw (h.0, h.1, nothing_left cfg (length bytes), nothing_left cfg 1) refl
])

pub left_end : (cfg : Config) (s : State) (bytes : List ℕ) → next_record cfg s [] [] bytes ≡ None → records_from cfg (length bytes + 1) s bytes ≡ []
unfolding records_from
left_end cfg s bytes e = rw (add-one (length bytes), e) refl

next_gives : (s s2 : State) (bytes rest : List ℕ) (found : Bool) (fields : List (List ℕ)) (o : Option Read) → next_record default_config s [] [] bytes ≡ o
    → NextIs o found fields s2 rest
    → GivesRecord found fields (records_from default_config (length bytes + 1) s bytes) (records_from default_config (length rest + 1) s2 rest)
next_gives s s2 bytes rest found fields None e h = rw h (left_end default_config s bytes e)
next_gives s s2 bytes rest found fields (Some read) e h = rw (h.0, h.1, h.2, h.3) (left_step default_config s bytes read e)

reads_give : (s s2 : State) (old new : Option (List ℕ)) (found : Bool) (fields : List (List ℕ)) → IsSome old → ReadsNext default_config s old new found fields s2
    → GivesRecord found fields (left_from s old) (left_from s2 new)
reads_give s s2 None new found fields known r = cc known
reads_give s s2 (Some bytes) None found fields known r = absurd r
reads_give s s2 (Some bytes) (Some rest) found fields known r =
    next_gives s s2 bytes rest found fields (next_record default_config s [] [] bytes) refl r

-- what a read gives is the first of the records that were left
pub read_gives : {R : Type 0} (rem : R → Option (List ℕ)) (a b : Reader R) (found : Bool) (fields : List (List ℕ)) → Reads rem a → ReadRecord rem a b found fields
    → GivesRecord found fields (records_left rem a) (records_left rem b)
read_gives rem a b found fields reads r =
    rw r.1 (reads_give a.state b.state (source_of rem a) (pending_of (rem b.rdr) b) found fields reads.known (rw reads.config at r.0))

-- a reader that has failed has none
pub failed_gives : {R E : Type 0} (rem : R → Option (List ℕ)) (a b : Reader R) (found : Bool) (fields : List (List ℕ)) (r : Result Bool E) → has_failed a ≡ true → r ≡ Ok found → r ≡ Ok false
    → GivesRecord found fields (records_left rem a) (records_left rem b)
failed_gives rem a b false fields r failed is e = rw failed refl
failed_gives rem a b true fields r failed is e = cc (is, e)

-- the records of a text, however they were found, are those that the definition computes
pub all_left : (cfg : Config) (s : State) (bytes : List ℕ) (found : List (List (List ℕ))) → AreRecords cfg s bytes found
    → records_from cfg (length bytes + 1) s bytes ≡ found
unfolding Reached
all_left cfg s bytes [] (s2, rest, h, e) = left_end cfg s bytes (rw (h.0, h.1) e)
all_left cfg s bytes (r ∷ rs) (s2, rest, h, e) =
    let (read, is, first, more) = h in
    rw (left_step cfg s bytes read is, first, all_left cfg read.1 read.2 rs (s2, rest, more, e)) refl

some_at_end : (b : Bool) (fields : List (List ℕ)) (field : List ℕ) (read : Read) → (if b then Some (fields ++ (field ∷ []), st.StartRecord, []) else None) ≡ Some read → 0 < length read.0
some_at_end true fields field read h =
    let size = length-append fields (field ∷ []) in
    rw (← same_read (fields ++ (field ∷ []), st.StartRecord, []) read h) (omega (arith, size))
some_at_end false fields field read h = cc h

some_step : (a : Action) (s : State) (fields : List (List ℕ)) (field rest : List ℕ) (read : Read) (later : Option Read) → (later ≡ Some read → 0 < length read.0)
    → (if is_end a then Some (fields_after a fields field, s, rest) else later) ≡ Some read → 0 < length read.0
some_step act.EndRecord s fields field rest read later more h =
    let size = length-append fields (field ∷ []) in
    rw (← same_read (fields ++ (field ∷ []), s, rest) read h) (omega (arith, size))
some_step act.Skip s fields field rest read later more h = more h
some_step act.Copy s fields field rest read later more h = more h
some_step act.EndField s fields field rest read later more h = more h

record_some : (cfg : Config) (s : State) (fields : List (List ℕ)) (field bytes : List ℕ) (read : Read) → next_record cfg s fields field bytes ≡ Some read → 0 < length read.0
unfolding next_record
record_some cfg s fields field [] read e = some_at_end (ends_at_end s) fields field read e
record_some cfg s fields field (c ∷ rest) read e =
    some_step (step cfg s c).1 (step cfg s c).0 fields field rest read
    (next_record cfg (step cfg s c).0 (fields_after (step cfg s c).1 fields field) (field_after (step cfg s c).1 c field) rest)
    (record_some cfg (step cfg s c).0 (fields_after (step cfg s c).1 fields field) (field_after (step cfg s c).1 c field) rest read) e

first_some : (cfg : Config) (n : ℕ) (s : State) (bytes : List ℕ) (o : Option Read) (fields : List (List ℕ)) (more : List (List (List ℕ))) → next_record cfg s [] [] bytes ≡ o
    → records_next (records_from cfg n) o ≡ fields ∷ more → 0 < length fields
first_some cfg n s bytes None fields more e h = cc h
first_some cfg n s bytes (Some read) fields more e h = rw (← same_first read.0 fields _ more h) (record_some cfg s [] [] bytes read e)
  where
    same_first : (a b : List (List ℕ)) (x y : List (List (List ℕ))) → a ∷ x ≡ b ∷ y → a ≡ b
    same_first a b x y e = cc e

-- the first record of a text has a field
pub records_some : (cfg : Config) (n : ℕ) (s : State) (bytes : List ℕ) (fields : List (List ℕ)) (more : List (List (List ℕ))) → records_from cfg n s bytes ≡ fields ∷ more → 0 < length fields
unfolding records_from
records_some cfg zero s bytes fields more e = cc e
records_some cfg (suc n) s bytes fields more e = first_some cfg n s bytes (next_record cfg s [] [] bytes) fields more refl e
