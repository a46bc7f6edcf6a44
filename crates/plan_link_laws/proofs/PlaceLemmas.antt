-- What follows from the checks for one place of a document, and for the fragments that stand in it.
use Rattle.std.proofs.Common.{◌≡◌, ℕ, ◌<◌, ◌^◌, zero, suc, List, [], ◌∷◌, ◌++◌, length, Bool, true, false, Option, Some, None, refl, ap, ◌∙◌, subst, arith}
use Rattle.std.specs.Prelude.{slice_get, ◌||◌, ◌==◌, not, nat_le, if◌then◌else◌, option_and_then, unwrap_or}
use Rattle.std.specs.Option.{is_some}
use Rattle.std.proofs.lemmas.Bool.{eq-eqb, leb-false, lt-ltb}
use Rattle.serde_json.specs.Data.{Data, Items}
use Rattle.serde_json.specs.Find.{as_array, as_number, as_str, as_u64}
use Rattle.json_paths.specs.declared.key.Key.{Key}
use Rattle.json_paths.specs.declared.key.Key.TheVariants as key
use Rattle.json_paths.specs.declared.step.Step.{Step}
use Rattle.json_paths.specs.declared.step.Step.TheVariants as step
use Rattle.plan_grammar.specs.declared.kind.Kind.{Kind}
use Rattle.plan_grammar.specs.declared.kind.Kind.TheVariants as kind
use Rattle.plan_grammar.specs.declared.tables.Part.{Part}
use Rattle.plan_grammar.specs.declared.words.OpWord.{OpWord}
use Rattle.plan_grammar.specs.declared.words.OpWord.TheVariants as op
use Rattle.plan_grammar.specs.Grammar.{element_of, has_entries, depth_of, parts_of, parts_of_node}
use Rattle.plan_grammar.specs.Json.{entries, entries_in, entries_of, entries_under, has_entry, number_of, number_under, text_of, text_under, under}
use Rattle.plan_grammar.specs.Spots.{Spot, spot}
use Rattle.plan_grammar.specs.Tables.{part}
use Rattle.plan_grammar.specs.Tables as table
use Rattle.plan_grammar.specs.Words.{op_of}
use Rattle.plan_checks.specs.declared.shapes.Shape.TheVariants as shape
use Rattle.plan_checks.specs.Fragments.{fragments_count, reads}
use Rattle.plan_checks.specs.Halves.{is_alone}
use Rattle.plan_checks.specs.Limits.{bound_of, exceeds, lacks_work}
use Rattle.plan_checks.specs.Names.{part_index}
use Rattle.plan_checks.specs.Shapes.{has_keys, has_shape, is_misshapen, shape_of}
use Rattle.plan_docs.specs.Words.{small, small_under}
use Rattle.plan_spreads.proofs.EachLemmas.{first_true, neither, nor_second, second_true}
use Rattle.plan_link_laws.proofs.MissingLemmas.{is_missing}
use Rattle.plan_link_laws.proofs.SourceLemmas.{reads_back}
use Rattle.plan_link_laws.proofs.WalkLemmas.{From, place_entry, place_here, place_under}

-- the number that a key has, the text, and the entries
pub number_is : (k : Key) (d e : Data) → under k d ≡ Some e → number_under k d ≡ number_of e
number_is k d e is = ap (λ (o : Option Data). unwrap_or (option_and_then as_u64 (option_and_then as_number o)) 0) is

pub text_is : (k : Key) (d e : Data) → under k d ≡ Some e → text_under k d ≡ text_of e
text_is k d e is = ap (λ (o : Option Data). unwrap_or (option_and_then as_str o) []) is

pub entries_are : (k : Key) (d e : Data) → under k d ≡ Some e → entries_under k d ≡ entries_in e
entries_are k d e is = ap (λ (o : Option Data). entries (option_and_then as_array o)) is

small_low : (n : ℕ) → n < 2 ^ 31 → small n ≡ n
small_low n h = let below : n < 2 ^ 32 = omega (arith, h) in ap (λ b. if b then n else 0) (lt-ltb n (2 ^ 32) below)

pub not_false : (b : Bool) → not b ≡ false → b ≡ true
not_false true h = refl
not_false false h = absurd cc

-- what there is
pub some_is : {A : Type 0} (o : Option A) → is_some o ≡ true → (x : A) × (o ≡ Some x)
some_is None h = absurd cc
some_is (Some x) h = (x, refl)

keys_there : (parts : List Part) (i : ℕ) (k : Key) (inner : Kind) (d : Data) → has_keys parts d ≡ true → slice_get parts i ≡ Some (part k inner) → has_entry k d ≡ true
keys_there [] i k inner d h at = absurd cc
keys_there (p ∷ parts) zero k inner d h at =
    let same : p ≡ part k inner = cc at in
    subst (λ (q : Part). has_entry q.key d ≡ true) same (first_true (has_entry p.key d) (has_keys parts d) h)
keys_there (p ∷ parts) (suc i) k inner d h at = keys_there parts i k inner d (second_true (has_entry p.key d) (has_keys parts d) h) at

-- the list in which an entry stands
record Listed (o : Option Items) (i : ℕ) (e : Data) : Type 0 where
  items : Items
  is : o ≡ Some items
  at : slice_get (entries_of items) i ≡ Some e

in_list : (o : Option Items) (i : ℕ) (e : Data) → slice_get (entries o) i ≡ Some e → Listed o i e
in_list None i e h = absurd cc
in_list (Some ds) i e h = record { items = ds; is = refl; at = h }

found_at : {A : Type 0} (xs : List A) (i : ℕ) → i < length xs → (x : A) × (slice_get xs i ≡ Some x)
found_at [] i h = absurd (omega (arith, h))
found_at (x ∷ xs) zero h = (x, refl)
found_at (x ∷ xs) (suc i) h = found_at xs i (omega (arith, h))

-- no check of shapes, limits, names, sources or halves fails at the place, and it is one of the document's
pub record Checked (document : Data) (all : List Spot) (s : Spot) : Type 0 where
  pub shaped : is_misshapen s ≡ false
  pub within : exceeds (bound_of s.kind) s ≡ false
  pub works : lacks_work s ≡ false
  pub named : is_missing document s ≡ false
  pub ahead : reads_back (fragments_count document) s.kind s.path s.value ≡ false
  pub joined : is_alone document all s ≡ false
  pub place : ℕ
  pub there : slice_get all place ≡ Some s

module _ (document : Data) (all : List Spot) where
  abbrev pub Sound : Data → List Step → Data → Kind → ℕ → Type 0
  Sound d path owner kind level = From (Checked document all) d path owner kind level

  pub here : (d : Data) (path : List Step) (owner : Data) (kind : Kind) (level : ℕ) → Sound d path owner kind level → Checked document all (spot d path owner kind level)
  here d path owner kind level sound = place_here (Checked document all) d path owner kind level sound

  -- what stands under a key of an object
  pub record PartAt (d : Data) (path : List Step) (k : Key) (inner : Kind) (level : ℕ) : Type 0 where
    pub value : Data
    pub is : under k d ≡ Some value
    pub sound : Sound value (path ++ step.Key k ∷ []) d inner (depth_of inner level)

  pub sound_under : (d : Data) (path : List Step) (owner : Data) (kind : Kind) (level : ℕ) (parts : List Part) (i : ℕ) (k : Key) (inner : Kind) (e : Data)
      → Sound d path owner kind level → parts_of kind d ≡ parts → slice_get parts i ≡ Some (part k inner) → under k d ≡ Some e
      → Sound e (path ++ step.Key k ∷ []) d inner (depth_of inner level)
  sound_under d path owner kind level parts i k inner e sound own at is =
      place_under (Checked document all) d path owner kind level parts i k inner e sound own at is

  pub part_there : (d : Data) (path : List Step) (owner : Data) (kind : Kind) (level : ℕ) (parts : List Part) (i : ℕ) (k : Key) (inner : Kind)
      → Sound d path owner kind level → shape_of kind ≡ shape.Object → parts_of kind d ≡ parts → slice_get parts i ≡ Some (part k inner) → PartAt d path k inner level
  part_there d path owner kind level parts i k inner sound is_object own at =
      let good = not_false (has_shape (shape_of kind) (spot d path owner kind level)) (here d path owner kind level sound).shaped in
      let whole = subst (λ s. has_shape s (spot d path owner kind level) ≡ true) is_object good in
      let keys = first_true (has_keys (parts_of kind d) d) _ whole in
      let listed = subst (λ (ps : List Part). has_keys ps d ≡ true) own keys in
      let found = some_is (under k d) (keys_there parts i k inner d listed at) in
      record {
        value = found.0;
        is = found.1;
        sound = sound_under d path owner kind level parts i k inner found.0 sound own at found.1;
      }

  -- an entry of a list that stands under a key
  pub entry_there : (d : Data) (path : List Step) (k : Key) (list : Kind) (level : ℕ) (at : PartAt d path k list level) → has_entries list ≡ true → (i : ℕ) (e : Data)
      → slice_get (entries_under k d) i ≡ Some e
      → Sound e ((path ++ step.Key k ∷ []) ++ step.Index i ∷ []) d (element_of list i) (depth_of (element_of list i) (depth_of list level))
  entry_there d path k list level at listed i e is =
      let same = entries_are k d at.value at.is in
      let here = in_list (as_array at.value) i e (subst (λ (es : List Data). slice_get es i ≡ Some e) same is) in
      place_entry (Checked document all) at.value (path ++ step.Key k ∷ []) d list (depth_of list level) here.items i e at.sound here.is listed here.at

  -- the fragment that a source names, and the place at which it does
  pub record SourceAt (d : Data) (path : List Step) : Type 0 where
    pub fragment : ℕ
    pub is : small_under key.Fragment d ≡ fragment
    pub raw : number_under key.Fragment d ≡ fragment
    pub after : nat_le fragment (part_index (path ++ step.Key key.Fragment ∷ [])) ≡ false
    pub within : fragment < fragments_count document
    pub value : Data
    pub level : ℕ
    pub place : ℕ
    pub there : slice_get all place ≡ Some (spot value (path ++ step.Key key.Fragment ∷ []) d kind.FragmentNumber level)
    pub reads : reads fragment (spot value (path ++ step.Key key.Fragment ∷ []) d kind.FragmentNumber level) ≡ true

  pub source_at : (d : Data) (path : List Step) (owner : Data) (level : ℕ) → Sound d path owner kind.Node level → op_of d ≡ op.Remote → SourceAt d path
  source_at d path owner level sound is =
      let own = ap (λ (w : OpWord). parts_of_node w d) is in
      let at : PartAt d path key.Fragment kind.FragmentNumber level = part_there d path owner kind.Node level table.remote 2 key.Fragment kind.FragmentNumber sound refl own refl in
      let inner = path ++ step.Key key.Fragment ∷ [] in
      let n = number_of at.value in
      let checked = here at.value inner d kind.FragmentNumber level at.sound in
      let ahead : nat_le n (part_index inner) || nat_le (fragments_count document) n ≡ false = checked.ahead in
      let few : n < 2 ^ 31 = leb-false (2 ^ 31) n checked.within in
      let raw = number_is key.Fragment d at.value at.is in
      record {
        fragment = n;
        is = ap small raw ∙ small_low n few;
        raw = raw;
        after = neither (nat_le n (part_index inner)) (nat_le (fragments_count document) n) ahead;
        within = leb-false (fragments_count document) n (nor_second (nat_le n (part_index inner)) (nat_le (fragments_count document) n) ahead);
        value = at.value;
        level = level;
        place = checked.place;
        there = checked.there;
        reads = eq-eqb n n refl;
      }

  -- the root of a fragment
  pub record RootAt (i : ℕ) (d : Data) : Type 0 where
    pub root : Data
    pub is : under key.Root d ≡ Some root
    pub sound : Sound root (step.Key key.Fragments ∷ step.Index i ∷ step.Key key.Root ∷ []) d kind.Node 1

  root_by : (i : ℕ) (d : Data) (b : Bool)
      → Sound d (step.Key key.Fragments ∷ step.Index i ∷ []) document (if b then kind.FirstFragment else kind.Fragment) (depth_of (if b then kind.FirstFragment else kind.Fragment) 0)
      → RootAt i d
  root_by i d true sound =
      let path = step.Key key.Fragments ∷ step.Index i ∷ [] in
      let at : PartAt d path key.Root kind.Node 0 = part_there d path document kind.FirstFragment 0 table.first_fragment 2 key.Root kind.Node sound refl refl refl in
      record { root = at.value; is = at.is; sound = at.sound }
  root_by i d false sound =
      let path = step.Key key.Fragments ∷ step.Index i ∷ [] in
      let at : PartAt d path key.Root kind.Node 0 = part_there d path document kind.Fragment 0 table.fragment 3 key.Root kind.Node sound refl refl refl in
      record { root = at.value; is = at.is; sound = at.sound }

  pub root_at : (i : ℕ) (d : Data) → Sound document [] document kind.Document 0 → slice_get (entries_under key.Fragments document) i ≡ Some d → RootAt i d
  root_at i d sound is =
      let list : PartAt document [] key.Fragments kind.Fragments 0 = part_there document [] document kind.Document 0 table.document 3 key.Fragments kind.Fragments sound refl refl refl in
      root_by i d (i == 0) (entry_there document [] key.Fragments kind.Fragments 0 list refl i d is)

  -- a fragment that there is, and its root
  pub record FragmentAt (i : ℕ) : Type 0 where
    pub fragment : Data
    pub is : slice_get (entries_under key.Fragments document) i ≡ Some fragment
    pub has : RootAt i fragment

  pub fragment_there : (i : ℕ) → Sound document [] document kind.Document 0 → i < fragments_count document → FragmentAt i
  fragment_there i sound h =
      let found = found_at (entries_under key.Fragments document) i h in
      record { fragment = found.0; is = found.1; has = root_at i found.0 sound found.1 }
