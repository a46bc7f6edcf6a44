-- The sources of a document are those of its fragments' nodes.
use Rattle.std.proofs.Common.{◌≡◌, ℕ, ◌+◌, ◌-◌, ◌<◌, ◌≤◌, suc, zero, List, [], ◌∷◌, ◌++◌, length, map, take, Bool, true, false, Option, Some, None, option_map, unwrap_or, refl, ap, sym, ◌∙◌, subst, arith, append_assoc}
use Rattle.std.specs.Prelude.{slice_get, ◌==◌, if◌then◌else◌, option_and_then}
use Rattle.std.specs.List.{find, flat_map, list_all, list_any}
use Rattle.std.proofs.lemmas.Bool.{eqb-true, ltb-false}
use Rattle.serde_json.specs.Data.{Data, null, boolean, number, string, array, object, Items, no_items, item}
use Rattle.serde_json.specs.Find.{as_array}
use Rattle.json_paths.specs.declared.key.Key.{Key}
use Rattle.json_paths.specs.declared.key.Key.TheVariants as key
use Rattle.json_paths.specs.declared.step.Step.{Step}
use Rattle.json_paths.specs.Places.{key_text}
use Rattle.json_paths.specs.declared.step.Step.TheVariants as step
use Rattle.plan_grammar.specs.declared.kind.Kind.{Kind}
use Rattle.plan_grammar.specs.declared.kind.Kind.TheVariants as kind
use Rattle.plan_grammar.specs.declared.tables.Part.{Part}
use Rattle.plan_grammar.specs.declared.words.OpWord.{OpWord}
use Rattle.plan_grammar.specs.declared.words.OpWord.TheVariants as op
use Rattle.plan_grammar.specs.declared.words.StepWord.{StepWord}
use Rattle.plan_grammar.specs.declared.words.StepWord.TheVariants as word
use Rattle.plan_grammar.specs.Grammar.{has_steps, join_parts, depth_of, parts_of_node}
use Rattle.plan_grammar.specs.Json.{entries, entries_of, entries_under, has_entry, number_of, under}
use Rattle.plan_grammar.specs.Spots.{Spot, inner_of, item_spots, part_spots, places_of, spot, spots}
use Rattle.plan_grammar.specs.Tables.{part}
use Rattle.plan_grammar.specs.Tables as table
use Rattle.plan_grammar.specs.Words.{op_of, step_of}
use Rattle.plan_grammar.proofs.WalkLemmas.{spots_are}
use Rattle.plan_checks.specs.Fragments.{fragments_count, is_unread, reads}
use Rattle.plan_docs.specs.Documents.{fragment_of}
use Rattle.plan_docs.specs.Nodes.{NodeForm}
use Rattle.plan_docs.specs.ReadNodes.{inner_node, node_at, node_by, node_form}
use Rattle.plan_docs.specs.Words.{small_under}
use Rattle.plan_spreads.specs.Reading.{reads_in, reads_of}
use Rattle.plan_link_laws.proofs.CountLemmas.{found_append, found_in, found_none, none_below, one_if, plain_part}
use Rattle.plan_spreads.proofs.EachLemmas.{none_passes}
use Rattle.plan_link_laws.proofs.InputLemmas.{have_parts, parts_are, step_node, step_parts}
use Rattle.plan_link_laws.proofs.PlaceLemmas.{PartAt, RootAt, Sound, entry_there, fragment_there, here, not_false, number_is, part_there, root_at, sound_under, source_at}
use Rattle.plan_link_laws.proofs.SourceLemmas.{found_some}
use Rattle.plan_link_laws.proofs.WalkLemmas.{no_array}

one_same : (b : Bool) → one_if b ≡ (if b then 1 else 0)
one_same true = refl
one_same false = refl

-- a node of an operator that has steps reads what its input reads
step_reads : (n : ℕ) (w : OpWord) (s : StepWord) (d : Data) (input : NodeForm) → reads_of n (step_node w s d input) ≡ reads_of n input
step_reads n op.Aggregate word.Final d input = refl
step_reads n w word.Final d input = refl
step_reads n w s d input = refl

-- a list is no node
list_unknown : (d : Data) (ds : Items) → as_array d ≡ Some ds → op_of d ≡ op.Unknown
list_unknown null ds is = absurd cc
list_unknown (boolean b) ds is = absurd cc
list_unknown (number m) ds is = absurd cc
list_unknown (string t) ds is = absurd cc
list_unknown (array es) ds is = refl
list_unknown (object ms) ds is = absurd cc

flat_append : (f : Part → List Spot) (xs ys : List Part) → flat_map f (xs ++ ys) ≡ flat_map f xs ++ flat_map f ys
flat_append f [] ys = refl
flat_append f (x ∷ xs) ys = ap (λ l. f x ++ l) (flat_append f xs ys) ∙ sym (append_assoc (f x) (flat_map f xs) (flat_map f ys))

module _ (n : ℕ) where
  found_two : (parts : List Part) (left right : Part) (rest : List Part) (f : Part → List Spot) → list_all plain_part parts ≡ true → list_all plain_part rest ≡ true
      → ((p : Part) → plain_part p ≡ true → found_in n (f p) ≡ 0)
      → found_in n (flat_map f (parts ++ left ∷ right ∷ rest)) ≡ found_in n (f left) + found_in n (f right)
  found_two parts left right rest f plain more none =
      let before = found_none n parts f plain none in
      let behind = found_none n rest f more none in
      let all = flat_append f parts (left ∷ right ∷ rest) in
      let cut = found_append n (flat_map f parts) (f left ++ (f right ++ flat_map f rest)) in
      let one = found_append n (f left) (f right ++ flat_map f rest) in
      let two = found_append n (f right) (flat_map f rest) in
      let same = ap (found_in n) all in
      omega (arith, before, behind, same, cut, one, two)

  found_last : (parts : List Part) (last : Part) (f : Part → List Spot) → list_all plain_part parts ≡ true
      → ((p : Part) → plain_part p ≡ true → found_in n (f p) ≡ 0) → found_in n (flat_map f (parts ++ last ∷ [])) ≡ found_in n (f last)
  found_last parts last f plain none =
      let before = found_none n parts f plain none in
      let same = ap (found_in n) (flat_append f parts (last ∷ [])) in
      let cut = found_append n (flat_map f parts) (f last ++ []) in
      let one = found_append n (f last) [] in
      omega (arith, before, same, cut, one)

  none_under : (s : Spot) (p : Part) → plain_part p ≡ true → found_in n (part_spots s p) ≡ 0
  none_under s p plain = by (under p.key s.value)
    where
      by : (o : Option Data) → found_in n (unwrap_or (option_map (λ d. spots d (s.path ++ step.Key p.key ∷ []) s.value p.kind (depth_of p.kind s.level)) o) []) ≡ 0
      by None = refl
      by (Some d) = none_below n d (s.path ++ step.Key p.key ∷ []) s.value p.kind (depth_of p.kind s.level) plain

  module _ (document : Data) (all : List Spot) (m : ℕ) (d : Data) (path : List Step) (owner : Data) (level : ℕ) (sound : Sound document all d path owner kind.Node level)
      (below : (e : Data) (inner : List Step) → Sound document all e inner d kind.Node (level + 1)
      → found_in n (spots e inner d kind.Node (level + 1)) ≡ reads_of n (node_at m document e)) where
    abbrev here_spot : Spot
    here_spot = spot d path owner kind.Node level

    abbrev inside : List Part → ℕ
    inside parts = found_in n (flat_map (part_spots here_spot) parts)

    abbrev input : Key → NodeForm
    input k = inner_node (node_at m document) (under k d)

    found_input : (parts : List Part) (j : ℕ) (k : Key) → parts_of_node (op_of d) d ≡ parts → slice_get parts j ≡ Some (part k kind.Node)
        → found_in n (part_spots here_spot (part k kind.Node)) ≡ reads_of n (input k)
    found_input parts j k own there = by (under k d) refl
      where
        by : (o : Option Data) → under k d ≡ o
            → found_in n (unwrap_or (option_map (λ e. spots e (path ++ step.Key k ∷ []) d kind.Node (level + 1)) o) []) ≡ reads_of n (inner_node (node_at m document) o)
        by None is = refl
        by (Some e) is = below e (path ++ step.Key k ∷ []) (sound_under document all d path owner kind.Node level parts j k kind.Node e sound own there is)

    own_parts : (w : OpWord) → op_of d ≡ w → parts_of_node (op_of d) d ≡ parts_of_node w d
    own_parts w is = ap (λ (x : OpWord). parts_of_node x d) is

    -- a node over one input, which stands last
    one_input : (before : List Part) (parts : List Part) (j : ℕ) (k : Key) → parts ≡ before ++ part k kind.Node ∷ [] → list_all plain_part before ≡ true
        → parts_of_node (op_of d) d ≡ parts → slice_get parts j ≡ Some (part k kind.Node) → inside parts ≡ reads_of n (input k)
    one_input before parts j k are plain own there =
        ap inside are ∙ found_last before (part k kind.Node) (part_spots here_spot) plain (none_under here_spot) ∙ found_input parts j k own there

    found_source : op_of d ≡ op.Remote → inside table.remote ≡ (if small_under key.Fragment d == n then 1 else 0)
    found_source is =
        let own = own_parts op.Remote is in
        let r = source_at document all d path owner level sound is in
        let at : PartAt document all d path key.Fragment kind.FragmentNumber level = part_there document all d path owner kind.Node level table.remote 2 key.Fragment kind.FragmentNumber sound refl own refl in
        let last = found_last (take 2 table.remote) (part key.Fragment kind.FragmentNumber) (part_spots here_spot) refl (none_under here_spot) in
        let value = ap (λ (o : Option Data). found_in n (unwrap_or (option_map (λ e. spots e (path ++ step.Key key.Fragment ∷ []) d kind.FragmentNumber level) o) [])) at.is in
        let number : number_of at.value ≡ small_under key.Fragment d = sym (number_is key.Fragment d at.value at.is) ∙ r.raw ∙ sym r.is in
        last ∙ value ∙ source_spots at.value ∙ ap (λ b. one_if (b == n)) number ∙ one_same (small_under key.Fragment d == n)
      where
        source_spots : (e : Data) → found_in n (spots e (path ++ step.Key key.Fragment ∷ []) d kind.FragmentNumber level) ≡ one_if (number_of e == n)
        source_spots null = omega arith
        source_spots (boolean b) = omega arith
        source_spots (number x) = omega arith
        source_spots (string t) = omega arith
        source_spots (array ds) = omega arith
        source_spots (object ms) = omega arith

    found_sides : (b : Bool) → parts_of_node (op_of d) d ≡ join_parts b → inside (join_parts b) ≡ reads_of n (input key.Left) + reads_of n (input key.Right)
    found_sides true own =
        let left = found_input (join_parts true) 4 key.Left own refl in
        let right = found_input (join_parts true) 5 key.Right own refl in
        let both = found_two (take 4 table.filtered_join) (part key.Left kind.Node) (part key.Right kind.Node) (part key.Filters kind.Filters ∷ []) (part_spots here_spot) refl refl (none_under here_spot) in
        omega (arith, left, right, both)
    found_sides false own =
        let left = found_input (join_parts false) 4 key.Left own refl in
        let right = found_input (join_parts false) 5 key.Right own refl in
        let both = found_two (take 4 table.join) (part key.Left kind.Node) (part key.Right kind.Node) [] (part_spots here_spot) refl refl (none_under here_spot) in
        omega (arith, left, right, both)

    found_step : (w : OpWord) → op_of d ≡ w → has_steps w ≡ true → inside (step_parts w (step_of d)) ≡ reads_of n (step_node w (step_of d) d (input key.Input))
    found_step w is h =
        let s = step_of d in
        let parts = step_parts w s in
        let have = have_parts w s in
        one_input (take (length parts - 1) parts) parts (length parts - 1) key.Input have.last have.plain (own_parts w is ∙ parts_are w d h) have.input
        ∙ sym (step_reads n w s d (input key.Input))

    by_word : (w : OpWord) → op_of d ≡ w → inside (parts_of_node w d) ≡ reads_of n (node_by (node_at m document) document d w)
    by_word op.Scan is = found_none n table.scan (part_spots here_spot) refl (none_under here_spot)
    by_word op.Values is = found_none n table.values (part_spots here_spot) refl (none_under here_spot)
    by_word op.Remote is = found_source is
    by_word op.Filter is = one_input (take 3 table.filter) table.filter 3 key.Input refl refl (own_parts op.Filter is) refl
    by_word op.Project is = one_input (take 3 table.project) table.project 3 key.Input refl refl (own_parts op.Project is) refl
    by_word op.Join is = found_sides (has_entry key.Filters d) (own_parts op.Join is)
    by_word op.Sort is = one_input (take 3 table.sort) table.sort 3 key.Input refl refl (own_parts op.Sort is) refl
    by_word op.Union is =
        let left = found_input table.union 2 key.Left (own_parts op.Union is) refl in
        let right = found_input table.union 3 key.Right (own_parts op.Union is) refl in
        let both = found_two (take 2 table.union) (part key.Left kind.Node) (part key.Right kind.Node) [] (part_spots here_spot) refl refl (none_under here_spot) in
        omega (arith, left, right, both)
    by_word op.Unknown is = found_none n table.node (part_spots here_spot) refl (none_under here_spot)
    by_word w is = found_step w is refl

    pub node_found : found_in n (spots d path owner kind.Node level) ≡ reads_of n (node_by (node_at m document) document d (op_of d))
    node_found =
        let are = ap (found_in n) (spots_are d path owner kind.Node level) in
        let rest = by_list (as_array d) refl in
        omega (arith, are, rest)
      where
        by_list : (o : Option Items) → as_array d ≡ o → found_in n (inner_of o here_spot) ≡ reads_of n (node_by (node_at m document) document d (op_of d))
        by_list None is = by_word (op_of d) refl
        by_list (Some ds) is = sym (ap (λ (w : OpWord). reads_of n (node_by (node_at m document) document d w)) (list_unknown d ds is))

  module _ (document : Data) (all : List Spot) where
    nodes_found : (m : ℕ) (d : Data) (path : List Step) (owner : Data) (level : ℕ) → Sound document all d path owner kind.Node level → level + m ≡ 33
        → found_in n (spots d path owner kind.Node level) ≡ reads_of n (node_at m document d)
    unfolding node_at
    nodes_found zero d path owner level sound count =
        let low : level ≤ 32 = ltb-false 32 level (here document all d path owner kind.Node level sound).within in
        absurd (omega (arith, low, count))
    nodes_found (suc m) d path owner level sound count =
        node_found document all m d path owner level sound (λ e inner s. nodes_found m e inner d (level + 1) s (omega (arith, count)))

    root_found : (g root : Data) (path : List Step) → under key.Root g ≡ Some root → Sound document all root path g kind.Node 1
        → found_in n (spots root path g kind.Node 1) ≡ reads_of n (fragment_of document g).root
    unfolding node_form
    root_found g root path is sound =
        nodes_found 32 root path g 1 sound refl ∙ sym (ap (λ (o : Option Data). reads_of n (inner_node (node_form document) o)) is)

    -- a fragment, by whether it is the first
    abbrev fragment_kind : Bool → Kind
    fragment_kind b = if b then kind.FirstFragment else kind.Fragment

    fragment_spots : (b : Bool) (i : ℕ) (g : Data) → RootAt document all i g
        → found_in n (spots g (step.Key key.Fragments ∷ step.Index i ∷ []) document (fragment_kind b) (depth_of (fragment_kind b) 0)) ≡ reads_of n (fragment_of document g).root
    fragment_spots true i g r =
        let path = step.Key key.Fragments ∷ step.Index i ∷ [] in
        let s = spot g path document kind.FirstFragment 0 in
        let are = ap (found_in n) (spots_are g path document kind.FirstFragment 0) in
        let listed = ap (λ (o : Option Items). found_in n (inner_of o s)) (no_array (key_text key.Root) g r.root r.is) in
        let last = found_last (take 2 table.first_fragment) (part key.Root kind.Node) (part_spots s) refl (none_under s) in
        let value = ap (λ (o : Option Data). found_in n (unwrap_or (option_map (λ e. spots e (path ++ step.Key key.Root ∷ []) g kind.Node 1) o) [])) r.is in
        let found = root_found g r.root (path ++ step.Key key.Root ∷ []) r.is r.sound in
        omega (arith, are, listed, last, value, found)
    fragment_spots false i g r =
        let path = step.Key key.Fragments ∷ step.Index i ∷ [] in
        let s = spot g path document kind.Fragment 0 in
        let are = ap (found_in n) (spots_are g path document kind.Fragment 0) in
        let listed = ap (λ (o : Option Items). found_in n (inner_of o s)) (no_array (key_text key.Root) g r.root r.is) in
        let last = found_last (take 3 table.fragment) (part key.Root kind.Node) (part_spots s) refl (none_under s) in
        let value = ap (λ (o : Option Data). found_in n (unwrap_or (option_map (λ e. spots e (path ++ step.Key key.Root ∷ []) g kind.Node 1) o) [])) r.is in
        let found = root_found g r.root (path ++ step.Key key.Root ∷ []) r.is r.sound in
        omega (arith, are, listed, last, value, found)

    items_found : (ds : Items) (i : ℕ) → ((j : ℕ) (g : Data) → slice_get (entries_of ds) j ≡ Some g → RootAt document all (i + j) g)
        → found_in n (item_spots ds (step.Key key.Fragments ∷ []) document kind.Fragments 0 i) ≡ reads_in n (map (fragment_of document) (entries_of ds))
    items_found no_items i roots = refl
    items_found (item g ds) i roots =
        let path = step.Key key.Fragments ∷ step.Index i ∷ [] in
        let at : i + 0 ≡ i = omega arith in
        let here_found = fragment_spots (i == 0) i g (subst (λ (k : ℕ). RootAt document all k g) at (roots 0 g refl)) in
        let rest = items_found ds (i + 1) (λ j e is. let next : i + suc j ≡ i + 1 + j = omega arith in subst (λ (k : ℕ). RootAt document all k e) next (roots (suc j) e is)) in
        let both = found_append n (spots g path document (fragment_kind (i == 0)) (depth_of (fragment_kind (i == 0)) 0)) (item_spots ds (step.Key key.Fragments ∷ []) document kind.Fragments 0 (i + 1)) in
        omega (arith, here_found, rest, both)

    pub document_found : Sound document all document [] document kind.Document 0
        → found_in n (places_of document) ≡ reads_in n (map (fragment_of document) (entries_under key.Fragments document))
    document_found sound =
        let list : PartAt document all document [] key.Fragments kind.Fragments 0 = part_there document all document [] document kind.Document 0 table.document 3 key.Fragments kind.Fragments sound refl refl refl in
        let s = spot document [] document kind.Document 0 in
        let path = step.Key key.Fragments ∷ [] in
        let are = ap (found_in n) (spots_are document [] document kind.Document 0) in
        let listed = ap (λ (o : Option Items). found_in n (inner_of o s)) (no_array (key_text key.Fragments) document list.value list.is) in
        let last = found_last (take 3 table.document) (part key.Fragments kind.Fragments) (part_spots s) refl (none_under s) in
        let value = ap (λ (o : Option Data). found_in n (unwrap_or (option_map (λ e. spots e path document kind.Fragments 0) o) [])) list.is in
        let inner = ap (found_in n) (spots_are list.value path document kind.Fragments 0) in
        let entries_are : entries_under key.Fragments document ≡ entries (as_array list.value) = ap (λ (o : Option Data). entries (option_and_then as_array o)) list.is in
        let found = by_entries (as_array list.value) list.value refl (λ j g is. root_at document all j g sound (ap (λ (es : List Data). slice_get es j) entries_are ∙ is)) in
        let same = ap (λ (es : List Data). reads_in n (map (fragment_of document) es)) entries_are in
        omega (arith, are, listed, last, value, inner, found, same)
      where
        by_entries : (o : Option Items) (e : Data) → as_array e ≡ o → ((j : ℕ) (g : Data) → slice_get (entries o) j ≡ Some g → RootAt document all j g)
            → found_in n (inner_of o (spot e (step.Key key.Fragments ∷ []) document kind.Fragments 0)) ≡ reads_in n (map (fragment_of document) (entries o))
        by_entries None e is roots = refl
        by_entries (Some ds) e is roots = items_found ds 0 (λ j g at. let none : j ≡ 0 + j = omega arith in subst (λ (k : ℕ). RootAt document all k g) none (roots j g at))

    -- and each fragment but the first is read
    pub read_some : Sound document all document [] document kind.Document 0 → find (is_unread all) all ≡ None → 0 < n → n < fragments_count document → 1 ≤ found_in n all
    read_some sound none some lt = by (n == 0) refl
      where
        by : (b : Bool) → n == 0 ≡ b → 1 ≤ found_in n all
        by true is = let zero_is = eqb-true n 0 is in absurd (omega (arith, some, zero_is))
        by false is =
            let list : PartAt document all document [] key.Fragments kind.Fragments 0 = part_there document all document [] document kind.Document 0 table.document 3 key.Fragments kind.Fragments sound refl refl refl in
            let f = fragment_there document all n sound lt in
            let path = step.Key key.Fragments ∷ step.Index n ∷ [] in
            let inner : Sound document all f.fragment path document (fragment_kind (n == 0)) (depth_of (fragment_kind (n == 0)) 0) = entry_there document all document [] key.Fragments kind.Fragments 0 list refl n f.fragment f.is in
            let at : Sound document all f.fragment path document kind.Fragment 0 = subst (λ (b : Bool). Sound document all f.fragment path document (fragment_kind b) (depth_of (fragment_kind b) 0)) is inner in
            let place = here document all f.fragment path document kind.Fragment 0 at in
            let unread = none_passes (is_unread all) all place.place (spot f.fragment path document kind.Fragment 0) none place.there in
            found_some n all (not_false (list_any (reads n) all) unread)
