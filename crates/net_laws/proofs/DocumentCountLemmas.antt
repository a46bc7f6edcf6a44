-- The scans and joins of a document's plan that have an id are no more than the places of the document that give it.
use Rattle.std.proofs.Common.{◌≡◌, ℕ, ◌+◌, ◌<◌, ◌≤◌, ◌^◌, zero, suc, List, [], ◌∷◌, ◌++◌, map, Bool, true, false, Option, Some, None, refl, ap, ◌∙◌, subst, arith}
use Rattle.std.specs.Prelude.{slice_get, ◌==◌, if◌then◌else◌, option_and_then}
use Rattle.std.proofs.lemmas.Bool.{leb-false, lt-ltb}
use Rattle.serde_json.specs.Data.{Data, Items, no_items, item}
use Rattle.serde_json.specs.Find.{as_array}
use Rattle.json_paths.specs.declared.key.Key.{Key}
use Rattle.json_paths.specs.declared.key.Key.TheVariants as key
use Rattle.json_paths.specs.declared.step.Step.{Step}
use Rattle.json_paths.specs.declared.step.Step.TheVariants as step
use Rattle.plan_grammar.specs.declared.kind.Kind.{Kind}
use Rattle.plan_grammar.specs.declared.kind.Kind.TheVariants as kind
use Rattle.plan_grammar.specs.declared.tables.Part.{Part}
use Rattle.plan_grammar.specs.declared.words.OpWord.{OpWord}
use Rattle.plan_grammar.specs.declared.words.OpWord.TheVariants as op
use Rattle.plan_grammar.specs.declared.words.StepWord.{StepWord}
use Rattle.plan_grammar.specs.declared.words.StepWord.TheVariants as word
use Rattle.plan_grammar.specs.Grammar.{depth_of, join_parts, parts_of_node}
use Rattle.plan_grammar.specs.Json.{entries, entries_of, entries_under, has_entry, number_of, under}
use Rattle.plan_grammar.specs.Spots.{Spot, inner_of, item_spots, places_of, spot, spots}
use Rattle.plan_grammar.specs.Tables.{part}
use Rattle.plan_grammar.specs.Tables as table
use Rattle.plan_grammar.specs.Words.{op_of, step_of}
use Rattle.plan_grammar.proofs.WalkLemmas.{spots_are}
use Rattle.plan_checks.specs.Names.{numbers_node}
use Rattle.plan_docs.specs.Documents.{fragment_of}
use Rattle.plan_docs.specs.Nodes.{NodeForm}
use Rattle.plan_docs.specs.ReadNodes.{id_of, inner_node, node_at, node_by, node_form}
use Rattle.plan_docs.specs.Words.{small}
use Rattle.plan_link_laws.proofs.CountLemmas.{one_if}
use Rattle.plan_link_laws.proofs.InputLemmas.{input_at, join_left, join_right, step_node, step_parts}
use Rattle.plan_link_laws.proofs.PlaceLemmas.{PartAt, RootAt, Sound, here, number_is, part_there, root_at}
use Rattle.net_laws.proofs.ReadCountLemmas.{ids_at, ids_among}
use Rattle.net_laws.proofs.SpotLemmas.{ids_join, ids_of, under_one, under_three, under_two}

step_ids : (n : ℕ) (w : OpWord) (s : StepWord) (d : Data) (input : NodeForm) → ids_at n (step_node w s d input) ≡ ids_at n input
step_ids n op.Aggregate word.Final d input = refl
step_ids n w word.Final d input = refl
step_ids n w s d input = refl

join_id : (b : Bool) → slice_get (join_parts b) 0 ≡ Some (part key.Id kind.NodeId)
join_id true = refl
join_id false = refl

small_id : (n : ℕ) → n < 2 ^ 32 → small n ≡ n
small_id n low = ap (λ b. if b then n else 0) (lt-ltb n (2 ^ 32) low)

module _ (n : ℕ) (document : Data) (all : List Spot) where
  module _ (m : ℕ) (d : Data) (path : List Step) (owner : Data) (level : ℕ) (sound : Sound document all d path owner kind.Node level)
      (below : (e : Data) (inner : List Step) → Sound document all e inner d kind.Node (level + 1) → ids_at n (node_at m document e) ≤ ids_of (numbers_node n) (spots e inner d kind.Node (level + 1))) where
    abbrev given : ℕ
    given = ids_of (numbers_node n) (spots d path owner kind.Node level)

    abbrev input : Key → NodeForm
    input k = inner_node (node_at m document) (under k d)

    abbrev under_key : Key → Kind → Type 0
    under_key k inner = PartAt document all d path k inner level

    there : (parts : List Part) (j : ℕ) (k : Key) (inner : Kind) → parts_of_node (op_of d) d ≡ parts → slice_get parts j ≡ Some (part k inner) → under_key k inner
    there parts j k inner own at = part_there document all d path owner kind.Node level parts j k inner sound refl own at

    input_is : (k : Key) (at : under_key k kind.Node) → ids_at n (input k) ≡ ids_at n (node_at m document at.value)
    input_is k at = ap (λ (o : Option Data). ids_at n (inner_node (node_at m document) o)) at.is

    -- the nodes below are given below
    one_input : (parts : List Part) (j : ℕ) (k : Key) → parts_of_node (op_of d) d ≡ parts → slice_get parts j ≡ Some (part k kind.Node) → ids_at n (input k) ≤ given
    one_input parts j k own at =
        let e = there parts j k kind.Node own at in
        omega (arith, input_is k e, below e.value (path ++ step.Key k ∷ []) e.sound, under_one (numbers_node n) d path owner kind.Node level parts own j k kind.Node e.value at e.is)

    two_inputs : (parts : List Part) (j : ℕ) → parts_of_node (op_of d) d ≡ parts → slice_get parts j ≡ Some (part key.Left kind.Node)
        → slice_get parts (suc j) ≡ Some (part key.Right kind.Node) → ids_at n (input key.Left) + ids_at n (input key.Right) ≤ given
    two_inputs parts j own at next =
        let l = there parts j key.Left kind.Node own at in
        let r = there parts (suc j) key.Right kind.Node own next in
        omega (
          arith,
          input_is key.Left l,
          input_is key.Right r,
          below l.value (path ++ step.Key key.Left ∷ []) l.sound,
          below r.value (path ++ step.Key key.Right ∷ []) r.sound,
          under_two (numbers_node n) d path owner kind.Node level parts own j key.Left key.Right kind.Node l.value r.value at next l.is r.is,
        )

    own_parts : (w : OpWord) → op_of d ≡ w → parts_of_node (op_of d) d ≡ parts_of_node w d
    own_parts w is = ap (λ (x : OpWord). parts_of_node x d) is

    id_given : (id : under_key key.Id kind.NodeId) → one_if (id_of d == n) ≤ ids_of (numbers_node n) (spots id.value (path ++ step.Key key.Id ∷ []) d kind.NodeId level)
    id_given id =
        let inner = path ++ step.Key key.Id ∷ [] in
        let low : number_of id.value < 2 ^ 32 = leb-false (2 ^ 32) (number_of id.value) (here document all id.value inner d kind.NodeId level id.sound).within in
        let number : id_of d ≡ number_of id.value = ap small (number_is key.Id d id.value id.is) ∙ small_id (number_of id.value) low in
        let same = ap (λ (i : ℕ). one_if (i == n)) number in
        let are = ap (ids_of (numbers_node n)) (spots_are id.value inner d kind.NodeId level) in
        omega (arith, same, are)

    scan_given : op_of d ≡ op.Scan → one_if (id_of d == n) ≤ given
    scan_given is =
        let own = own_parts op.Scan is in
        let id = there table.scan 0 key.Id kind.NodeId own refl in
        omega (arith, id_given id, under_one (numbers_node n) d path owner kind.Node level table.scan own 0 key.Id kind.NodeId id.value refl id.is)

    join_given : (parts : List Part) → parts_of_node (op_of d) d ≡ parts → slice_get parts 0 ≡ Some (part key.Id kind.NodeId)
        → slice_get parts 4 ≡ Some (part key.Left kind.Node) → slice_get parts 5 ≡ Some (part key.Right kind.Node)
        → one_if (id_of d == n) + ids_at n (input key.Left) + ids_at n (input key.Right) ≤ given
    join_given parts own first at next =
        let id = there parts 0 key.Id kind.NodeId own first in
        let l = there parts 4 key.Left kind.Node own at in
        let r = there parts 5 key.Right kind.Node own next in
        omega (
          arith,
          id_given id,
          input_is key.Left l,
          input_is key.Right r,
          below l.value (path ++ step.Key key.Left ∷ []) l.sound,
          below r.value (path ++ step.Key key.Right ∷ []) r.sound,
          under_three (numbers_node n) d path owner kind.Node level parts own 3 key.Id key.Left key.Right kind.NodeId kind.Node id.value l.value r.value first at next id.is l.is r.is,
        )

    by_word : (w : OpWord) → op_of d ≡ w → ids_at n (node_by (node_at m document) document d w) ≤ given
    by_word op.Scan is = scan_given is
    by_word op.Values is = omega arith
    by_word op.Remote is = omega arith
    by_word op.Filter is = one_input table.filter 3 key.Input (own_parts op.Filter is) refl
    by_word op.Project is = one_input table.project 3 key.Input (own_parts op.Project is) refl
    by_word op.Join is =
        let filtered = has_entry key.Filters d in
        join_given (join_parts filtered) (own_parts op.Join is) (join_id filtered) (join_left filtered) (join_right filtered)
    by_word op.Sort is = one_input table.sort 3 key.Input (own_parts op.Sort is) refl
    by_word op.Union is = two_inputs table.union 2 (own_parts op.Union is) refl refl
    by_word op.Unknown is = omega arith
    by_word w is =
        let at = input_at w (step_of d) in
        omega (arith, step_ids n w (step_of d) d (input key.Input), one_input (step_parts w (step_of d)) at.place key.Input (own_parts w is) at.is)

  node_given : (m : ℕ) (d : Data) (path : List Step) (owner : Data) (level : ℕ) → Sound document all d path owner kind.Node level
      → ids_at n (node_at m document d) ≤ ids_of (numbers_node n) (spots d path owner kind.Node level)
  unfolding node_at
  node_given zero d path owner level sound = omega arith
  node_given (suc m) d path owner level sound = by_word m d path owner level sound (λ e inner h. node_given m e inner d (level + 1) h) (op_of d) refl

  abbrev root_path : ℕ → List Step
  root_path i = step.Key key.Fragments ∷ step.Index i ∷ step.Key key.Root ∷ []

  root_given : (i : ℕ) (g : Data) (r : RootAt document all i g) → ids_at n (fragment_of document g).root ≤ ids_of (numbers_node n) (spots r.root (root_path i) g kind.Node 1)
  unfolding node_form
  root_given i g r =
      let is = ap (λ (o : Option Data). ids_at n (inner_node (node_form document) o)) r.is in
      omega (arith, is, node_given 32 r.root (root_path i) g 1 r.sound)

  -- a fragment, by whether it is the first
  abbrev fragment_kind : Bool → Kind
  fragment_kind b = if b then kind.FirstFragment else kind.Fragment

  fragment_given : (b : Bool) (i : ℕ) (g : Data) → RootAt document all i g
      → ids_at n (fragment_of document g).root ≤ ids_of (numbers_node n) (spots g (step.Key key.Fragments ∷ step.Index i ∷ []) document (fragment_kind b) (depth_of (fragment_kind b) 0))
  fragment_given true i g r =
      let path = step.Key key.Fragments ∷ step.Index i ∷ [] in
      omega (arith, root_given i g r, under_one (numbers_node n) g path document kind.FirstFragment 0 table.first_fragment refl 2 key.Root kind.Node r.root refl r.is)
  fragment_given false i g r =
      let path = step.Key key.Fragments ∷ step.Index i ∷ [] in
      omega (arith, root_given i g r, under_one (numbers_node n) g path document kind.Fragment 0 table.fragment refl 3 key.Root kind.Node r.root refl r.is)

  items_given : (ds : Items) (i : ℕ) → ((j : ℕ) (g : Data) → slice_get (entries_of ds) j ≡ Some g → RootAt document all (i + j) g)
      → ids_among n (map (fragment_of document) (entries_of ds)) ≤ ids_of (numbers_node n) (item_spots ds (step.Key key.Fragments ∷ []) document kind.Fragments 0 i)
  items_given no_items i roots = omega arith
  items_given (item g ds) i roots =
      let at : i + 0 ≡ i = omega arith in
      let first = fragment_given (i == 0) i g (subst (λ (k : ℕ). RootAt document all k g) at (roots 0 g refl)) in
      let rest = items_given ds (i + 1) (λ j e is. let next : i + suc j ≡ i + 1 + j = omega arith in subst (λ (k : ℕ). RootAt document all k e) next (roots (suc j) e is)) in
      let both = ids_join (numbers_node n) (spots g (step.Key key.Fragments ∷ step.Index i ∷ []) document (fragment_kind (i == 0)) (depth_of (fragment_kind (i == 0)) 0))
      (item_spots ds (step.Key key.Fragments ∷ []) document kind.Fragments 0 (i + 1)) in
      omega (arith, first, rest, both)

  pub document_given : Sound document all document [] document kind.Document 0
      → ids_among n (map (fragment_of document) (entries_under key.Fragments document)) ≤ ids_of (numbers_node n) (places_of document)
  document_given sound =
      let list : PartAt document all document [] key.Fragments kind.Fragments 0 = part_there document all document [] document kind.Document 0 table.document 3 key.Fragments kind.Fragments sound refl refl refl in
      let path = step.Key key.Fragments ∷ [] in
      let inner = ap (ids_of (numbers_node n)) (spots_are list.value path document kind.Fragments 0) in
      let entries_are : entries_under key.Fragments document ≡ entries (as_array list.value) = ap (λ (o : Option Data). entries (option_and_then as_array o)) list.is in
      let found = by_entries (as_array list.value) list.value (λ j g is. root_at document all j g sound (ap (λ (es : List Data). slice_get es j) entries_are ∙ is)) in
      let same = ap (λ (es : List Data). ids_among n (map (fragment_of document) es)) entries_are in
      let whole = under_one (numbers_node n) document [] document kind.Document 0 table.document refl 3 key.Fragments kind.Fragments list.value refl list.is in
      omega (arith, inner, found, same, whole)
    where
      by_entries : (o : Option Items) (e : Data) → ((j : ℕ) (g : Data) → slice_get (entries o) j ≡ Some g → RootAt document all j g)
          → ids_among n (map (fragment_of document) (entries o)) ≤ ids_of (numbers_node n) (inner_of o (spot e (step.Key key.Fragments ∷ []) document kind.Fragments 0))
      by_entries None e roots = omega arith
      by_entries (Some ds) e roots = items_given ds 0 (λ j g at. let none : j ≡ 0 + j = omega arith in subst (λ (k : ℕ). RootAt document all k g) none (roots j g at))
