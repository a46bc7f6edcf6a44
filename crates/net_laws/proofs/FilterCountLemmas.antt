-- The dynamic filters of a document's plan that have an id are no more than the places of the document that give it.
use Rattle.std.proofs.Common.{◌≡◌, ℕ, ◌+◌, ◌<◌, ◌≤◌, ◌^◌, zero, suc, List, [], ◌∷◌, ◌++◌, map, Bool, true, false, Option, Some, None, refl, ap, ◌∙◌, subst, arith}
use Rattle.std.specs.Prelude.{slice_get, ◌==◌, if◌then◌else◌, option_and_then}
use Rattle.std.specs.Option.{is_some}
use Rattle.std.proofs.lemmas.Bool.{leb-false, lt-ltb}
use Rattle.serde_json.specs.Data.{Data, Items, no_items, item}
use Rattle.serde_json.specs.Find.{as_array}
use Rattle.json_paths.specs.declared.key.Key.{Key}
use Rattle.json_paths.specs.declared.key.Key.TheVariants as key
use Rattle.json_paths.specs.declared.step.Step.{Step}
use Rattle.json_paths.specs.declared.step.Step.TheVariants as step
use Rattle.plan_grammar.specs.declared.kind.Kind.{Kind}
use Rattle.plan_grammar.specs.declared.kind.Kind.TheVariants as kind
use Rattle.plan_grammar.specs.declared.tables.Part.{Part}
use Rattle.plan_grammar.specs.declared.words.OpWord.{OpWord}
use Rattle.plan_grammar.specs.declared.words.OpWord.TheVariants as op
use Rattle.plan_grammar.specs.declared.words.StepWord.{StepWord}
use Rattle.plan_grammar.specs.declared.words.StepWord.TheVariants as word
use Rattle.plan_grammar.specs.Grammar.{depth_of, join_parts, parts_of_node}
use Rattle.plan_grammar.specs.Json.{entries, entries_of, entries_under, has_entry, number_of, under}
use Rattle.plan_grammar.specs.Spots.{Spot, inner_of, item_spots, places_of, spot, spots}
use Rattle.plan_grammar.specs.Tables.{part}
use Rattle.plan_grammar.specs.Tables as table
use Rattle.plan_grammar.specs.Words.{op_of, step_of}
use Rattle.plan_grammar.proofs.WalkLemmas.{spots_are}
use Rattle.plan_checks.specs.Names.{numbers_filter}
use Rattle.plan_docs.specs.declared.node.DynamicFilter.{DynamicFilter}
use Rattle.plan_docs.specs.Documents.{fragment_of}
use Rattle.plan_docs.specs.Nodes.{NodeForm}
use Rattle.plan_docs.specs.Nodes as node
use Rattle.plan_docs.specs.Parts.{filter_of, filters_of}
use Rattle.plan_docs.specs.Plans.{FragmentForm, PlanForm}
use Rattle.plan_docs.specs.ReadNodes.{inner_node, node_at, node_by, node_form}
use Rattle.plan_docs.specs.Words.{small}
use Rattle.plan_link_laws.specs.Consistent.{IsConsistent}
use Rattle.plan_link_laws.proofs.CountLemmas.{one_if}
use Rattle.plan_link_laws.proofs.DocumentLemmas.{document_checked, fragments_of, passes_first}
use Rattle.plan_link_laws.proofs.InputLemmas.{input_at, join_left, join_right, step_node, step_parts}
use Rattle.plan_link_laws.proofs.PlaceLemmas.{PartAt, RootAt, Sound, entry_there, here, number_is, part_there, root_at}
use Rattle.net_laws.proofs.JoinPlanLemmas.{named}
use Rattle.net_laws.proofs.SpotLemmas.{fresh_filters, given_once, ids_join, ids_of, under_one, under_row, under_two}

-- how many of the filters have the id
abbrev pub filter_ids : ℕ → List DynamicFilter → ℕ
filter_ids n [] = 0
filter_ids n (f ∷ fs) = one_if (f.id == n) + filter_ids n fs

-- and of those of the joins of a node
abbrev pub filters_at : ℕ → NodeForm → ℕ
filters_at n (node.scan id table columns types) = 0
filters_at n (node.values id types rows) = 0
filters_at n (node.remote id fragment) = 0
filters_at n (node.step id operator input) = filters_at n input
filters_at n (node.join id kind on filters left right) = filters_at n left + filters_at n right + filter_ids n filters
filters_at n (node.union id left right) = filters_at n left + filters_at n right

abbrev pub filters_among : ℕ → List FragmentForm → ℕ
filters_among n [] = 0
filters_among n (f ∷ fs) = filters_at n f.root + filters_among n fs

step_filters : (n : ℕ) (w : OpWord) (s : StepWord) (d : Data) (input : NodeForm) → filters_at n (step_node w s d input) ≡ filters_at n input
step_filters n op.Aggregate word.Final d input = refl
step_filters n w word.Final d input = refl
step_filters n w s d input = refl

small_id : (n : ℕ) → n < 2 ^ 32 → small n ≡ n
small_id n low = ap (λ b. if b then n else 0) (lt-ltb n (2 ^ 32) low)

-- what is not under a key has no entries
no_entries : (k : Key) (d : Data) → has_entry k d ≡ false → entries_under k d ≡ []
no_entries k d none = by (under k d) none
  where
    by : (o : Option Data) → is_some o ≡ false → entries (option_and_then as_array o) ≡ []
    by None e = refl
    by (Some x) e = absurd cc

module _ (n : ℕ) (document : Data) (all : List Spot) where
  abbrev given_in : List Spot → ℕ
  given_in = ids_of (numbers_filter n)

  -- a filter, whose id stands under its key
  filter_given : (e : Data) (path : List Step) (owner : Data) (level : ℕ) → Sound document all e path owner kind.Filter level
      → one_if ((filter_of e).id == n) ≤ given_in (spots e path owner kind.Filter level)
  filter_given e path owner level sound =
      let id : PartAt document all e path key.Id kind.FilterId level = part_there document all e path owner kind.Filter level table.dynamic_filter 0 key.Id kind.FilterId sound refl refl refl in
      let inner = path ++ step.Key key.Id ∷ [] in
      let low : number_of id.value < 2 ^ 32 = leb-false (2 ^ 32) (number_of id.value) (here document all id.value inner e kind.FilterId level id.sound).within in
      let number : (filter_of e).id ≡ number_of id.value = ap small (number_is key.Id e id.value id.is) ∙ small_id (number_of id.value) low in
      let same = ap (λ (i : ℕ). one_if (i == n)) number in
      let are = ap given_in (spots_are id.value inner e kind.FilterId level) in
      let whole = under_one (numbers_filter n) e path owner kind.Filter level table.dynamic_filter refl 0 key.Id kind.FilterId id.value refl id.is in
      omega (arith, same, are, whole)

  -- those of a list, from an entry on
  listed_given : (ds : Items) (path : List Step) (owner : Data) (level i : ℕ)
      → ((j : ℕ) (e : Data) → slice_get (entries_of ds) j ≡ Some e → Sound document all e (path ++ step.Index (i + j) ∷ []) owner kind.Filter level)
      → filter_ids n (filters_of (entries_of ds)) ≤ given_in (item_spots ds path owner kind.Filters level i)
  listed_given no_items path owner level i sound = omega arith
  listed_given (item e ds) path owner level i sound =
      let at : i + 0 ≡ i = omega arith in
      let first = filter_given e (path ++ step.Index i ∷ []) owner level (subst (λ (k : ℕ). Sound document all e (path ++ step.Index k ∷ []) owner kind.Filter level) at (sound 0 e refl)) in
      let rest = listed_given ds path owner level (i + 1) (λ j g is.
      let next : i + suc j ≡ i + 1 + j = omega arith in
      subst (λ (k : ℕ). Sound document all g (path ++ step.Index k ∷ []) owner kind.Filter level) next (sound (suc j) g is)) in
      let both = ids_join (numbers_filter n) (spots e (path ++ step.Index i ∷ []) owner kind.Filter level) (item_spots ds path owner kind.Filters level (i + 1)) in
      omega (arith, first, rest, both)

  module _ (m : ℕ) (d : Data) (path : List Step) (owner : Data) (level : ℕ) (sound : Sound document all d path owner kind.Node level)
      (below : (e : Data) (inner : List Step) → Sound document all e inner d kind.Node (level + 1)
      → filters_at n (node_at m document e) ≤ given_in (spots e inner d kind.Node (level + 1))) where
    abbrev given : ℕ
    given = given_in (spots d path owner kind.Node level)

    abbrev input : Key → NodeForm
    input k = inner_node (node_at m document) (under k d)

    abbrev under_key : Key → Kind → Type 0
    under_key k inner = PartAt document all d path k inner level

    there : (parts : List Part) (j : ℕ) (k : Key) (inner : Kind) → parts_of_node (op_of d) d ≡ parts → slice_get parts j ≡ Some (part k inner)
        → under_key k inner
    there parts j k inner own at = part_there document all d path owner kind.Node level parts j k inner sound refl own at

    input_is : (k : Key) (at : under_key k kind.Node) → filters_at n (input k) ≡ filters_at n (node_at m document at.value)
    input_is k at = ap (λ (o : Option Data). filters_at n (inner_node (node_at m document) o)) at.is

    -- the nodes below are given below
    one_input : (parts : List Part) (j : ℕ) (k : Key) → parts_of_node (op_of d) d ≡ parts → slice_get parts j ≡ Some (part k kind.Node)
        → filters_at n (input k) ≤ given
    one_input parts j k own at =
        let e = there parts j k kind.Node own at in
        omega (
          arith,
          input_is k e,
          below e.value (path ++ step.Key k ∷ []) e.sound,
          under_one (numbers_filter n) d path owner kind.Node level parts own j k kind.Node e.value at e.is,
        )

    two_inputs : (parts : List Part) (j : ℕ) → parts_of_node (op_of d) d ≡ parts → slice_get parts j ≡ Some (part key.Left kind.Node)
        → slice_get parts (suc j) ≡ Some (part key.Right kind.Node) → filters_at n (input key.Left) + filters_at n (input key.Right) ≤ given
    two_inputs parts j own at next =
        let l = there parts j key.Left kind.Node own at in
        let r = there parts (suc j) key.Right kind.Node own next in
        omega (
          arith,
          input_is key.Left l,
          input_is key.Right r,
          below l.value (path ++ step.Key key.Left ∷ []) l.sound,
          below r.value (path ++ step.Key key.Right ∷ []) r.sound,
          under_two (numbers_filter n) d path owner kind.Node level parts own j key.Left key.Right kind.Node l.value r.value at next l.is r.is,
        )

    own_parts : (w : OpWord) → op_of d ≡ w → parts_of_node (op_of d) d ≡ parts_of_node w d
    own_parts w is = ap (λ (x : OpWord). parts_of_node x d) is

    -- the filters of a join
    own_given : (at : under_key key.Filters kind.Filters)
        → filter_ids n (filters_of (entries_under key.Filters d)) ≤ given_in (spots at.value (path ++ step.Key key.Filters ∷ []) d kind.Filters level)
    own_given at =
        let inner = path ++ step.Key key.Filters ∷ [] in
        let are = ap given_in (spots_are at.value inner d kind.Filters level) in
        let entries_are : entries_under key.Filters d ≡ entries (as_array at.value) = ap (λ (o : Option Data). entries (option_and_then as_array o)) at.is in
        let same = ap (λ (es : List Data). filter_ids n (filters_of es)) entries_are in
        let found = by_entries (as_array at.value) (λ j e is.
        entry_there document all d path key.Filters kind.Filters level at refl j e (ap (λ (es : List Data). slice_get es j) entries_are ∙ is)) in
        omega (arith, are, same, found)
      where
        by_entries : (o : Option Items)
            → ((j : ℕ) (e : Data) → slice_get (entries o) j ≡ Some e → Sound document all e ((path ++ step.Key key.Filters ∷ []) ++ step.Index j ∷ []) d kind.Filter level)
            → filter_ids n (filters_of (entries o)) ≤ given_in (inner_of o (spot at.value (path ++ step.Key key.Filters ∷ []) d kind.Filters level))
        by_entries None each = omega arith
        by_entries (Some ds) each =
            listed_given ds (path ++ step.Key key.Filters ∷ []) d level 0 (λ j e is.
            let none : j ≡ 0 + j = omega arith in
            subst (λ (k : ℕ). Sound document all e ((path ++ step.Key key.Filters ∷ []) ++ step.Index k ∷ []) d kind.Filter level) none (each j e is))

    join_given : (b : Bool) → has_entry key.Filters d ≡ b → parts_of_node (op_of d) d ≡ join_parts b
        → filters_at n (input key.Left) + filters_at n (input key.Right) + filter_ids n (filters_of (entries_under key.Filters d)) ≤ given
    join_given false has own =
        let none = ap (λ (es : List Data). filter_ids n (filters_of es)) (no_entries key.Filters d has) in
        omega (arith, none, two_inputs (join_parts false) 4 own (join_left false) (join_right false))
    join_given true has own =
        let l = there (join_parts true) 4 key.Left kind.Node own refl in
        let r = there (join_parts true) 5 key.Right kind.Node own refl in
        let f = there (join_parts true) 6 key.Filters kind.Filters own refl in
        omega (
          arith,
          own_given f,
          input_is key.Left l,
          input_is key.Right r,
          below l.value (path ++ step.Key key.Left ∷ []) l.sound,
          below r.value (path ++ step.Key key.Right ∷ []) r.sound,
          under_row (numbers_filter n) d path owner kind.Node level (join_parts true) own 4 key.Left key.Right key.Filters kind.Node kind.Node kind.Filters l.value r.value f.value
              refl refl refl l.is r.is f.is,
        )

    by_word : (w : OpWord) → op_of d ≡ w → filters_at n (node_by (node_at m document) document d w) ≤ given
    by_word op.Scan is = omega arith
    by_word op.Values is = omega arith
    by_word op.Remote is = omega arith
    by_word op.Filter is = one_input table.filter 3 key.Input (own_parts op.Filter is) refl
    by_word op.Project is = one_input table.project 3 key.Input (own_parts op.Project is) refl
    by_word op.Join is = join_given (has_entry key.Filters d) refl (own_parts op.Join is)
    by_word op.Sort is = one_input table.sort 3 key.Input (own_parts op.Sort is) refl
    by_word op.Union is = two_inputs table.union 2 (own_parts op.Union is) refl refl
    by_word op.Unknown is = omega arith
    by_word w is =
        let at = input_at w (step_of d) in
        omega (arith, step_filters n w (step_of d) d (input key.Input), one_input (step_parts w (step_of d)) at.place key.Input (own_parts w is) at.is)

  node_given : (m : ℕ) (d : Data) (path : List Step) (owner : Data) (level : ℕ) → Sound document all d path owner kind.Node level
      → filters_at n (node_at m document d) ≤ given_in (spots d path owner kind.Node level)
  unfolding node_at
  node_given zero d path owner level sound = omega arith
  node_given (suc m) d path owner level sound = by_word m d path owner level sound (λ e inner h. node_given m e inner d (level + 1) h) (op_of d) refl

  abbrev root_path : ℕ → List Step
  root_path i = step.Key key.Fragments ∷ step.Index i ∷ step.Key key.Root ∷ []

  root_given : (i : ℕ) (g : Data) (r : RootAt document all i g)
      → filters_at n (fragment_of document g).root ≤ given_in (spots r.root (root_path i) g kind.Node 1)
  unfolding node_form
  root_given i g r =
      let is = ap (λ (o : Option Data). filters_at n (inner_node (node_form document) o)) r.is in
      omega (arith, is, node_given 32 r.root (root_path i) g 1 r.sound)

  -- a fragment, by whether it is the first
  abbrev fragment_kind : Bool → Kind
  fragment_kind b = if b then kind.FirstFragment else kind.Fragment

  fragment_given : (b : Bool) (i : ℕ) (g : Data) → RootAt document all i g
      → filters_at n (fragment_of document g).root ≤ given_in (spots g (step.Key key.Fragments ∷ step.Index i ∷ []) document (fragment_kind b) (depth_of (fragment_kind b) 0))
  fragment_given true i g r =
      let path = step.Key key.Fragments ∷ step.Index i ∷ [] in
      omega (arith, root_given i g r, under_one (numbers_filter n) g path document kind.FirstFragment 0 table.first_fragment refl 2 key.Root kind.Node r.root refl r.is)
  fragment_given false i g r =
      let path = step.Key key.Fragments ∷ step.Index i ∷ [] in
      omega (arith, root_given i g r, under_one (numbers_filter n) g path document kind.Fragment 0 table.fragment refl 3 key.Root kind.Node r.root refl r.is)

  items_given : (ds : Items) (i : ℕ) → ((j : ℕ) (g : Data) → slice_get (entries_of ds) j ≡ Some g → RootAt document all (i + j) g)
      → filters_among n (map (fragment_of document) (entries_of ds)) ≤ given_in (item_spots ds (step.Key key.Fragments ∷ []) document kind.Fragments 0 i)
  items_given no_items i roots = omega arith
  items_given (item g ds) i roots =
      let at : i + 0 ≡ i = omega arith in
      let first = fragment_given (i == 0) i g (subst (λ (k : ℕ). RootAt document all k g) at (roots 0 g refl)) in
      let rest = items_given ds (i + 1) (λ j e is. let next : i + suc j ≡ i + 1 + j = omega arith in subst (λ (k : ℕ). RootAt document all k e) next (roots (suc j) e is)) in
      let both = ids_join (numbers_filter n) (spots g (step.Key key.Fragments ∷ step.Index i ∷ []) document (fragment_kind (i == 0)) (depth_of (fragment_kind (i == 0)) 0))
      (item_spots ds (step.Key key.Fragments ∷ []) document kind.Fragments 0 (i + 1)) in
      omega (arith, first, rest, both)

  document_given : Sound document all document [] document kind.Document 0
      → filters_among n (map (fragment_of document) (entries_under key.Fragments document)) ≤ given_in (places_of document)
  document_given sound =
      let list : PartAt document all document [] key.Fragments kind.Fragments 0 = part_there document all document [] document kind.Document 0 table.document 3 key.Fragments kind.Fragments sound refl refl refl in
      let path = step.Key key.Fragments ∷ [] in
      let inner = ap given_in (spots_are list.value path document kind.Fragments 0) in
      let entries_are : entries_under key.Fragments document ≡ entries (as_array list.value) = ap (λ (o : Option Data). entries (option_and_then as_array o)) list.is in
      let found = by_entries (as_array list.value) list.value (λ j g is. root_at document all j g sound (ap (λ (es : List Data). slice_get es j) entries_are ∙ is)) in
      let same = ap (λ (es : List Data). filters_among n (map (fragment_of document) es)) entries_are in
      let whole = under_one (numbers_filter n) document [] document kind.Document 0 table.document refl 3 key.Fragments kind.Fragments list.value refl list.is in
      omega (arith, inner, found, same, whole)
    where
      by_entries : (o : Option Items) (e : Data) → ((j : ℕ) (g : Data) → slice_get (entries o) j ≡ Some g → RootAt document all j g)
          → filters_among n (map (fragment_of document) (entries o)) ≤ given_in (inner_of o (spot e (step.Key key.Fragments ∷ []) document kind.Fragments 0))
      by_entries None e roots = omega arith
      by_entries (Some ds) e roots = items_given ds 0 (λ j g at. let none : j ≡ 0 + j = omega arith in subst (λ (k : ℕ). RootAt document all k g) none (roots j g at))

-- no two filters of a consistent plan have one id
pub filters_once : (n : ℕ) (plan : PlanForm) → IsConsistent plan → filters_among n plan.fragments ≤ 1
filters_once n plan c =
    let d = c.document in
    let passes = passes_first d c.passes in
    let same = ap (λ (p : PlanForm). filters_among n p.fragments) c.means ∙ ap (filters_among n) (fragments_of d) in
    omega (
      arith,
      same,
      document_given n d (places_of d) (document_checked d passes),
      given_once (numbers_filter n) (fresh_filters n) d [] (places_of d) (named d passes),
    )
