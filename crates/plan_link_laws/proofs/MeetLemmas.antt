-- The halves of operators meet in the plan of a document that passes the checks.
use Rattle.std.proofs.Common.{◌≡◌, ℕ, ◌+◌, ◌-◌, ◌<◌, ◌≤◌, zero, suc, List, [], ◌∷◌, ◌++◌, length, map, Bool, true, false, Option, Some, None, refl, ap, sym, ◌∙◌, subst, arith}
use Rattle.std.specs.Prelude.{slice_get, ◌==◌, nat_le, if◌then◌else◌, option_and_then, option_map}
use Rattle.std.specs.List.{list_any}
use Rattle.std.proofs.lemmas.Bool.{eqb-true, le-leb, leb-false, ltb-false}
use Rattle.std.proofs.lemmas.List.{length-append}
use Rattle.std.proofs.lemmas.Option.{slice_get-map}
use Rattle.serde_json.specs.Data.{Data}
use Rattle.json_paths.specs.declared.key.Key.{Key}
use Rattle.json_paths.specs.declared.key.Key.TheVariants as key
use Rattle.json_paths.specs.declared.step.Step.{Step}
use Rattle.json_paths.specs.declared.step.Step.TheVariants as step
use Rattle.plan_grammar.specs.declared.kind.Kind.TheVariants as kind
use Rattle.plan_grammar.specs.declared.tables.Part.{Part}
use Rattle.plan_grammar.specs.declared.words.OpWord.{OpWord}
use Rattle.plan_grammar.specs.declared.words.OpWord.TheVariants as op
use Rattle.plan_grammar.specs.declared.words.StepWord.{StepWord}
use Rattle.plan_grammar.specs.declared.words.StepWord.TheVariants as word
use Rattle.plan_grammar.specs.Grammar.{has_steps, join_parts, parts_of_node}
use Rattle.plan_grammar.specs.Json.{entries_under, has_entry, number_under, under}
use Rattle.plan_grammar.specs.Spots.{Spot}
use Rattle.plan_grammar.specs.Tables.{part}
use Rattle.plan_grammar.specs.Tables as table
use Rattle.plan_grammar.specs.Words.{op_of, step_of}
use Rattle.plan_checks.specs.Fragments.{reads}
use Rattle.plan_checks.specs.Halves.{is_root_path, joins, root_of}
use Rattle.plan_checks.specs.Names.{part_index}
use Rattle.plan_docs.specs.Documents.{fragment_of}
use Rattle.plan_docs.specs.Nodes.{NodeForm}
use Rattle.plan_docs.specs.Nodes as node
use Rattle.plan_docs.specs.Plans.{FragmentForm}
use Rattle.plan_docs.specs.ReadNodes.{inner_node, node_at, node_by, node_form}
use Rattle.plan_docs.specs.Words.{small_under}
use Rattle.plan_spreads.specs.Halves.{AllMeet, Halved, HalvesMeet, HasHalf, Meets, ReadsHalf, RootMeets, half}
use Rattle.plan_spreads.specs.Sources.{fragment_read}
use Rattle.plan_spreads.proofs.EachLemmas.{Each, first_true}
use Rattle.plan_link_laws.proofs.HalfLemmas.{BelowFinal, below_final, ends_same, final_input, final_joined, leads, other, partial_root}
use Rattle.plan_link_laws.proofs.InputLemmas.{InputAt, input_at, join_left, join_right, node_is, parts_are, step_half, step_node, step_parts}
use Rattle.plan_link_laws.proofs.PlaceLemmas.{Checked, RootAt, Sound, fragment_there, here, root_at, sound_under, source_at}
use Rattle.plan_link_laws.proofs.StepLemmas.{Known, value_at}

-- of which operator a node of the word is a half, if it is one
abbrev halved : OpWord → Option Halved
halved w = if has_steps w then Some (step_half w) else None

abbrev partial_of : StepWord → Option Halved → Option Halved
partial_of word.Partial operator = operator
partial_of s operator = None

half_of_step : (w : OpWord) (s : StepWord) (d : Data) (input : NodeForm) → half (step_node w s d input) ≡ partial_of s (Some (step_half w))
half_of_step op.Aggregate word.Single d input = refl
half_of_step w word.Single d input = refl
half_of_step w word.Partial d input = refl
half_of_step w s d input = refl

no_half : (s : StepWord) → None ≡ partial_of s None
no_half word.Partial = refl
no_half s = refl

half_by : (b : Bool) (read : Data → NodeForm) (document d : Data) (w : OpWord) → has_steps w ≡ b
    → half (node_by read document d w) ≡ partial_of (step_of d) (if b then Some (step_half w) else None)
half_by true read document d w h = ap half (node_is read document d w h) ∙ half_of_step w (step_of d) d (inner_node read (under key.Input d))
half_by false read document d op.Scan h = no_half (step_of d)
half_by false read document d w h = cc (no_half (step_of d))

node_half : (n : ℕ) (document d : Data) → half (node_at (suc n) document d) ≡ partial_of (step_of d) (halved (op_of d))
unfolding node_at
node_half n document d = half_by (has_steps (op_of d)) (node_at n document) document d (op_of d) refl

root_half : (document d root : Data) → under key.Root d ≡ Some root → half (fragment_of document d).root ≡ partial_of (step_of root) (halved (op_of root))
unfolding node_form
root_half document d root is = ap (λ (o : Option Data). half (inner_node (node_form document) o)) is ∙ node_half 31 document root

has_if : (b : Bool) (o operator : Halved) → (if b then Some o else None) ≡ Some operator → b ≡ true
has_if true o operator h = refl
has_if false o operator h = absurd cc

has_by : (w : OpWord) (operator : Halved) → halved w ≡ Some operator → has_steps w ≡ true
has_by w operator h = has_if (has_steps w) (step_half w) operator h

partial_none : (s : StepWord) (o : Option Halved) → (s ≡ word.Partial → (operator : Halved) → o ≡ Some operator → ⊥) → partial_of s o ≡ None
partial_none word.Partial None none = refl
partial_none word.Partial (Some operator) none = absurd (none refl operator refl)
partial_none s o none = refl

abbrev is_input : Step → Bool
is_input (step.Key key.Input) = true
is_input s = false

remote_read : (n : ℕ) (operator : Halved) (document d : Data) (first : ℕ) (later : List FragmentForm) → 0 < n → op_of d ≡ op.Remote
    → HasHalf (Some operator) (fragment_read first later (small_under key.Fragment d)) → ReadsHalf operator first later (node_at n document d)
unfolding node_at
remote_read zero operator document d first later some is h = absurd (omega (arith, some))
remote_read (suc n) operator document d first later some is h =
    subst (λ (w : OpWord). ReadsHalf operator first later (node_by (node_at n document) document d w)) (sym is) h

-- the halves of an operator over its input
module _ (first : ℕ) (later : List FragmentForm) (d : Data) (input : NodeForm) where
  over_step : (w : OpWord) (s : StepWord) → (s ≡ word.Partial → ⊥) → (s ≡ word.Final → ReadsHalf (step_half w) first later input) → ((s ≡ word.Final → ⊥) → Meets first later input)
      → Meets first later (step_node w s d input)
  over_step op.Aggregate word.Partial whole reads_half meets = absurd (whole refl)
  over_step w word.Partial whole reads_half meets = absurd (whole refl)
  over_step w word.Final whole reads_half meets = reads_half refl
  over_step w s whole reads_half meets = (refl, meets (λ h. absurd cc))

  root_step : (w : OpWord) (s : StepWord) → (s ≡ word.Final → ReadsHalf (step_half w) first later input) → ((s ≡ word.Final → ⊥) → Meets first later input)
      → RootMeets first later (step_node w s d input)
  root_step op.Aggregate word.Final reads_half meets = reads_half refl
  root_step w word.Final reads_half meets = reads_half refl
  root_step w s reads_half meets = meets (λ h. absurd cc)

meets_root : (first : ℕ) (later : List FragmentForm) (x : NodeForm) → Meets first later x → RootMeets first later x
meets_root first later (node.aggregate id step keys calls input) m = m.1
meets_root first later (node.top_n id step count keys input) m = m.1
meets_root first later (node.limit id step count input) m = m.1
meets_root first later x m = m

module _ (document : Data) (all : List Spot) (sound_all : Sound document all document [] document kind.Document 0)
    (known : Each (Known (Checked document all) document) all)
    (by_one : (n i j : ℕ) (s t : Spot) → slice_get all i ≡ Some s → slice_get all j ≡ Some t → reads n s ≡ true → reads n t ≡ true → s ≡ t) where
  abbrev Below : List Step → Type 0
  Below path = BelowFinal document all path

  -- below another node than a FINAL one
  other_below : (d : Data) (path : List Step) (owner : Data) (level : ℕ) (k : Key) → Sound document all d path owner kind.Node level
      → (has_steps (op_of d) ≡ true → step_of d ≡ word.Final → ⊥) → Below (path ++ step.Key k ∷ []) → ⊥
  other_below d path owner level k sound other b =
      let ends = ends_same path b.before (step.Key k) (step.Key key.Input) b.is in
      let mine = leads document all known by_one d path owner level sound in
      let theirs = b.at in
      let same : d ≡ b.node = cc (sym mine ∙ ap (λ (p : List Step). value_at p document) ends.0 ∙ theirs) in
      other (subst (λ (x : Data). has_steps (op_of x) ≡ true) (sym same) b.has) (subst (λ (x : Data). step_of x ≡ word.Final) (sym same) b.final)

  -- a step PARTIAL stands in a root, which is not the first
  deep_whole : (d : Data) (path : List Step) (owner : Data) (level : ℕ) → Sound document all d path owner kind.Node level → 4 ≤ length path
      → has_steps (op_of d) ≡ true → step_of d ≡ word.Partial → ⊥
  deep_whole d path owner level sound deep has partial =
      let inner = path ++ step.Key key.Step ∷ [] in
      let rooted = first_true (is_root_path inner) (list_any (joins (part_index inner) document) all) (partial_root document all d path owner level sound has partial) in
      let four = eqb-true (length inner) 4 (first_true (length inner == 4) _ rooted) in
      let long = length-append path (step.Key key.Step ∷ []) in
      absurd (omega (arith, four, long, deep))

  -- in fragment i, with those after it
  module _ (i : ℕ) (later : List FragmentForm)
      (reads_later : (m : ℕ) (g : Data) → i < m → slice_get (entries_under key.Fragments document) m ≡ Some g → fragment_read (i + 1) later m ≡ Some (fragment_of document g)) where
    abbrev inside : List Step → List Step
    inside rest = step.Key key.Fragments ∷ step.Index i ∷ rest

    abbrev NodeMeets : NodeForm → Type 0
    NodeMeets node = Meets (i + 1) later node

    source_meets : (d : Data) (rest : List Step) (owner : Data) (level : ℕ) → Sound document all d (inside rest) owner kind.Node level → op_of d ≡ op.Remote
        → (Below (inside rest) → ⊥) → HasHalf None (fragment_read (i + 1) later (small_under key.Fragment d))
    source_meets d rest owner level sound is apart =
        let r = source_at document all d (inside rest) owner level sound is in
        let f = fragment_there document all r.fragment sound_all r.within in
        let root = f.has.root in
        let after : i < r.fragment = leb-false r.fragment i r.after in
        let read = reads_later r.fragment f.fragment after f.is in
        let none = root_half document f.fragment root f.has.is ∙ partial_none (step_of root) (halved (op_of root))
        (λ partial operator has. apart (below_final document all known by_one d (inside rest) r f (has_by (op_of root) operator has) partial)) in
        subst (λ (n : ℕ). HasHalf None (fragment_read (i + 1) later n)) (sym r.is) (subst (HasHalf None) (sym read) none)

    final_reads : (n : ℕ) (d : Data) (rest : List Step) (owner : Data) (level : ℕ) (operator : Halved) → Sound document all d (inside rest) owner kind.Node level
        → halved (op_of d) ≡ Some operator → step_of d ≡ word.Final → level + suc n ≡ 33 → ReadsHalf operator (i + 1) later (inner_node (node_at n document) (under key.Input d))
    final_reads n d rest owner level operator sound has final count =
        let steps = has_by (op_of d) operator has in
        let below = inside rest ++ step.Key key.Input ∷ [] in
        let j = final_joined document all d (inside rest) owner level sound steps final in
        let input = final_input document all d j.input (inside rest) owner level sound steps final j.is in
        let low : level + 1 ≤ 32 = ltb-false 32 (level + 1) (here document all j.input below d kind.Node (level + 1) input).within in
        let r = source_at document all j.input below d (level + 1) input j.remote in
        let f = fragment_there document all r.fragment sound_all r.within in
        let root = f.has.root in
        let after : i < r.fragment = leb-false r.fragment i r.after in
        let read = reads_later r.fragment f.fragment after f.is in
        let there : root_of (number_under key.Fragment j.input) document ≡ Some root =
        ap (λ (m : ℕ). root_of m document) r.raw ∙ ap (option_and_then (under key.Root)) f.is ∙ f.has.is in
        let o = other d root (root_of (number_under key.Fragment j.input) document) there j.half in
        let same : half (fragment_of document f.fragment).root ≡ Some operator =
        root_half document f.fragment root f.has.is ∙ (λ k. partial_of (o.partial k) (halved (o.operator k))) ∙ has in
        let told : HasHalf (Some operator) (fragment_read (i + 1) later (small_under key.Fragment j.input)) =
        subst (λ (m : ℕ). HasHalf (Some operator) (fragment_read (i + 1) later m)) (sym r.is) (subst (HasHalf (Some operator)) (sym read) same) in
        subst (λ (x : Option Data). ReadsHalf operator (i + 1) later (inner_node (node_at n document) x)) (sym j.is)
        (remote_read n operator document j.input (i + 1) later (omega (arith, low, count)) j.remote told)

    -- what is known of a node, and what follows of those below it
    record NodeAt (n : ℕ) (d : Data) (rest : List Step) (owner : Data) (level : ℕ) : Type 0 where
      sound : Sound document all d (inside rest) owner kind.Node level
      count : level + suc n ≡ 33
      deep : 3 ≤ length (inside rest)
      apart : Below (inside rest) → ⊥
      below : (e : Data) (more : List Step) → Sound document all e (inside more) d kind.Node (level + 1) → 4 ≤ length (inside more) → (Below (inside more) → ⊥)
          → NodeMeets (node_at n document e)

    input_meets : (n : ℕ) (d : Data) (rest : List Step) (owner : Data) (level : ℕ) (parts : List Part) (j : ℕ) (k : Key) (o : Option Data) → under k d ≡ o
        → NodeAt n d rest owner level → parts_of_node (op_of d) d ≡ parts → slice_get parts j ≡ Some (part k kind.Node)
        → (has_steps (op_of d) ≡ true → step_of d ≡ word.Final → ⊥) → NodeMeets (inner_node (node_at n document) o)
    input_meets n d rest owner level parts j k None is at own there other = tt
    input_meets n d rest owner level parts j k (Some e) is at own there other =
        let long = length-append (inside rest) (step.Key k ∷ []) in
        at.below e (rest ++ step.Key k ∷ []) (sound_under document all d (inside rest) owner kind.Node level parts j k kind.Node e at.sound own there is)
        (omega (arith, long, at.deep)) (other_below d (inside rest) owner level k at.sound other)

    no_steps : (d : Data) (w : OpWord) → op_of d ≡ w → has_steps w ≡ false → has_steps (op_of d) ≡ true → step_of d ≡ word.Final → ⊥
    no_steps d w is none has final = let h = subst (λ (x : OpWord). has_steps x ≡ true) is has in absurd cc

    -- what an operator with steps has below it
    record OverHalf (n : ℕ) (d : Data) (operator : Halved) : Type 0 where
      reads : step_of d ≡ word.Final → ReadsHalf operator (i + 1) later (inner_node (node_at n document) (under key.Input d))
      meets : (step_of d ≡ word.Final → ⊥) → NodeMeets (inner_node (node_at n document) (under key.Input d))

    over_half : (n : ℕ) (d : Data) (rest : List Step) (owner : Data) (level : ℕ) (parts : List Part) (operator : Halved) → NodeAt n d rest owner level → InputAt parts
        → parts_of_node (op_of d) d ≡ parts → halved (op_of d) ≡ Some operator → OverHalf n d operator
    over_half n d rest owner level parts operator at input own has = record {
      reads = λ final. final_reads n d rest owner level operator at.sound has final at.count;
      meets = λ other. input_meets n d rest owner level parts input.place key.Input (under key.Input d) refl at own input.is (λ has final. other final);
    }

    over_steps : (n : ℕ) (d : Data) (rest : List Step) (owner : Data) (level : ℕ) → NodeAt n d rest owner level → (w : OpWord) → op_of d ≡ w → has_steps w ≡ true
        → OverHalf n d (step_half w)
    over_steps n d rest owner level at w is h =
        over_half n d rest owner level (step_parts w (step_of d)) (step_half w) at (input_at w (step_of d)) (ap (λ (x : OpWord). parts_of_node x d) is ∙ parts_are w d h)
        (ap halved is ∙ ap (λ (b : Bool). if b then Some (step_half w) else None) h)

    by_word : (n : ℕ) (d : Data) (rest : List Step) (owner : Data) (level : ℕ) → NodeAt n d rest owner level → (w : OpWord) → op_of d ≡ w
        → (has_steps w ≡ true → step_of d ≡ word.Partial → ⊥) → NodeMeets (node_by (node_at n document) document d w)
    by_word n d rest owner level at op.Scan is whole = tt
    by_word n d rest owner level at op.Values is whole = tt
    by_word n d rest owner level at op.Remote is whole = source_meets d rest owner level at.sound is at.apart
    by_word n d rest owner level at op.Filter is whole =
        input_meets n d rest owner level table.filter 3 key.Input (under key.Input d) refl at (ap (λ (w : OpWord). parts_of_node w d) is) refl (no_steps d op.Filter is refl)
    by_word n d rest owner level at op.Project is whole =
        input_meets n d rest owner level table.project 3 key.Input (under key.Input d) refl at (ap (λ (w : OpWord). parts_of_node w d) is) refl (no_steps d op.Project is refl)
    by_word n d rest owner level at op.Join is whole =
        let parts = join_parts (has_entry key.Filters d) in
        let own = ap (λ (w : OpWord). parts_of_node w d) is in
        let other = no_steps d op.Join is refl in (
          input_meets n d rest owner level parts 4 key.Left (under key.Left d) refl at own (join_left (has_entry key.Filters d)) other,
          input_meets n d rest owner level parts 5 key.Right (under key.Right d) refl at own (join_right (has_entry key.Filters d)) other,
        )
    by_word n d rest owner level at op.Sort is whole =
        input_meets n d rest owner level table.sort 3 key.Input (under key.Input d) refl at (ap (λ (w : OpWord). parts_of_node w d) is) refl (no_steps d op.Sort is refl)
    by_word n d rest owner level at op.Union is whole =
        let own = ap (λ (w : OpWord). parts_of_node w d) is in
        let other = no_steps d op.Union is refl in (
          input_meets n d rest owner level table.union 2 key.Left (under key.Left d) refl at own refl other,
          input_meets n d rest owner level table.union 3 key.Right (under key.Right d) refl at own refl other,
        )
    by_word n d rest owner level at op.Unknown is whole = tt
    by_word n d rest owner level at w is whole =
        let h = over_steps n d rest owner level at w is refl in
        over_step (i + 1) later d (inner_node (node_at n document) (under key.Input d)) w (step_of d) (whole refl) h.reads h.meets

    root_by_word : (n : ℕ) (d : Data) (rest : List Step) (owner : Data) (level : ℕ) → NodeAt n d rest owner level → (w : OpWord) → op_of d ≡ w
        → RootMeets (i + 1) later (node_by (node_at n document) document d w)
    root_by_word n d rest owner level at w is = by (has_steps w) refl
      where
        by : (b : Bool) → has_steps w ≡ b → RootMeets (i + 1) later (node_by (node_at n document) document d w)
        by true h =
            let o = over_steps n d rest owner level at w is h in
            subst (RootMeets (i + 1) later) (sym (node_is (node_at n document) document d w h))
            (root_step (i + 1) later d (inner_node (node_at n document) (under key.Input d)) w (step_of d) o.reads o.meets)
        by false h = meets_root (i + 1) later (node_by (node_at n document) document d w) (by_word n d rest owner level at w is (λ has partial. absurd cc))

    node_meets : (n : ℕ) (d : Data) (rest : List Step) (owner : Data) (level : ℕ) → level + n ≡ 33 → Sound document all d (inside rest) owner kind.Node level → 4 ≤ length (inside rest)
        → (Below (inside rest) → ⊥) → NodeMeets (node_at n document d)
    unfolding node_at
    node_meets zero d rest owner level count sound deep apart = tt
    node_meets (suc n) d rest owner level count sound deep apart =
        let at : NodeAt n d rest owner level = record {
          sound = sound;
          count = count;
          deep = omega (arith, deep);
          apart = apart;
          below = λ e more under_it further away. node_meets n e more d (level + 1) (omega (arith, count)) under_it further away;
        } in
        by_word n d rest owner level at (op_of d) refl (deep_whole d (inside rest) owner level sound deep)

    root_apart : Below (inside (step.Key key.Root ∷ [])) → ⊥
    root_apart b =
        let ends = ends_same (inside []) b.before (step.Key key.Root) (step.Key key.Input) b.is in
        let unlike : false ≡ true = ap is_input ends.1 in
        absurd cc

    root_node : (d owner : Data) → Sound document all d (inside (step.Key key.Root ∷ [])) owner kind.Node 1 → NodeAt 31 d (step.Key key.Root ∷ []) owner 1
    root_node d owner sound = record {
      sound = sound;
      count = refl;
      deep = omega arith;
      apart = root_apart;
      below = λ e more under_it further away. node_meets 31 e more d 2 refl under_it further away;
    }

    root_meets : (g : Data) → RootAt document all i g → RootMeets (i + 1) later (fragment_of document g).root
    unfolding node_form node_at
    root_meets g r =
        subst (λ (o : Option Data). RootMeets (i + 1) later (inner_node (node_form document) o)) (sym r.is)
        (root_by_word 31 r.root (step.Key key.Root ∷ []) g 1 (root_node r.root g r.sound) (op_of r.root) refl)

    whole_root_meets : (g : Data) (r : RootAt document all i g) → (has_steps (op_of r.root) ≡ true → step_of r.root ≡ word.Partial → ⊥) → NodeMeets (fragment_of document g).root
    unfolding node_form node_at
    whole_root_meets g r whole =
        subst (λ (o : Option Data). NodeMeets (inner_node (node_form document) o)) (sym r.is)
        (by_word 31 r.root (step.Key key.Root ∷ []) g 1 (root_node r.root g r.sound) (op_of r.root) refl whole)

  -- the fragments from place i on are `ds`
  abbrev FromPlace : ℕ → List Data → Type 0
  FromPlace i ds = (k : ℕ) → slice_get (entries_under key.Fragments document) (i + k) ≡ slice_get ds k

  from_next : (i : ℕ) (d : Data) (ds : List Data) → FromPlace i (d ∷ ds) → FromPlace (i + 1) ds
  from_next i d ds at k = let next : i + 1 + k ≡ i + suc k = omega arith in ap (slice_get (entries_under key.Fragments document)) next ∙ at (suc k)

  fragment_is : (i : ℕ) (d : Data) (ds : List Data) → FromPlace i (d ∷ ds) → slice_get (entries_under key.Fragments document) i ≡ Some d
  fragment_is i d ds at = let none : i ≡ i + 0 = omega arith in ap (slice_get (entries_under key.Fragments document)) none ∙ at 0

  read_later : (i : ℕ) (ds : List Data) → FromPlace (i + 1) ds → (m : ℕ) (g : Data) → i < m → slice_get (entries_under key.Fragments document) m ≡ Some g
      → fragment_read (i + 1) (map (fragment_of document) ds) m ≡ Some (fragment_of document g)
  read_later i ds at m g after is =
      let k = m - (i + 1) in
      let back : i + 1 + k ≡ m = omega (arith, after) in
      let there : slice_get ds k ≡ Some g = sym (at k) ∙ ap (slice_get (entries_under key.Fragments document)) back ∙ is in
      let first : nat_le (i + 1) m ≡ true = le-leb (i + 1) m (omega (arith, after)) in
      ap (λ (b : Bool). if b then slice_get (map (fragment_of document) ds) k else None) first
      ∙ slice_get-map (fragment_of document) ds k ∙ ap (option_map (fragment_of document)) there

  all_meet : (i : ℕ) (ds : List Data) → FromPlace i ds → AllMeet i (map (fragment_of document) ds)
  all_meet i [] at = tt
  all_meet i (d ∷ ds) at =
      let next = from_next i d ds at in
      (root_meets i (map (fragment_of document) ds) (read_later i ds next) d (root_at document all i d sound_all (fragment_is i d ds at)), all_meet (i + 1) ds next)

  first_whole : (d : Data) (r : RootAt document all 0 d) → has_steps (op_of r.root) ≡ true → step_of r.root ≡ word.Partial → ⊥
  first_whole d r has partial =
      let path = step.Key key.Fragments ∷ step.Index 0 ∷ step.Key key.Root ∷ [] in
      let inner = path ++ step.Key key.Step ∷ [] in
      let rooted : is_root_path inner ≡ true = first_true (is_root_path inner) (list_any (joins (part_index inner) document) all) (partial_root document all r.root path d 1 r.sound has partial) in
      absurd cc

  meet_from : (ds : List Data) → FromPlace 0 ds → HalvesMeet (map (fragment_of document) ds)
  meet_from [] at = tt
  meet_from (d ∷ ds) at =
      let next = from_next 0 d ds at in
      let r = root_at document all 0 d sound_all (fragment_is 0 d ds at) in
      (whole_root_meets 0 (map (fragment_of document) ds) (read_later 0 ds next) d r (first_whole d r), all_meet 1 ds next)

  pub fragments_meet : HalvesMeet (map (fragment_of document) (entries_under key.Fragments document))
  fragments_meet = meet_from (entries_under key.Fragments document) (λ k. let none : 0 + k ≡ k = omega arith in ap (slice_get (entries_under key.Fragments document)) none)
