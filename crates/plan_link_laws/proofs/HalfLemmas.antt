-- A source that reads a PARTIAL root is the input of the FINAL node that the checks ask for.
use Rattle.std.proofs.Common.{◌≡◌, ℕ, ◌+◌, suc, List, [], ◌∷◌, ◌++◌, Bool, true, false, Option, Some, None, refl, ap, sym, ◌∙◌, subst}
use Rattle.std.specs.Prelude.{slice_get, ◌&&◌, ◌||◌, ◌==◌, nat_eq, option_and_then}
use Rattle.std.specs.Cmp.Lexicographic.{pointwise}
use Rattle.std.specs.List.{list_any}
use Rattle.std.proofs.lemmas.Bool.{eqb-true}
use Rattle.std.proofs.lemmas.List.{append_cancel_right}
use Rattle.serde_json.specs.Data.{Data}
use Rattle.json_paths.specs.declared.key.Key.TheVariants as key
use Rattle.json_paths.specs.declared.step.Step.{Step}
use Rattle.json_paths.specs.declared.step.Step.TheVariants as step
use Rattle.plan_grammar.specs.declared.kind.Kind.TheVariants as kind
use Rattle.plan_grammar.specs.declared.words.OpWord.{OpWord}
use Rattle.plan_grammar.specs.declared.words.OpWord.TheVariants as op
use Rattle.plan_grammar.specs.declared.words.StepWord.{StepWord}
use Rattle.plan_grammar.specs.declared.words.StepWord.TheVariants as word
use Rattle.plan_grammar.specs.Grammar.{has_steps, parts_of_node}
use Rattle.plan_grammar.specs.Json.{number_under, same_text, text_of, text_under, under}
use Rattle.plan_grammar.specs.Spots.{Spot, spot}
use Rattle.plan_grammar.specs.Words.{op_named, op_of, step_named, step_of}
use Rattle.plan_checks.specs.Fragments.{reads}
use Rattle.plan_checks.specs.Halves.{input_reads, is_final, is_half, is_half_alone, is_joined, is_partial, is_remote, is_root_path, is_step_kind, joins, reads_half, root_of}
use Rattle.plan_checks.specs.Names.{part_index}
use Rattle.plan_spreads.proofs.EachLemmas.{Each, each_at, first_true, second_true}
use Rattle.plan_link_laws.proofs.InputLemmas.{input_fourth, step_third}
use Rattle.plan_link_laws.proofs.PlaceLemmas.{Checked, FragmentAt, PartAt, Sound, SourceAt, here, not_false, part_there, sound_under, source_at, text_is}
use Rattle.plan_link_laws.proofs.StepLemmas.{Known, value_at}

same_texts : (a b : List ℕ) → pointwise nat_eq a b ≡ true → a ≡ b
same_texts [] [] h = refl
same_texts [] (y ∷ b) h = absurd cc
same_texts (x ∷ a) [] h = absurd cc
same_texts (x ∷ a) (y ∷ b) h =
    let first = eqb-true x y (first_true (nat_eq x y) (pointwise nat_eq a b) h) in
    let rest = same_texts a b (second_true (nat_eq x y) (pointwise nat_eq a b) h) in
    (λ i. first i ∷ rest i)

-- lists that end in one item each
pub ends_same : {A : Type 0} (xs ys : List A) (x y : A) → xs ++ x ∷ [] ≡ ys ++ y ∷ [] → (xs ≡ ys) × (x ≡ y)
ends_same [] [] x y e = (refl, cc e)
ends_same [] (z ∷ []) x y e = absurd cc
ends_same [] (z ∷ w ∷ ys) x y e = absurd cc
ends_same (z ∷ []) [] x y e = absurd cc
ends_same (z ∷ w ∷ xs) [] x y e = absurd cc
ends_same (z ∷ xs) (w ∷ ys) x y e =
    let first : z ≡ w = cc e in
    let tail : xs ++ x ∷ [] ≡ ys ++ y ∷ [] = cc e in
    let rest = ends_same xs ys x y tail in
    ((λ i. first i ∷ rest.0 i), rest.1)

record FoundAt {A : Type 0} (test : A → Bool) (xs : List A) : Type 0 where
  place : ℕ
  item : A
  at : slice_get xs place ≡ Some item
  passes : test item ≡ true

found_by : {A : Type 0} (test : A → Bool) (x : A) (xs : List A) (b : Bool) → test x ≡ b → b || list_any test xs ≡ true → (list_any test xs ≡ true → FoundAt test xs) → FoundAt test (x ∷ xs)
found_by test x xs true t h rest = record { place = 0; item = x; at = refl; passes = t }
found_by test x xs false t h rest = let f = rest h in record { place = suc f.place; item = f.item; at = f.at; passes = f.passes }

found : {A : Type 0} (test : A → Bool) (xs : List A) → list_any test xs ≡ true → FoundAt test xs
found test [] h = absurd cc
found test (x ∷ xs) h = found_by test x xs (test x) refl h (found test xs)

final_is : (w : StepWord) → is_final w ≡ true → w ≡ word.Final
final_is word.Final h = refl
final_is w h = absurd cc

partial_is : (w : StepWord) → is_partial w ≡ true → w ≡ word.Partial
partial_is word.Partial h = refl
partial_is w h = absurd cc

remote_is : (w : OpWord) → is_remote w ≡ true → w ≡ op.Remote
remote_is op.Remote h = refl
remote_is w h = absurd cc

-- the input of a node that is joined to its other half
pub record Joined (document d : Data) : Type 0 where
  pub input : Data
  pub is : under key.Input d ≡ Some input
  pub remote : op_of input ≡ op.Remote
  pub half : is_half d (root_of (number_under key.Fragment input) document) ≡ true

joined_by : (document d : Data) (o : Option Data) → under key.Input d ≡ o → reads_half document d o ≡ true → Joined document d
joined_by document d None is h = absurd cc
joined_by document d (Some input) is h =
    let half = is_half d (root_of (number_under key.Fragment input) document) in
    record {
      input = input;
      is = is;
      remote = remote_is (op_of input) (first_true (is_remote (op_of input)) half h);
      half = second_true (is_remote (op_of input)) half h;
    }

pub joined : (document d : Data) → is_joined document d ≡ true → Joined document d
joined document d h = joined_by document d (under key.Input d) refl h

-- the root that is a node's other half is PARTIAL, of the same operator
pub record IsOther (d root : Data) : Type 0 where
  pub operator : op_of root ≡ op_of d
  pub partial : step_of root ≡ word.Partial

pub other : (d root : Data) (o : Option Data) → o ≡ Some root → is_half d o ≡ true → IsOther d root
other d root None is h = absurd cc
other d root (Some r) is h =
    let same : r ≡ root = cc is in
    let texts = same_texts (text_under key.Op r) (text_under key.Op d) (first_true (same_text (text_under key.Op r) (text_under key.Op d)) (is_partial (step_of r)) h) in
    subst (IsOther d) same (record {
      operator = ap op_named texts;
      partial = partial_is (step_of r) (second_true (same_text (text_under key.Op r) (text_under key.Op d)) (is_partial (step_of r)) h);
    })

root_same : (document : Data) (m n : ℕ) (root : Data) → m ≡ n → root_of n document ≡ Some root → root_of m document ≡ Some root
root_same document m n root same found = ap (λ (k : ℕ). root_of k document) same ∙ found

module _ (document : Data) (all : List Spot) where
  -- the step of an operator that has steps: no check of halves fails there
  pub step_passes : (d : Data) (path : List Step) (owner : Data) (level : ℕ) → Sound document all d path owner kind.Node level → has_steps (op_of d) ≡ true
      → is_half_alone (step_of d) document all (path ++ step.Key key.Step ∷ []) d ≡ false
  step_passes d path owner level sound has =
      let at : PartAt document all d path key.Step kind.Step level = part_there document all d path owner kind.Node level (parts_of_node (op_of d) d) 2 key.Step kind.Step sound refl refl (step_third (op_of d) d has) in
      let same : step_named (text_of at.value) ≡ step_of d = ap step_named (sym (text_is key.Step d at.value at.is)) in
      subst (λ (s : StepWord). is_half_alone s document all (path ++ step.Key key.Step ∷ []) d ≡ false) same
      (here document all at.value (path ++ step.Key key.Step ∷ []) d kind.Step level at.sound).joined

  pub final_input : (d input : Data) (path : List Step) (owner : Data) (level : ℕ) → Sound document all d path owner kind.Node level → has_steps (op_of d) ≡ true → step_of d ≡ word.Final
      → under key.Input d ≡ Some input → Sound document all input (path ++ step.Key key.Input ∷ []) d kind.Node (level + 1)
  final_input d input path owner level sound has final is =
      sound_under document all d path owner kind.Node level (parts_of_node (op_of d) d) 3 key.Input kind.Node input sound refl (input_fourth (op_of d) d has final) is

  pub final_joined : (d : Data) (path : List Step) (owner : Data) (level : ℕ) → Sound document all d path owner kind.Node level → has_steps (op_of d) ≡ true → step_of d ≡ word.Final
      → Joined document d
  final_joined d path owner level sound has final =
      let passes = subst (λ (s : StepWord). is_half_alone s document all (path ++ step.Key key.Step ∷ []) d ≡ false) final (step_passes d path owner level sound has) in
      joined document d (not_false (is_joined document d) passes)

  pub partial_root : (d : Data) (path : List Step) (owner : Data) (level : ℕ) → Sound document all d path owner kind.Node level → has_steps (op_of d) ≡ true → step_of d ≡ word.Partial
      → is_root_path (path ++ step.Key key.Step ∷ []) && list_any (joins (part_index (path ++ step.Key key.Step ∷ [])) document) all ≡ true
  partial_root d path owner level sound has partial =
      let inner = path ++ step.Key key.Step ∷ [] in
      let passes = subst (λ (s : StepWord). is_half_alone s document all inner d ≡ false) partial (step_passes d path owner level sound has) in
      not_false (is_root_path inner && list_any (joins (part_index inner) document) all) passes

  -- the place of the input of a FINAL node
  pub record BelowFinal (path : List Step) : Type 0 where
    pub before : List Step
    pub node : Data
    pub is : path ≡ before ++ step.Key key.Input ∷ []
    pub at : value_at before document ≡ Some node
    pub has : has_steps (op_of node) ≡ true
    pub final : step_of node ≡ word.Final

  module _ (known : Each (Known (Checked document all) document) all)
      (by_one : (n i j : ℕ) (s t : Spot) → slice_get all i ≡ Some s → slice_get all j ≡ Some t → reads n s ≡ true → reads n t ≡ true → s ≡ t) where
    pub leads : (d : Data) (path : List Step) (owner : Data) (level : ℕ) → Sound document all d path owner kind.Node level → value_at path document ≡ Some d
    leads d path owner level sound =
        let c = here document all d path owner kind.Node level sound in
        (each_at (Known (Checked document all) document) all c.place (spot d path owner kind.Node level) c.there known).value

    -- from the step that joins a fragment to the source that reads it
    from_step : (n : ℕ) (root d : Data) (path : List Step) (s : Spot) (j : ℕ) → slice_get all j ≡ Some s → is_step_kind s.kind ≡ true → step_named (text_of s.value) ≡ word.Final
        → Joined document s.owner → input_reads n (under key.Input s.owner) ≡ true → root_of n document ≡ Some root → has_steps (op_of root) ≡ true
        → (r : SourceAt document all d path) → r.fragment ≡ n → BelowFinal path
    from_step n root d path s j at is_step final join reading found has r same =
        let k = each_at (Known (Checked document all) document) all j s at known in
        let a = k.step is_step in
        let node = s.owner in
        let step_is : step_of node ≡ word.Final = ap step_named (text_is key.Step node s.value a.word) ∙ final in
        let named : number_under key.Fragment join.input == n ≡ true = subst (λ (o : Option Data). input_reads n o ≡ true) join.is reading in
        let number : number_under key.Fragment join.input ≡ n = eqb-true (number_under key.Fragment join.input) n named in
        let half = other node root (root_of (number_under key.Fragment join.input) document) (root_same document (number_under key.Fragment join.input) n root number found) join.half in
        let steps : has_steps (op_of node) ≡ true = subst (λ (w : OpWord). has_steps w ≡ true) half.operator has in
        let input = final_input node join.input a.before a.above a.level a.node steps step_is join.is in
        let source = source_at document all join.input (a.before ++ step.Key key.Input ∷ []) node (a.level + 1) input join.remote in
        let first : source.fragment ≡ n = sym source.raw ∙ number in
        let one = by_one n source.place r.place
        (spot source.value ((a.before ++ step.Key key.Input ∷ []) ++ step.Key key.Fragment ∷ []) join.input kind.FragmentNumber source.level)
        (spot r.value (path ++ step.Key key.Fragment ∷ []) d kind.FragmentNumber r.level) source.there r.there
        (subst (λ (m : ℕ). reads m (spot source.value ((a.before ++ step.Key key.Input ∷ []) ++ step.Key key.Fragment ∷ []) join.input kind.FragmentNumber source.level) ≡ true) first source.reads)
        (subst (λ (m : ℕ). reads m (spot r.value (path ++ step.Key key.Fragment ∷ []) d kind.FragmentNumber r.level) ≡ true) same r.reads) in
        let paths : (a.before ++ step.Key key.Input ∷ []) ++ step.Key key.Fragment ∷ [] ≡ path ++ step.Key key.Fragment ∷ [] = ap (λ (x : Spot). x.path) one in
        record {
          before = a.before;
          node = node;
          is = sym (append_cancel_right (a.before ++ step.Key key.Input ∷ []) path (step.Key key.Fragment ∷ []) paths);
          at = leads node a.before a.above a.level a.node;
          has = steps;
          final = step_is;
        }

    -- a source that reads a PARTIAL root
    pub below_final : (d : Data) (path : List Step) (r : SourceAt document all d path) (f : FragmentAt document all r.fragment)
        → has_steps (op_of f.has.root) ≡ true → step_of f.has.root ≡ word.Partial → BelowFinal path
    below_final d path r f has partial =
        let n = r.fragment in
        let own = step.Key key.Fragments ∷ step.Index n ∷ step.Key key.Root ∷ [] in
        let root = f.has.root in
        let rooted = partial_root root own f.fragment 1 f.has.sound has partial in
        let inner = own ++ step.Key key.Step ∷ [] in
        let some : list_any (joins n document) all ≡ true = second_true (is_root_path inner) (list_any (joins n document) all) rooted in
        let s = found (joins n document) all some in
        let owner = s.item.owner in
        let a = is_step_kind s.item.kind in
        let b = is_final (step_named (text_of s.item.value)) in
        let c = is_joined document owner in
        let e = input_reads n (under key.Input owner) in
        let three = first_true (a && b && c) e s.passes in
        let two = first_true (a && b) c three in
        let under_root : root_of n document ≡ Some root = ap (option_and_then (under key.Root)) f.is ∙ f.has.is in
        from_step n root d path s.item s.place s.at (first_true a b two) (final_is (step_named (text_of s.item.value)) (second_true a b two))
        (joined document owner (second_true (a && b) c three)) (second_true (a && b && c) e s.passes) under_root has r refl
