-- Every place of a document holds what its path leads to, and a step stands in a node.
use Rattle.std.proofs.Common.{◌≡◌, ℕ, ◌+◌, suc, List, [], ◌∷◌, ◌++◌, Bool, true, false, Option, Some, None, Ordering, Less, Equal, Greater, refl, ap, ◌∙◌, subst, arith}
use Rattle.std.specs.Prelude.{slice_get, ◌&&◌, ◌||◌, ◌==◌, not, if◌then◌else◌, option_and_then}
use Rattle.std.specs.Ordering.{nat_cmp, match_ordering}
use Rattle.std.specs.Cmp.Lexicographic.{slice_cmp}
use Rattle.std.specs.List.{list_all}
use Rattle.serde_json.specs.Data.{Data, null, boolean, number, string, array, object, Items, no_items, item, Members, no_members, member}
use Rattle.serde_json.specs.Find.{get_member}
use Rattle.json_paths.specs.declared.key.Key.{Key}
use Rattle.json_paths.specs.declared.key.Key.TheVariants as key
use Rattle.json_paths.specs.declared.step.Step.{Step}
use Rattle.json_paths.specs.declared.step.Step.TheVariants as step
use Rattle.json_paths.specs.Places.{key_text}
use Rattle.plan_grammar.specs.declared.kind.Kind.{Kind}
use Rattle.plan_grammar.specs.declared.kind.Kind.TheVariants as kind
use Rattle.plan_grammar.specs.declared.tables.Part.{Part}
use Rattle.plan_grammar.specs.declared.words.FormWord.{FormWord}
use Rattle.plan_grammar.specs.declared.words.FormWord.TheVariants as form
use Rattle.plan_grammar.specs.declared.words.OpWord.{OpWord}
use Rattle.plan_grammar.specs.declared.words.OpWord.TheVariants as op
use Rattle.plan_grammar.specs.declared.words.OutputWord.{OutputWord}
use Rattle.plan_grammar.specs.declared.words.OutputWord.TheVariants as output
use Rattle.plan_grammar.specs.declared.words.StepWord.{StepWord}
use Rattle.plan_grammar.specs.declared.words.StepWord.TheVariants as word
use Rattle.plan_grammar.specs.Grammar.{call_parts, element_of, has_entries, has_steps, join_parts, depth_of, output_parts, parts_of, parts_of_form, parts_of_node}
use Rattle.plan_grammar.specs.Json.{entries_in, entries_of, has_entry, under}
use Rattle.plan_grammar.specs.Spots.{Spot, item_spots, member_spots, spot, spots}
use Rattle.plan_grammar.specs.Words.{form_of, is_count_all, op_of, output_of, step_of}
use Rattle.plan_checks.specs.Halves.{is_step_kind}
use Rattle.plan_checks.specs.Limits.{is_node_kind}
use Rattle.plan_link_laws.proofs.InputLemmas.{parts_are, step_parts}
use Rattle.plan_spreads.proofs.EachLemmas.{Each, all_pass, each_again, each_join, each_left, each_right}

-- where a path leads
abbrev pub step_value : Step → Data → Option Data
step_value (step.Key k) d = under k d
step_value (step.Index i) d = slice_get (entries_in d) i

abbrev pub value_at : List Step → Data → Option Data
value_at [] d = Some d
value_at (s ∷ path) d = option_and_then (value_at path) (step_value s d)

one_further : (path : List Step) (s : Step) (d e : Data) → ((from : Data) → value_at path from ≡ Some d → value_at (path ++ s ∷ []) from ≡ Some e)
    → (o : Option Data) → option_and_then (value_at path) o ≡ Some d → option_and_then (value_at (path ++ s ∷ [])) o ≡ Some e
one_further path s d e rest None at = absurd cc
one_further path s d e rest (Some from) at = rest from at

pub value_further : (path : List Step) (s : Step) (d e from : Data) → value_at path from ≡ Some d → step_value s d ≡ Some e → value_at (path ++ s ∷ []) from ≡ Some e
value_further [] s d e from at is =
    let same : d ≡ from = cc at in
    ap (option_and_then (value_at [])) (subst (λ x. step_value s x ≡ Some e) same is)
value_further (t ∷ path) s d e from at is = one_further path s d e (λ x h. value_further path s d e x h is) (step_value t from) at

-- of all objects of the grammar nodes alone have a step, under that key
abbrev is_step_key : Key → Bool
is_step_key key.Step = true
is_step_key k = false

abbrev fits_step : Kind → Part → Bool
fits_step k part = not (is_step_kind part.kind) || (is_step_key part.key && is_node_kind k)

output_fits : (w : OutputWord) → list_all (fits_step kind.Output) (output_parts w) ≡ true
output_fits output.Hash = refl
output_fits w = refl

join_fits : (b : Bool) → list_all (fits_step kind.Node) (join_parts b) ≡ true
join_fits true = refl
join_fits false = refl

step_fits : (w : OpWord) (s : StepWord) → list_all (fits_step kind.Node) (step_parts w s) ≡ true
step_fits op.Aggregate word.Single = refl
step_fits w word.Single = refl
step_fits w word.Partial = refl
step_fits w s = refl

node_fits : (b : Bool) (w : OpWord) (d : Data) → has_steps w ≡ b → list_all (fits_step kind.Node) (parts_of_node w d) ≡ true
node_fits true w d h = ap (list_all (fits_step kind.Node)) (parts_are w d h) ∙ step_fits w (step_of d)
node_fits false op.Join d h = join_fits (has_entry key.Filters d)
node_fits false w d h = cc

form_fits : (k : Kind) (w : FormWord) → list_all (fits_step k) (parts_of_form w) ≡ true
form_fits k form.Col = refl
form_fits k form.Lit = refl
form_fits k form.Null = refl
form_fits k form.Call = refl
form_fits k form.Cast = refl
form_fits k form.Case = refl

call_fits : (b : Bool) → list_all (fits_step kind.AggregateCall) (call_parts b) ≡ true
call_fits true = refl
call_fits false = refl

tables_fit : (k : Kind) (d : Data) → list_all (fits_step k) (parts_of k d) ≡ true
tables_fit kind.Output d = output_fits (output_of d)
tables_fit kind.Node d = node_fits (has_steps (op_of d)) (op_of d) d refl
tables_fit kind.Expression d = form_fits kind.Expression (form_of d)
tables_fit kind.Form d = form_fits kind.Form (form_of d)
tables_fit kind.AggregateCall d = call_fits (is_count_all d)
tables_fit k d = refl

key_is : (k : Key) → is_step_key k ≡ true → k ≡ key.Step
key_is key.Step is = refl
key_is k is = absurd cc

node_is : (k : Kind) → is_node_kind k ≡ true → k ≡ kind.Node
node_is kind.Node is = refl
node_is k is = absurd cc

then_both : (a b c : Bool) → not a || (b && c) ≡ true → a ≡ true → (b ≡ true) × (c ≡ true)
then_both true true true fits is = (refl, refl)
then_both true true false fits is = absurd cc
then_both true false c fits is = absurd cc
then_both false b c fits is = absurd cc

no_step_by : (b : Bool) → is_step_kind (if b then kind.FirstFragment else kind.Fragment) ≡ false
no_step_by true = refl
no_step_by false = refl

-- no entry of a list is a step
no_step : (k : Kind) (i : ℕ) → has_entries k ≡ true → is_step_kind (element_of k i) ≡ false
no_step kind.Fragments i is = no_step_by (i == 0)
no_step kind.Step i is = absurd cc
no_step k i is = refl

module _ (P : Spot → Type 0) (document : Data) where
  -- a node that has a step at a path, and P holds from that node on
  pub record StepAt (path : List Step) (owner value : Data) : Type 0 where
    pub before : List Step
    pub above : Data
    pub level : ℕ
    pub is : path ≡ before ++ step.Key key.Step ∷ []
    pub word : under key.Step owner ≡ Some value
    pub node : Each P (spots owner before above kind.Node level)

  -- what is known of each place
  pub record Known (s : Spot) : Type 0 where
    pub value : value_at s.path document ≡ Some s.value
    pub step : is_step_kind s.kind ≡ true → StepAt s.path s.owner s.value

  pub record Stands (d : Data) (path : List Step) (owner : Data) (k : Kind) : Type 0 where
    pub value : value_at path document ≡ Some d
    pub step : is_step_kind k ≡ true → StepAt path owner d

  known : (d : Data) (path : List Step) (owner : Data) (k : Kind) (level : ℕ) → Stands d path owner k → Known (spot d path owner k level)
  known d path owner k level s = record { value = s.value; step = s.step }

  -- a member of an object
  stands_under : (d : Data) (path : List Step) (owner : Data) (k : Kind) (level : ℕ) → value_at path document ≡ Some d → Each P (spots d path owner k level)
      → (part : Part) → fits_step k part ≡ true → (e : Data) → under part.key d ≡ Some e → Stands e (path ++ step.Key part.key ∷ []) d part.kind
  stands_under d path owner k level at each part fits e is = record {
    value = value_further path (step.Key part.key) d e document at is;
    step = λ h.
        let both = then_both (is_step_kind part.kind) (is_step_key part.key) (is_node_kind k) fits h in
        let named = key_is part.key both.0 in record {
          before = path;
          above = owner;
          level = level;
          is = ap (λ (x : Key). path ++ step.Key x ∷ []) named;
          word = subst (λ (x : Key). under x d ≡ Some e) named is;
          node = subst (λ (x : Kind). Each P (spots d path owner x level)) (node_is k both.1) each;
        };
  }

  by_list : (b : Bool) (items : List Spot) → Each P (if b then items else []) → (b ≡ true → Each P items → Each Known items) → Each Known (if b then items else [])
  by_list true items each rest = rest refl each
  by_list false items each rest = tt

  by_name : (o : Ordering) (mine others : List Spot) (S : Data → Type 0) (d : Data) (more : Option Data) → ((e : Data) → match_ordering o more (Some d) more ≡ Some e → S e)
      → Each P (match_ordering o others mine others) → (S d → Each P mine → Each Known mine) → (((e : Data) → more ≡ Some e → S e) → Each P others → Each Known others)
      → Each Known (match_ordering o others mine others)
  by_name Less mine others S d more stands each here later = later stands each
  by_name Equal mine others S d more stands each here later = here (stands d refl) each
  by_name Greater mine others S d more stands each here later = later stands each

  mutual
    pub all_known : (d : Data) (path : List Step) (owner : Data) (k : Kind) (level : ℕ) → Stands d path owner k → Each P (spots d path owner k level)
        → Each Known (spots d path owner k level)
    all_known null path owner k level s each = (known null path owner k level s, tt)
    all_known (boolean b) path owner k level s each = (known (boolean b) path owner k level s, tt)
    all_known (number n) path owner k level s each = (known (number n) path owner k level s, tt)
    all_known (string t) path owner k level s each = (known (string t) path owner k level s, tt)
    all_known (array ds) path owner k level s each = (
      known (array ds) path owner k level s,
      by_list (has_entries k) (item_spots ds path owner k level 0) each.1
          (λ listed items. items_known ds path owner k level 0 listed
          (λ j e is. let at : j ≡ 0 + j = omega arith in
          subst (λ (n : ℕ). value_at (path ++ step.Index n ∷ []) document ≡ Some e) at (value_further path (step.Index j) (array ds) e document s.value is)) items),
    )
    all_known (object ms) path owner k level s each = (
      known (object ms) path owner k level s,
      each_again P Known (λ part. member_spots ms (key_text part.key) (path ++ step.Key part.key ∷ []) (object ms) part.kind (depth_of part.kind level)) (parts_of k (object ms)) each.1
          (λ i part at inner. members_known ms (key_text part.key) (path ++ step.Key part.key ∷ []) (object ms) part.kind (depth_of part.kind level)
          (λ e is. stands_under (object ms) path owner k level s.value each part (all_pass (fits_step k) (parts_of k (object ms)) i part (tables_fit k (object ms)) at) e is) inner),
    )

    items_known : (ds : Items) (path : List Step) (owner : Data) (k : Kind) (level i : ℕ) → has_entries k ≡ true
        → ((j : ℕ) (e : Data) → slice_get (entries_of ds) j ≡ Some e → value_at (path ++ step.Index (i + j) ∷ []) document ≡ Some e)
        → Each P (item_spots ds path owner k level i) → Each Known (item_spots ds path owner k level i)
    items_known no_items path owner k level i listed at each = tt
    items_known (item d ds) path owner k level i listed at each =
        let here = spots d (path ++ step.Index i ∷ []) owner (element_of k i) (depth_of (element_of k i) level) in
        let rest = item_spots ds path owner k level (i + 1) in
        let first : i + 0 ≡ i = omega arith in
        let none = no_step k i listed in
        each_join Known here rest
        (all_known d (path ++ step.Index i ∷ []) owner (element_of k i) (depth_of (element_of k i) level)
        (record {
          value = subst (λ (n : ℕ). value_at (path ++ step.Index n ∷ []) document ≡ Some d) first (at 0 d refl);
          step = λ h. absurd cc;
        }) (each_left P here rest each))
        (items_known ds path owner k level (i + 1) listed
        (λ j e is. let next : i + suc j ≡ i + 1 + j = omega arith in
        subst (λ (n : ℕ). value_at (path ++ step.Index n ∷ []) document ≡ Some e) next (at (suc j) e is)) (each_right P here rest each))

    members_known : (ms : Members) (name : List ℕ) (path : List Step) (owner : Data) (k : Kind) (level : ℕ)
        → ((e : Data) → get_member name ms ≡ Some e → Stands e path owner k) → Each P (member_spots ms name path owner k level)
        → Each Known (member_spots ms name path owner k level)
    members_known no_members name path owner k level stands each = tt
    members_known (member l d ms) name path owner k level stands each =
        by_name (slice_cmp nat_cmp name l) (spots d path owner k level) (member_spots ms name path owner k level) (λ e. Stands e path owner k) d (get_member name ms) stands each
        (λ s inner. all_known d path owner k level s inner)
        (λ s inner. members_known ms name path owner k level s inner)
