-- What holds of each place from one on holds of the places inside it.
use Rattle.std.proofs.Common.{◌≡◌, ℕ, ◌+◌, zero, suc, List, [], ◌∷◌, ◌++◌, Bool, true, Option, Some, None, refl, subst, arith}
use Rattle.std.specs.Prelude.{slice_get, option_map, unwrap_or, if◌then◌else◌}
use Rattle.std.specs.List.{flat_map}
use Rattle.serde_json.specs.Data.{Data, null, boolean, number, string, array, object, Items, no_items, item}
use Rattle.serde_json.specs.Find.{as_array, get}
use Rattle.json_paths.specs.declared.key.Key.{Key}
use Rattle.json_paths.specs.declared.step.Step.{Step}
use Rattle.json_paths.specs.declared.step.Step.TheVariants as step
use Rattle.json_paths.specs.Places.{key_text}
use Rattle.plan_grammar.specs.declared.kind.Kind.{Kind}
use Rattle.plan_grammar.specs.declared.tables.Part.{Part}
use Rattle.plan_grammar.specs.Grammar.{element_of, has_entries, depth_of, parts_of}
use Rattle.plan_grammar.specs.Json.{entries_of, under}
use Rattle.plan_grammar.specs.Spots.{Spot, inner_of, inner_spots, item_spots, part_spots, spot, spots}
use Rattle.plan_grammar.specs.Tables.{part}
use Rattle.plan_grammar.proofs.WalkLemmas.{spots_are}
use Rattle.plan_spreads.proofs.EachLemmas.{Each, each_left, each_part, each_right}

-- an object is no list
pub no_array : (name : List ℕ) (d e : Data) → get name d ≡ Some e → as_array d ≡ None
no_array name null e is = absurd cc
no_array name (boolean b) e is = absurd cc
no_array name (number n) e is = absurd cc
no_array name (string s) e is = absurd cc
no_array name (array ds) e is = absurd cc
no_array name (object ms) e is = refl

module _ (P : Spot → Type 0) where
  -- from a place on
  abbrev pub From : Data → List Step → Data → Kind → ℕ → Type 0
  From d path owner kind level = Each P (spots d path owner kind level)

  walked : (d : Data) (path : List Step) (owner : Data) (kind : Kind) (level : ℕ) → From d path owner kind level
      → Each P (spot d path owner kind level ∷ inner_spots (spot d path owner kind level))
  walked d path owner kind level each = subst (Each P) (spots_are d path owner kind level) each

  pub place_here : (d : Data) (path : List Step) (owner : Data) (kind : Kind) (level : ℕ) → From d path owner kind level → P (spot d path owner kind level)
  place_here d path owner kind level each = (walked d path owner kind level each).0

  inside : (d : Data) (path : List Step) (owner : Data) (kind : Kind) (level : ℕ) → From d path owner kind level
      → Each P (inner_of (as_array d) (spot d path owner kind level))
  inside d path owner kind level each = (walked d path owner kind level each).1

  -- what stands under a key
  pub place_under : (d : Data) (path : List Step) (owner : Data) (kind : Kind) (level : ℕ) (parts : List Part) (i : ℕ) (k : Key) (inner : Kind) (e : Data)
      → From d path owner kind level → parts_of kind d ≡ parts → slice_get parts i ≡ Some (part k inner) → under k d ≡ Some e
      → From e (path ++ step.Key k ∷ []) d inner (depth_of inner level)
  place_under d path owner kind level parts i k inner e each own at is =
      let here = spot d path owner kind level in
      let object = subst (λ (o : Option Items). Each P (inner_of o here)) (no_array (key_text k) d e is) (inside d path owner kind level each) in
      let listed = subst (λ (ps : List Part). Each P (flat_map (part_spots here) ps)) own object in
      let one = each_part P (part_spots here) parts i (part k inner) at listed in
      subst (λ (o : Option Data). Each P (unwrap_or (option_map (λ x. spots x (path ++ step.Key k ∷ []) d inner (depth_of inner level)) o) [])) is one

  from_items : (ds : Items) (path : List Step) (owner : Data) (kind : Kind) (level i j n : ℕ) (e : Data)
      → Each P (item_spots ds path owner kind level i) → slice_get (entries_of ds) j ≡ Some e → n ≡ i + j
      → From e (path ++ step.Index n ∷ []) owner (element_of kind n) (depth_of (element_of kind n) level)
  from_items no_items path owner kind level i j n e each is at = absurd cc
  from_items (item d ds) path owner kind level i zero n e each is at =
      let same : d ≡ e = cc is in
      let first : i ≡ n = omega (arith, at) in
      let here = each_left P (spots d (path ++ step.Index i ∷ []) owner (element_of kind i) (depth_of (element_of kind i) level)) (item_spots ds path owner kind level (i + 1)) each in
      subst (λ (m : ℕ). From e (path ++ step.Index m ∷ []) owner (element_of kind m) (depth_of (element_of kind m) level)) first
      (subst (λ (x : Data). From x (path ++ step.Index i ∷ []) owner (element_of kind i) (depth_of (element_of kind i) level)) same here)
  from_items (item d ds) path owner kind level i (suc j) n e each is at =
      let later : n ≡ (i + 1) + j = omega (arith, at) in
      from_items ds path owner kind level (i + 1) j n e
      (each_right P (spots d (path ++ step.Index i ∷ []) owner (element_of kind i) (depth_of (element_of kind i) level)) (item_spots ds path owner kind level (i + 1)) each) is later

  -- an entry of a list
  pub place_entry : (d : Data) (path : List Step) (owner : Data) (kind : Kind) (level : ℕ) (ds : Items) (j : ℕ) (e : Data)
      → From d path owner kind level → as_array d ≡ Some ds → has_entries kind ≡ true → slice_get (entries_of ds) j ≡ Some e
      → From e (path ++ step.Index j ∷ []) owner (element_of kind j) (depth_of (element_of kind j) level)
  place_entry d path owner kind level ds j e each is listed at =
      let here = spot d path owner kind level in
      let list = subst (λ (o : Option Items). Each P (inner_of o here)) is (inside d path owner kind level each) in
      let all = subst (λ (b : Bool). Each P (if b then item_spots ds path owner kind level 0 else [])) listed list in
      let first : j ≡ 0 + j = omega arith in
      from_items ds path owner kind level 0 j j e all at first
