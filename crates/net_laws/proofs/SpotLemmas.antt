-- How many places of a document pass a test, as that they are the id of this node, or of this filter: none is given twice where
-- no name is wrong, and what stands under a key of an object has no more than the object.
use Rattle.std.proofs.Common.{◌≡◌, ℕ, ◌+◌, ◌≤◌, zero, suc, List, [], ◌∷◌, ◌++◌, Bool, true, false, Option, Some, None, option_map, unwrap_or, refl, ap, ◌∙◌, subst, arith}
use Rattle.std.specs.Prelude.{slice_get, ◌&&◌, ◌||◌, ◌==◌}
use Rattle.std.specs.List.{flat_map, list_any}
use Rattle.std.proofs.lemmas.Bool.{eqb-true}
use Rattle.std.proofs.lemmas.List.Folds.{list_any-append}
use Rattle.serde_json.specs.Data.{Data, Items}
use Rattle.json_paths.specs.declared.key.Key.{Key}
use Rattle.json_paths.specs.declared.step.Step.{Step}
use Rattle.json_paths.specs.declared.step.Step.TheVariants as step
use Rattle.json_paths.specs.Places.{key_text}
use Rattle.plan_grammar.specs.declared.kind.Kind.{Kind}
use Rattle.plan_grammar.specs.declared.kind.Kind.TheVariants as kind
use Rattle.plan_grammar.specs.declared.tables.Part.{Part}
use Rattle.plan_grammar.specs.Grammar.{depth_of, parts_of}
use Rattle.plan_grammar.specs.Json.{number_of, under}
use Rattle.plan_grammar.specs.Spots.{Spot, inner_of, part_spots, spot, spots}
use Rattle.plan_grammar.specs.Tables.{part}
use Rattle.plan_grammar.proofs.WalkLemmas.{spots_are}
use Rattle.plan_checks.specs.Names.{first_misnamed, is_filter_id, is_misnamed, is_node_id, misnames, numbers_filter, numbers_node}
use Rattle.plan_spreads.proofs.EachLemmas.{first_false, rest_none}
use Rattle.plan_link_laws.proofs.CountLemmas.{one_if}
use Rattle.plan_link_laws.proofs.WalkLemmas.{no_array}

or_first : (a b : Bool) → a ≡ true → a || b ≡ true
or_first true b h = refl
or_first false b h = absurd cc

or_second : (a b : Bool) → b ≡ true → a || b ≡ true
or_second true b h = refl
or_second false b h = h

one_false : (b : Bool) → (b ≡ true → ⊥) → one_if b ≡ 0
one_false true h = absurd (h refl)
one_false false h = refl

-- where no name is wrong, a place that passes is the first one that does
abbrev pub Fresh : (Spot → Bool) → Type 0
Fresh test = (document : Data) (before : List Spot) (s : Spot) → is_misnamed document before s ≡ false → test s ≡ true → list_any test before ≡ false

module _ (n : ℕ) where
  -- an id that is not wrong is new
  node_is_new : (k : Kind) (document : Data) (before : List Spot) (path : List Step) (owner value : Data) → misnames k document before path owner value ≡ false
      → is_node_id k && (number_of value == n) ≡ true → list_any (numbers_node n) before ≡ false
  node_is_new kind.NodeId document before path owner value h is =
      subst (λ (m : ℕ). list_any (numbers_node m) before ≡ false) (eqb-true (number_of value) n is) h
  node_is_new k document before path owner value h is = absurd cc

  filter_is_new : (k : Kind) (document : Data) (before : List Spot) (path : List Step) (owner value : Data) → misnames k document before path owner value ≡ false
      → is_filter_id k && (number_of value == n) ≡ true → list_any (numbers_filter n) before ≡ false
  filter_is_new kind.FilterId document before path owner value h is =
      subst (λ (m : ℕ). list_any (numbers_filter m) before ≡ false) (eqb-true (number_of value) n is) h
  filter_is_new k document before path owner value h is = absurd cc

  pub fresh_nodes : Fresh (numbers_node n)
  fresh_nodes document before s h is = node_is_new s.kind document before s.path s.owner s.value h is

  pub fresh_filters : Fresh (numbers_filter n)
  fresh_filters document before s h is = filter_is_new s.kind document before s.path s.owner s.value h is

module _ (test : Spot → Bool) where
  abbrev pub ids_of : List Spot → ℕ
  ids_of [] = 0
  ids_of (s ∷ all) = one_if (test s) + ids_of all

  pub ids_join : (xs ys : List Spot) → ids_of (xs ++ ys) ≡ ids_of xs + ids_of ys
  ids_join [] ys = omega arith
  ids_join (x ∷ xs) ys = omega (arith, ids_join xs ys)

  module _ (fresh : Fresh test) (document : Data) where
    here_named : (before : List Spot) (s : Spot) (rest : List Spot) → first_misnamed document before (s ∷ rest) ≡ None → is_misnamed document before s ≡ false
    here_named before s rest e = first_false (is_misnamed document before s) s (first_misnamed document (before ++ s ∷ []) rest) e

    later_named : (before : List Spot) (s : Spot) (rest : List Spot) → first_misnamed document before (s ∷ rest) ≡ None → first_misnamed document (before ++ s ∷ []) rest ≡ None
    later_named before s rest e = rest_none (is_misnamed document before s) s (first_misnamed document (before ++ s ∷ []) rest) e

    still_given : (before : List Spot) (s : Spot) → list_any test before ≡ true → list_any test (before ++ s ∷ []) ≡ true
    still_given before s h =
        list_any-append test before (s ∷ []) ∙ or_first (list_any test before) (list_any test (s ∷ [])) h

    now_given : (before : List Spot) (s : Spot) → test s ≡ true → list_any test (before ++ s ∷ []) ≡ true
    now_given before s h =
        list_any-append test before (s ∷ [])
        ∙ or_second (list_any test before) (list_any test (s ∷ [])) (or_first (test s) false h)

    none_again : (before all : List Spot) → first_misnamed document before all ≡ None → list_any test before ≡ true → ids_of all ≡ 0
    none_again before [] e was = refl
    none_again before (s ∷ rest) e was =
        let again : test s ≡ true → ⊥ = λ is. let new = fresh document before s (here_named before s rest e) is in absurd cc in
        let here = one_false (test s) again in
        let later = none_again (before ++ s ∷ []) rest (later_named before s rest e) (still_given before s was) in
        omega (arith, here, later)

    pub given_once : (before all : List Spot) → first_misnamed document before all ≡ None → ids_of all ≤ 1
    given_once before [] e = omega arith
    given_once before (s ∷ rest) e =
        by (test s) refl (λ is. none_again (before ++ s ∷ []) rest (later_named before s rest e) (now_given before s is))
        (given_once (before ++ s ∷ []) rest (later_named before s rest e))
      where
        by : (b : Bool) → test s ≡ b → (test s ≡ true → ids_of rest ≡ 0) → ids_of rest ≤ 1 → ids_of (s ∷ rest) ≤ 1
        by true is none later = let here = ap one_if is in let rest_none = none is in omega (arith, here, rest_none)
        by false is none later = let here = ap one_if is in omega (arith, here, later)

  one_part : (f : Part → List Spot) (parts : List Part) (i : ℕ) (p : Part) → slice_get parts i ≡ Some p → ids_of (f p) ≤ ids_of (flat_map f parts)
  one_part f [] i p at = absurd cc
  one_part f (q ∷ parts) zero p at =
      let same : q ≡ p = cc at in
      let this = ap (λ (x : Part). ids_of (f x)) same in
      omega (arith, this, ids_join (f q) (flat_map f parts))
  one_part f (q ∷ parts) (suc i) p at = omega (arith, one_part f parts i p at, ids_join (f q) (flat_map f parts))

  two_parts : (f : Part → List Spot) (parts : List Part) (i : ℕ) (p q : Part) → slice_get parts i ≡ Some p → slice_get parts (suc i) ≡ Some q
      → ids_of (f p) + ids_of (f q) ≤ ids_of (flat_map f parts)
  two_parts f [] i p q at next = absurd cc
  two_parts f (r ∷ parts) zero p q at next =
      let same : r ≡ p = cc at in
      let this = ap (λ (x : Part). ids_of (f x)) same in
      omega (arith, this, one_part f parts 0 q next, ids_join (f r) (flat_map f parts))
  two_parts f (r ∷ parts) (suc i) p q at next = omega (arith, two_parts f parts i p q at next, ids_join (f r) (flat_map f parts))

  row_parts : (f : Part → List Spot) (parts : List Part) (i : ℕ) (p q r : Part) → slice_get parts i ≡ Some p → slice_get parts (suc i) ≡ Some q
      → slice_get parts (suc (suc i)) ≡ Some r → ids_of (f p) + ids_of (f q) + ids_of (f r) ≤ ids_of (flat_map f parts)
  row_parts f [] i p q r at next last = absurd cc
  row_parts f (x ∷ parts) zero p q r at next last =
      let same : x ≡ p = cc at in
      let this = ap (λ (y : Part). ids_of (f y)) same in
      omega (arith, this, two_parts f parts 0 q r next last, ids_join (f x) (flat_map f parts))
  row_parts f (x ∷ parts) (suc i) p q r at next last = omega (arith, row_parts f parts i p q r at next last, ids_join (f x) (flat_map f parts))

  three_parts : (f : Part → List Spot) (parts : List Part) (i : ℕ) (p q r : Part) → slice_get parts 0 ≡ Some p → slice_get parts (suc i) ≡ Some q
      → slice_get parts (suc (suc i)) ≡ Some r → ids_of (f p) + ids_of (f q) + ids_of (f r) ≤ ids_of (flat_map f parts)
  three_parts f [] i p q r first at next = absurd cc
  three_parts f (x ∷ parts) i p q r first at next =
      let same : x ≡ p = cc first in
      let this = ap (λ (y : Part). ids_of (f y)) same in
      omega (arith, this, two_parts f parts i q r at next, ids_join (f x) (flat_map f parts))

  module _ (d : Data) (path : List Step) (owner : Data) (k : Kind) (level : ℕ) (parts : List Part) (parts_are : parts_of k d ≡ parts) where
    -- the places under a key, where something stands
    abbrev pub inner_ids : Key → Kind → Data → ℕ
    inner_ids name inner e = ids_of (spots e (path ++ step.Key name ∷ []) d inner (depth_of inner level))

    under_part : (name : Key) (inner : Kind) (e : Data) → under name d ≡ Some e → ids_of (part_spots (spot d path owner k level) (part name inner)) ≡ inner_ids name inner e
    under_part name inner e is = ap (λ (o : Option Data). ids_of (unwrap_or (option_map (λ x. spots x (path ++ step.Key name ∷ []) d inner (depth_of inner level)) o) [])) is

    by_parts : (name : Key) (e : Data) → under name d ≡ Some e → ids_of (flat_map (part_spots (spot d path owner k level)) parts) ≤ ids_of (spots d path owner k level)
    by_parts name e is =
        let here = spot d path owner k level in
        let are = ap ids_of (spots_are d path owner k level) in
        let listed = ap (λ (o : Option Items). ids_of (inner_of o here)) (no_array (key_text name) d e is) in
        let own = ap (λ (ps : List Part). ids_of (flat_map (part_spots here) ps)) parts_are in
        omega (arith, are, listed, own)

    pub under_one : (i : ℕ) (name : Key) (inner : Kind) (e : Data) → slice_get parts i ≡ Some (part name inner) → under name d ≡ Some e
        → inner_ids name inner e ≤ ids_of (spots d path owner k level)
    under_one i name inner e at is =
        omega (arith, under_part name inner e is, one_part (part_spots (spot d path owner k level)) parts i (part name inner) at, by_parts name e is)

    pub under_two : (i : ℕ) (name next : Key) (inner : Kind) (e f : Data) → slice_get parts i ≡ Some (part name inner) → slice_get parts (suc i) ≡ Some (part next inner)
        → under name d ≡ Some e → under next d ≡ Some f → inner_ids name inner e + inner_ids next inner f ≤ ids_of (spots d path owner k level)
    under_two i name next inner e f at then_at is and_is =
        omega (
          arith,
          under_part name inner e is,
          under_part next inner f and_is,
          two_parts (part_spots (spot d path owner k level)) parts i (part name inner) (part next inner) at then_at,
          by_parts name e is,
        )

    pub under_row : (i : ℕ) (name next last : Key) (own inner final : Kind) (g e f : Data) → slice_get parts i ≡ Some (part name own) → slice_get parts (suc i) ≡ Some (part next inner)
        → slice_get parts (suc (suc i)) ≡ Some (part last final) → under name d ≡ Some g → under next d ≡ Some e → under last d ≡ Some f
        → inner_ids name own g + inner_ids next inner e + inner_ids last final f ≤ ids_of (spots d path owner k level)
    under_row i name next last own inner final g e f at then_at last_at is and_is last_is =
        omega (
          arith,
          under_part name own g is,
          under_part next inner e and_is,
          under_part last final f last_is,
          row_parts (part_spots (spot d path owner k level)) parts i (part name own) (part next inner) (part last final) at then_at last_at,
          by_parts name g is,
        )

    pub under_three : (i : ℕ) (first name next : Key) (own inner : Kind) (g e f : Data) → slice_get parts 0 ≡ Some (part first own)
        → slice_get parts (suc i) ≡ Some (part name inner) → slice_get parts (suc (suc i)) ≡ Some (part next inner) → under first d ≡ Some g → under name d ≡ Some e
        → under next d ≡ Some f → inner_ids first own g + inner_ids name inner e + inner_ids next inner f ≤ ids_of (spots d path owner k level)
    under_three i first name next own inner g e f first_at at then_at first_is is and_is =
        omega (
          arith,
          under_part first own g first_is,
          under_part name inner e is,
          under_part next inner f and_is,
          three_parts (part_spots (spot d path owner k level)) parts i (part first own) (part name inner) (part next inner) first_at at then_at,
          by_parts name e is,
        )
