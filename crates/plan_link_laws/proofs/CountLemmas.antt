-- How many sources of a document read a fragment: at most one where no source is amiss, and some where none is missing.
-- They stand in nodes alone.
use Rattle.std.proofs.Common.{◌≡◌, ℕ, ◌+◌, List, [], ◌∷◌, ◌++◌, Bool, true, false, Ordering, Less, Equal, Greater, refl, ap, arith}
use Rattle.std.specs.Prelude.{◌&&◌, ◌==◌, if◌then◌else◌}
use Rattle.std.specs.Ordering.{nat_cmp, match_ordering}
use Rattle.std.specs.Cmp.Lexicographic.{slice_cmp}
use Rattle.std.specs.List.{flat_map, list_all}
use Rattle.serde_json.specs.Data.{Data, null, boolean, number, string, array, object, Items, no_items, item, Members, no_members, member}
use Rattle.json_paths.specs.declared.step.Step.{Step}
use Rattle.json_paths.specs.declared.step.Step.TheVariants as step
use Rattle.json_paths.specs.Places.{key_text}
use Rattle.plan_grammar.specs.declared.kind.Kind.{Kind}
use Rattle.plan_grammar.specs.declared.kind.Kind.TheVariants as kind
use Rattle.plan_grammar.specs.declared.tables.Part.{Part}
use Rattle.plan_grammar.specs.declared.words.FormWord.{FormWord}
use Rattle.plan_grammar.specs.declared.words.FormWord.TheVariants as form
use Rattle.plan_grammar.specs.declared.words.OutputWord.{OutputWord}
use Rattle.plan_grammar.specs.declared.words.OutputWord.TheVariants as output
use Rattle.plan_grammar.specs.Grammar.{call_parts, element_of, has_entries, depth_of, output_parts, parts_of, parts_of_form}
use Rattle.plan_grammar.specs.Json.{number_of}
use Rattle.plan_grammar.specs.Spots.{Spot, item_spots, member_spots, spot, spots}
use Rattle.plan_grammar.specs.Words.{form_of, is_count_all, output_of}
use Rattle.plan_checks.specs.Fragments.{is_source_kind, reads}
use Rattle.plan_spreads.proofs.EachLemmas.{first_true, second_true}

-- nothing below a value of such a kind is a source
abbrev pub is_plain : Kind → Bool
is_plain kind.Document = false
is_plain kind.Fragments = false
is_plain kind.FirstFragment = false
is_plain kind.Fragment = false
is_plain kind.Node = false
is_plain kind.FragmentNumber = false
is_plain k = true

no_source : (k : Kind) → is_plain k ≡ true → is_source_kind k ≡ false
no_source kind.FragmentNumber h = absurd cc
no_source k h = refl

abbrev pub plain_part : Part → Bool
plain_part part = is_plain part.kind

plain_output : (w : OutputWord) → list_all plain_part (output_parts w) ≡ true
plain_output output.Hash = refl
plain_output w = refl

plain_form : (w : FormWord) → list_all plain_part (parts_of_form w) ≡ true
plain_form form.Col = refl
plain_form form.Lit = refl
plain_form form.Null = refl
plain_form form.Call = refl
plain_form form.Cast = refl
plain_form form.Case = refl

plain_call : (b : Bool) → list_all plain_part (call_parts b) ≡ true
plain_call true = refl
plain_call false = refl

plain_parts : (k : Kind) (d : Data) → is_plain k ≡ true → list_all plain_part (parts_of k d) ≡ true
plain_parts kind.Document d h = absurd cc
plain_parts kind.FirstFragment d h = absurd cc
plain_parts kind.Fragment d h = absurd cc
plain_parts kind.Node d h = absurd cc
plain_parts kind.Output d h = plain_output (output_of d)
plain_parts kind.Expression d h = plain_form (form_of d)
plain_parts kind.Form d h = plain_form (form_of d)
plain_parts kind.AggregateCall d h = plain_call (is_count_all d)
plain_parts k d h = refl

plain_element : (k : Kind) (i : ℕ) → is_plain k ≡ true → is_plain (element_of k i) ≡ true
plain_element kind.Fragments i h = absurd cc
plain_element kind.Document i h = absurd cc
plain_element kind.FirstFragment i h = absurd cc
plain_element kind.Fragment i h = absurd cc
plain_element kind.Node i h = absurd cc
plain_element kind.FragmentNumber i h = absurd cc
plain_element k i h = refl

abbrev pub one_if : Bool → ℕ
one_if true = 1
one_if false = 0

module _ (n : ℕ) where
  -- how many of the places are sources that read the fragment
  abbrev pub found_in : List Spot → ℕ
  found_in [] = 0
  found_in (s ∷ all) = one_if (reads n s) + found_in all

  pub found_append : (xs ys : List Spot) → found_in (xs ++ ys) ≡ found_in xs + found_in ys
  found_append [] ys = omega arith
  found_append (x ∷ xs) ys = omega (arith, found_append xs ys)

  not_here : (d : Data) (path : List Step) (owner : Data) (k : Kind) (level : ℕ) → is_plain k ≡ true → one_if (reads n (spot d path owner k level)) ≡ 0
  not_here d path owner k level h =
      let none : reads n (spot d path owner k level) ≡ false = ap (λ b. b && (number_of d == n)) (no_source k h) in
      ap one_if none

  pub found_none : (parts : List Part) (f : Part → List Spot) → list_all plain_part parts ≡ true → ((part : Part) → is_plain part.kind ≡ true → found_in (f part) ≡ 0)
      → found_in (flat_map f parts) ≡ 0
  found_none [] f all none = refl
  found_none (part ∷ parts) f all none =
      let here = none part (first_true (is_plain part.kind) (list_all plain_part parts) all) in
      let rest = found_none parts f (second_true (is_plain part.kind) (list_all plain_part parts) all) none in
      let both = found_append (f part) (flat_map f parts) in
      omega (arith, here, rest, both)

  none_if : (b : Bool) (all : List Spot) → found_in all ≡ 0 → found_in (if b then all else []) ≡ 0
  none_if true all h = h
  none_if false all h = refl

  none_named : (o : Ordering) (mine others : List Spot) → found_in mine ≡ 0 → found_in others ≡ 0 → found_in (match_ordering o others mine others) ≡ 0
  none_named Less mine others h g = g
  none_named Equal mine others h g = h
  none_named Greater mine others h g = g

  mutual
    pub none_below : (d : Data) (path : List Step) (owner : Data) (k : Kind) (level : ℕ) → is_plain k ≡ true → found_in (spots d path owner k level) ≡ 0
    none_below null path owner k level h = let here = not_here null path owner k level h in omega (arith, here)
    none_below (boolean b) path owner k level h = let here = not_here (boolean b) path owner k level h in omega (arith, here)
    none_below (number m) path owner k level h = let here = not_here (number m) path owner k level h in omega (arith, here)
    none_below (string t) path owner k level h = let here = not_here (string t) path owner k level h in omega (arith, here)
    none_below (array ds) path owner k level h =
        let here = not_here (array ds) path owner k level h in
        let rest = none_if (has_entries k) (item_spots ds path owner k level 0) (none_items ds path owner k level 0 h) in
        omega (arith, here, rest)
    none_below (object ms) path owner k level h =
        let here = not_here (object ms) path owner k level h in
        let rest = found_none (parts_of k (object ms))
        (λ part. member_spots ms (key_text part.key) (path ++ step.Key part.key ∷ []) (object ms) part.kind (depth_of part.kind level))
        (plain_parts k (object ms) h)
        (λ part plain. none_members ms (key_text part.key) (path ++ step.Key part.key ∷ []) (object ms) part.kind (depth_of part.kind level) plain) in
        omega (arith, here, rest)

    none_items : (ds : Items) (path : List Step) (owner : Data) (k : Kind) (level i : ℕ) → is_plain k ≡ true → found_in (item_spots ds path owner k level i) ≡ 0
    none_items no_items path owner k level i h = refl
    none_items (item d ds) path owner k level i h =
        let here = none_below d (path ++ step.Index i ∷ []) owner (element_of k i) (depth_of (element_of k i) level) (plain_element k i h) in
        let rest = none_items ds path owner k level (i + 1) h in
        let both = found_append (spots d (path ++ step.Index i ∷ []) owner (element_of k i) (depth_of (element_of k i) level)) (item_spots ds path owner k level (i + 1)) in
        omega (arith, here, rest, both)

    none_members : (ms : Members) (name : List ℕ) (path : List Step) (owner : Data) (k : Kind) (level : ℕ) → is_plain k ≡ true
        → found_in (member_spots ms name path owner k level) ≡ 0
    none_members no_members name path owner k level h = refl
    none_members (member l d ms) name path owner k level h =
        none_named (slice_cmp nat_cmp name l) (spots d path owner k level) (member_spots ms name path owner k level) (none_below d path owner k level h)
        (none_members ms name path owner k level h)
