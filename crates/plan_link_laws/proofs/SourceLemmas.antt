-- What the sources of a document read, where no id and no source is amiss: a fragment after their own, and no two the
-- same.
use Rattle.std.proofs.Common.{◌≡◌, ℕ, ◌≤◌, zero, suc, List, [], ◌∷◌, ◌++◌, Bool, true, false, Some, None, refl, ap, sym, ◌∙◌, subst, arith}
use Rattle.std.specs.Prelude.{slice_get, ◌&&◌, ◌||◌, ◌==◌, nat_le}
use Rattle.std.specs.List.{list_any}
use Rattle.std.proofs.lemmas.Bool.{eqb-true}
use Rattle.std.proofs.lemmas.List.Folds.{list_any-append}
use Rattle.serde_json.specs.Data.{Data}
use Rattle.json_paths.specs.declared.step.Step.{Step}
use Rattle.plan_grammar.specs.declared.kind.Kind.{Kind}
use Rattle.plan_grammar.specs.declared.kind.Kind.TheVariants as kind
use Rattle.plan_grammar.specs.Json.{number_of}
use Rattle.plan_grammar.specs.Spots.{Spot}
use Rattle.plan_checks.specs.Fragments.{first_mislinked, fragments_count, is_mislinked, is_source_kind, links_amiss, reads}
use Rattle.plan_checks.specs.Names.{part_index}
use Rattle.plan_link_laws.proofs.CountLemmas.{found_in, one_if}
use Rattle.plan_spreads.proofs.EachLemmas.{first_false, neither, nor_second, rest_none}

or_first : (a b : Bool) → a ≡ true → a || b ≡ true
or_first true b h = refl
or_first false b h = absurd cc

or_second : (a b : Bool) → b ≡ true → a || b ≡ true
or_second true b h = refl
or_second false b h = h

-- a source of its own fragment, of an earlier one, or of one that is not there
abbrev pub reads_back : ℕ → Kind → List Step → Data → Bool
reads_back fragments k path value = is_source_kind k && (nat_le (number_of value) (part_index path) || nat_le fragments (number_of value))

not_back : (k : Kind) (document : Data) (before : List Spot) (path : List Step) (value : Data) → links_amiss k document before path value ≡ false
    → reads_back (fragments_count document) k path value ≡ false
not_back kind.FragmentNumber document before path value h =
    neither (nat_le (number_of value) (part_index path) || nat_le (fragments_count document) (number_of value)) (list_any (reads (number_of value)) before) h
not_back k document before path value h = refl

not_read : (n : ℕ) (k : Kind) (document : Data) (before : List Spot) (path : List Step) (value : Data) → links_amiss k document before path value ≡ false
    → is_source_kind k && (number_of value == n) ≡ true → list_any (reads n) before ≡ false
not_read n kind.FragmentNumber document before path value h is =
    let same = eqb-true (number_of value) n is in
    subst (λ (m : ℕ). list_any (reads m) before ≡ false) same
    (nor_second (nat_le (number_of value) (part_index path) || nat_le (fragments_count document) (number_of value)) (list_any (reads (number_of value)) before) h)
not_read n k document before path value h is = absurd cc

module _ (document : Data) where
  here_linked : (before : List Spot) (s : Spot) (rest : List Spot) → first_mislinked document before (s ∷ rest) ≡ None → is_mislinked document before s ≡ false
  here_linked before s rest e = first_false (is_mislinked document before s) s (first_mislinked document (before ++ s ∷ []) rest) e

  later_linked : (before : List Spot) (s : Spot) (rest : List Spot) → first_mislinked document before (s ∷ rest) ≡ None → first_mislinked document (before ++ s ∷ []) rest ≡ None
  later_linked before s rest e = rest_none (is_mislinked document before s) s (first_mislinked document (before ++ s ∷ []) rest) e

  pub none_back : (before all : List Spot) (i : ℕ) (s : Spot) → first_mislinked document before all ≡ None → slice_get all i ≡ Some s
      → reads_back (fragments_count document) s.kind s.path s.value ≡ false
  none_back before [] i s e at = absurd cc
  none_back before (t ∷ rest) zero s e at =
      let same : t ≡ s = cc at in
      subst (λ (x : Spot). reads_back (fragments_count document) x.kind x.path x.value ≡ false) same
      (not_back t.kind document before t.path t.value (here_linked before t rest e))
  none_back before (t ∷ rest) (suc i) s e at = none_back (before ++ t ∷ []) rest i s (later_linked before t rest e) at

  module _ (n : ℕ) where
    still_read : (before : List Spot) (s : Spot) → list_any (reads n) before ≡ true → list_any (reads n) (before ++ s ∷ []) ≡ true
    still_read before s h = list_any-append (reads n) before (s ∷ []) ∙ or_first (list_any (reads n) before) (list_any (reads n) (s ∷ [])) h

    now_read : (before : List Spot) (s : Spot) → reads n s ≡ true → list_any (reads n) (before ++ s ∷ []) ≡ true
    now_read before s h =
        list_any-append (reads n) before (s ∷ []) ∙ or_second (list_any (reads n) before) (list_any (reads n) (s ∷ [])) (or_first (reads n s) false h)

    -- what was read before is not read again
    not_again : (before all : List Spot) (j : ℕ) (t : Spot) → first_mislinked document before all ≡ None → list_any (reads n) before ≡ true → slice_get all j ≡ Some t
        → reads n t ≡ true → ⊥
    not_again before [] j t e was at is = absurd cc
    not_again before (s ∷ rest) zero t e was at is =
        let same : s ≡ t = cc at in
        let here = subst (λ (x : Spot). reads n x ≡ true) (sym same) is in
        let free = not_read n s.kind document before s.path s.value (here_linked before s rest e) here in
        absurd cc
    not_again before (s ∷ rest) (suc j) t e was at is =
        not_again (before ++ s ∷ []) rest j t (later_linked before s rest e) (still_read before s was) at is

    pub read_by_one : (before all : List Spot) (i j : ℕ) (s t : Spot) → first_mislinked document before all ≡ None → slice_get all i ≡ Some s → slice_get all j ≡ Some t
        → reads n s ≡ true → reads n t ≡ true → s ≡ t
    read_by_one before [] i j s t e at there is so = absurd cc
    read_by_one before (x ∷ rest) zero zero s t e at there is so = cc (at, there)
    read_by_one before (x ∷ rest) zero (suc j) s t e at there is so =
        let same : x ≡ s = cc at in
        let here = subst (λ (y : Spot). reads n y ≡ true) (sym same) is in
        absurd (not_again (before ++ x ∷ []) rest j t (later_linked before x rest e) (now_read before x here) there so)
    read_by_one before (x ∷ rest) (suc i) zero s t e at there is so =
        let same : x ≡ t = cc there in
        let here = subst (λ (y : Spot). reads n y ≡ true) (sym same) so in
        absurd (not_again (before ++ x ∷ []) rest i s (later_linked before x rest e) (now_read before x here) at is)
    read_by_one before (x ∷ rest) (suc i) (suc j) s t e at there is so =
        read_by_one (before ++ x ∷ []) rest i j s t (later_linked before x rest e) at there is so

    one_false : (b : Bool) → (b ≡ true → ⊥) → one_if b ≡ 0
    one_false true h = absurd (h refl)
    one_false false h = refl

    none_again : (before all : List Spot) → first_mislinked document before all ≡ None → list_any (reads n) before ≡ true → found_in n all ≡ 0
    none_again before [] e was = refl
    none_again before (s ∷ rest) e was =
        let here = one_false (reads n s) (λ is. not_again before (s ∷ rest) 0 s e was refl is) in
        let later = none_again (before ++ s ∷ []) rest (later_linked before s rest e) (still_read before s was) in
        omega (arith, here, later)

    pub found_once : (before all : List Spot) → first_mislinked document before all ≡ None → found_in n all ≤ 1
    found_once before [] e = omega arith
    found_once before (s ∷ rest) e =
        by (reads n s) refl (λ is. none_again (before ++ s ∷ []) rest (later_linked before s rest e) (now_read before s is))
        (found_once (before ++ s ∷ []) rest (later_linked before s rest e))
      where
        by : (b : Bool) → reads n s ≡ b → (reads n s ≡ true → found_in n rest ≡ 0) → found_in n rest ≤ 1 → found_in n (s ∷ rest) ≤ 1
        by true is none later = let here = ap one_if is in let rest_none = none is in omega (arith, here, rest_none)
        by false is none later = let here = ap one_if is in omega (arith, here, later)

pub found_some : (n : ℕ) (all : List Spot) → list_any (reads n) all ≡ true → 1 ≤ found_in n all
found_some n [] h = absurd cc
found_some n (s ∷ rest) h = by (reads n s) refl h (found_some n rest)
  where
    by : (b : Bool) → reads n s ≡ b → b || list_any (reads n) rest ≡ true → (list_any (reads n) rest ≡ true → 1 ≤ found_in n rest) → 1 ≤ found_in n (s ∷ rest)
    by true is h rest_found = let here = ap one_if is in omega (arith, here)
    by false is h rest_found = let later = rest_found h in omega (arith, later)
