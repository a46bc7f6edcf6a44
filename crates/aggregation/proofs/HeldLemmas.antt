-- Groups that are held: one more row of a group, one more group, and what follows of them.
use Rattle.std.proofs.Common.{◌≡◌, ℕ, ◌<◌, zero, suc, List, [], ◌∷◌, ◌++◌, Bool, true, false, length, map, take, get_or, set, refl, ap, sym, ◌∙◌, arith}
use Rattle.std.specs.Prelude.{All, filter, if◌then◌else◌, not}
use Rattle.std.proofs.lemmas.Bool.{true≢false}
use Rattle.std.proofs.lemmas.List.{append_assoc, take_at}
use Rattle.std.proofs.lemmas.List.Elements.{All-cons, All-head, All-nil, All-tail, All-append}
use Rattle.sql_values.specs.declared.types.SqlType.{SqlType}
use Rattle.sql_values.specs.declared.value.Value.{Value}
use Rattle.sql_values.specs.declared.relational.Call.{Call}
use Rattle.relation_laws.specs.Equality.{same_row}
use Rattle.relation_laws.specs.Groups.{distinct, grouped_row}
use Rattle.relation_laws.specs.Partials.{merged, results_from}
use Rattle.relation_laws.proofs.EqualityLemmas.{same_row_decides}
use Rattle.bag_laws.specs.Pieces.{all_merged, behind_key, finals_of, front_keys}
use Rattle.aggregation.specs.Alike.{AreApart, TellAlike, merged_rows}
use Rattle.relation_laws.specs.Verdicts.{keeps}
use Rattle.aggregation.specs.Giving.{part_verdicts}
use Rattle.aggregation.specs.Held.{AreHeld, HasFirst, IsTold, group_verdicts, held_rows, of_each}
use Rattle.aggregation.proofs.AlikeLemmas.{alike-cons, alike-first, behind-append, behind-here, behind-other}

-- a partial row merged in at the place of its key
pub merged-at : (width : ℕ) (calls : List Call) (keys partials : List (List Value)) (place : ℕ) (q : List Value) → place < length keys → length partials ≡ length keys
    → All (λ key. length key ≡ width) keys
    → TellAlike width calls (held_rows keys (set partials place (merged calls (get_or partials place []) q))) (held_rows keys partials ++ (get_or keys place [] ++ q) ∷ [])
merged-at width calls [] partials place q lt level wide = absurd (omega (arith, lt))
merged-at width calls (key ∷ keys) [] place q lt level wide = absurd (omega (arith, level))
merged-at width calls (key ∷ keys) (p ∷ partials) zero q lt level wide = alike-first width calls key p q (held_rows keys partials) (All-head (λ key. length key ≡ width) key keys wide)
merged-at width calls (key ∷ keys) (p ∷ partials) (suc place) q lt level wide =
    alike-cons width calls (key ++ p)
    (merged-at width calls keys partials place q (omega (arith, lt)) (omega (arith, level)) (All-tail (λ key. length key ≡ width) key keys wide))

-- one more group
pub held-more : (keys partials : List (List Value)) (key partial : List Value) → length partials ≡ length keys
    → held_rows (keys ++ key ∷ []) (partials ++ partial ∷ []) ≡ held_rows keys partials ++ (key ++ partial) ∷ []
held-more [] [] key partial level = refl
held-more [] (p ∷ partials) key partial level = absurd (omega (arith, level))
held-more (k ∷ keys) [] key partial level = absurd (omega (arith, level))
held-more (k ∷ keys) (p ∷ partials) key partial level = ap (λ rows. (k ++ p) ∷ rows) (held-more keys partials key partial (omega (arith, level)))

pub apart-more : (keys : List (List Value)) (key : List Value) → AreApart keys → All (λ other. same_row other key ≡ false) keys → AreApart (keys ++ key ∷ [])
apart-more [] key apart new = (All-nil (λ other. same_row key other ≡ false), tt)
apart-more (k ∷ keys) key apart new = (
  All-append (λ other. same_row k other ≡ false) keys (key ∷ []) apart.0
      (All-cons (λ other. same_row k other ≡ false) key [] (All-head (λ other. same_row other key ≡ false) k keys new) (All-nil (λ other. same_row k other ≡ false))),
  apart-more keys key apart.1 (All-tail (λ other. same_row other key ≡ false) k keys new),
)

-- keys that are apart are each there once
kept-apart : (k : List Value) (keys : List (List Value)) → All (λ other. same_row k other ≡ false) keys → filter (λ x. not (same_row k x)) keys ≡ keys
kept-apart k [] all = refl
kept-apart k (x ∷ keys) all =
    let rest = kept-apart k keys (All-tail (λ other. same_row k other ≡ false) x keys all) in
    ap (λ (b : Bool). if not b then x ∷ filter (λ y. not (same_row k y)) keys else filter (λ y. not (same_row k y)) keys) (All-head (λ other. same_row k other ≡ false) x keys all)
    ∙ ap (λ xs. x ∷ xs) rest

distinct-apart : (keys : List (List Value)) → AreApart keys → distinct same_row keys ≡ keys
distinct-apart [] apart = refl
distinct-apart (k ∷ keys) apart =
    ap (λ xs. k ∷ filter (λ x. not (same_row k x)) xs) (distinct-apart keys apart.1) ∙ ap (λ xs. k ∷ xs) (kept-apart k keys apart.0)

fronts-held : (width : ℕ) (keys partials : List (List Value)) → length partials ≡ length keys → All (λ key. length key ≡ width) keys → map (take width) (held_rows keys partials) ≡ keys
fronts-held width [] partials level wide = refl
fronts-held width (k ∷ keys) [] level wide = absurd (omega (arith, level))
fronts-held width (k ∷ keys) (p ∷ partials) level wide =
    λ i. take_at k p width (All-head (λ key. length key ≡ width) k keys wide) i ∷ fronts-held width keys partials (omega (arith, level)) (All-tail (λ key. length key ≡ width) k keys wide) i

keys-held : (width : ℕ) (keys partials : List (List Value)) → length partials ≡ length keys → All (λ key. length key ≡ width) keys → AreApart keys → HasFirst width keys
    → front_keys width (held_rows keys partials) ≡ keys
keys-held zero keys partials level wide apart first = sym first
keys-held (suc width) keys partials level wide apart first = ap (distinct same_row) (fronts-held (suc width) keys partials level wide) ∙ distinct-apart keys apart

-- a key that no row has
none-behind : (width : ℕ) (calls : List Call) (k : List Value) (keys partials : List (List Value)) → length partials ≡ length keys → All (λ key. length key ≡ width) keys
    → All (λ other. same_row k other ≡ false) keys → behind_key width (held_rows keys partials) k ≡ []
none-behind width calls k [] partials level wide all = refl
none-behind width calls k (x ∷ keys) [] level wide all = absurd (omega (arith, level))
none-behind width calls k (x ∷ keys) (p ∷ partials) level wide all =
    behind-other width calls k x p (held_rows keys partials) (All-head (λ key. length key ≡ width) x keys wide) (All-head (λ other. same_row k other ≡ false) x keys all)
    ∙ none-behind width calls k keys partials (omega (arith, level)) (All-tail (λ key. length key ≡ width) x keys wide) (All-tail (λ other. same_row k other ≡ false) x keys all)

-- one row behind another key adds none
other-behind : (width : ℕ) (calls : List Call) (before : List (List Value)) (k p : List Value) (keys : List (List Value)) → length k ≡ width
    → All (λ other. same_row k other ≡ false) keys → All (λ x. behind_key width before x ≡ []) keys → All (λ x. behind_key width (before ++ (k ++ p) ∷ []) x ≡ []) keys
other-behind width calls before k p [] wide apart none = All-nil (λ x. behind_key width (before ++ (k ++ p) ∷ []) x ≡ [])
other-behind width calls before k p (x ∷ keys) wide apart none =
    let differ : same_row x k ≡ false = turned x k (same_row x k) refl (All-head (λ other. same_row k other ≡ false) x keys apart) in
    All-cons (λ y. behind_key width (before ++ (k ++ p) ∷ []) y ≡ []) x keys
    (behind-append width calls before ((k ++ p) ∷ []) x
    ∙ (λ i. All-head (λ y. behind_key width before y ≡ []) x keys none i ++ behind-other width calls x k p [] wide differ i))
    (other-behind width calls before k p keys wide (All-tail (λ other. same_row k other ≡ false) x keys apart) (All-tail (λ y. behind_key width before y ≡ []) x keys none))
  where
    turned : (a b : List Value) (same : Bool) → same_row a b ≡ same → same_row b a ≡ false → same_row a b ≡ false
    turned a b true e h = absurd (true≢false (sym ((same_row_decides b a).1 (sym ((same_row_decides a b).0 e))) ∙ h))
    turned a b false e h = e

each-from : {X : Type 0} (make : List Value → List Value → X) (width : ℕ) (calls : List Call) (before keys partials : List (List Value))
    → All (λ x. behind_key width before x ≡ []) keys → length partials ≡ length keys → All (λ key. length key ≡ width) keys → AreApart keys → All (IsTold calls) partials
    → map (λ key. make key (all_merged calls (behind_key width (before ++ held_rows keys partials) key))) keys ≡ of_each make keys partials
each-from make width calls before [] partials none level wide apart told = refl
each-from make width calls before (k ∷ keys) [] none level wide apart told = absurd (omega (arith, level))
each-from make width calls before (k ∷ keys) (p ∷ partials) none level wide apart told =
    let H = held_rows keys partials in
    let fits : length k ≡ width = All-head (λ key. length key ≡ width) k keys wide in
    let others = All-tail (λ key. length key ≡ width) k keys wide in
    let few : length partials ≡ length keys = omega (arith, level) in
    let behind : behind_key width (before ++ (k ++ p) ∷ H) k ≡ p ∷ []
    = behind-append width calls before ((k ++ p) ∷ H) k
    ∙ (λ i. All-head (λ x. behind_key width before x ≡ []) k keys none i ++ behind-here width calls k k p H fits ((same_row_decides k k).1 refl) i)
    ∙ ap (λ xs. p ∷ xs) (none-behind width calls k keys partials few others apart.0) in
    let first : all_merged calls (behind_key width (before ++ (k ++ p) ∷ H) k) ≡ p = ap (all_merged calls) behind ∙ All-head (IsTold calls) p partials told in
    let again : (before ++ (k ++ p) ∷ []) ++ H ≡ before ++ (k ++ p) ∷ H = append_assoc before ((k ++ p) ∷ []) H in
    let rest : map (λ key. make key (all_merged calls (behind_key width (before ++ (k ++ p) ∷ H) key))) keys ≡ of_each make keys partials
    = ap (λ rows. map (λ key. make key (all_merged calls (behind_key width rows key))) keys) (sym again)
    ∙ each-from make width calls (before ++ (k ++ p) ∷ []) keys partials
    (other-behind width calls before k p keys fits apart.0 (All-tail (λ x. behind_key width before x ≡ []) k keys none))
    few others apart.1 (All-tail (IsTold calls) p partials told) in
    λ i. make k (first i) ∷ rest i

nothing-behind : (width : ℕ) (keys : List (List Value)) → All (λ x. behind_key width [] x ≡ []) keys
nothing-behind width [] = All-nil (λ x. behind_key width [] x ≡ [])
nothing-behind width (k ∷ keys) = All-cons (λ x. behind_key width [] x ≡ []) k keys refl (nothing-behind width keys)

module _ (width : ℕ) (calls : List Call) (keys partials : List (List Value)) (h : AreHeld width calls keys partials) where
  each-held : {X : Type 0} (make : List Value → List Value → X)
      → map (λ key. make key (all_merged calls (behind_key width (held_rows keys partials) key))) (front_keys width (held_rows keys partials)) ≡ of_each make keys partials
  each-held make =
      ap (map (λ key. make key (all_merged calls (behind_key width (held_rows keys partials) key)))) (keys-held width keys partials h.level h.wide h.apart h.begun)
      ∙ each-from make width calls [] keys partials (nothing-behind width keys) h.level h.wide h.apart h.told

  -- of the groups that are held is said what follows from their partial rows
  pub finals-held : (types : List SqlType) → finals_of types width calls (held_rows keys partials) ≡ group_verdicts types calls keys partials
  finals-held types = each-held (λ key partial. grouped_row key (results_from types calls partial))

  pub merged_rows-held : merged_rows width calls (held_rows keys partials) ≡ held_rows keys partials
  merged_rows-held = each-held (λ key partial. key ++ partial)

  pub parts-held : part_verdicts width calls (held_rows keys partials) ≡ of_each (λ key partial. keeps (key ++ partial)) keys partials
  parts-held = each-held (λ key partial. keeps (key ++ partial))
