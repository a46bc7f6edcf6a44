-- Rows that give the same groups.
use Rattle.std.proofs.Common.{◌≡◌, ℕ, zero, suc, List, [], ◌∷◌, ◌++◌, Bool, true, false, length, map, take, drop, refl, ap, sym, ◌∙◌, append-nil}
use Rattle.std.specs.Prelude.{filter, if◌then◌else◌, not}
use Rattle.std.proofs.lemmas.List.{drop_at, map-append, take_at}
use Rattle.std.proofs.lemmas.List.Elements.{filter-append}
use Rattle.sql_values.specs.declared.types.SqlType.{SqlType}
use Rattle.sql_values.specs.declared.value.Value.{Value}
use Rattle.sql_values.specs.declared.relational.Call.{Call}
use Rattle.relation_laws.specs.Equality.{same_row}
use Rattle.relation_laws.specs.Groups.{distinct, grouped_row}
use Rattle.relation_laws.specs.Partials.{merged, partial_of, results_from}
use Rattle.relation_laws.proofs.EqualityLemmas.{same_row_decides}
use Rattle.bag_laws.specs.Pieces.{all_merged, behind_key, finals_of, front_keys}
use Rattle.bag_laws.proofs.DistinctLemmas.{distinct-append, distinct-filter}
use Rattle.relation_laws.specs.Verdicts.{keeps}
use Rattle.aggregation.specs.Alike.{TellAlike, merged_rows}
use Rattle.aggregation.specs.Giving.{part_verdicts}
use Rattle.aggregation.proofs.MergeLemmas.{merged-append, merged-first, merged-none}

module _ (width : ℕ) (calls : List Call) where
  pub alike-refl : (A : List (List Value)) → TellAlike width calls A A
  alike-refl A = record { keys = refl; merged = λ key. refl }

  pub alike-from_equal : {A B : List (List Value)} → A ≡ B → TellAlike width calls A B
  alike-from_equal e = record { keys = ap (λ rows. distinct same_row (map (take width) rows)) e; merged = λ key. ap (λ rows. all_merged calls (behind_key width rows key)) e }

  pub alike-sym : {A B : List (List Value)} → TellAlike width calls A B → TellAlike width calls B A
  alike-sym s = record { keys = sym s.keys; merged = λ key. sym (s.merged key) }

  pub alike-trans : {A B C : List (List Value)} → TellAlike width calls A B → TellAlike width calls B C → TellAlike width calls A C
  alike-trans s t = record { keys = s.keys ∙ t.keys; merged = λ key. s.merged key ∙ t.merged key }

  pub behind-append : (A Z : List (List Value)) (key : List Value) → behind_key width (A ++ Z) key ≡ behind_key width A key ++ behind_key width Z key
  behind-append A Z key =
      ap (map (drop width)) (filter-append (λ row. same_row key (take width row)) A Z)
      ∙ map-append (drop width) (filter (λ row. same_row key (take width row)) A) (filter (λ row. same_row key (take width row)) Z)

  keys-append : (A Z : List (List Value)) → distinct same_row (map (take width) (A ++ Z)) ≡ distinct same_row (distinct same_row (map (take width) A) ++ distinct same_row (map (take width) Z))
  keys-append A Z =
      ap (distinct same_row) (map-append (take width) A Z)
      ∙ sym (distinct-append same_row same_row_decides (map (take width) A) (map (take width) Z))

  told-append : (A Z : List (List Value)) (key : List Value)
      → all_merged calls (behind_key width (A ++ Z) key) ≡ merged calls (all_merged calls (behind_key width A key)) (all_merged calls (behind_key width Z key))
  told-append A Z key = ap (all_merged calls) (behind-append A Z key) ∙ merged-append calls (behind_key width A key) (behind_key width Z key)

  pub alike-append : {A B C D : List (List Value)} → TellAlike width calls A B → TellAlike width calls C D → TellAlike width calls (A ++ C) (B ++ D)
  alike-append {A} {B} {C} {D} s t = record {
    keys = keys-append A C ∙ (λ i. distinct same_row (s.keys i ++ t.keys i)) ∙ sym (keys-append B D);
    merged = λ key. told-append A C key ∙ (λ i. merged calls (s.merged key i) (t.merged key i)) ∙ sym (told-append B D key);
  }

  -- a row behind a key that is looked for, and behind another
  pub behind-here : (k key p : List Value) (R : List (List Value)) → length key ≡ width → same_row k key ≡ true → behind_key width ((key ++ p) ∷ R) k ≡ p ∷ behind_key width R k
  behind-here k key p R wide e =
      let F = filter (λ row. same_row k (take width row)) R in
      ap (λ (b : Bool). map (drop width) (if b then (key ++ p) ∷ F else F)) (ap (same_row k) (take_at key p width wide) ∙ e)
      ∙ ap (λ x. x ∷ behind_key width R k) (drop_at key p width wide)

  pub behind-other : (k key p : List Value) (R : List (List Value)) → length key ≡ width → same_row k key ≡ false → behind_key width ((key ++ p) ∷ R) k ≡ behind_key width R k
  behind-other k key p R wide e =
      let F = filter (λ row. same_row k (take width row)) R in
      ap (λ (b : Bool). map (drop width) (if b then (key ++ p) ∷ F else F)) (ap (same_row k) (take_at key p width wide) ∙ e)

  -- a key that came first is no new one
  twice : (k : List Value) (K : List (List Value)) → distinct same_row (k ∷ (K ++ k ∷ [])) ≡ distinct same_row (k ∷ K)
  twice k K =
      let other : List Value → Bool = λ x. not (same_row k x) in
      let gone : filter other (k ∷ []) ≡ [] = ap (λ (b : Bool). if not b then k ∷ [] else []) ((same_row_decides k k).1 refl) in
      let without : filter other (K ++ k ∷ []) ≡ filter other K = filter-append other K (k ∷ []) ∙ ap (λ xs. filter other K ++ xs) gone ∙ append-nil (filter other K) in
      ap (λ xs. k ∷ xs)
      (sym (distinct-filter same_row same_row_decides other (K ++ k ∷ []))
      ∙ ap (distinct same_row) without
      ∙ distinct-filter same_row same_row_decides other K)

  told-first : (k key p q : List Value) (R : List (List Value)) → length key ≡ width → (b : Bool) → same_row k key ≡ b
      → all_merged calls (behind_key width ((key ++ merged calls p q) ∷ R) k) ≡ all_merged calls (behind_key width ((key ++ p) ∷ (R ++ (key ++ q) ∷ [])) k)
  told-first k key p q R wide true e =
      let X = behind_key width R k in
      let last : behind_key width (R ++ (key ++ q) ∷ []) k ≡ X ++ q ∷ [] = behind-append R ((key ++ q) ∷ []) k ∙ ap (λ xs. X ++ xs) (behind-here k key q [] wide e) in
      ap (all_merged calls) (behind-here k key (merged calls p q) R wide e)
      ∙ merged-first calls p q X
      ∙ sym (ap (all_merged calls) (behind-here k key p (R ++ (key ++ q) ∷ []) wide e ∙ ap (λ xs. p ∷ xs) last))
  told-first k key p q R wide false e =
      let X = behind_key width R k in
      let last : behind_key width (R ++ (key ++ q) ∷ []) k ≡ X = behind-append R ((key ++ q) ∷ []) k ∙ ap (λ xs. X ++ xs) (behind-other k key q [] wide e) ∙ append-nil X in
      ap (all_merged calls) (behind-other k key (merged calls p q) R wide e ∙ sym (behind-other k key p (R ++ (key ++ q) ∷ []) wide e ∙ last))

  -- one merged into the first, or behind the others
  pub alike-first : (key p q : List Value) (R : List (List Value)) → length key ≡ width
      → TellAlike width calls ((key ++ merged calls p q) ∷ R) ((key ++ p) ∷ (R ++ (key ++ q) ∷ []))
  alike-first key p q R wide =
      let K = map (take width) R in
      let last : map (take width) (R ++ (key ++ q) ∷ []) ≡ K ++ key ∷ [] = map-append (take width) R ((key ++ q) ∷ []) ∙ ap (λ k. K ++ k ∷ []) (take_at key q width wide) in
      record {
        keys = ap (λ k. distinct same_row (k ∷ K)) (take_at key (merged calls p q) width wide) ∙ sym (twice key K)
            ∙ (λ i. distinct same_row (sym (take_at key p width wide) i ∷ sym last i));
        merged = λ k. told-first k key p q R wide (same_row k key) refl;
      }

  -- the partial row of no row adds nothing before another
  told-none : (k key q : List Value) → length key ≡ width → (b : Bool) → same_row k key ≡ b
      → all_merged calls (behind_key width ((key ++ partial_of calls []) ∷ (key ++ q) ∷ []) k) ≡ all_merged calls (behind_key width ((key ++ q) ∷ []) k)
  told-none k key q wide true e =
      let X = behind_key width ((key ++ q) ∷ []) k in
      ap (all_merged calls) (behind-here k key (partial_of calls []) ((key ++ q) ∷ []) wide e) ∙ merged-none calls X
  told-none k key q wide false e = ap (all_merged calls) (behind-other k key (partial_of calls []) ((key ++ q) ∷ []) wide e)

  pub alike-none : (key q : List Value) → length key ≡ width → TellAlike width calls ((key ++ partial_of calls []) ∷ (key ++ q) ∷ []) ((key ++ q) ∷ [])
  alike-none key q wide = record {
    keys = (λ i. distinct same_row (take_at key (partial_of calls []) width wide i ∷ take_at key q width wide i ∷ []))
        ∙ twice key []
        ∙ ap (λ k. distinct same_row (k ∷ [])) (sym (take_at key q width wide));
    merged = λ k. told-none k key q wide (same_row k key) refl;
  }

  pub alike-cons : (r : List Value) {A B : List (List Value)} → TellAlike width calls A B → TellAlike width calls (r ∷ A) (r ∷ B)
  alike-cons r s = alike-append (alike-refl (r ∷ [])) s

pub front_at : (A B : List (List Value)) (width : ℕ) → distinct same_row (map (take width) A) ≡ distinct same_row (map (take width) B) → front_keys width A ≡ front_keys width B
front_at A B zero e = refl
front_at A B (suc width) e = e

-- rows that tell alike have the same final rows
pub finals-alike : (types : List SqlType) (width : ℕ) (calls : List Call) {A B : List (List Value)} → TellAlike width calls A B → finals_of types width calls A ≡ finals_of types width calls B
finals-alike types width calls {A} {B} s =
    λ i. map (λ key. grouped_row key (results_from types calls (s.merged key i))) (front_at A B width s.keys i)

pub merged_rows-alike : (width : ℕ) (calls : List Call) {A B : List (List Value)} → TellAlike width calls A B → merged_rows width calls A ≡ merged_rows width calls B
merged_rows-alike width calls {A} {B} s = λ i. map (λ key. key ++ s.merged key i) (front_at A B width s.keys i)

pub parts-alike : (width : ℕ) (calls : List Call) {A B : List (List Value)} → TellAlike width calls A B → part_verdicts width calls A ≡ part_verdicts width calls B
parts-alike width calls {A} {B} s = λ i. map (λ key. keeps (key ++ s.merged key i)) (front_at A B width s.keys i)
