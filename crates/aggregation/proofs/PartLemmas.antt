-- What the partial rows of single rows give together.
use Rattle.std.proofs.Common.{◌≡◌, ℕ, zero, suc, List, [], ◌∷◌, ◌++◌, Bool, true, false, length, map, take, refl, ap, sym, ◌∙◌}
use Rattle.std.specs.Prelude.{if◌then◌else◌}
use Rattle.std.proofs.lemmas.List.{length-map, take_at}
use Rattle.sql_values.specs.declared.types.SqlType.{SqlType}
use Rattle.sql_values.specs.declared.value.Value.{Value}
use Rattle.sql_values.specs.declared.relational.Call.{Call}
use Rattle.sql_values.specs.Cells.{cell, cut}
use Rattle.relation_laws.specs.Equality.{same_row}
use Rattle.relation_laws.specs.Groups.{distinct, group_of, grouped_row, groups_of, keys_of}
use Rattle.relation_laws.specs.Partials.{merged, partial_of, results_from}
use Rattle.relation_laws.proofs.PartialLemmas.{partial_of-append, results_from-partial_of}
use Rattle.bag_laws.specs.Pieces.{all_merged, behind_key, finals_of, front_keys, partials_of}
use Rattle.aggregation.specs.Alike.{merged_rows, part_rows}
use Rattle.aggregation.specs.Held.{first_rows}
use Rattle.aggregation.proofs.MergeLemmas.{merged-none}
use Rattle.aggregation.proofs.AlikeLemmas.{behind-here, behind-other}

module _ (columns : List ℕ) (calls : List Call) where
  fronts : (X : List (List Value)) → map (take (length columns)) (part_rows columns calls X) ≡ map (cut columns) X
  fronts [] = refl
  fronts (row ∷ X) =
      λ i. take_at (cut columns row) (partial_of calls (row ∷ [])) (length columns) (length-map columns (cell row)) i ∷ fronts X i

  told_at : (row key : List Value) (X : List (List Value)) → (b : Bool) → same_row key (cut columns row) ≡ b
      → all_merged calls (behind_key (length columns) (part_rows columns calls X) key) ≡ partial_of calls (group_of columns X key)
      → all_merged calls (behind_key (length columns) (part_rows columns calls (row ∷ X)) key) ≡ partial_of calls (group_of columns (row ∷ X) key)
  told_at row key X true e h =
      let p = partial_of calls (row ∷ []) in
      let G = group_of columns X key in
      ap (all_merged calls) (behind-here (length columns) calls key (cut columns row) p (part_rows columns calls X) (length-map columns (cell row)) e)
      ∙ ap (merged calls p) h
      ∙ sym (partial_of-append calls (row ∷ []) G)
      ∙ ap (λ (b : Bool). partial_of calls (if b then row ∷ G else G)) (sym e)
  told_at row key X false e h =
      let G = group_of columns X key in
      ap (all_merged calls) (behind-other (length columns) calls key (cut columns row) (partial_of calls (row ∷ [])) (part_rows columns calls X) (length-map columns (cell row)) e)
      ∙ h
      ∙ ap (λ (b : Bool). partial_of calls (if b then row ∷ G else G)) (sym e)

  told : (X : List (List Value)) (key : List Value) → all_merged calls (behind_key (length columns) (part_rows columns calls X) key) ≡ partial_of calls (group_of columns X key)
  told [] key = refl
  told (row ∷ X) key = told_at row key X (same_row key (cut columns row)) refl (told X key)

keys-are : (columns : List ℕ) (calls : List Call) (X : List (List Value)) → front_keys (length columns) (part_rows columns calls X) ≡ keys_of columns X
keys-are [] calls X = refl
keys-are (column ∷ columns) calls X = ap (distinct same_row) (fronts (column ∷ columns) calls X)

pub finals-are : (types : List SqlType) (columns : List ℕ) (calls : List Call) (X : List (List Value)) → finals_of types (length columns) calls (part_rows columns calls X) ≡ groups_of types columns calls X
finals-are types columns calls X =
    λ i. map (λ key. grouped_row key ((ap (results_from types calls) (told columns calls X key) ∙ results_from-partial_of types calls (group_of columns X key)) i)) (keys-are columns calls X i)

pub partials-are : (columns : List ℕ) (calls : List Call) (X : List (List Value)) → merged_rows (length columns) calls (part_rows columns calls X) ≡ partials_of columns calls X
partials-are columns calls X = λ i. map (λ key. key ++ told columns calls X key i) (keys-are columns calls X i)

-- the group that is there without a row changes nothing
first-told : (calls : List Call) (Z : List (List Value)) → all_merged calls (behind_key 0 (partial_of calls [] ∷ Z) []) ≡ all_merged calls (behind_key 0 Z [])
first-told calls Z = ap (all_merged calls) (behind-here 0 calls [] [] (partial_of calls []) Z refl refl) ∙ merged-none calls (behind_key 0 Z [])

pub finals-first : (types : List SqlType) (width : ℕ) (calls : List Call) (Z : List (List Value)) → finals_of types width calls (first_rows width calls ++ Z) ≡ finals_of types width calls Z
finals-first types zero calls Z = ap (λ p. grouped_row [] (results_from types calls p) ∷ []) (first-told calls Z)
finals-first types (suc width) calls Z = refl

pub merged_rows-first : (width : ℕ) (calls : List Call) (Z : List (List Value)) → merged_rows width calls (first_rows width calls ++ Z) ≡ merged_rows width calls Z
merged_rows-first zero calls Z = ap (λ p. p ∷ []) (first-told calls Z)
merged_rows-first (suc width) calls Z = refl

-- what is said of the groups of all rows, where none came yet
pub made_verdicts : (types : List SqlType) (columns : List ℕ) (calls : List Call) (X : List (List Value))
    → finals_of types (length columns) calls (first_rows (length columns) calls ++ part_rows columns calls X) ≡ groups_of types columns calls X
made_verdicts types columns calls X = finals-first types (length columns) calls (part_rows columns calls X) ∙ finals-are types columns calls X
