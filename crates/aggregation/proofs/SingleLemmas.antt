-- What an aggregate of whole groups gives, over its calls.
use Rattle.std.proofs.Common.{◌≡◌, ℕ, zero, suc, ◌<◌, List, [], ◌∷◌, ◌++◌, Bool, true, false, length, map, refl, ap, sym, subst, ◌∙◌, arith, append_assoc}
use Rattle.std.specs.Prelude.{Contains, flat_map, slice_index_or}
use Rattle.std.proofs.lemmas.List.{map-append}
use Rattle.sql_values.specs.declared.value.Value.{Value}
use Rattle.sql_values.specs.declared.fail.Fail.{Fail}
use Rattle.sql_values.specs.Bags.{SameBag}
use Rattle.relation_laws.specs.Verdicts.{Verdict, fails, keeps, kept}
use Rattle.bag_laws.specs.Pieces.{finals_of}
use Rattle.bag_laws.proofs.BagLemmas.{bag_from_same, same-refl}
use Rattle.aggregation.specs.Alike.{TellAlike, part_row, part_rows}
use Rattle.aggregation.specs.Giving.{GroupsFail, GroupsGive, IsBegun, merged_with, part_verdicts, parts_with, verdicts_with}
use Rattle.aggregation.specs.Tables.{TableState, held_in}
use Rattle.aggregation.proofs.AlikeLemmas.{alike-append, alike-from_equal, alike-refl, alike-trans, finals-alike, parts-alike}

-- rows that were taken in are as if they were still to come
module _ (old new : TableState) (same : ◌≡◌ {A = TableState} (record new { keys = old.keys; partials = old.partials }) old) where
  columns : new.columns ≡ old.columns
  columns = ap (λ (t : TableState). t.columns) same

  calls : new.calls ≡ old.calls
  calls = ap (λ (t : TableState). t.calls) same

  types : new.types ≡ old.types
  types = ap (λ (t : TableState). t.types) same

  part-behind : (rows X : List (List Value)) → TellAlike (length old.columns) old.calls (held_in new) (held_in old ++ part_rows old.columns old.calls rows)
      → TellAlike (length old.columns) old.calls (held_in new ++ part_rows old.columns old.calls X) (held_in old ++ part_rows old.columns old.calls (rows ++ X))
  part-behind rows X alike =
      let w = length old.columns in
      let P = part_rows old.columns old.calls in
      alike-trans w old.calls (alike-append w old.calls alike (alike-refl w old.calls (P X)))
      (alike-from_equal w old.calls (append_assoc (held_in old) (P rows) (P X) ∙ ap (λ more. held_in old ++ more) (sym (map-append (part_row old.columns old.calls) rows X))))

  pub verdicts-taken : (rows X : List (List Value)) → TellAlike (length old.columns) old.calls (held_in new) (held_in old ++ part_rows old.columns old.calls rows) → verdicts_with new X ≡ verdicts_with old (rows ++ X)
  verdicts-taken rows X alike =
      (λ i. finals_of (types i) (length (columns i)) (calls i) (held_in new ++ part_rows (columns i) (calls i) X))
      ∙ finals-alike old.types (length old.columns) old.calls (part-behind rows X alike)

  pub parts-taken : (rows X : List (List Value)) → TellAlike (length old.columns) old.calls (held_in new) (held_in old ++ part_rows old.columns old.calls rows) → parts_with new X ≡ parts_with old (rows ++ X)
  parts-taken rows X alike =
      (λ i. part_verdicts (length (columns i)) (calls i) (held_in new ++ part_rows (columns i) (calls i) X))
      ∙ parts-alike (length old.columns) old.calls (part-behind rows X alike)

  pub merged-taken : (rows X : List (List Value)) → TellAlike (length old.columns) old.calls (held_in new) (held_in old ++ rows) → merged_with new X ≡ merged_with old (rows ++ X)
  merged-taken rows X alike =
      let w = length old.columns in
      (λ i. finals_of (types i) (length (columns i)) (calls i) (held_in new ++ X))
      ∙ finals-alike old.types w old.calls
      (alike-trans w old.calls (alike-append w old.calls alike (alike-refl w old.calls X)) (alike-from_equal w old.calls (append_assoc (held_in old) rows X)))

pub kept-keeps : (rows : List (List Value)) → flat_map kept (map keeps rows) ≡ rows
kept-keeps [] = refl
kept-keeps (row ∷ rows) = ap (λ rs. row ∷ rs) (kept-keeps rows)

-- once the output has begun it gives what it could, and no group fails
pub begun-gives : (begun : Bool) (V W : List Verdict) (old new B : List (List Value)) → IsBegun begun V old new → GroupsGive true new W B → GroupsGive begun old V B
begun-gives true V W old new B is g = g ∙ is
begun-gives false V W old new B is g =
    subst (λ (rows : List (List Value)). SameBag (flat_map kept V) rows) (ap (flat_map kept) (sym is) ∙ kept-keeps new ∙ sym g)
    (bag_from_same (flat_map kept V) (flat_map kept V) (same-refl (flat_map kept V)))

none-fails : (rows : List (List Value)) (kind : Fail) (k : ℕ) → k < length (map keeps rows) → slice_index_or (map keeps rows) k (fails kind) ≡ fails kind → ⊥
none-fails [] kind k lt e = absurd (omega (arith, lt))
none-fails (row ∷ rows) kind zero lt e = cc
none-fails (row ∷ rows) kind (suc k) lt e = none-fails rows kind k (omega (arith, lt)) e

pub begun-calm : (begun : Bool) (own : ℕ) (V : List Verdict) (old new : List (List Value)) (node : ℕ) (kind : Fail) → IsBegun begun V old new → GroupsFail begun own V node kind → ⊥
begun-calm true own V old new node kind is f = f
begun-calm false own V old new node kind is f =
    let there : Contains (map keeps new) (fails kind) = subst (λ (vs : List Verdict). Contains vs (fails kind)) (sym is) f.1 in
    none-fails new kind there.0 there.1 there.2
