-- Partial rows merged in another order, and with that of no row.
use Rattle.std.proofs.Common.{◌≡◌, List, [], ◌∷◌, ◌++◌, refl, ap, sym, ◌∙◌}
use Rattle.sql_values.specs.declared.value.Value.{Value}
use Rattle.sql_values.specs.declared.relational.Call.{Call}
use Rattle.relation_laws.specs.Partials.{merged, partial_of}
use Rattle.relation_laws.proofs.PartialLemmas.{partial_of-append}
use Rattle.relation_laws.proofs.PartialOrderLemmas.{merged_comm}
use Rattle.bag_laws.specs.Pieces.{all_merged}
use Rattle.bag_laws.proofs.MergeLemmas.{merged_assoc}

module _ (calls : List Call) where
  swaps : (p q r : List Value) → merged calls p (merged calls q r) ≡ merged calls q (merged calls p r)
  swaps p q r = sym (merged_assoc calls p q r) ∙ ap (λ x. merged calls x r) (merged_comm calls p q) ∙ merged_assoc calls q p r

  -- the partial row of no row adds nothing
  pub merged-none : (partials : List (List Value)) → merged calls (partial_of calls []) (all_merged calls partials) ≡ all_merged calls partials
  merged-none [] = sym (partial_of-append calls [] [])
  merged-none (p ∷ partials) = swaps (partial_of calls []) p (all_merged calls partials) ∙ ap (merged calls p) (merged-none partials)

  pub merged-append : (partials others : List (List Value)) → all_merged calls (partials ++ others) ≡ merged calls (all_merged calls partials) (all_merged calls others)
  merged-append [] others = sym (merged-none others)
  merged-append (p ∷ partials) others =
      ap (merged calls p) (merged-append partials others) ∙ sym (merged_assoc calls p (all_merged calls partials) (all_merged calls others))

  pub merged-last : (partials : List (List Value)) (q : List Value) → all_merged calls (partials ++ q ∷ []) ≡ merged calls q (all_merged calls partials)
  merged-last [] q = refl
  merged-last (p ∷ partials) q = ap (merged calls p) (merged-last partials q) ∙ swaps p q (all_merged calls partials)

  -- one merged into the first, or behind the others
  pub merged-first : (p q : List Value) (partials : List (List Value)) → all_merged calls (merged calls p q ∷ partials) ≡ all_merged calls (p ∷ (partials ++ q ∷ []))
  merged-first p q partials = merged_assoc calls p q (all_merged calls partials) ∙ ap (merged calls p) (sym (merged-last partials q))
