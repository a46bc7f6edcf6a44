-- The steps of unions.
use Rattle.std.proofs.Common.{ℕ, ◌<◌, List, ◌++◌}
use Rattle.std.proofs.lemmas.List.Sorted.{IsPermutation-refl}
use Rattle.sql_values.specs.declared.value.Value.{Value}
use Rattle.bag_laws.specs.Laws.{TaskRows}
use Rattle.bag_laws.specs.Weights.{SameWeights}
use Rattle.bag_laws.proofs.BagLemmas.{bag_from_same, same-append, same-sym, same-trans}
use Rattle.bag_laws.proofs.GatherLemmas.{same-gather, same-gather_append}
use Rattle.plan_trees.specs.TreeForms.{TreeForm, union}
use Rattle.plan_trees.specs.Allowed.{Mode}
use Rattle.plan_run_laws.specs.Spreads.{Says, any, every, whole}

module _ (mode : Mode) (tables : List (List (List Value))) (id : ℕ) (l r : TreeForm) (n : ℕ) (ls rs out : TaskRows)
    (put : (k : ℕ) → k < n → SameWeights (ls k ++ rs k) (out k)) where
  pub union_whole_step : 0 < n → Says whole mode l tables n ls → Says whole mode r tables n rs → Says whole mode (union id l r) tables n out
  union_whole_step lt left right = (ls 0, rs 0, left, right, bag_from_same (ls 0 ++ rs 0) (out 0) (put 0 lt))

  pub union_any_step : Says any mode l tables n ls → Says any mode r tables n rs → Says any mode (union id l r) tables n out
  union_any_step left right = record {
    rows = left.rows ++ right.rows;
    given = (left.rows, right.rows, left.given, right.given, IsPermutation-refl (left.rows ++ right.rows));
    same = same-trans (same-gather n out (λ k. ls k ++ rs k) (λ k lt. same-sym (put k lt)))
        (same-trans (same-gather_append n ls rs) (same-append left.same right.same));
  }

  pub union_every_step : Says every mode l tables n ls → Says every mode r tables n rs → Says every mode (union id l r) tables n out
  union_every_step left right = record {
    rows = left.rows ++ right.rows;
    given = (left.rows, right.rows, left.given, right.given, IsPermutation-refl (left.rows ++ right.rows));
    same = λ k lt. same-trans (same-sym (put k lt)) (same-append (left.same k lt) (right.same k lt));
  }
