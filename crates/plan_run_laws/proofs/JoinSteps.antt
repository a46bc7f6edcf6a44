-- The steps of joins: over whole sides, beside a right side that each task has, and over buckets.
use Rattle.std.proofs.Common.{◌≡◌, ℕ, ◌<◌, List, refl}
use Rattle.std.specs.Prelude.{All, Contains, ◌==◌}
use Rattle.std.proofs.lemmas.List.Sorted.{IsPermutation-refl}
use Rattle.sql_values.specs.declared.value.Value.{Value}
use Rattle.sql_values.specs.declared.relational.JoinKind.{JoinKind}
use Rattle.relation_laws.specs.Joins.{join_of}
use Rattle.bag_laws.specs.Buckets.{AllBelow, SitByBucket, key_bucket, lefts, rights}
use Rattle.bag_laws.specs.Gather.{gather}
use Rattle.bag_laws.specs.Laws.{TaskRows}
use Rattle.bag_laws.specs.Weights.{SameWeights}
use Rattle.bag_laws.proofs.BagLemmas.{bag_from_same, same-from_equal, same-refl, same-sym, same-trans}
use Rattle.bag_laws.proofs.BucketLemmas.{sits-same}
use Rattle.bag_laws.proofs.GatherLemmas.{same-gather}
use Rattle.bag_laws.proofs.JoinLemmas.{same-join, same-join_whole_right}
use Rattle.bag_laws.proofs.LawLemmas.{join-by_columns}
use Rattle.bag_laws.proofs.SpreadLemmas.{sit-join}
use Rattle.plan_trees.specs.TreeForms.{TreeForm, join}
use Rattle.plan_trees.specs.Allowed.{Mode, width_of}
use Rattle.plan_trees.specs.Widths.{FitsWidths}
use Rattle.plan_run_laws.specs.Spreads.{ForEach, Says, Spread, Together, any, by, every, whole}
use Rattle.plan_run_laws.proofs.ReadLemmas.{width-tasks}

module _ (mode : Mode) (tables : List (List (List Value))) (id : ℕ) (kind : JoinKind) (on : List (ℕ × ℕ)) (l r : TreeForm)
    (n : ℕ) (ls rs out : TaskRows) where
  -- a task's join
  abbrev at : ℕ → List (List Value)
  at k = join_of kind on (width_of l) (width_of r) (ls k) (rs k)

  module _ (joined : (k : ℕ) → k < n → SameWeights (at k) (out k)) where
    same-joined : SameWeights (gather n out) (gather n at)
    same-joined = same-gather n out at (λ k lt. same-sym (joined k lt))

    pub join_whole_step : 0 < n → Says whole mode l tables n ls → Says whole mode r tables n rs → Says whole mode (join id kind on l r) tables n out
    join_whole_step lt left right = (ls 0, rs 0, left, right, bag_from_same (at 0) (out 0) (joined 0 lt))

    -- the rows of a join of lists of both sides
    together_of : (left : Together mode l tables n ls) (B : List (List Value)) → Says whole mode r tables n (λ k. B)
        → SameWeights (gather n at) (join_of kind on (width_of l) (width_of r) left.rows B) → Together mode (join id kind on l r) tables n out
    together_of left B right s =
        let rows = join_of kind on (width_of l) (width_of r) left.rows B in
        record { rows = rows; given = (left.rows, B, left.given, right, IsPermutation-refl rows); same = same-trans same-joined s }

    beside_together : Together mode l tables n ls → ForEach mode r tables n rs → Together mode (join id kind on l r) tables n out
    beside_together left right =
        together_of left right.rows right.given
        (same-trans (same-join_whole_right kind on (width_of l) (width_of r) n ls rs right.rows right.same)
        (same-join kind on (width_of l) (width_of r) left.same (same-refl right.rows)))

    -- the join's rows stay in the tasks of the left side's buckets
    sit_out : (columns : List ℕ) → AllBelow (width_of l) columns → FitsWidths l → Together mode l tables n ls
        → SitByBucket (key_bucket n columns) n ls → SitByBucket (key_bucket n columns) n out
    sit_out columns below fits left sits k lt =
        sits-same (λ row. key_bucket n columns row == k) (joined k lt)
        (sit-join kind on (width_of l) (width_of r) n columns below ls rs (width-tasks mode l tables n ls fits left) sits k lt)

    pub join_beside_step : (s : Spread) → 0 < n → ((columns : List ℕ) → s ≡ by columns → AllBelow (width_of l) columns) → FitsWidths l
        → Says s mode l tables n ls → Says every mode r tables n rs → Says s mode (join id kind on l r) tables n out
    join_beside_step whole lt below fits left right = (
      ls 0,
      right.rows,
      left,
      right.given,
      bag_from_same (join_of kind on (width_of l) (width_of r) (ls 0) right.rows) (out 0)
          (same-trans (same-join kind on (width_of l) (width_of r) (same-refl (ls 0)) (same-sym (right.same 0 lt))) (joined 0 lt)),
    )
    join_beside_step any lt below fits left right = beside_together left right
    join_beside_step (by columns) lt below fits left right =
        (beside_together left.0 right, sit_out columns (below columns refl) fits left.0 left.1)
    join_beside_step every lt below fits left right =
        let rows = join_of kind on (width_of l) (width_of r) left.rows right.rows in
        record {
          rows = rows;
          given = (left.rows, right.rows, left.given, right.given, IsPermutation-refl rows);
          same = λ k less. same-trans (same-sym (joined k less)) (same-join kind on (width_of l) (width_of r) (left.same k less) (right.same k less));
        }

    pub join_by_step : (pairs : List (ℕ × ℕ)) → All (Contains on) pairs → AllBelow (width_of l) (lefts pairs) → FitsWidths l
        → Says (by (lefts pairs)) mode l tables n ls → Says (by (rights pairs)) mode r tables n rs
        → Says (by (lefts pairs)) mode (join id kind on l r) tables n out
    join_by_step pairs among below fits left right = (
      together_of left.0 right.0.rows right.0.given
          (same-trans (same-from_equal (join-by_columns kind on pairs (width_of l) (width_of r) n among ls rs left.1 right.1))
          (same-join kind on (width_of l) (width_of r) left.0.same right.0.same)),
      sit_out (lefts pairs) below fits left.0 left.1,
    )
