-- The steps of the nodes that rows come in by: scans, constant rows and edges.
use Rattle.std.proofs.Common.{ℕ, ◌<◌, List, arith}
use Rattle.std.specs.Prelude.{◌==◌}
use Rattle.std.proofs.lemmas.List.Sorted.{IsPermutation-refl}
use Rattle.sql_values.specs.declared.types.SqlType.{SqlType}
use Rattle.sql_values.specs.declared.value.Value.{Value}
use Rattle.bag_laws.specs.Buckets.{SitByBucket, key_bucket, of_bucket}
use Rattle.bag_laws.specs.Gather.{gather}
use Rattle.bag_laws.specs.Laws.{TaskRows}
use Rattle.bag_laws.specs.Weights.{SameWeights}
use Rattle.bag_laws.proofs.BagLemmas.{bag_from_same, same-sym, same-trans}
use Rattle.bag_laws.proofs.BucketLemmas.{key_bucket-below, same-buckets, sits-filter_by, sits-same}
use Rattle.bag_laws.proofs.GatherLemmas.{same-gather}
use Rattle.plan_trees.specs.TreeForms.{TreeForm, remote, scan, values}
use Rattle.plan_trees.specs.Allowed.{Mode, scanned}
use Rattle.plan_run_laws.specs.RunPlans.{broadcast, hashed, single}
use Rattle.plan_run_laws.specs.Runs.{EdgePassed}
use Rattle.plan_run_laws.specs.Spreads.{Says, Together, any, by, every, whole}
use Rattle.plan_run_laws.proofs.ReadLemmas.{given_remote}

-- a bucket's rows, in any order, sit in the task of the bucket
pub sit-passed : (n m : ℕ) (columns : List ℕ) (gave got : TaskRows) → EdgePassed (hashed columns) m n gave got → SitByBucket (key_bucket n columns) n got
sit-passed n m columns gave got passed k lt =
    sits-same (λ row. key_bucket n columns row == k) (passed k lt)
    (sits-filter_by (λ row. key_bucket n columns row == k) (λ row. key_bucket n columns row == k) (λ row e. e) (gather m gave))

-- no row is lost between the tasks
pub same-passed : (n m : ℕ) (columns : List ℕ) (gave got : TaskRows) → 0 < n → EdgePassed (hashed columns) m n gave got → SameWeights (gather n got) (gather m gave)
same-passed n m columns gave got lt passed =
    same-trans
    (same-gather n got (λ k. of_bucket (key_bucket n columns) k (gather m gave)) (λ k below. same-sym (passed k below)))
    (same-buckets (key_bucket n columns) n (λ row. key_bucket-below n columns row lt) (gather m gave))

module _ (mode : Mode) (tables : List (List (List Value))) where
  pub scan_whole_step : (id table : ℕ) (columns : List ℕ) (types : List SqlType) (out : TaskRows)
      → SameWeights (gather 1 out) (scanned tables table columns) → Says whole mode (scan id table columns types) tables 1 out
  scan_whole_step id table columns types out s = bag_from_same (scanned tables table columns) (out 0) (same-sym s)

  pub scan_any_step : (n id table : ℕ) (columns : List ℕ) (types : List SqlType) (out : TaskRows)
      → SameWeights (gather n out) (scanned tables table columns) → Says any mode (scan id table columns types) tables n out
  scan_any_step n id table columns types out s =
      record { rows = scanned tables table columns; given = IsPermutation-refl (scanned tables table columns); same = s }

  pub values_whole_step : (id : ℕ) (types : List SqlType) (rows : List (List Value)) (out : TaskRows)
      → ((k : ℕ) → k < 1 → SameWeights (out k) rows) → Says whole mode (values id types rows) tables 1 out
  values_whole_step id types rows out s = bag_from_same rows (out 0) (same-sym (s 0 (omega arith)))

  pub values_every_step : (n id : ℕ) (types : List SqlType) (rows : List (List Value)) (out : TaskRows)
      → ((k : ℕ) → k < n → SameWeights (out k) rows) → Says every mode (values id types rows) tables n out
  values_every_step n id types rows out s = record { rows = rows; given = IsPermutation-refl rows; same = s }

  module _ (id m : ℕ) (t : TreeForm) (ins out : TaskRows) (below : Together mode t tables m ins) where
    pub remote_whole_step : EdgePassed single m 1 ins out → Says whole mode (remote id t) tables 1 out
    remote_whole_step passed =
        (below.rows, below.given, bag_from_same below.rows (out 0) (same-trans (same-sym below.same) (passed 0 (omega arith))))

    pub remote_every_step : (n : ℕ) → EdgePassed broadcast m n ins out → Says every mode (remote id t) tables n out
    remote_every_step n passed = record {
      rows = below.rows;
      given = given_remote mode t tables id below.rows below.given;
      same = λ k lt. same-trans (same-sym (passed k lt)) below.same;
    }

    pub remote_by_step : (n : ℕ) (columns : List ℕ) → 0 < n → EdgePassed (hashed columns) m n ins out → Says (by columns) mode (remote id t) tables n out
    remote_by_step n columns lt passed = (
      record {
        rows = below.rows;
        given = given_remote mode t tables id below.rows below.given;
        same = same-trans (same-passed n m columns ins out lt passed) below.same;
      },
      sit-passed n m columns ins out passed,
    )
