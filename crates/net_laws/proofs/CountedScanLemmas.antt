-- The table of a scan to which a sieve arrives is that of the pipe which reads the scan.
use Rattle.std.proofs.Common.{◌≡◌, ◌⊎◌, inl, inr, ℕ, List, [], ◌++◌, Bool, true, false, Some, refl, ap, sym, ◌∙◌, subst, arith}
use Rattle.std.specs.Prelude.{Contains, ◌==◌, if◌then◌else◌}
use Rattle.std.proofs.lemmas.Bool.{eqb-true}
use Rattle.std.proofs.lemmas.List.Elements.{Contains-append_cases}
use Rattle.sql_values.specs.declared.types.SqlType.{SqlType}
use Rattle.plan_trees.specs.Allowed.{width_of}
use Rattle.plan_trees.specs.TreeForms.{TreeForm}
use Rattle.plan_trees.specs.TreeTypes.{types_of}
use Rattle.column_origins.specs.Origins.{left_column}
use Rattle.plan_run_laws.specs.RunPlans.{RunPlan, tree_of_run}
use Rattle.plan_run_laws.specs.RunPlans as plan
use Rattle.lost_row_laws.specs.Arrivals.{arriving}
use Rattle.lost_row_laws.specs.Sieves.{Sieve, over_input, under}
use Rattle.plan_layout.specs.Pipes.{PipeForm, SourceForm, StepForm, table}
use Rattle.plan_layout.specs.Runs.{HasScan}
use Rattle.net_laws.specs.RunPipes.{RunsAs}
use Rattle.net_laws.proofs.ListLemmas.{same_some}
use Rattle.net_laws.proofs.StandLemmas.{IsIn, in_it}
use Rattle.net_laws.specs.RightSides.{HasTable}

pub either : {A B C : Type 0} → (A → C) → (B → C) → A ⊎ B → C
either f g (inl a) = f a
either f g (inr b) = g b

-- the tree has the scan, of the table that the pipe at a place reads by it
pub record IsReadBy (layout : List PipeForm) (tree : TreeForm) (scan : ℕ) : Type 0 where
  pub place : ℕ
  pub columns : List ℕ
  pub types : List SqlType
  pub has : HasTable tree scan place columns
  pub at : ℕ
  pub reads : HasScan layout at (Some scan)
  pub source : reads.pipe.source ≡ table place columns types

module _ (layout : List PipeForm) (own : ℕ → List Sieve) (s : Sieve) (scan : ℕ) where
  within : (t u : TreeForm) → ((place : ℕ) (columns : List ℕ) → HasTable t scan place columns → HasTable u scan place columns)
      → IsReadBy layout t scan → IsReadBy layout u scan
  within t u more r = record {
    place = r.place;
    columns = r.columns;
    types = r.types;
    has = more r.place r.columns r.has;
    at = r.at;
    reads = r.reads;
    source = r.source;
  }

  none : Contains [] s → ⊥
  none (k, lt, is) = omega (arith, lt)

  -- at a scan
  here : (n id place : ℕ) (columns : List ℕ) (types : List SqlType) (at w : ℕ) (source : SourceForm) (steps : List StepForm)
      → RunsAs layout n (plan.scan id place columns types) at w source steps
      → IsIn layout n at w source → (sieves : List Sieve) (b : Bool) → id == scan ≡ b → Contains (if b then sieves else []) s
      → IsReadBy layout (tree_of_run (plan.scan id place columns types)) scan
  here n id place columns types at w source steps r o sieves true is there =
      let same = eqb-true id scan is in
      let reads = subst (λ (i : ℕ). HasScan layout at (Some i)) same r.2 in
      record {
        place = place;
        columns = columns;
        types = types;
        has = (same, refl, refl);
        at = at;
        reads = reads;
        source = ap (λ (p : PipeForm). p.source) (same_some (sym reads.is ∙ o.is)) ∙ o.takes ∙ r.0;
      }
  here n id place columns types at w source steps r o sieves false is there = absurd (none there)

  pub scan_read : (n : ℕ) (run : RunPlan) (at w : ℕ) (source : SourceForm) (steps : List StepForm) (r : RunsAs layout n run at w source steps)
      → IsIn layout n at w source → (sieves : List Sieve) → Contains (arriving own sieves run scan) s → IsReadBy layout (tree_of_run run) scan
  scan_read n (plan.scan id place columns types) at w source steps r o sieves there =
      here n id place columns types at w source steps r o sieves (id == scan) refl there
  scan_read n (plan.values id types rows) at w source steps r o sieves there = absurd (none there)
  scan_read n (plan.remote id output m input) at w source steps r o sieves there =
      let p = r.1.root in
      within (tree_of_run input) (tree_of_run (plan.remote id output m input)) (λ place columns has. has)
      (scan_read m input r.1.at p.pipe.drivers p.pipe.source p.pipe.steps p.so (in_it layout m r.1.at p.pipe p.is p.tasks) sieves there)
  scan_read n (plan.step id does input) at w source steps r o sieves there =
      within (tree_of_run input) (tree_of_run (plan.step id does input)) (λ place columns has. has)
      (scan_read n input at w source r.1.0 r.1.2 o (under (types_of (tree_of_run input)) does sieves) there)
  scan_read n (plan.join id kind on left right) at w source steps r o sieves there =
      let p = r.3 in
      let t = tree_of_run (plan.join id kind on left right) in
      let down = over_input (left_column kind (width_of (tree_of_run left))) (own id ++ sieves) in
      either
      (λ first. within (tree_of_run left) t (λ place columns has. inl has) (scan_read n left at w source r.4.0 r.4.2 o down first))
      (λ second. within (tree_of_run right) t (λ place columns has. inr has)
      (scan_read n right r.0 p.pipe.drivers p.pipe.source p.pipe.steps p.so.1 (in_it layout n r.0 p.pipe p.is p.tasks) [] second))
      (Contains-append_cases (arriving own down left scan) (arriving own [] right scan) s there)
  scan_read n (plan.halves id remote output m half input) at w source steps r o sieves there =
      let p = r.2.root in
      within (tree_of_run input) (tree_of_run (plan.halves id remote output m half input)) (λ place columns has. has)
      (scan_read m input r.2.at p.pipe.drivers p.pipe.source p.so.1.0 p.so.1.2 (in_it layout m r.2.at p.pipe p.is p.tasks) [] there)
  scan_read n (plan.union id left right) at w source steps r o sieves there =
      let p = r.3.1 in
      let q = r.4.1 in
      let t = tree_of_run (plan.union id left right) in
      either
      (λ first. within (tree_of_run left) t (λ place columns has. inl has)
      (scan_read n left r.3.0 p.pipe.drivers p.pipe.source p.pipe.steps p.so (in_it layout n r.3.0 p.pipe p.is p.tasks) [] first))
      (λ second. within (tree_of_run right) t (λ place columns has. inr has)
      (scan_read n right r.4.0 q.pipe.drivers q.pipe.source q.pipe.steps q.so (in_it layout n r.4.0 q.pipe q.is q.tasks) [] second))
      (Contains-append_cases (arriving own [] left scan) (arriving own [] right scan) s there)
