-- Drivers of a run whose scans lost rows, each with its list of stages, give at each node what the tasks gave there.
use Rattle.std.proofs.Common.{ℕ, List, [], ◌∷◌, ◌++◌, ap, sym, arith}
use Rattle.sql_values.specs.declared.value.Value.{Value}
use Rattle.bag_laws.specs.Laws.{TaskRows}
use Rattle.bag_laws.proofs.BagLemmas.{same-from_equal, same-sym, same-trans}
use Rattle.bag_laws.proofs.GatherLemmas.{gather-agree, same-gather, same-gather_append}
use Rattle.plan_trees.specs.Allowed.{Mode, width_of}
use Rattle.plan_trees.specs.TreeTypes.{types_of}
use Rattle.column_origins.specs.Origins.{left_column}
use Rattle.plan_run_laws.specs.Nets.{Lanes, Went, of_tasks}
use Rattle.plan_run_laws.specs.Stages.{Makes, does, first_half, second_half}
use Rattle.plan_run_laws.specs.RunPlans.{RunPlan, tree_of_run}
use Rattle.plan_run_laws.specs.RunPlans as plan
use Rattle.plan_run_laws.specs.Wholes.{longer}
use Rattle.plan_run_laws.proofs.LaneLemmas.{alone, joined_drivers}
use Rattle.plan_run_laws.proofs.ReadLemmas.{sits-gather}
use Rattle.plan_run_laws.proofs.StepTables.{step_drivers}
use Rattle.plan_run_laws.proofs.WireLemmas.{in_pieces, into_last, only_stages, passed_on, probed}
use Rattle.lost_row_laws.specs.Nets.{BelowLosing}
use Rattle.lost_row_laws.specs.Runs.{RanLosing}
use Rattle.lost_row_laws.specs.Sieves.{Sieve, is_lost, over_input, under}

module _ (mode : Mode) (tables : List (List (List Value))) where
  pub wired : (sieves : List Sieve) (n w : ℕ) (node : RunPlan) (builds : List TaskRows) (took gave : Lanes) → BelowLosing mode tables sieves n w node builds took → Went mode n w node builds took gave
      → RanLosing mode tables sieves n node (of_tasks w gave)
  wired sieves n w (plan.scan id table columns types) builds took gave (lost, all, held) went = (
    of_tasks w lost,
    same-trans
        (same-from_equal (sym (gather-agree n (λ k. of_tasks w took k ++ of_tasks w lost k) (λ k. of_tasks w gave k ++ of_tasks w lost k)
        (λ k lt. ap (λ (rows : List (List Value)). rows ++ of_tasks w lost k) (passed_on mode tables n w took gave went k lt)))))
        (same-trans (same-gather n (λ k. of_tasks w took k ++ of_tasks w lost k) (of_tasks w (longer took lost)) (λ k lt. same-sym (same-gather_append w (took k) (lost k)))) all),
    λ k lt. sits-gather (is_lost mode sieves types) w (lost k) (λ d less. held k d lt less),
  )
  wired sieves n w (plan.values id types rows) builds took gave below went =
      λ k lt. same-trans (same-from_equal (sym (passed_on mode tables n w took gave went k lt))) (below k lt)
  wired sieves n w (plan.remote id output m input) builds took gave (p, below, under, passed) went =
      (of_tasks p.drivers p.gave, wired sieves m p.drivers input p.builds p.took p.gave below under, λ k lt. same-trans (passed k lt) (same-from_equal (passed_on mode tables n w took gave went k lt)))
  wired sieves n w (plan.step id s input) builds took gave (some, below) went =
      let types = types_of (tree_of_run input) in
      let b = into_last mode tables n w input builds (does types s) took gave went in
      (of_tasks w b.0, wired (under types s sieves) n w input builds took b.0 below b.1, λ k lt. step_drivers mode types s w some (b.0 k) (gave k) (λ d less. b.2 k d lt less))
  wired sieves n w (plan.halves id source output m h input) builds took gave (p, one, below, (between, fore, makes), passed) went =
      let types = types_of (tree_of_run input) in (
        of_tasks p.drivers between,
        of_tasks p.drivers p.gave,
        of_tasks w took,
        wired [] m p.drivers input p.builds p.took between below fore,
        in_pieces mode tables (Makes mode (first_half types h)) m p.drivers between p.gave makes,
        passed,
        λ k lt. alone (Makes mode (second_half types h)) w one (took k) (gave k)
            (only_stages mode tables n w (second_half types h) took gave went k 0 lt (omega (arith, one))),
      )
  wired sieves n w (plan.join id kind on left right) [] took gave none went = absurd none
  wired sieves n w (plan.join id kind on left right) (build ∷ builds) took gave (own, p, under, made, fed, alone, fit, below) went =
      let b = probed mode tables n w kind on left right build builds took gave went in (
        own,
        of_tasks w b.0,
        of_tasks p.drivers p.gave,
        wired (over_input (left_column kind (width_of (tree_of_run left))) (own ++ sieves)) n w left builds took b.0 below b.1,
        wired [] n p.drivers right p.builds p.took p.gave under made,
        alone,
        fit,
        λ k lt. joined_drivers kind on (width_of (tree_of_run left)) (width_of (tree_of_run right)) w (b.0 k) (gave k) (build k)
            (of_tasks p.drivers p.gave k) (fed k lt)
            (λ d less. b.2 k d lt less),
      )
  wired sieves n w (plan.union id left right) builds took gave (p, q, below, went_left, under, went_right, put) went = (
    of_tasks p.drivers p.gave,
    of_tasks q.drivers q.gave,
    wired [] n p.drivers left p.builds p.took p.gave below went_left,
    wired [] n q.drivers right q.builds q.took q.gave under went_right,
    λ k lt. same-trans (put k lt) (same-from_equal (passed_on mode tables n w took gave went k lt)),
  )
