-- A failure of a driver in a run whose scans lost rows is one that the plan's tree may have. One clause a rule.
use Rattle.std.proofs.Common.{ℕ, ◌<◌, List, [], ◌∷◌, inl, inr, length, subst}
use Rattle.sql_values.specs.declared.value.Value.{Value}
use Rattle.sql_values.specs.declared.fail.Fail.{Fail}
use Rattle.sql_exprs.specs.Forms.{Form}
use Rattle.plan_trees.specs.Judges.{filter_judge, project_judge}
use Rattle.plan_trees.specs.Steps.{StepFails, aggregate, project}
use Rattle.plan_trees.specs.Stopped.{FailsOn, MayFail}
use Rattle.plan_trees.specs.TreeTypes.{types_of}
use Rattle.plan_trees.specs.Widths.{FitsWidths}
use Rattle.plan_run_laws.specs.Nets.{Lanes}
use Rattle.plan_run_laws.specs.Placements.{Placed, scan_whole, scan_any, values_whole, values_every, remote_whole, remote_by, remote_every, step_whole, halves_whole, filter_stays, project_any, project_by, project_every, join_whole, join_right_every, join_by, aggregate_by, final_by, union_whole, union_any, union_every, any_from_by}
use Rattle.plan_run_laws.specs.HalvedSteps as halved
use Rattle.plan_run_laws.specs.RunPlans.{RunPlan, hashed, single, tree_of_run}
use Rattle.plan_run_laws.specs.Spreads.{Spread}
use Rattle.plan_run_laws.specs.Stages.{StageFails, final, second_half}
use Rattle.plan_run_laws.specs.Stops.{Flags, Notes}
use Rattle.plan_run_laws.proofs.ComposeLemmas.{some_tasks}
use Rattle.plan_run_laws.proofs.FaultLemmas.{final_fails, halves_fail}
use Rattle.lost_row_laws.specs.Faults.{FailedLosing, FailedOverLosing}
use Rattle.lost_row_laws.specs.Runs.{AreTyped}
use Rattle.lost_row_laws.specs.Sieves.{Sieve}
use Rattle.lost_row_laws.proofs.FaultLemmas.{aggregate_failed, passed_whole, row_failed, step_failed}

module _ (tables : List (List (List Value))) (node : ℕ) (kind : Fail) where
  project_failed : {n : ℕ} {columns : List Form} {input : RunPlan} {s : Spread} → 0 < n → AreTyped input → FitsWidths (tree_of_run input) → Placed n input s
      → (sieves : List Sieve) (w : ℕ) (notes : Notes) (took : Lanes) (ended : Flags)
      → FailedOverLosing (λ rows. StepFails (types_of (tree_of_run input)) (project columns) rows kind) tables sieves n w input notes took ended
      → FailsOn tables (project columns) (tree_of_run input) kind
  project_failed {columns = columns} {input = input} lt typed fits d sieves w notes took ended f =
      let r = row_failed tables (project_judge (types_of (tree_of_run input)) columns) kind sieves w notes took ended lt typed fits d f in
      record { given = r.0; may = r.1; so = r.2 }

  pub failed : {n : ℕ} {plan : RunPlan} {s : Spread} → 0 < n → AreTyped plan → FitsWidths (tree_of_run plan) → Placed n plan s
      → (w : ℕ) (notes : Notes) (took : Lanes) (ended : Flags) → FailedLosing tables n w plan notes took ended node kind → MayFail (tree_of_run plan) tables node kind
  failed lt typed fits scan_whole w notes took ended none = absurd none
  failed lt typed fits scan_any w notes took ended none = absurd none
  failed lt typed fits values_whole w notes took ended none = absurd none
  failed lt typed fits values_every w notes took ended none = absurd none
  failed lt typed fits (remote_whole {m = m} {s = s} r d) w notes took ended (p, f) = failed (some_tasks m s r) typed fits d p.drivers p.notes p.took p.ended f
  failed lt typed fits (remote_by {m = m} {s = s} below r d) w notes took ended (p, f) = failed (some_tasks m s r) typed fits d p.drivers p.notes p.took p.ended f
  failed lt typed fits (remote_every {m = m} {s = s} r d) w notes took ended (p, f) = failed (some_tasks m s r) typed fits d p.drivers p.notes p.took p.ended f
  failed lt typed fits (step_whole {does = does} d) w notes took ended (inl (is, some, sieves, lose, f)) =
      inl (is, step_failed tables does kind sieves w notes took ended typed.1 fits d some lose f)
  failed lt typed fits (step_whole d) w notes took ended (inr f) = inr (failed lt typed.1 fits d w notes took ended f)
  failed lt typed fits (halves_whole {id = id} {source = source} {m = m} {halved = h} {input = input} r d) w notes took ended (inl (is, f)) =
      let a = passed_whole tables (λ rows. StageFails (second_half (types_of (tree_of_run input)) h) rows kind) 1 w id source single h notes took ended r typed fits d f in
      inl (is, halves_fail tables (tree_of_run input) h kind source m a.0 a.1 a.2.0 a.2.1 a.2.2)
  failed lt typed fits (halves_whole {m = m} {s = s} r d) w notes took ended (inr (p, f)) = inr (failed (some_tasks m s r) typed fits d p.drivers p.notes p.took p.ended f)
  failed lt typed fits (filter_stays {predicate = predicate} {input = input} d) w notes took ended (inl (is, some, sieves, lose, f)) =
      let r = row_failed tables (filter_judge (types_of (tree_of_run input)) predicate) kind sieves w notes took ended lt typed.1 fits d f in
      inl (is, record { given = r.0; may = r.1; so = r.2 })
  failed lt typed fits (filter_stays d) w notes took ended (inr f) = inr (failed lt typed.1 fits d w notes took ended f)
  failed lt typed fits (project_any d) w notes took ended (inl (is, some, sieves, lose, f)) = inl (is, project_failed lt typed.1 fits d sieves w notes took ended f)
  failed lt typed fits (project_any d) w notes took ended (inr f) = inr (failed lt typed.1 fits d w notes took ended f)
  failed lt typed fits (project_by plain d) w notes took ended (inl (is, some, sieves, lose, f)) = inl (is, project_failed lt typed.1 fits d sieves w notes took ended f)
  failed lt typed fits (project_by plain d) w notes took ended (inr f) = inr (failed lt typed.1 fits d w notes took ended f)
  failed lt typed fits (project_every d) w notes took ended (inl (is, some, sieves, lose, f)) = inl (is, project_failed lt typed.1 fits d sieves w notes took ended f)
  failed lt typed fits (project_every d) w notes took ended (inr f) = inr (failed lt typed.1 fits d w notes took ended f)
  failed lt typed fits (join_whole d e) w [] took ended none = absurd none
  failed lt typed fits (join_whole d e) w (note ∷ notes) took ended (inl f) = inl (failed lt typed.0 fits.0 d w notes took ended f)
  failed lt typed fits (join_whole d e) w (note ∷ notes) took ended (inr (p, f)) = inr (failed lt typed.1 fits.1 e p.drivers p.notes p.took p.ended f)
  failed lt typed fits (join_right_every d e) w [] took ended none = absurd none
  failed lt typed fits (join_right_every d e) w (note ∷ notes) took ended (inl f) = inl (failed lt typed.0 fits.0 d w notes took ended f)
  failed lt typed fits (join_right_every d e) w (note ∷ notes) took ended (inr (p, f)) = inr (failed lt typed.1 fits.1 e p.drivers p.notes p.took p.ended f)
  failed lt typed fits (join_by pairs among d e) w [] took ended none = absurd none
  failed lt typed fits (join_by pairs among d e) w (note ∷ notes) took ended (inl f) = inl (failed lt typed.0 fits.0 d w notes took ended f)
  failed lt typed fits (join_by pairs among d e) w (note ∷ notes) took ended (inr (p, f)) = inr (failed lt typed.1 fits.1 e p.drivers p.notes p.took p.ended f)
  failed {n = n} lt typed fits (aggregate_by {keys = keys} {places = places} {calls = calls} {input = input} some below d) w notes took ended (inl (is, one, sieves, none, f)) =
      inl (
        is,
        aggregate_failed tables keys places calls kind w notes took ended lt typed.1 fits some below d one
            (subst (λ (all : List Sieve). FailedOverLosing (λ rows. StepFails (types_of (tree_of_run input)) (aggregate keys calls) rows kind) tables all n w input notes took ended) none f),
      )
  failed lt typed fits (aggregate_by some below d) w notes took ended (inr f) = inr (failed lt typed.1 fits d w notes took ended f)
  failed {n = n} lt typed fits (final_by {id = id} {source = source} {m = m} {keys = keys} {columns = columns} {calls = calls} {input = input} some below r d) w notes took ended (inl (is, f)) =
      let a = passed_whole tables (λ rows. StageFails (final (types_of (tree_of_run input)) (length keys) calls) rows kind) n w id source (hashed columns)
      (halved.aggregate keys calls) notes took ended r typed fits d f in
      inl (is, final_fails tables (tree_of_run input) keys columns calls kind id source m n a.0 lt some below a.1 a.2.0 a.2.1 a.2.2)
  failed lt typed fits (final_by {m = m} {s = s} some below r d) w notes took ended (inr (p, f)) = inr (failed (some_tasks m s r) typed fits d p.drivers p.notes p.took p.ended f)
  failed lt typed fits (union_whole d e) w notes took ended (p, inl f) = inl (failed lt typed.0 fits.0 d p.drivers p.notes p.took p.ended f)
  failed lt typed fits (union_whole d e) w notes took ended (p, inr f) = inr (failed lt typed.1 fits.1 e p.drivers p.notes p.took p.ended f)
  failed lt typed fits (union_any d e) w notes took ended (p, inl f) = inl (failed lt typed.0 fits.0 d p.drivers p.notes p.took p.ended f)
  failed lt typed fits (union_any d e) w notes took ended (p, inr f) = inr (failed lt typed.1 fits.1 e p.drivers p.notes p.took p.ended f)
  failed lt typed fits (union_every d e) w notes took ended (p, inl f) = inl (failed lt typed.0 fits.0 d p.drivers p.notes p.took p.ended f)
  failed lt typed fits (union_every d e) w notes took ended (p, inr f) = inr (failed lt typed.1 fits.1 e p.drivers p.notes p.took p.ended f)
  failed lt typed fits (any_from_by d) w notes took ended f = failed lt typed fits d w notes took ended f
