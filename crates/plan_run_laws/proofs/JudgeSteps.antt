-- The steps of filters and projects: each row is judged by itself.
use Rattle.std.proofs.Common.{ℕ, ◌<◌, List, sym, ◌∙◌, refl, map}
use Rattle.sql_values.specs.declared.value.Value.{Value}
use Rattle.relation_laws.specs.Verdicts.{Verdict, kept_rows}
use Rattle.bag_laws.specs.Laws.{TaskRows}
use Rattle.bag_laws.proofs.BagLemmas.{same-from_equal, same-map, same-trans}
use Rattle.bag_laws.proofs.GatherLemmas.{gather-agree}
use Rattle.bag_laws.proofs.VerdictLemmas.{kept_rows-gather, same-kept_rows}
use Rattle.plan_trees.specs.TreeForms.{TreeForm}
use Rattle.plan_trees.specs.Allowed.{Gives, Judged, Mode}
use Rattle.plan_run_laws.specs.Spreads.{Says, Together, every, whole}
use Rattle.plan_run_laws.proofs.CalmLemmas.{calm-same, calm-tasks}

-- a node that gives what the judge keeps of a list of its input
module _ (mode : Mode) (tables : List (List (List Value))) (t node : TreeForm) (judge : List Value → Verdict)
    (gives : (A rows : List (List Value)) → Gives mode t tables A → Judged mode judge A rows → Gives mode node tables rows)
    (n : ℕ) (ins out : TaskRows) (judged : (k : ℕ) → k < n → Judged mode judge (ins k) (out k)) where
  pub judged_whole_step : 0 < n → Says whole mode t tables n ins → Says whole mode node tables n out
  judged_whole_step lt says = gives (ins 0) (out 0) says (judged 0 lt)

  pub judged_together : Together mode t tables n ins → Together mode node tables n out
  judged_together below = record {
    rows = kept_rows judge below.rows;
    given = gives below.rows (kept_rows judge below.rows) below.given
        (record { calm = calm-tasks mode judge n ins below.rows (λ k lt. (judged k lt).calm) below.same; are_kept = refl });
    same = same-trans
        (same-from_equal (gather-agree n out (λ k. kept_rows judge (ins k)) (λ k lt. (judged k lt).are_kept) ∙ sym (kept_rows-gather judge n ins)))
        (same-kept_rows judge below.same);
  }

  pub judged_every_step : 0 < n → Says every mode t tables n ins → Says every mode node tables n out
  judged_every_step lt below = record {
    rows = kept_rows judge below.rows;
    given = gives below.rows (kept_rows judge below.rows) below.given
        (record { calm = calm-same mode (map judge (ins 0)) (map judge below.rows) (same-map judge (below.same 0 lt)) ((judged 0 lt).calm); are_kept = refl });
    same = λ k less. same-trans (same-from_equal ((judged k less).are_kept)) (same-kept_rows judge (below.same k less));
  }
