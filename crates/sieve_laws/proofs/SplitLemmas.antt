-- The operators of a driver, cut in two.
use Rattle.std.proofs.Common.{◌≡◌, ℕ, ◌<◌, List, [], ◌∷◌, ◌++◌, Bool, length, get_or, take, refl, sym, ◌∙◌}
use Rattle.sql_values.specs.declared.fail.Fail.{Fail}
use Rattle.operator_core.specs.declared.operator.Operator.{Ghosts}
use Rattle.operator_core.specs.Rows.{Row}
use Rattle.operator_core.specs.Calls.{FailsNow}
use Rattle.operator_core.specs.Stages.{FailsAfter, Linked, ToldInTurn, last_finished}
use Rattle.operator_core.proofs.LinkLemmas.{Linked-at}
use Rattle.operator_core.proofs.StageLemmas.{Coming-weaker, Steps-fails}
use Rattle.operator_core.proofs.TurnLemmas.{Turns-take, giver-last, giver-told}

module _ {S : Type 0} (g : Ghosts S) where
  pub linked_both : (first rest : List S) (came gave : List Row) → Linked g (first ++ rest) came gave → (took : List Row) × Linked g first came took × Linked g rest took gave
  linked_both [] rest came gave linked = (came, refl, linked)
  linked_both (s ∷ first) rest came gave (M, steps, linked) =
      let r = linked_both first rest M gave linked in (r.0, (M, steps, r.1), r.2)

  pub told_both : (first rest : List S) (over : Bool) → ToldInTurn g over (first ++ rest) → ToldInTurn g over first × ToldInTurn g (last_finished g over first) rest
  told_both [] rest over turns = (tt, turns)
  told_both (s ∷ first) rest over turns =
      let r = told_both first rest (g.is_finished s) turns.1 in ((turns.0, r.0), r.1)

  pub finished_both : (first rest : List S) (over : Bool) → last_finished g over (first ++ rest) ≡ last_finished g (last_finished g over first) rest
  finished_both [] rest over = refl
  finished_both (s ∷ first) rest over = finished_both first rest (g.is_finished s)

  -- an operator that fails, whatever rows still come to it, fails after those before it
  pub fails_after : (ss : List S) (ended : Bool) (X Y : List Row) (node : ℕ) (kind : Fail) (i : ℕ) (s : S) → i < length ss → s ≡ get_or ss i s → FailsNow g s node kind
      → Linked g ss X Y → ToldInTurn g ended ss → FailsAfter g (take i ss) (g.as_made s) ended X node kind
  fails_after ss ended X Y node kind i s lt is fails linked turns =
      let a = Linked-at g ss i s X Y lt is linked in
      record {
        came = a.0;
        linked = a.2;
        told = Turns-take g ended ss i turns;
        fails = λ Z coming. Steps-fails g s a.0 a.1 node kind a.3 fails Z
            (Coming-weaker (last_finished g ended (take i ss)) (g.is_told s) Z (λ e. sym (giver-last g ended ss i) ∙ giver-told g ended ss i s lt is turns e) coming);
      }
