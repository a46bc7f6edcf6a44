-- What the tables of steps come to. First rows of pieces, each in the order in which a task has them or in any: it comes to the
-- same. What nothing fails on has not failed.
use Rattle.std.proofs.Common.{◌≡◌, ◌↔◌, ℕ, List, [], refl, take}
use Rattle.sql_values.specs.declared.value.Value.{Value}
use Rattle.bag_laws.specs.Firsts.{IsFirstOf}
use Rattle.bag_laws.specs.Weights.{SameWeights}
use Rattle.bag_laws.proofs.BagLemmas.{same-refl, same-sym, same-trans}
use Rattle.bag_laws.proofs.GatherLemmas.{chosen, same-gather}
use Rattle.plan_run_laws.specs.Faults.{FailedFinal, FailedOver}
use Rattle.plan_run_laws.specs.Nets.{Lanes}
use Rattle.plan_run_laws.specs.RunPlans.{RunPlan}
use Rattle.plan_run_laws.specs.Runs.{InPieces}
use Rattle.plan_run_laws.specs.Spreads.{Tables}
use Rattle.plan_run_laws.specs.Stops.{Flags, Notes}

module _ (count : ℕ) (rows given : List (List Value)) where
  pub first-pieces : InPieces (λ piece first. first ≡ take count piece) rows given ↔ InPieces (IsFirstOf count) rows given
  first-pieces = (
    λ p. record {
      drivers = p.drivers;
      pieces = p.pieces;
      gave = p.gave;
      cut = p.cut;
      each = λ d lt. record { order = p.pieces d; same = same-refl (p.pieces d); is = p.each d lt };
      together = p.together;
    },
    λ p.
        let orders = chosen (λ d order. SameWeights (p.pieces d) order × (p.gave d ≡ take count order)) [] p.drivers
        (λ d lt. ((p.each d lt).order, ((p.each d lt).same, (p.each d lt).is))) in
        record {
          drivers = p.drivers;
          pieces = orders.0;
          gave = p.gave;
          cut = same-trans (same-gather p.drivers orders.0 p.pieces (λ d lt. same-sym (orders.1 d lt).0)) p.cut;
          each = λ d lt. (orders.1 d lt).1;
          together = p.together;
        },
  )

-- no driver failed at a step, or at the second half of one, that fails on no row and on no group
module _ (tables : Tables) (n w : ℕ) (node : RunPlan) (notes : Notes) (took : Lanes) (ended : Flags) where
  pub none-failed : FailedOver (λ rows. ⊥) tables n w node notes took ended → ⊥
  none-failed f = f.failed [] (λ over. refl)

  pub none-failed_final : FailedFinal (λ rows. ⊥) tables n w node notes took ended → ⊥
  none-failed_final f = f.failed [] (λ over. refl)
