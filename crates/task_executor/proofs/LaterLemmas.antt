-- Drivers after the turns of one round and of the next.
use Rattle.std.proofs.Common.{◌≡◌, List, [], ◌∷◌, None}
use Rattle.std.proofs.lemmas.List.Elements.{All-head, All-tail}
use Rattle.driver_loop.specs.Drivers.{DriverState}
use Rattle.net_laws.specs.Later.{AreLater}
use Rattle.net_laws.proofs.LaterLemmas.{later_same, later_then}
use Rattle.task_executor.specs.Turns.{AreUnfailed}

pub all_same : (drivers : List DriverState) → AreLater drivers drivers
all_same [] = tt
all_same (d ∷ drivers) = (later_same d, all_same drivers)

pub all_then : (ds es cs : List DriverState) → AreUnfailed es → AreLater ds es → AreLater es cs → AreLater ds cs
all_then [] [] [] none first then = tt
all_then [] [] (c ∷ cs) none first then = absurd then
all_then [] (e ∷ es) cs none first then = absurd first
all_then (d ∷ ds) [] cs none first then = absurd first
all_then (d ∷ ds) (e ∷ es) [] none first then = absurd then
all_then (d ∷ ds) (e ∷ es) (c ∷ cs) none first then = (
  later_then d e c (All-head (λ (x : DriverState). x.fault ≡ None) e es none) first.0 then.0,
  all_then ds es cs (All-tail (λ (x : DriverState). x.fault ≡ None) e es none) first.1 then.1,
)
