-- A driver of its parts.
use Rattle.std.proofs.Common.{◌≡◌, ℕ, List, Result, Ok, Err, IfOk, OnOk, ap, sym, subst, ◌∙◌, None, false}
use Rattle.net_parts.specs.Drivers.{DriverState}
use Rattle.net_parts.specs.Sources.{Source}
use Rattle.net_parts.specs.Stage.{Stage}
use Rattle.net_parts.specs.Target.{Target}
use Rattle.net_parts.specs.Filters.{scan_filters}
use Rattle.net_parts.specs.Pipes.{PipeForm, driver_number}
use Rattle.net_parts.specs.Nets.{IsDriverOf, IsSourceFor, IsTargetFor}
use Rattle.net_parts.specs.Makings.{AreStagesOf, InNets}
use Rattle.net_parts.specs.declared.making.Making.{Making}
use Rattle.net_parts.specs.Stocks.{AreLeft, StockForm}
use Rattle.net_making.specs.Slots.{IsNew}

abbrev pub driver_made : ℕ → Source → List Stage → Target → DriverState
driver_made number source stages target = record { number = number; source = source; stages = stages; target = target; work = 0; is_finished = false; fault = None }

pub made_new : {E : Type 0} (r : Result DriverState E) (number : ℕ) (source : Source) (stages : List Stage) (target : Target) → IfOk r (λ (d : DriverState). d ≡ driver_made number source stages target)
    → IfOk r IsNew
made_new (Ok d) number source stages target is = record { going = ap (λ (d : DriverState). d.is_finished) is; unfailed = ap (λ (d : DriverState). d.fault) is }
made_new (Err e) number source stages target is = tt

pub ok_left : {A E : Type 0} (r : Result A E) (old new : StockForm) → AreLeft old new → OnOk r (AreLeft old new)
ok_left (Ok a) old new left = left
ok_left (Err e) old new left = tt

module _ (m : Making) (stock : StockForm) (own task : ℕ) (pipe : PipeForm) where
  pub made_for : {E : Type 0} (r : Result DriverState E) (number : ℕ) (source : Source) (stages : List Stage) (target : Target) → IfOk r (λ (d : DriverState). d ≡ driver_made number source stages target)
      → InNets m stock (λ net. IsSourceFor net own task pipe.source source)
      → InNets m stock (λ net. AreStagesOf net own task (scan_filters net.layout pipe) pipe.steps stages)
      → InNets m stock (λ net. IsTargetFor net own task pipe.target target)
      → IfOk r (λ (d : DriverState). (lane : ℕ) → number ≡ driver_number pipe task lane → InNets m stock (λ net. IsDriverOf net own pipe task lane d))
  made_for (Ok d) number source stages target is takes runs gives = λ lane numbered labels labelled net for.
      let same : stages ≡ d.stages = sym (ap (λ (d : DriverState). d.stages) is) in
      let own_stages = subst (AreStagesOf net own task (scan_filters net.layout pipe) pipe.steps) same (runs labels labelled net for) in
      record {
        number = ap (λ (d : DriverState). d.number) is ∙ numbered;
        source = subst (IsSourceFor net own task pipe.source) (sym (ap (λ (d : DriverState). d.source) is)) (takes labels labelled net for);
        front = own_stages.front;
        stages = own_stages.behind;
        target = subst (IsTargetFor net own task pipe.target) (sym (ap (λ (d : DriverState). d.target) is)) (gives labels labelled net for);
      }
  made_for (Err e) number source stages target is takes runs gives = tt
