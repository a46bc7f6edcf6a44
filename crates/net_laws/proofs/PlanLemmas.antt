-- The pipe that gives the result is the one that runs the whole plan.
use Rattle.std.proofs.Common.{◌≡◌, ℕ, List, Some, subst, sym}
use Rattle.std.specs.Prelude.{slice_get}
use Rattle.plan_run_laws.specs.Nets.{IsAlone}
use Rattle.plan_run_laws.specs.RunPlans.{RunPlan}
use Rattle.plan_layout.specs.Pipes.{PipeForm}
use Rattle.net_laws.specs.Reached.{AreReached}
use Rattle.net_laws.specs.Roots.{IsLoneRoot}

pub root_is : (layout : List PipeForm) (run : RunPlan) (reached : AreReached layout run) (pipe : PipeForm) → IsLoneRoot layout pipe → reached.root.pipe ≡ pipe
root_is layout run reached pipe root =
    let same = root.only reached.at reached.root.pipe reached.root.is reached.root.has in
    let here = subst (λ (i : ℕ). slice_get layout i ≡ Some reached.root.pipe) same reached.root.is in
    let there = root.is in
    cc (here, there)

pub root_lone : (layout : List PipeForm) (run : RunPlan) (reached : AreReached layout run) (pipe : PipeForm) → IsLoneRoot layout pipe → IsAlone reached.root.pipe.drivers
root_lone layout run reached pipe root = subst (λ (p : PipeForm). IsAlone p.drivers) (sym (root_is layout run reached pipe root)) root.lone
