use Rattle.std.proofs.Common.{◌≡◌, ℕ, ◌<◌, Some, get_or, subst, sym}
use Rattle.plan_trees.specs.Allowed.{width_of}
use Rattle.column_origins.specs.declared.origin.Origin.{Origin}
use Rattle.column_origins.specs.Origins.{origin_of}
use Rattle.plan_run_laws.specs.RunPlans.{tree_of_run}
use Rattle.net_laws.proofs.joins.named_scans_are_reached.Goals as goal

pub returns : goal.returns
returns c = λ run id on f r own filters are known here same domain told sieves.
    let o : Origin = record { scan = f.scan; column = f.column } in
    let width = width_of (tree_of_run r.side) in
    let within = subst (λ (place : ℕ). (get_or on place (0, 0)).0 < width) (sym same) r.within in
    let comes = subst (λ (place : ℕ). origin_of (tree_of_run r.side) (get_or on place (0, 0)).0 ≡ Some o) (sym same) r.comes in
    c.known_domains_arrive.ensures own id on filters are known here domain told r.side within o comes run sieves r.has
