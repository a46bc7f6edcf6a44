use Rattle.std.proofs.Common.{ℕ, [], arith, subst}
use Rattle.plan_trees.specs.Allowed.{strict}
use Rattle.plan_run_laws.specs.Nets.{Went, of_tasks}
use Rattle.plan_run_laws.proofs.ComposeLemmas.{composed}
use Rattle.lost_row_laws.specs.Nets.{BelowLosing}
use Rattle.lost_row_laws.proofs.RestoreLemmas.{put_back}
use Rattle.lost_row_laws.proofs.WireLemmas.{wired}
use Rattle.sieve_laws.proofs.OverLemmas.{gave_root}
use Rattle.sieve_laws.proofs.laws.pipes_that_lost_rows_give.Goals as goal

pub returns : goal.returns
returns g c = λ run typed fits placed pipes own root is one stands over.
    let tables = c.args.tables.now in
    let gave = gave_root g.O.Operator c.laws.ensures pipes own tables over root run is stands in
    let took = (pipes root).took in
    let below = subst (λ (w : ℕ). BelowLosing strict tables [] 1 w run gave.builds took) one gave.below in
    let went = subst (λ (w : ℕ). Went strict 1 w run gave.builds took (pipes root).gave) one gave.went in
    composed strict tables (omega arith) fits placed (of_tasks 1 (pipes root).gave)
    (put_back strict tables 1 run typed (of_tasks 1 (pipes root).gave) (wired strict tables [] 1 1 run gave.builds took (pipes root).gave below went))
