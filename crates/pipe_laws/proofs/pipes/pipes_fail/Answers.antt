use Rattle.std.proofs.Common.{ℕ, arith, subst}
use Rattle.plan_run_laws.specs.Faults.{Failed}
use Rattle.plan_run_laws.proofs.FailedLemmas.{failed}
use Rattle.pipe_laws.specs.Lanes.{notes_of_lanes}
use Rattle.pipe_laws.proofs.FailLemmas.{failed_in}
use Rattle.pipe_laws.proofs.pipes.pipes_fail.Goals as goal

pub returns : goal.returns
returns g c = λ run fits placed pipes root is one stands node kind place fails reached.
    let tables = c.args.tables.now in
    let notes = notes_of_lanes run (pipes root).notes in
    let all = failed_in g.O.Operator c.laws.ensures pipes tables node kind place fails root 1 run is stands reached in
    failed tables node kind (omega arith) fits placed 1 notes (pipes root).took (pipes root).ended
    (subst (λ (w : ℕ). Failed tables 1 w run notes (pipes root).took (pipes root).ended node kind) one all)
