use Rattle.std.proofs.Common.{ℕ, [], arith, subst}
use Rattle.pipe_laws.specs.Lanes.{notes_of_lanes}
use Rattle.lost_row_laws.specs.Faults.{FailedLosing}
use Rattle.lost_row_laws.proofs.FailedLemmas.{failed}
use Rattle.sieve_laws.proofs.FailLemmas.{failed_in}
use Rattle.sieve_laws.proofs.laws.pipes_that_lost_rows_fail.Goals as goal

pub returns : goal.returns
returns g c = λ run typed fits placed pipes own root is one stands node kind place fails reached.
    let tables = c.args.tables.now in
    let notes = notes_of_lanes run (pipes root).notes in
    let all = failed_in g.O.Operator c.laws.ensures pipes own tables node kind place fails [] root 1 run is stands reached in
    failed tables node kind (omega arith) typed fits placed 1 notes (pipes root).took (pipes root).ended
    (subst (λ (w : ℕ). FailedLosing tables 1 w run notes (pipes root).took (pipes root).ended node kind) one all)
