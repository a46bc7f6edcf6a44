use Rattle.sieve_laws.proofs.DropLemmas.{scan_filtered}
use Rattle.sieve_laws.proofs.filters.filtered_scans_stand.Goals as goal

pub returns : goal.returns
returns g c = λ sieves types n w stages came took over ended f hop.
    scan_filtered g.O.Operator c.laws.ensures sieves types n w stages came took over ended f c.args.table.now hop
