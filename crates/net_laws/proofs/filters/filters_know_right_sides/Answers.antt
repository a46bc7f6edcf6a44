use Rattle.net_laws.proofs.SieveLemmas.{filter_knows_right}
use Rattle.net_laws.proofs.filters.filters_know_right_sides.Goals as goal

pub returns : goal.returns
returns c = λ net drivers of settled flow flowed run reaches f build n right p placed types d at_driver s there is op own domain known.
    filter_knows_right net drivers of settled flow flowed run reaches types f (record {
      build = build;
      builds = record { pipe = p.pipe; is = p.is; gives = p.has };
      there = placed;
    }) d at_driver s there is n right p op own domain known
