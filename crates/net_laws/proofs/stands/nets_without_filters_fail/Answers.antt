use Rattle.net_laws.proofs.EndLemmas.{fails_plainly}
use Rattle.sieve_laws.proofs.TypedLemmas.{typed as run_typed}
use Rattle.net_laws.proofs.SieveLemmas.{all_sifted, due, of_join}
use Rattle.net_laws.proofs.stands.nets_without_filters_fail.Goals as goal

pub returns : goal.returns
returns c = λ net drivers of settled tidy run fits placed reached lone reaches at pipe is plain task lane in_tasks in_lanes d there node kind failed.
    let f = c.rows_flowed.ensures net drivers settled in
    let flow = f.0 in
    let flowed = f.1 in
    let root = reached.root in
    fails_plainly net drivers of settled flow flowed c.laws.ensures tidy (record {
      tables = λ place own here. c.tables_pass.ensures net drivers flow of settled flowed place own here;
      rows = λ place own here. c.rows_pass.ensures net drivers flow of settled flowed place own here;
      sides = λ place own here. c.unions_pass.ensures net drivers flow of settled flowed place own here;
      roots = λ place own here. c.fragments_pass.ensures net drivers flow of settled flowed place own here;
    }) (of_join net drivers) (due net drivers of settled flow flowed run reaches) run fits placed reached lone
    (all_sifted net drivers of settled flow flowed run reaches (run_typed run net.tables fits) 1 reached.at root.pipe.drivers root.pipe.source root.pipe.steps root.so)
    node kind at pipe is plain task lane in_tasks in_lanes d there failed
