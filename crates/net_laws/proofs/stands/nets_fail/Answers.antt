use Rattle.net_laws.proofs.EndLemmas.{fails}
use Rattle.sieve_laws.proofs.TypedLemmas.{typed as run_typed}
use Rattle.net_laws.proofs.SieveLemmas.{all_sifted, due, of_join}
use Rattle.net_laws.proofs.stands.nets_fail.Goals as goal

pub returns : goal.returns
returns c = λ net drivers of settled tidy run fits placed reached lone reaches numbered number d there node kind failed.
    let f = c.rows_flowed.ensures net drivers settled in
    let flow = f.0 in
    let flowed = f.1 in
    let root = reached.root in
    fails net drivers of settled flow flowed c.laws.ensures tidy (record {
      tables = λ at pipe is. c.tables_pass.ensures net drivers flow of settled flowed at pipe is;
      rows = λ at pipe is. c.rows_pass.ensures net drivers flow of settled flowed at pipe is;
      sides = λ at pipe is. c.unions_pass.ensures net drivers flow of settled flowed at pipe is;
      roots = λ at pipe is. c.fragments_pass.ensures net drivers flow of settled flowed at pipe is;
    }) (of_join net drivers) (due net drivers of settled flow flowed run reaches) run fits placed reached lone
    (all_sifted net drivers of settled flow flowed run reaches (run_typed run net.tables fits) 1 reached.at root.pipe.drivers root.pipe.source root.pipe.steps root.so)
    node kind numbered number d there failed
