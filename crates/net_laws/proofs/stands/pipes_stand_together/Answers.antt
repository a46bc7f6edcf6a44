use Rattle.net_laws.proofs.StandLemmas.{all_stand}
use Rattle.net_laws.proofs.stands.pipes_stand_together.Goals as goal

pub returns : goal.returns
returns c = λ net drivers of settled flow flowed tidy.
    all_stand net drivers of settled flow flowed c.laws.ensures tidy (record {
      tables = λ at pipe is. c.tables_pass.ensures net drivers flow of settled flowed at pipe is;
      rows = λ at pipe is. c.rows_pass.ensures net drivers flow of settled flowed at pipe is;
      sides = λ at pipe is. c.unions_pass.ensures net drivers flow of settled flowed at pipe is;
      roots = λ at pipe is. c.fragments_pass.ensures net drivers flow of settled flowed at pipe is;
    })
