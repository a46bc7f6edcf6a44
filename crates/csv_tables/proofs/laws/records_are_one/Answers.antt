use Rattle.csv.specs.Reading.{default_config, strip_bom}
use Rattle.csv.specs.declared.parser.State.TheVariants as st
use Rattle.csv_tables.proofs.RecordsLemmas.{all_left}
use Rattle.csv_tables.proofs.laws.records_are_one.Goals as goal

pub returns : goal.returns
returns c = all_left default_config st.StartRecord (strip_bom c.args.text.now)
