use Rattle.page_processor.proofs.JudgedLemmas.{is_judged}
use Rattle.page_processor.proofs.judged.rows_are_judged_up_to_a_place.Goals as goal

pub returns : goal.returns
returns c = λ judge. is_judged judge c.args.rows.now
