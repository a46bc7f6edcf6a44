use Rattle.sql_values.proofs.FitLemmas.{cells_fit}
use Rattle.sql_values.proofs.plain_block.PlainBlock.cells_fit.Goals as goal

pub returns : goal.returns
returns c = cells_fit c.self.inside.held c.args.self.now c.self.view_is
