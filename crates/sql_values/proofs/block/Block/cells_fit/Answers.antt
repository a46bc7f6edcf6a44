use Rattle.std.proofs.Common.{ℕ, ap, sym, ◌∙◌}
use Rattle.std.specs.Prelude.{replicate}
use Rattle.sql_values.specs.Shared.{shown}
use Rattle.sql_values.proofs.FitLemmas.{chosen_fit}
use Rattle.sql_values.proofs.block.Block.cells_fit.Goals as goal

pub returns-in-Run : goal.returns-in-Run
returns-in-Run c =
    chosen_fit c.in-Run.one c.args.self.now (replicate {A = ℕ} c.in-Run.count 0) (sym (ap shown c.in-Run.is) ∙ c.self.view_is) c.cells_fit-in-Run.ensures

pub returns-in-Dictionary : goal.returns-in-Dictionary
returns-in-Dictionary c =
    chosen_fit c.in-Dictionary.entries c.args.self.now c.in-Dictionary.ids.items (sym (ap shown c.in-Dictionary.is) ∙ c.self.view_is)
    (rw c.entries.ensures at c.cells_fit-in-Dictionary.ensures)
