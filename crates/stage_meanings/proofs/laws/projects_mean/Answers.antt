use Rattle.stage_meanings.proofs.RowLemmas.{project_means}
use Rattle.stage_meanings.proofs.laws.projects_mean.Goals as goal

pub returns : goal.returns
returns g c = λ m node types columns typed judges. project_means g.O.Operator m node types columns typed judges
