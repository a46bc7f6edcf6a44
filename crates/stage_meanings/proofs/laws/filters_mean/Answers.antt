use Rattle.stage_meanings.proofs.RowLemmas.{filter_means}
use Rattle.stage_meanings.proofs.laws.filters_mean.Goals as goal

pub returns : goal.returns
returns g c = λ m node types predicate judges. filter_means g.O.Operator m node types predicate judges
