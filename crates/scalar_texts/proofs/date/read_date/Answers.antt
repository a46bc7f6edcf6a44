use Rattle.std.proofs.Common.{rules}
use Rattle.scalar_texts.proofs.date.read_date.Goals as goal

pub returns : goal.returns
returns c = search rules
