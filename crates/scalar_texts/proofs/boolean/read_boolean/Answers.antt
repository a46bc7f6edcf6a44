use Rattle.std.proofs.Common.{rules}
use Rattle.scalar_texts.proofs.boolean.read_boolean.Goals as goal

pub returns : goal.returns
returns c = search rules
