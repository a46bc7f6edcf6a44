use Rattle.std.proofs.Common.{rules}
use Rattle.sql_values.proofs.type_texts.with_parameters.Goals as goal

pub returns : goal.returns
returns c = search rules
