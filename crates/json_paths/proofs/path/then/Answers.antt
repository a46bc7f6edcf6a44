use Rattle.std.proofs.Common.{rules}
use Rattle.json_paths.proofs.path.then.Goals as goal

pub returns : goal.returns
returns c = search rules
