use Rattle.std.proofs.Common.{rules}
use Rattle.set_once.proofs.note.SetNote.agree.Goals as goal

pub returns-clause-agree : goal.returns-clause-agree
returns-clause-agree g c = search rules
