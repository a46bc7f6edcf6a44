use Rattle.std.proofs.Common.{rules}
use Rattle.run_ports.proofs.mem_sink.MemSinkSink.write.Goals as goal

pub returns-then-fails-clause-follows : goal.returns-then-fails-clause-follows
returns-then-fails-clause-follows c = search rules

pub returns-then-fails-clause-cause : goal.returns-then-fails-clause-cause
returns-then-fails-clause-cause c = search rules
