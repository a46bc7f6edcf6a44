use Rattle.std.proofs.Common.{◌≡◌, drop}
use Rattle.run_ports.specs.MemFiles.{held_in}
use Rattle.run_ports.proofs.mem_files.held.Given as goal

abbrev pub invariant-loop-file : goal.invariant-loop-file
invariant-loop-file l = held_in l.files l.name ≡ held_in (drop l.file-index l.files) l.name
