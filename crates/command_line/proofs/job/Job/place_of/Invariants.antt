use Rattle.std.proofs.Common.{◌≡◌, map, drop}
use Rattle.std.specs.List.{position_from}
use Rattle.command_line.specs.Words.{is_named, told_file}
use Rattle.command_line.proofs.job.Job.place_of.Given as goal

abbrev pub invariant-loop-place : goal.invariant-loop-place
invariant-loop-place l =
    position_from (is_named l.name) 0 (map told_file l.files) ≡ position_from (is_named l.name) l.place (map told_file (drop l.place l.files))
