use Rattle.std.proofs.Common.{◌≡◌, map, Some, take, drop, is_none}
use Rattle.std.specs.List.{position_from}
use Rattle.command_line.specs.Words.{asked, asked_file, file_of}
use Rattle.query_runner.specs.Jobs.{first_without_file}
use Rattle.query_runner.proofs.load.files_of.Given as goal

abbrev pub invariant-loop-table : goal.invariant-loop-table
invariant-loop-table l =
    (map (λ file. Some (asked_file file)) l.found.items ≡ map (λ doc. file_of doc.name (asked l.job).files) (take l.table l.docs))
    × (first_without_file (asked l.job) l.docs ≡ position_from (λ doc. is_none (file_of doc.name (asked l.job).files)) l.table (drop l.table l.docs))
