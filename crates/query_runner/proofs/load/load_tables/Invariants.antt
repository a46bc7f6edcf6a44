use Rattle.std.proofs.Common.{◌≡◌, ◌≤◌, map, take}
use Rattle.command_line.specs.Words.{asked}
use Rattle.query_runner.specs.Jobs.{AreTablesAsked}
use Rattle.tree_evaluator.specs.Stops.{rows_of_table}
use Rattle.task_executor.specs.Tables.{HaveColumns}
use Rattle.task_executor.specs.Shapes.{AreFew}
use Rattle.tree_evaluator.specs.Fits.{TablesFit}
use Rattle.query_runner.proofs.load.load_tables.Given as goal

abbrev pub invariant-loop-place : goal.invariant-loop-place
invariant-loop-place g l =
    AreTablesAsked (g.F.Files.holds l.initial.files) (asked l.job) (take l.place l.docs) (map rows_of_table l.tables.items)
    × (g.F.Files.holds l.files ≡ g.F.Files.holds l.initial.files)
    × (g.F.Files.faults l.initial.files ≤ g.F.Files.faults l.files)
    × HaveColumns (take l.place l.docs) l.tables.items
    × TablesFit l.tables.items
    × AreFew l.tables.items
