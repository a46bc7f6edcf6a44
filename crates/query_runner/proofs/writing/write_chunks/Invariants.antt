use Rattle.std.proofs.Common.{◌≤◌, take}
use Rattle.std.specs.Io.KnownBytes.{Appends}
use Rattle.table_parts.specs.Printing.{whole_text}
use Rattle.query_runner.proofs.writing.write_chunks.Given as goal

-- the chunks so far are written
abbrev pub invariant-loop-chunk : goal.invariant-loop-chunk
invariant-loop-chunk g l =
    Appends (g.O.Sink.written l.initial.out) (g.O.Sink.written l.out) (whole_text (take l.chunk-index l.chunks))
    × (g.O.Sink.faults l.initial.out ≤ g.O.Sink.faults l.out)
