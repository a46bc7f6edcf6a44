use Rattle.std.proofs.Common.{arith, subst}
use Rattle.std.specs.Io.KnownBytes.{Appends}
use Rattle.run_ports.specs.Writing.{AppendsPrefix}
use Rattle.query_runner.proofs.AppendLemmas.{on_err}
use Rattle.query_runner.proofs.WritingLemmas.{chunk_begun, chunk_written}
use Rattle.query_runner.proofs.writing.write_chunks.Goals as goal

pub returns-in_err-write_whole-clause-prefix : goal.returns-in_err-write_whole-clause-prefix
returns-in_err-write_whole-clause-prefix g c =
    let now = g.O.Sink.written c.loop-chunk.out in
    let new = g.O.Sink.written c.write_whole.new.sink in
    on_err c.from_residual.result
    (chunk_begun (g.O.Sink.written c.args.out.now) now new c.args.chunks.now c.loop-chunk.chunk-index c.chunk-item.result c.loop-chunk-test.true c.chunk-item.is
    c.loop-chunk.invariant.0 (subst (AppendsPrefix now new) c.as_slice.ensures.value c.in_err-write_whole.ensures.prefix))

pub loop-chunk-preserved : goal.loop-chunk-preserved
loop-chunk-preserved g c =
    let now = g.O.Sink.written c.loop-chunk.out in
    let new = g.O.Sink.written c.write_whole.new.sink in (
      chunk_written (g.O.Sink.written c.args.out.now) now new c.args.chunks.now c.loop-chunk.chunk-index c.chunk-item.result c.loop-chunk-test.true c.chunk-item.is
          c.loop-chunk.invariant.0 (subst (Appends now new) c.as_slice.ensures.value c.in_ok-write_whole.ensures.ok),
      omega (arith, c.loop-chunk.invariant.1, c.in_ok-write_whole.ensures.later),
    )
