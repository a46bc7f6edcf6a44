use Rattle.query_runner.specs.Lines.{count_lines}
use Rattle.query_runner.proofs.AppendLemmas.{begun, if_none_failed}
use Rattle.query_runner.proofs.counts.tell_counts.Goals as goal

pub returns : goal.returns
returns g c = record {
  whole = if_none_failed c.write_counts.result c.write_counts.ensures.ok c.write_counts.ensures.cause;
  begun = begun (g.E.Sink.written c.args.err.now) (g.E.Sink.written c.write_counts.new.err) (count_lines c.args.passed.now) c.write_counts.result c.write_counts.ensures.ok c.write_counts.ensures.begins;
}
