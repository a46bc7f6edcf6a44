use Rattle.std.proofs.Common.{ℕ, List, Option, Some, None, subst}
use Rattle.command_line.specs.Words.{asked}
use Rattle.query_runner.specs.Answers.{JobAnswered, heard_on}
use Rattle.query_runner.proofs.top.run_demo.Goals as goal

pub returns : goal.returns
returns g c = record {
  answer = subst (λ (held : List ℕ → Option (List ℕ)). JobAnswered (asked c.args.job.now)
      (record {
        held = Some held;
        read_faults_before = 0;
        read_faults_after = 0;
        refused = None;
        written_before = g.O.Sink.written c.args.out.now;
        written_after = g.O.Sink.written c.run_job.new.out;
        write_faults_before = g.O.Sink.faults c.args.out.now;
        write_faults_after = g.O.Sink.faults c.run_job.new.out;
      })
      (heard_on g.E.Sink c.args.err.now c.run_job.new.err)
      c.run_job.result) c.in-Ok.ensures c.run_job.ensures.answer;
}
