use Rattle.std.proofs.Common.{inr, sym}
use Rattle.plan_docs.specs.Plans.{plan_view}
use Rattle.command_line.specs.Words.{asked}
use Rattle.query_runner.specs.Answers.{heard_on}
use Rattle.query_runner.specs.Lines.{message}
use Rattle.query_runner.proofs.ToldLemmas.{told_ran, told_well}
use Rattle.query_runner.proofs.top.run_job.Goals as goal

pub returns : goal.returns
returns g c = record {
  answer = inr (record {
    plan = plan_view c.in-Ok.plan;
    is_plan = c.in-Ok.ensures.answer;
    answered = c.in-Err-run_plan.ensures.answer (g.F.Files.holds c.args.files.now) (g.F.Files.faults c.args.files.now) c.load_plan.ensures.same c.load_plan.ensures.later;
    told = told_ran (g.F.Files.holds c.args.files.now) (asked c.args.job.now) (plan_view c.in-Ok.plan) (heard_on g.E.Sink c.args.err.now c.tell-in-Err-run_plan.new.err)
        (message (asked c.args.job.now) (plan_view c.in-Ok.plan).tables c.in-Err-run_plan.status) c.in-Err-run_plan.status c.in-Err-run_plan.ensures.refuses
        (rw (sym c.as_slice-in-Err-run_plan.ensures) c.tell-in-Err-run_plan.ensures);
  });
}

pub returns-in-Ok-run_plan : goal.returns-in-Ok-run_plan
returns-in-Ok-run_plan g c = record {
  answer = inr (record {
    plan = plan_view c.in-Ok.plan;
    is_plan = c.in-Ok.ensures.answer;
    answered = c.in-Ok-run_plan.ensures.answer (g.F.Files.holds c.args.files.now) (g.F.Files.faults c.args.files.now) c.load_plan.ensures.same c.load_plan.ensures.later;
    told = told_well (asked c.args.job.now).counts (g.F.Files.holds c.args.files.now) (asked c.args.job.now) (plan_view c.in-Ok.plan)
        (heard_on g.E.Sink c.args.err.now c.tell_asked.new.err) c.in-Ok-run_plan.passed
        (c.in-Ok-run_plan.ensures.counts (g.F.Files.holds c.args.files.now) c.load_plan.ensures.same)
        (rw (sym c.as_slice.ensures) c.tell_asked.ensures);
  });
}
