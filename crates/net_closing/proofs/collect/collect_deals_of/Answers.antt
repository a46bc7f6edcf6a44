use Rattle.std.proofs.Common.{◌≡◌, ◌++◌, sym, subst, append-nil}
use Rattle.driver_net_laws.specs.Settled.{deals_from}
use Rattle.plan_layout.specs.Pipes.{pipe_view, target_view}
use Rattle.plan_layout.specs.declared.pipe.PipeTarget.{PipeTarget}
use Rattle.net_closing.specs.Back.{FetchesInTask}
use Rattle.net_closing.proofs.collect.collect_deals_of.Goals as goal

pub returns-in-Result : goal.returns-in-Result
returns-in-Result c = record {
  rest = record { each = λ number place seat is. is };
  task = subst (λ (t : PipeTarget). FetchesInTask c.args.at c.args.task (pipe_view c.args.pipe.now) (target_view t)) (sym c.in-Result.is) tt;
  seats = λ drivers left. subst (λ (t : PipeTarget). c.args.seats.now.items ≡ c.args.seats.now.items ++ deals_from drivers c.args.at c.args.task (pipe_view c.args.pipe.now) (target_view t)) (sym c.in-Result.is)
      (sym (append-nil c.args.seats.now.items));
}

pub returns-in-Cell : goal.returns-in-Cell
returns-in-Cell c = record {
  rest = record { each = λ number place seat is. is };
  task = subst (λ (t : PipeTarget). FetchesInTask c.args.at c.args.task (pipe_view c.args.pipe.now) (target_view t)) (sym c.in-Cell.is) tt;
  seats = λ drivers left. subst (λ (t : PipeTarget). c.args.seats.now.items ≡ c.args.seats.now.items ++ deals_from drivers c.args.at c.args.task (pipe_view c.args.pipe.now) (target_view t)) (sym c.in-Cell.is)
      (sym (append-nil c.args.seats.now.items));
}

pub returns-in-Side : goal.returns-in-Side
returns-in-Side c = record {
  rest = record { each = λ number place seat is. is };
  task = subst (λ (t : PipeTarget). FetchesInTask c.args.at c.args.task (pipe_view c.args.pipe.now) (target_view t)) (sym c.in-Side.is) tt;
  seats = λ drivers left. subst (λ (t : PipeTarget). c.args.seats.now.items ≡ c.args.seats.now.items ++ deals_from drivers c.args.at c.args.task (pipe_view c.args.pipe.now) (target_view t)) (sym c.in-Side.is)
      (sym (append-nil c.args.seats.now.items));
}

pub returns-in-Readers : goal.returns-in-Readers
returns-in-Readers c = record {
  rest = record { each = λ number place seat is. is };
  task = subst (λ (t : PipeTarget). FetchesInTask c.args.at c.args.task (pipe_view c.args.pipe.now) (target_view t)) (sym c.in-Readers.is) tt;
  seats = λ drivers left. subst (λ (t : PipeTarget). c.args.seats.now.items ≡ c.args.seats.now.items ++ deals_from drivers c.args.at c.args.task (pipe_view c.args.pipe.now) (target_view t)) (sym c.in-Readers.is)
      (sym (append-nil c.args.seats.now.items));
}
