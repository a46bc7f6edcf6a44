use Rattle.std.proofs.Common.{◌∙◌, ℕ, ap, map, refl, sym}
use Rattle.std.specs.List.{range_with_len}
use Rattle.driver_ends.specs.Targets.{TargetState}
use Rattle.source_laws.specs.Edges.{output_of}
use Rattle.pipe_stages.specs.Nets.{tasks_at}
use Rattle.seat_stocks.specs.Lanes.{lane_at}
use Rattle.net_parts.proofs.PutLemmas.{put_edges, put_new, same_edges}
use Rattle.net_parts.proofs.target.readers_target.Goals as goal

pub returns-clause-fresh : goal.returns-clause-fresh
returns-clause-fresh c = put_new c.in_ok-new.field-0 c.in_ok-kind.kind c.in_ok-seats.seats.items c.in_ok-new.ensures.new c.in_ok-seats.ensures.fresh

pub returns-clause-is : goal.returns-clause-is
returns-clause-is c = λ own task labels labelled net for.
    let m = c.args.making.now in
    let at = c.args.at in
    let firsts = m.lanes.now.gathers.items in
    let tasks = c.tasks_at-tasks.ensures ∙ ap (λ layout. tasks_at layout at) (sym for.layout) in
    record {
      put = c.in_ok-new.field-0;
      is = refl;
      sends = ap (λ (t : TargetState). output_of t.kind) c.in_ok-new.ensures.new ∙ c.in_ok-kind.ensures.sends;
      of = put_edges c.in_ok-new.field-0 c.in_ok-kind.kind c.in_ok-seats.seats.items c.in_ok-new.ensures.new
          ∙ c.in_ok-seats.ensures.edges labels labelled
          ∙ ap (λ (n : ℕ). map (λ task. labels.gathers (lane_at firsts at task)) (range_with_len 0 n)) tasks
          ∙ sym (same_edges (net.links.gathers at) (λ task. labels.gathers (lane_at firsts at task)) (range_with_len 0 (tasks_at net.layout at)) (for.gathers at));
    }
