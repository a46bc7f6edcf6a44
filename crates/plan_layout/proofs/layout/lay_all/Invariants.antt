use Rattle.std.proofs.Common.{◌≡◌, drop, map}
use Rattle.plan_docs.specs.Plans.{fragment_view}
use Rattle.plan_layout.specs.Layouts.{laid}
use Rattle.plan_layout.specs.Pipes.{pipe_view}
use Rattle.plan_layout.proofs.layout.lay_all.Given as goal

abbrev pub invariant-loop-fragment : goal.invariant-loop-fragment
invariant-loop-fragment l =
    laid l.parallelism (map fragment_view l.fragments) 0 (map pipe_view l.fn.pipes.items) (map fragment_view l.fragments)
    ≡ laid l.parallelism (map fragment_view l.fragments) l.number (map pipe_view l.pipes.items)
    (map fragment_view (drop l.fragment-index l.fragments))
