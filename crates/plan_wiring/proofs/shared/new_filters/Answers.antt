use Rattle.std.proofs.Common.{rules, ◌≡◌, ◌∙◌}
use Rattle.std.specs.Prelude.{max}
use Rattle.dyn_filter.specs.Cells.{CellState}
use Rattle.plan_wiring.specs.Wirings.{parts_of}
use Rattle.plan_wiring.proofs.BellLemmas.{bell_more, one_more}
use Rattle.plan_wiring.proofs.shared.new_filters.Goals as goal

pub loop-filter-preserved : goal.loop-filter-preserved
loop-filter-preserved c =
    let parts : parts_of c.in_ok-new.field-0 ≡ max c.args.tasks 1 = search rules in (
      one_more parts_of (max c.args.tasks 1) c.loop-filter._filter c.loop-filter.cells.items c.push.new.self.items c.in_ok-new.field-0 c.in_ok-push.ensures.items c.loop-filter.invariant.0 parts,
      bell_more (λ (cell : CellState). cell.bell) c.args.bells.now.next c.loop-filter.bells.next c.take.new.self.next c.loop-filter.cells.items c.push.new.self.items c.in_ok-new.field-0
          c.in_ok-push.ensures.items c.loop-filter.invariant.1 (c.in_ok-new.ensures.bell ∙ c.in_ok-bell.ensures.bell) c.in_ok-bell.ensures.next,
    )
