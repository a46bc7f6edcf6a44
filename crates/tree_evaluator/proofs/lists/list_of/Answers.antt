use Rattle.std.proofs.Common.{◌∙◌}
use Rattle.tree_evaluator.proofs.ListLemmas.{holds_more}
use Rattle.tree_evaluator.proofs.lists.list_of.Goals as goal

pub loop-page-preserved : goal.loop-page-preserved
loop-page-preserved c = record {
  types = c.take_first-in-loop-page.ensures.types ∙ c.loop-page.invariant.types;
  blocks =
      holds_more c.args.rows.types c.args.rows.rows c.in-Some-take_first.page.rows c.loop-page.rows.rows c.take_first-in-loop-page.new.self.rows
      c.loop-page.blocks.items c.into_blocks.result.items c.append_each.new.blocks.items c.loop-page.invariant.blocks
      (c.into_blocks.ensures.kinds ∙ c.in-Some-take_first.ensures.page.0 ∙ c.loop-page.invariant.types)
      c.into_blocks.ensures.level c.into_blocks.ensures.rows c.in-Some-take_first.ensures.rows c.in_ok-append_each.ensures;
}
