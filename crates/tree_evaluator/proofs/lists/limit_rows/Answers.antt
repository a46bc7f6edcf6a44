use Rattle.std.proofs.Common.{◌∙◌, ap, sym, append_assoc, ◌++◌, take, ◌-◌, length}
use Rattle.col_pages.specs.Pages.{TypedPage}
use Rattle.tree_evaluator.proofs.LeafLemmas.{limit_more}
use Rattle.tree_evaluator.proofs.lists.limit_rows.Goals as goal

pub loop-room-preserved : goal.loop-room-preserved
loop-room-preserved c = record {
  types = c.take_first.ensures.types ∙ c.loop-room.invariant.types;
  kept_types = ap (λ (p : TypedPage). p.types) c.in_ok-room.ensures.kept ∙ c.loop-room.invariant.kept_types;
  rows = c.loop-room.invariant.rows ∙ ap (λ rs. c.loop-room.kept.rows ++ take c.loop-room.room rs) c.in-Some.ensures.rows
      ∙ ap (λ rs. c.loop-room.kept.rows ++ rs) (limit_more c.loop-room.room c.in-Some.page.rows c.take_first.new.self.rows)
      ∙ sym (append_assoc c.loop-room.kept.rows (take c.loop-room.room c.in-Some.page.rows) (take (c.loop-room.room - length c.in-Some.page.rows) c.take_first.new.self.rows))
      ∙ ap (λ (p : TypedPage). p.rows ++ take (c.loop-room.room - length c.in-Some.page.rows) c.take_first.new.self.rows) (sym c.in_ok-room.ensures.kept)
      ∙ ap (λ n. c.push_first.new.kept.rows ++ take n c.take_first.new.self.rows) (sym c.in_ok-room.ensures.room);
}
