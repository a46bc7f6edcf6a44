use Rattle.std.proofs.Common.{◌≡◌, ◌+◌, ◌<◌, ◌≤◌, ◌++◌, All, length, flat_map}
use Rattle.std.specs.Vec.{vec_capacity}
use Rattle.std.specs.Vec.Iter.{into_iter_items}
use Rattle.driver_loop.specs.Turns.{HaveSameRoom, KnowsParts, filter_note_of_stage, note_of_stage, passed_of_stage}
use Rattle.driver_loop.proofs.notes.put_notes.Given as goal

-- what was put so far, with what the stages that are left have, is all of it, and there is room for these
abbrev pub invariant-loop-stage : goal.invariant-loop-stage
invariant-loop-stage l = record {
  same : HaveSameRoom l.fn.lists l.lists;
  knows : All KnowsParts (into_iter_items l.stage-iterator) → All KnowsParts l.fn.stages.items;
  lookups_room : length l.fn.lists.lookups.items + length l.fn.stages.items < vec_capacity l.fn.lists.lookups
      → length l.lists.lookups.items + length (into_iter_items l.stage-iterator) < vec_capacity l.lists.lookups;
  lookups : length l.fn.lists.lookups.items + length l.fn.stages.items < vec_capacity l.fn.lists.lookups
      → l.lists.lookups.items ++ flat_map note_of_stage (into_iter_items l.stage-iterator) ≡ l.fn.lists.lookups.items ++ flat_map note_of_stage l.fn.stages.items;
  filters_room : length l.fn.lists.filters.items + length l.fn.stages.items ≤ vec_capacity l.fn.lists.filters
      → length l.lists.filters.items + length (into_iter_items l.stage-iterator) ≤ vec_capacity l.lists.filters;
  filters : length l.fn.lists.filters.items + length l.fn.stages.items ≤ vec_capacity l.fn.lists.filters
      → l.lists.filters.items ++ flat_map filter_note_of_stage (into_iter_items l.stage-iterator) ≡ l.fn.lists.filters.items ++ flat_map filter_note_of_stage l.fn.stages.items;
  passed_room : length l.fn.lists.passed.items + length l.fn.stages.items ≤ vec_capacity l.fn.lists.passed
      → length l.lists.passed.items + length (into_iter_items l.stage-iterator) ≤ vec_capacity l.lists.passed;
  passed : length l.fn.lists.passed.items + length l.fn.stages.items ≤ vec_capacity l.fn.lists.passed
      → l.lists.passed.items ++ flat_map passed_of_stage (into_iter_items l.stage-iterator) ≡ l.fn.lists.passed.items ++ flat_map passed_of_stage l.fn.stages.items;
}
