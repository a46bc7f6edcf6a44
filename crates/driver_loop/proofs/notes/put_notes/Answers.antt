use Rattle.std.proofs.Common.{◌≡◌, ◌∷◌, ◌∙◌, List, All, arith, rules, subst, sym}
use Rattle.std.proofs.lemmas.List.Elements.{All-cons}
use Rattle.std.specs.Vec.Iter.{into_iter_items}
use Rattle.driver_loop.specs.declared.stage.Stage.{Stage}
use Rattle.driver_loop.specs.Turns.{KnowsParts, filter_note_of_stage, note_of_stage, passed_of_stage}
use Rattle.driver_loop.proofs.NoteLemmas.{one_count, one_filter_note, one_note, put_items, put_less, put_room, some_left}
use Rattle.driver_loop.proofs.notes.put_notes.Goals as goal

pub loop-stage-preserved : goal.loop-stage-preserved
loop-stage-preserved c =
    let i = c.loop-stage.invariant in
    let put = c.put_notes_of.ensures in
    let left : into_iter_items c.loop-stage.stage-iterator ≡ c.in-Some.stage ∷ into_iter_items c.next.new.self = search rules in
    record {
      same = record {
        lookups = put.room.lookups ∙ i.same.lookups;
        filters = put.room.filters ∙ i.same.filters;
        passed = put.room.passed ∙ i.same.passed;
      };
      knows = λ rest. i.knows (subst (λ (ss : List Stage). All KnowsParts ss) (sym left) (All-cons KnowsParts c.in-Some.stage _ put.knows rest));
      lookups_room = λ room. put_less note_of_stage one_note _ _ _ _ _ _ _ left put.lookups put.room.lookups (i.lookups_room room);
      lookups = λ room. put_items note_of_stage one_note _ _ _ _ _ _ _ left put.lookups put.room.lookups _ (omega (arith, i.lookups_room room)) (i.lookups room);
      filters_room = λ room. put_room filter_note_of_stage one_filter_note _ _ _ _ _ _ _ left put.filters put.room.filters (i.filters_room room);
      filters = λ room. put_items filter_note_of_stage one_filter_note _ _ _ _ _ _ _ left put.filters put.room.filters _
          (some_left filter_note_of_stage one_filter_note _ _ _ _ _ _ _ left put.filters put.room.filters (i.filters_room room)) (i.filters room);
      passed_room = λ room. put_room passed_of_stage one_count _ _ _ _ _ _ _ left put.passed put.room.passed (i.passed_room room);
      passed = λ room. put_items passed_of_stage one_count _ _ _ _ _ _ _ left put.passed put.room.passed _
          (some_left passed_of_stage one_count _ _ _ _ _ _ _ left put.passed put.room.passed (i.passed_room room)) (i.passed room);
    }
