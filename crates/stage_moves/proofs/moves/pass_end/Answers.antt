use Rattle.std.proofs.Common.{List, sym, ◌∙◌, ap}
use Rattle.stage_moves.proofs.MoveLemmas.{Told-links, Told-turns, Told-made, Told-same}
use Rattle.operator_core.specs.Stages.{giver_finished}
use Rattle.stage_moves.proofs.CountLemmas.{Counted-told}
use Rattle.stage_moves.proofs.PlaceLemmas.{AllStay-same}
use Rattle.stage_moves.proofs.QuietLemmas.{Still-told}
use Rattle.stage_moves.proofs.moves.pass_end.Goals as goal

pub returns-then-is_giver_finished-clause-links : goal.returns-then-is_giver_finished-clause-links
returns-then-is_giver_finished-clause-links g c = λ X Y l. Told-links g.S.Operator c.args.stages.now.items c.args.place c.index_mut.result.now c.tell.new.op
    c.requires c.index_mut.ensures.value c.tell.ensures X Y l

pub returns-then-is_giver_finished-clause-turns : goal.returns-then-is_giver_finished-clause-turns
returns-then-is_giver_finished-clause-turns g c = λ turns. Told-turns g.S.Operator c.args.ended c.args.stages.now.items c.args.place c.index_mut.result.now c.tell.new.op
    c.requires c.index_mut.ensures.value (ap (λ (x : List g.row.S.Denot). giver_finished g.S.Operator c.args.ended x c.args.place) (sym c.deref.ensures.value) ∙ sym c.if-is_giver_finished.ensures) c.tell.ensures turns

pub returns-then-is_giver_finished-clause-made : goal.returns-then-is_giver_finished-clause-made
returns-then-is_giver_finished-clause-made g c = Told-made g.S.Operator c.args.stages.now.items c.args.place c.index_mut.result.now c.tell.new.op
    c.requires c.index_mut.ensures.value c.tell.ensures

pub returns-then-is_giver_finished-clause-counts : goal.returns-then-is_giver_finished-clause-counts
returns-then-is_giver_finished-clause-counts g c = λ X Y. Counted-told g.S.Operator c.args.stages.now.items c.args.place c.index_mut.result.now c.tell.new.op X Y
    c.requires c.index_mut.ensures.value c.tell.ensures

pub returns-then-is_giver_finished-clause-same : goal.returns-then-is_giver_finished-clause-same
returns-then-is_giver_finished-clause-same g c = Told-same g.S.Operator c.args.stages.now.items c.args.place c.index_mut.result.now c.tell.new.op
    c.requires c.index_mut.ensures.value c.tell.ensures

pub returns-else-is_giver_finished-clause-same : goal.returns-else-is_giver_finished-clause-same
returns-else-is_giver_finished-clause-same g c = AllStay-same g.S.Operator c.args.stages.now.items

pub returns-then-is_giver_finished-clause-still : goal.returns-then-is_giver_finished-clause-still
returns-then-is_giver_finished-clause-still g c = λ still. Still-told g.S.Operator c.needs_laws.ensures c.args.stages.now.items c.args.place c.index_mut.result.now c.tell.new.op
    c.requires c.index_mut.ensures.value c.tell.ensures still
