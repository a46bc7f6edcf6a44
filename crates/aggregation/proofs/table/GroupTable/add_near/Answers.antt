use Rattle.std.proofs.Common.{[], ◌∷◌, ap, length, subst}
use Rattle.std.proofs.lemmas.List.{length-map}
use Rattle.sql_values.specs.Cells.{cell, cut}
use Rattle.relation_laws.specs.Partials.{partial_of}
use Rattle.aggregation.specs.Held.{AreHeld}
use Rattle.aggregation.specs.Tables.{TableState}
use Rattle.aggregation.proofs.NearLemmas.{opened-kept}
use Rattle.aggregation.proofs.TableLemmas.{part-added}
use Rattle.aggregation.proofs.table.GroupTable.add_near.Goals as goal

pub returns-clause-ok : goal.returns-clause-ok
returns-clause-ok g c =
    let old = c.args.self.now in
    let row = g.C.Cells.values c.args.cells.now in
    part-added old c.open_near.new.self c.add_at.new.self (cut old.columns row) (λ (t : TableState). partial_of t.calls (row ∷ [])) c.in_ok-place.place c.add_at.result
    c.in_ok-place.ensures.same c.in_ok-place.ensures.ok c.in_ok-place.ensures.place (length-map old.columns (cell row))
    (subst (λ (t : TableState). AreHeld (length t.columns) t.calls t.keys t.partials) c.self.view_is c.self.invariant.held)
    (ap (λ (t : TableState). partial_of t.calls (row ∷ [])) c.in_ok-place.ensures.same) c.add_at.ensures.ok

pub returns-clause-kept : goal.returns-clause-kept
returns-clause-kept g c =
    opened-kept c.args.self.now c.open_near.new.self c.add_at.new.self (cut c.args.self.now.columns (g.C.Cells.values c.args.cells.now)) c.add_at.result
    c.in_ok-place.ensures.ok (ap (λ (t : TableState). t.keys) c.add_at.ensures.same)
