use Rattle.std.proofs.Common.{◌≡◌, Some, ap, sym, ◌∙◌}
use Rattle.sql_values.specs.Cells.{cut}
use Rattle.group_index.specs.Keys.{place_of}
use Rattle.group_index.proofs.KeyLemmas.{stands-there}
use Rattle.aggregation.specs.Tables.{TableState}
use Rattle.aggregation.proofs.table.GroupTable.open.Goals as goal

pub returns-in-Some-clause-place : goal.returns-in-Some-clause-place
returns-in-Some-clause-place g c =
    let t = c.args.self.now in
    let row = g.C.Cells.values c.args.cells.now in
    let is : Some c.in-Some.place ≡ place_of t.keys (cut t.columns row)
    = sym c.in-Some.is ∙ c.find.ensures ∙ ap (λ columns. place_of c.self.inside.index (cut columns row)) c.deref.ensures.value
    ∙ ap (λ (x : TableState). place_of x.keys (cut x.columns row)) c.self.view_is in
    stands-there t.keys (cut t.columns row) c.in-Some.place is
