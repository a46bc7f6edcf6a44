use Rattle.std.proofs.Common.{◌<◌, List, [], ◌∷◌, length, sym, subst}
use Rattle.sql_values.specs.declared.relational.Call.{Call}
use Rattle.relation_laws.specs.Partials.{partial_of}
use Rattle.aggregation.specs.Tables.{IsGroupOf, TableState}
use Rattle.aggregation.proofs.TableLemmas.{group-there, partials-set, table-set}
use Rattle.aggregation.proofs.table.GroupTable.add_at.Goals as goal

pub invariant_of-self : goal.invariant_of-self
invariant_of-self g c =
    let s = c.self.inside in
    let of : IsGroupOf s.types.items s.calls.items c.index_mut-group.result.now
    = group-there s.columns.items s.calls.items s.types.items s.index s.groups.items c.self.invariant c.args.place c.index_mut-group.result.now
    (subst (λ (t : TableState). c.args.place < length t.keys) (sym c.self.view_is) c.requires) c.index_mut-group.ensures.value in
    table-set s.columns.items s.calls.items s.types.items s.index s.groups.items c.self.invariant c.args.place c.index_mut-group.result.now c.take-taken.new.self of
    c.take-taken.ensures.same.0 c.take-taken.ensures.same.1 c.none_adds_nothing.ensures

pub returns-clause-ok : goal.returns-clause-ok
returns-clause-ok g c =
    let s = c.self.inside in
    let within = subst (λ (t : TableState). c.args.place < length t.keys) (sym c.self.view_is) c.requires in
    partials-set s.columns.items s.calls.items s.types.items s.index s.groups.items c.self.invariant c.args.place c.index_mut-group.result.now c.take-taken.new.self
    (λ (calls : List Call). partial_of calls (g.C.Cells.values c.args.cells.now ∷ [])) c.take-taken.result c.args.self.now within c.self.view_is c.index_mut-group.ensures.value c.take-taken.ensures.ok
