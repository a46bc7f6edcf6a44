use Rattle.std.proofs.Common.{◌≡◌, ◌<◌, ◌++◌, List, ap, length, subst, sym, ◌∙◌, arith}
use Rattle.std.specs.Prelude.{OnOk}
use Rattle.sql_values.specs.declared.value.Value.{Value}
use Rattle.std.proofs.lemmas.List.{length-map}
use Rattle.accumulators.specs.Groups.{Group}
use Rattle.aggregation.specs.Tables.{TableState}
use Rattle.aggregation.proofs.ResultLemmas.{partial-there}
use Rattle.aggregation.proofs.table.GroupTable.put_partial.Goals as goal

pub returns : goal.returns
returns c =
    let s = c.self.inside in
    let within = subst (λ (t : TableState). c.args.place < length t.keys) (sym c.self.view_is) c.requires in
    let inside : c.args.place < length s.groups.items = omega (arith, within, c.self.invariant.held.level, length-map s.groups.items (λ (x : Group). x.partial)) in
    subst (λ (p : List Value). OnOk c.put_part.result (c.put_part.new.rows ≡ record c.args.rows.now { begun = c.args.rows.now.begun ++ p }))
    (sym (partial-there s.columns.items s.calls.items s.types.items s.index s.groups.items c.self.invariant c.args.self.now c.self.view_is c.args.place c.index.result.now inside c.index.ensures))
    c.put_part.ensures
