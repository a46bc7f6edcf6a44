use Rattle.std.proofs.Common.{◌≡◌, ◌<◌, [], length, ap, arith, sym, ◌∙◌}
use Rattle.std.proofs.lemmas.List.{length-map}
use Rattle.sql_values.specs.Blocks.{TypedCells}
use Rattle.sql_values.specs.ColumnRows.{kinds_of}
use Rattle.column_moves.specs.Joined.{joined}
use Rattle.column_moves.proofs.BehindLemmas.{whole-filled, whole-kinds, whole-rows, whole-some}
use Rattle.column_moves.proofs.behind.join_rows.Goals as goal

pub of_columns-requires-clause-some : goal.of_columns-requires-clause-some
of_columns-requires-clause-some c =
    let cs = c.into_columns-columns.result.items in
    let ds = c.into_columns.result.items in
    let same : kinds_of cs ≡ kinds_of ds = c.into_columns-columns.ensures.kinds ∙ c.requires.types ∙ sym c.into_columns.ensures.kinds in
    let is : c.append_all.new.columns.items ≡ joined cs ds = c.in_ok-append_all.ensures in
    let some : 0 < length cs = omega (arith, c.types.ensures.some, ap length c.into_columns-columns.ensures.kinds, length-map cs (λ (d : TypedCells). d.kind)) in
    whole-some cs ds c.append_all.new.columns.items c.args.left.rows c.args.right.rows same is some
    c.into_columns-columns.ensures.level c.into_columns.ensures.level c.into_columns-columns.ensures.rows c.into_columns.ensures.rows

pub of_columns-requires-clause-kinds : goal.of_columns-requires-clause-kinds
of_columns-requires-clause-kinds c =
    let cs = c.into_columns-columns.result.items in
    let ds = c.into_columns.result.items in
    let same : kinds_of cs ≡ kinds_of ds = c.into_columns-columns.ensures.kinds ∙ c.requires.types ∙ sym c.into_columns.ensures.kinds in
    let is : c.append_all.new.columns.items ≡ joined cs ds = c.in_ok-append_all.ensures in
    let some : 0 < length cs = omega (arith, c.types.ensures.some, ap length c.into_columns-columns.ensures.kinds, length-map cs (λ (d : TypedCells). d.kind)) in
    whole-kinds cs ds c.append_all.new.columns.items c.args.left.rows c.args.right.rows same is some
    c.into_columns-columns.ensures.level c.into_columns.ensures.level c.into_columns-columns.ensures.rows c.into_columns.ensures.rows
    ∙ c.into_columns-columns.ensures.kinds ∙ sym (c.in_ok-types.ensures.items ∙ c.types.ensures.types)

pub of_columns-requires-clause-level : goal.of_columns-requires-clause-level
of_columns-requires-clause-level c =
    let cs = c.into_columns-columns.result.items in
    let ds = c.into_columns.result.items in
    let same : kinds_of cs ≡ kinds_of ds = c.into_columns-columns.ensures.kinds ∙ c.requires.types ∙ sym c.into_columns.ensures.kinds in
    let is : c.append_all.new.columns.items ≡ joined cs ds = c.in_ok-append_all.ensures in
    let some : 0 < length cs = omega (arith, c.types.ensures.some, ap length c.into_columns-columns.ensures.kinds, length-map cs (λ (d : TypedCells). d.kind)) in
    whole-filled cs ds c.append_all.new.columns.items c.args.left.rows c.args.right.rows same is some
    c.into_columns-columns.ensures.level c.into_columns.ensures.level c.into_columns-columns.ensures.rows c.into_columns.ensures.rows

pub returns : goal.returns
returns c =
    let cs = c.into_columns-columns.result.items in
    let ds = c.into_columns.result.items in
    let same : kinds_of cs ≡ kinds_of ds = c.into_columns-columns.ensures.kinds ∙ c.requires.types ∙ sym c.into_columns.ensures.kinds in
    let is : c.append_all.new.columns.items ≡ joined cs ds = c.in_ok-append_all.ensures in
    let some : 0 < length cs = omega (arith, c.types.ensures.some, ap length c.into_columns-columns.ensures.kinds, length-map cs (λ (d : TypedCells). d.kind)) in
    let rows = whole-rows cs ds c.append_all.new.columns.items c.args.left.rows c.args.right.rows same is some
    c.into_columns-columns.ensures.level c.into_columns.ensures.level c.into_columns-columns.ensures.rows c.into_columns.ensures.rows in
    let types : c.in_ok-types.types.items ≡ c.args.left.types = c.in_ok-types.ensures.items ∙ c.types.ensures.types in
    c.of_columns.ensures ∙ (λ i. record { types = types i; rows = rows i; begun = [] })
