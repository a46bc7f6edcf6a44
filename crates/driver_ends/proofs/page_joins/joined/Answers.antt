use Rattle.std.proofs.Common.{◌≡◌, ◌<◌, ◌++◌, length, length-append, ap, arith, sym, ◌∙◌}
use Rattle.std.proofs.lemmas.List.{length-map}
use Rattle.sql_values.specs.Blocks.{TypedCells}
use Rattle.sql_values.specs.ColumnRows.{AreFilled, common_length, kinds_of, rows_of}
use Rattle.sql_values.proofs.ColumnRowsLemmas.{length-rows_of}
use Rattle.column_moves.specs.Joined.{joined}
use Rattle.column_moves.proofs.BehindLemmas.{whole-filled, whole-kinds, whole-rows, whole-some}
use Rattle.driver_ends.proofs.page_joins.joined.Goals as goal

pub of_blocks-requires-clause-some : goal.of_blocks-requires-clause-some
of_blocks-requires-clause-some c =
    let cs = c.into_blocks-columns.result.items in
    let ds = c.into_blocks.result.items in
    let all = c.append_each.new.columns.items in
    let same : kinds_of cs ≡ kinds_of ds = c.into_blocks-columns.ensures.kinds ∙ c.requires.types ∙ sym c.into_blocks.ensures.kinds in
    let is : all ≡ joined cs ds = c.in-Ok-append_each.ensures.ok ∙ ap (joined cs) c.deref.ensures.value in
    let some : 0 < length cs = omega (arith, c.types.ensures.some, ap length c.into_blocks-columns.ensures.kinds, length-map cs (λ (d : TypedCells). d.kind)) in
    whole-some cs ds all c.args.first.rows c.args.page.rows same is some
    c.into_blocks-columns.ensures.level c.into_blocks.ensures.level c.into_blocks-columns.ensures.rows c.into_blocks.ensures.rows

pub of_blocks-requires-clause-kinds : goal.of_blocks-requires-clause-kinds
of_blocks-requires-clause-kinds c =
    let cs = c.into_blocks-columns.result.items in
    let ds = c.into_blocks.result.items in
    let all = c.append_each.new.columns.items in
    let same : kinds_of cs ≡ kinds_of ds = c.into_blocks-columns.ensures.kinds ∙ c.requires.types ∙ sym c.into_blocks.ensures.kinds in
    let is : all ≡ joined cs ds = c.in-Ok-append_each.ensures.ok ∙ ap (joined cs) c.deref.ensures.value in
    let some : 0 < length cs = omega (arith, c.types.ensures.some, ap length c.into_blocks-columns.ensures.kinds, length-map cs (λ (d : TypedCells). d.kind)) in
    whole-kinds cs ds all c.args.first.rows c.args.page.rows same is some
    c.into_blocks-columns.ensures.level c.into_blocks.ensures.level c.into_blocks-columns.ensures.rows c.into_blocks.ensures.rows
    ∙ c.into_blocks-columns.ensures.kinds ∙ sym (c.in-Ok.ensures.items ∙ c.types.ensures.types)

pub of_blocks-requires-clause-level : goal.of_blocks-requires-clause-level
of_blocks-requires-clause-level c =
    let cs = c.into_blocks-columns.result.items in
    let ds = c.into_blocks.result.items in
    let all = c.append_each.new.columns.items in
    let same : kinds_of cs ≡ kinds_of ds = c.into_blocks-columns.ensures.kinds ∙ c.requires.types ∙ sym c.into_blocks.ensures.kinds in
    let is : all ≡ joined cs ds = c.in-Ok-append_each.ensures.ok ∙ ap (joined cs) c.deref.ensures.value in
    let some : 0 < length cs = omega (arith, c.types.ensures.some, ap length c.into_blocks-columns.ensures.kinds, length-map cs (λ (d : TypedCells). d.kind)) in
    whole-filled cs ds all c.args.first.rows c.args.page.rows same is some
    c.into_blocks-columns.ensures.level c.into_blocks.ensures.level c.into_blocks-columns.ensures.rows c.into_blocks.ensures.rows

pub of_blocks-requires-clause-few : goal.of_blocks-requires-clause-few
of_blocks-requires-clause-few c =
    let cs = c.into_blocks-columns.result.items in
    let ds = c.into_blocks.result.items in
    let all = c.append_each.new.columns.items in
    let same : kinds_of cs ≡ kinds_of ds = c.into_blocks-columns.ensures.kinds ∙ c.requires.types ∙ sym c.into_blocks.ensures.kinds in
    let is : all ≡ joined cs ds = c.in-Ok-append_each.ensures.ok ∙ ap (joined cs) c.deref.ensures.value in
    let some : 0 < length cs = omega (arith, c.types.ensures.some, ap length c.into_blocks-columns.ensures.kinds, length-map cs (λ (d : TypedCells). d.kind)) in
    let filled : AreFilled (common_length all) 0 all = whole-filled cs ds all c.args.first.rows c.args.page.rows same is some
    c.into_blocks-columns.ensures.level c.into_blocks.ensures.level c.into_blocks-columns.ensures.rows c.into_blocks.ensures.rows in
    let rows : rows_of (common_length all) all ≡ c.args.first.rows ++ c.args.page.rows = whole-rows cs ds all c.args.first.rows c.args.page.rows same is some
    c.into_blocks-columns.ensures.level c.into_blocks.ensures.level c.into_blocks-columns.ensures.rows c.into_blocks.ensures.rows in
    omega (arith, length-rows_of (common_length all) 0 all filled, ap length rows, length-append c.args.first.rows c.args.page.rows, c.requires.few)

pub returns-in-Ok-append_each-clause-ok : goal.returns-in-Ok-append_each-clause-ok
returns-in-Ok-append_each-clause-ok c =
    let cs = c.into_blocks-columns.result.items in
    let ds = c.into_blocks.result.items in
    let all = c.append_each.new.columns.items in
    let same : kinds_of cs ≡ kinds_of ds = c.into_blocks-columns.ensures.kinds ∙ c.requires.types ∙ sym c.into_blocks.ensures.kinds in
    let is : all ≡ joined cs ds = c.in-Ok-append_each.ensures.ok ∙ ap (joined cs) c.deref.ensures.value in
    let some : 0 < length cs = omega (arith, c.types.ensures.some, ap length c.into_blocks-columns.ensures.kinds, length-map cs (λ (d : TypedCells). d.kind)) in
    let rows : rows_of (common_length all) all ≡ c.args.first.rows ++ c.args.page.rows = whole-rows cs ds all c.args.first.rows c.args.page.rows same is some
    c.into_blocks-columns.ensures.level c.into_blocks.ensures.level c.into_blocks-columns.ensures.rows c.into_blocks.ensures.rows in
    let types = c.in-Ok.ensures.items ∙ c.types.ensures.types in
    c.of_blocks.ensures ∙ (λ i. record { types = types i; rows = rows i })
