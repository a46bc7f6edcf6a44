use Rattle.std.proofs.Common.{◌≡◌, ◌∙◌, ap, map, FitsSigned}
use Rattle.std.proofs.lemmas.Int.{to_z-of_z}
use Rattle.std.specs.Int.{w64}
use Rattle.std.specs.Prelude.{option_map}
use Rattle.std.specs.Ordering.{int_cmp}
use Rattle.sql_values.specs.declared.value.Value.TheVariants.{Boolean}
use Rattle.sql_values.specs.Blocks.{TypedCells, or_null}
use Rattle.column_exprs.specs.Comparisons.{holds}
use Rattle.column_exprs.proofs.CompareLemmas.{against_numbers}
use Rattle.column_exprs.proofs.compare.against_number.Goals as goal

pub returns-in_ok-truths-in-Some-clause-cells : goal.returns-in_ok-truths-in-Some-clause-cells
returns-in_ok-truths-in-Some-clause-cells c =
    let fits : FitsSigned w64 c.args.number = c.ranges.number in
    let truths : c.in_ok-truths-in-Some.truths ≡ map (option_map (λ x. holds c.args.op (int_cmp x c.args.number))) c.in-Some.numbers.now = simp to_z-of_z at c.in_ok-truths-in-Some.ensures in
    ap (λ (b : TypedCells). b.cells) c.of_booleans.ensures ∙ ap (map (or_null Boolean)) truths
    ∙ against_numbers c.args.op c.args.number c.in-Some.numbers.now c.args.block.now.cells c.in-Some.ensures
