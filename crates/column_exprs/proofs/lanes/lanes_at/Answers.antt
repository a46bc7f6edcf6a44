use Rattle.std.proofs.Common.{◌+◌, get_or, ◌∷◌, [], ◌∙◌, rules, FitsSigned, w64}
use Rattle.std.specs.Prelude.{pos}
use Rattle.std.proofs.lemmas.Int.{to_z-of_z}
use Rattle.column_exprs.proofs.MarkLemmas.{eight_items}
use Rattle.column_exprs.proofs.lanes.lanes_at.Goals as goal

pub returns-clause-lanes : goal.returns-clause-lanes
returns-clause-lanes c =
    let xs = c.args.items.now in
    let at = c.args.at in
    let f0 : FitsSigned w64 (get_or xs at (pos 0)) = search rules in
    let f1 : FitsSigned w64 (get_or xs (at + 1) (pos 0)) = search rules in
    let f2 : FitsSigned w64 (get_or xs (at + 2) (pos 0)) = search rules in
    let f3 : FitsSigned w64 (get_or xs (at + 3) (pos 0)) = search rules in
    let f4 : FitsSigned w64 (get_or xs (at + 4) (pos 0)) = search rules in
    let f5 : FitsSigned w64 (get_or xs (at + 5) (pos 0)) = search rules in
    let f6 : FitsSigned w64 (get_or xs (at + 6) (pos 0)) = search rules in
    let f7 : FitsSigned w64 (get_or xs (at + 7) (pos 0)) = search rules in
    (λ i. to_z-of_z w64 _ f0 i ∷ to_z-of_z w64 _ f1 i ∷ to_z-of_z w64 _ f2 i ∷ to_z-of_z w64 _ f3 i ∷ to_z-of_z w64 _ f4 i ∷ to_z-of_z w64 _ f5 i ∷ to_z-of_z w64 _ f6 i ∷ to_z-of_z w64 _ f7 i ∷ [])
    ∙ eight_items xs at c.requires
