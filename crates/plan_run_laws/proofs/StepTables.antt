-- What holds of each step, and of each step that can be cut in halves: a new one proves a line of each table.
use Rattle.std.proofs.Common.{ℕ, ◌<◌, List, arith, length}
use Rattle.sql_values.specs.declared.types.SqlType.{SqlType}
use Rattle.sql_values.specs.declared.value.Value.{Value}
use Rattle.sql_values.specs.declared.fail.Fail.{Fail}
use Rattle.sql_values.specs.declared.relational.Call.{Call}
use Rattle.relation_laws.specs.Groups.{groups_of}
use Rattle.bag_laws.specs.Firsts.{IsFirstOf}
use Rattle.bag_laws.specs.Gather.{gather}
use Rattle.bag_laws.specs.Laws.{TaskRows}
use Rattle.bag_laws.specs.Pieces.{finals_of, partials_of}
use Rattle.bag_laws.specs.Weights.{SameWeights}
use Rattle.bag_laws.proofs.BagLemmas.{same-refl, same-sym, same-trans}
use Rattle.bag_laws.proofs.GatherLemmas.{same-gather}
use Rattle.bag_laws.proofs.LimitLemmas.{first-of_firsts, first-of_same}
use Rattle.bag_laws.proofs.PieceLemmas.{same-merged_pieces}
use Rattle.bag_laws.proofs.TopLemmas.{top-of_same, top-of_tops}
use Rattle.plan_trees.specs.Judges.{filter_judge, project_judge}
use Rattle.plan_trees.specs.Modes.{Mode, skipping}
use Rattle.plan_trees.specs.Steps.{StepFails, StepForm, StepGives, filter, project}
use Rattle.plan_trees.specs.HalvedSteps.{HalvedForm, limit, topn, whole_step}
use Rattle.plan_trees.specs.HalvedSteps as halved
use Rattle.plan_run_laws.specs.Runs.{ArePartialsOf, InPieces}
use Rattle.plan_run_laws.specs.Stages.{Makes, MayHave, StageFails, first_half, second_half}
use Rattle.plan_run_laws.proofs.AmongLemmas.{among-gather, failure-same}
use Rattle.plan_run_laws.proofs.CalmLemmas.{taken-same}
use Rattle.plan_run_laws.proofs.LaneLemmas.{alone, judged_drivers, of_driver}

-- the drivers of a task together do the step
pub step_drivers : (mode : Mode) (types : List SqlType) (s : StepForm) (w : ℕ) → MayHave s w → (took gave : TaskRows)
    → ((d : ℕ) → d < w → StepGives mode types s (took d) (gave d)) → StepGives mode types s (gather w took) (gather w gave)
step_drivers mode types (filter predicate) w some took gave each = judged_drivers mode (filter_judge types predicate) w took gave each
step_drivers mode types (project columns) w some took gave each = judged_drivers mode (project_judge types columns) w took gave each
step_drivers mode types s w one took gave each = alone (StepGives mode types s) w one took gave (each 0 (omega (arith, one)))

-- what a driver fails on is there in its task
pub fails_together : (types : List SqlType) (s : StepForm) (kind : Fail) (w : ℕ) → MayHave s w → (took : TaskRows) (d : ℕ) → d < w
    → StepFails types s (took d) kind → StepFails types s (gather w took) kind
fails_together types (filter predicate) kind w some took d lt (row, among, so) = (row, among-gather w took row d lt among, so)
fails_together types (project columns) kind w some took d lt (row, among, so) = (row, among-gather w took row d lt among, so)
fails_together types s kind w one took d lt failed = of_driver (λ rows. StepFails types s rows kind) w one took d lt failed

pub pieces-same : (Gave : List (List Value) → List (List Value) → Type 0) {rows others given handed : List (List Value)} → InPieces Gave rows given
    → SameWeights rows others → SameWeights given handed → InPieces Gave others handed
pieces-same Gave p same also = record {
  drivers = p.drivers;
  pieces = p.pieces;
  gave = p.gave;
  cut = same-trans p.cut same;
  each = p.each;
  together = same-trans p.together also;
}

-- the partial rows of all pieces are merged to the groups of all rows
pub merged_groups : (types : List SqlType) (keys : List ℕ) (calls : List Call) (rows given : List (List Value)) → InPieces (ArePartialsOf keys calls) rows given
    → SameWeights (finals_of types (length keys) calls given) (groups_of types keys calls rows)
merged_groups types keys calls rows given p =
    same-merged_pieces types calls keys p.drivers p.pieces p.cut
    (same-trans (same-gather p.drivers (λ d. partials_of keys calls (p.pieces d)) p.gave p.each) p.together)

-- what the step makes of the rows in some order
pub record Merged (mode : Mode) (types : List SqlType) (h : HalvedForm) (rows given : List (List Value)) : Type 0 where
  pub order : List (List Value)
  pub same : SameWeights rows order
  pub gives : StepGives mode types (whole_step h) order given

-- the second half over what the first makes of pieces
pub merged : (mode : Mode) (types : List SqlType) (h : HalvedForm) (rows got given : List (List Value))
    → InPieces (Makes mode (first_half types h)) rows got → Makes mode (second_half types h) got given → Merged mode types h rows given
merged mode types (halved.aggregate keys calls) rows got given p taken = record {
  order = rows;
  same = same-refl rows;
  gives = taken-same mode (finals_of types (length keys) calls got) (groups_of types keys calls rows) given (merged_groups types keys calls rows got p) taken;
}
merged mode types (topn count keys) rows got given p top = record {
  order = rows;
  same = same-refl rows;
  gives = top-of_same keys count p.cut
      (top-of_tops keys count p.drivers p.pieces p.gave p.each given (top-of_same keys count (same-sym p.together) top));
}
merged mode types (limit count) rows got given p first =
    let o : IsFirstOf count rows given
    = first-of_same count p.cut
    (first-of_firsts count p.drivers p.pieces p.gave
    (λ d lt. record { order = p.pieces d; same = same-refl (p.pieces d); is = p.each d lt }) given
    (record { order = got; same = p.together; is = first })) in
    record { order = o.order; same = o.same; gives = o.is }

-- what the second half fails on is there in all rows
pub merged_fails : (types : List SqlType) (h : HalvedForm) (kind : Fail) (rows got : List (List Value))
    → InPieces (Makes skipping (first_half types h)) rows got → StageFails (second_half types h) got kind → StepFails types (whole_step h) rows kind
merged_fails types (halved.aggregate keys calls) kind rows got p failed =
    failure-same kind (finals_of types (length keys) calls got) (groups_of types keys calls rows) (merged_groups types keys calls rows got p) failed
merged_fails types h kind rows got p failed = failed
