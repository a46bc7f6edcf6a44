-- What holds of each step: a new operator proves a line of each table.
use Rattle.std.proofs.Common.{◌≡◌, ℕ, ◌+◌, List, refl, sym, ◌∙◌, length, map, subst, take}
use Rattle.std.specs.Prelude.{flat_map}
use Rattle.std.proofs.lemmas.List.{length-append, length-map}
use Rattle.std.proofs.lemmas.List.Elements.{All-take}
use Rattle.std.proofs.lemmas.List.Sorted.{All-permutation, IsPermutation-refl}
use Rattle.sql_values.specs.declared.types.SqlType.{SqlType}
use Rattle.sql_values.specs.declared.value.Value.{Value}
use Rattle.sql_values.specs.declared.fail.Fail.{Fail}
use Rattle.sql_functions.specs.CallTypes.{type_at}
use Rattle.sql_exprs.specs.Meaning.{kind_of, value_of}
use Rattle.relation_laws.specs.Groups.{groups_of}
use Rattle.relation_laws.specs.Sorts.{IsBeginning}
use Rattle.relation_laws.specs.Verdicts.{kept, kept_rows}
use Rattle.relation_laws.specs.Widths.{HaveWidth}
use Rattle.relation_laws.proofs.SortLemmas.{is_sort, sorted_rows}
use Rattle.relation_laws.proofs.WidthLemmas.{All-flat, groups_width}
use Rattle.plan_trees.specs.CallKinds.{call_kind}
use Rattle.plan_trees.specs.Judges.{filter_judge, project_judge}
use Rattle.plan_trees.specs.Modes.{Mode, skipping, strict}
use Rattle.plan_trees.specs.Steps.{StepBegins, StepFails, StepForm, StepGives, aggregate, filter, is_late, limit, project, sort, topn, types_after}
use Rattle.plan_trees.specs.Stopped.{Came}
use Rattle.plan_trees.proofs.CalmLemmas.{calm_rows, no_failures}
use Rattle.plan_trees.proofs.FrontLemmas.{first_all, first_front, front_of}
use Rattle.plan_trees.proofs.JudgeLemmas.{Wide, filtered_width, project_width}
use Rattle.plan_trees.proofs.SubBagLemmas.{beginning_trans, sub_beginning, sub_itself, whole_beginning}

pub all-begins : (s : StepForm) (rows : List (List Value)) → StepBegins s rows rows
all-begins (filter predicate) rows = refl
all-begins (project columns) rows = refl
all-begins (limit count) rows = refl
all-begins (aggregate keys calls) rows = sub_itself rows
all-begins s rows = whole_beginning rows

-- a beginning of the input, or all of it, from which a step gives rows
pub record StepFront (types : List SqlType) (s : StepForm) (input rows : List (List Value)) : Type 0 where
  pub front : List (List Value)
  pub whole : List (List Value)
  pub part : Came (is_late s) (front ≡ input) (IsBeginning front input)
  pub gives : StepGives skipping types s front whole
  pub begins : StepBegins s rows whole

pub step_beginning : (types : List SqlType) (s : StepForm) (input all rows more : List (List Value)) → IsBeginning rows more
    → StepGives skipping types s input all → StepBegins s more all → StepFront types s input rows
step_beginning types (filter predicate) input all rows more front gives begins =
    let f = front_of (filter_judge types predicate) input rows front.0 (front.1 ∙ begins ∙ gives.are_kept) in
    record { front = f.front; whole = rows; part = f.begins; gives = record { calm = tt; are_kept = f.are_kept }; begins = refl }
step_beginning types (project columns) input all rows more front gives begins =
    let f = front_of (project_judge types columns) input rows front.0 (front.1 ∙ begins ∙ gives.are_kept) in
    record { front = f.front; whole = rows; part = f.begins; gives = record { calm = tt; are_kept = f.are_kept }; begins = refl }
step_beginning types (limit count) input all rows more front gives begins =
    let part : IsBeginning rows (take count input) = (front.0, front.1 ∙ begins ∙ gives) in
    record { front = rows; whole = rows; part = first_front count input rows part; gives = first_all count input rows part; begins = refl }
step_beginning types (aggregate keys calls) input all rows more front gives begins =
    record { front = input; whole = all; part = refl; gives = gives; begins = sub_beginning rows more all front begins }
step_beginning types s input all rows more front gives begins =
    record { front = input; whole = all; part = refl; gives = gives; begins = beginning_trans rows more all front begins }

pub step_skipping : (types : List SqlType) (s : StepForm) (input rows : List (List Value)) → StepGives strict types s input rows → StepGives skipping types s input rows
step_skipping types (filter predicate) input rows gives = record { calm = tt; are_kept = gives.are_kept }
step_skipping types (project columns) input rows gives = record { calm = tt; are_kept = gives.are_kept }
step_skipping types (aggregate keys calls) input rows gives = record { calm = tt; are_kept = gives.are_kept }
step_skipping types s input rows gives = gives

pub step_strict : (types : List SqlType) (s : StepForm) (input rows : List (List Value)) → ((kind : Fail) → ¬ StepFails types s input kind)
    → StepGives skipping types s input rows → StepGives strict types s input rows
step_strict types (filter predicate) input rows calm gives =
    record { calm = calm_rows (filter_judge types predicate) input (λ kind row among so. calm kind (row, among, so)); are_kept = gives.are_kept }
step_strict types (project columns) input rows calm gives =
    record { calm = calm_rows (project_judge types columns) input (λ kind row among so. calm kind (row, among, so)); are_kept = gives.are_kept }
step_strict types (aggregate keys calls) input rows calm gives =
    record { calm = no_failures (groups_of types keys calls input) calm; are_kept = gives.are_kept }
step_strict types s input rows calm gives = gives

pub some_step : (types : List SqlType) (s : StepForm) (input : List (List Value)) → (rows : List (List Value)) × StepGives skipping types s input rows
some_step types (filter predicate) input = (kept_rows (filter_judge types predicate) input, record { calm = tt; are_kept = refl })
some_step types (project columns) input = (kept_rows (project_judge types columns) input, record { calm = tt; are_kept = refl })
some_step types (aggregate keys calls) input =
    let rows = flat_map kept (groups_of types keys calls input) in
    (rows, record { calm = tt; are_kept = IsPermutation-refl rows })
some_step types (sort keys) input = (sorted_rows keys input, is_sort keys input)
some_step types (topn count keys) input =
    (take count (sorted_rows keys input), record { order = sorted_rows keys input; sorted = is_sort keys input; is = refl })
some_step types (limit count) input = (take count input, refl)

-- the width of equal rows
along : (width : ℕ) (rows others : List (List Value)) → rows ≡ others → HaveWidth width others → HaveWidth width rows
along width rows others e h = subst (HaveWidth width) (sym e) h

pub step_width : (mode : Mode) (types : List SqlType) (s : StepForm) (input rows : List (List Value)) → HaveWidth (length types) input
    → StepGives mode types s input rows → HaveWidth (length (types_after s types)) rows
step_width mode types (filter predicate) input rows wide gives =
    along (length types) rows (kept_rows (filter_judge types predicate) input) gives.are_kept
    (All-flat (Wide (length types)) (Wide (length types)) (λ row. kept (filter_judge types predicate row))
    (λ row row_wide. filtered_width (length types) row (value_of types predicate row) row_wide) input wide)
step_width mode types (project columns) input rows wide gives =
    subst (λ n. HaveWidth n rows) (sym (length-map columns (kind_of types)))
    (along (length columns) rows (kept_rows (project_judge types columns) input) gives.are_kept (project_width types columns input))
step_width mode types (aggregate keys calls) input rows wide gives =
    subst (λ n. HaveWidth n rows) (sym (length-append (map (type_at types) keys) (map (call_kind types) calls)
    ∙ (λ i. length-map keys (type_at types) i + length-map calls (call_kind types) i)))
    (All-permutation (Wide (length keys + length calls)) (flat_map kept (groups_of types keys calls input)) rows gives.are_kept
    (groups_width types keys calls input))
step_width mode types (sort keys) input rows wide gives = All-permutation (Wide (length types)) input rows gives.same wide
step_width mode types (topn count keys) input rows wide gives =
    along (length types) rows (take count gives.order) gives.is
    (All-take (Wide (length types)) count gives.order (All-permutation (Wide (length types)) input gives.order gives.sorted.same wide))
step_width mode types (limit count) input rows wide gives =
    along (length types) rows (take count input) gives (All-take (Wide (length types)) count input wide)
