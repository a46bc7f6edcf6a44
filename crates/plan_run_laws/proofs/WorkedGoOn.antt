-- A driver in the middle of its rows that can go on: its filter failed on its second row and gave none
-- behind it, though it would keep the third; the project behind it may still be given any rows.
use Rattle.std.proofs.Common.{◌≡◌, ℕ, List, [], ◌∷◌, false, refl, sym}
use Rattle.std.specs.Prelude.{pos}
use Rattle.std.proofs.lemmas.Bool.{true≢false}
use Rattle.sql_values.specs.declared.types.SqlType.{SqlType}
use Rattle.sql_values.specs.declared.types.SqlType.TheVariants as type
use Rattle.sql_values.specs.declared.value.Value.{Value}
use Rattle.sql_values.specs.declared.value.Value.TheVariants.{Bigint}
use Rattle.sql_values.specs.declared.fail.Fail.TheVariants.{DivisionByZero}
use Rattle.sql_functions.specs.declared.name.CallName.TheVariants.{Divide, Less}
use Rattle.sql_exprs.specs.Forms.{Form, call, column, literal, more, none}
use Rattle.relation_laws.specs.Verdicts.{fails, keeps}
use Rattle.plan_trees.specs.Judges.{filter_judge, project_judge}
use Rattle.plan_run_laws.specs.Stages.{filter, project}
use Rattle.plan_run_laws.specs.Stops.{StagesCanGoOn}
use Rattle.plan_run_laws.proofs.GoOnLemmas.{begins_before, goes_on-append, goes_on-filter, goes_on-project}

abbrev row : ℕ → List Value
row n = Bigint (pos n) ∷ []

abbrev types : List SqlType
types = type.Bigint ∷ []

-- six divided by the column is more than zero
abbrev predicate : Form
predicate =
    call Less (more (literal type.Bigint (Bigint (pos 0))) (more (call Divide (more (literal type.Bigint (Bigint (pos 6))) (more (column 0) none))) none))

abbrev columns : List Form
columns = column 0 ∷ column 0 ∷ []

abbrev took : List (List Value)
took = row 1 ∷ row 0 ∷ row 2 ∷ []

abbrev gave : List (List Value)
gave = (Bigint (pos 1) ∷ Bigint (pos 1) ∷ []) ∷ []

second_fails : filter_judge types predicate (row 0) ≡ fails DivisionByZero
second_fails = refl

third_is_kept : filter_judge types predicate (row 2) ≡ keeps (row 2)
third_is_kept = refl

pub goes_on : StagesCanGoOn (filter types predicate ∷ project types columns ∷ []) took gave false false
goes_on =
    goes_on-append (filter types predicate ∷ []) (project types columns ∷ []) took (row 1 ∷ []) gave false false false
    (goes_on-filter types predicate took (row 1 ∷ []) false false
    (begins_before (filter_judge types predicate) took (row 1 ∷ []) false false
    (λ later may. (row 1 ∷ [], (row 0 ∷ row 2 ∷ later, refl), ([], refl))) (λ done. absurd (true≢false (sym done)))))
    (goes_on-project types columns (row 1 ∷ []) gave false false
    (begins_before (project_judge types columns) (row 1 ∷ []) gave false false
    (λ later may. (row 1 ∷ [], (later, refl), ([], refl))) (λ done. absurd (true≢false (sym done)))))
