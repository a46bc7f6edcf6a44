-- The lines that a run writes to the errors: one for each answer but Ok, and one for the count of each filter.
use Rattle.std.specs.Prelude.{ℕ, zero, suc, List, [], ◌∷◌, ◌++◌, codes, option_map, slice_get, unwrap_or}
use Rattle.std.specs.Fmt.{decimal}
use Rattle.sql_values.specs.declared.fail.Fail.{Fail}
use Rattle.sql_values.specs.declared.fail.Fail.TheVariants as fail
use Rattle.plan_docs.specs.declared.plan.TableDoc.{TableDoc}
use Rattle.command_line.specs.Words.{Job, file_at}
use Rattle.task_executor.specs.FilterPassed.{FilterPassed}
use Rattle.query_runner.specs.declared.status.Status.{Status}
use Rattle.query_runner.specs.declared.status.Status.TheVariants as status

-- the number of a kind of failure
abbrev pub kind_number : Fail → ℕ
kind_number fail.OutOfRange = 1
kind_number fail.DivisionByZero = 2
kind_number fail.BadCast = 3
kind_number fail.TextTooLong = 4

-- the file of a number: 0 is the plan's, and the others are counted from 1
abbrev pub file_numbered : Job → ℕ → List ℕ
file_numbered job zero = job.plan
file_numbered job (suc place) = file_at job.files place

-- the name of the table at a place
abbrev pub table_named : List TableDoc → ℕ → List ℕ
table_named tables place = unwrap_or (option_map (λ doc. doc.name) (slice_get tables place)) []

abbrev pub read_message : List ℕ → List ℕ
read_message file = codes "cannot read " ++ file

abbrev pub plan_message : ℕ → List ℕ → List ℕ
plan_message code path = codes "plan refused " ++ decimal code ++ codes " at " ++ path

abbrev pub table_message : List ℕ → ℕ → ℕ → ℕ → List ℕ
table_message name row column why =
    codes "table " ++ name ++ codes " refused " ++ decimal why ++ codes " at row " ++ decimal row ++ codes " column " ++ decimal column

abbrev pub failure_message : ℕ → ℕ → List ℕ
failure_message node kind = codes "expression failed " ++ decimal kind ++ codes " at node " ++ decimal node

abbrev pub message : Job → List TableDoc → Status → List ℕ
message job tables status.Ok = []
message job tables status.Memory = codes "out of memory"
message job tables status.BadWords = codes "bad command line"
message job tables (status.ReadFault file) = read_message (file_numbered job file)
message job tables (status.PlanRefused code path) = plan_message code path
message job tables (status.TableRefused table row column why) = table_message (table_named tables table) row column why
message job tables (status.ExprFailed node kind) = failure_message node (kind_number kind)
message job tables status.WriteFault = codes "cannot write"

-- the line that tells how many rows passed a dynamic filter
abbrev pub filter_words : ℕ → List ℕ
filter_words filter = codes "filter " ++ decimal filter

abbrev pub passed_words : ℕ → List ℕ
passed_words rows = codes " passed " ++ decimal rows ++ 10 ∷ []

abbrev pub count_line : FilterPassed → List ℕ
count_line count = filter_words count.filter ++ passed_words count.rows

abbrev pub count_lines : List FilterPassed → List ℕ
count_lines [] = []
count_lines (count ∷ counts) = count_line count ++ count_lines counts

-- a message as a line of the program
abbrev pub line : List ℕ → List ℕ
line text = codes "trinorun: " ++ text ++ 10 ∷ []
