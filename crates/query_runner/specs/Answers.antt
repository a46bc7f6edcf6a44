-- What each answer of a run means, by what was seen of it from outside.
use Rattle.std.specs.Prelude.{◌≡◌, ◌⊎◌, ℕ, List, [], IsTrue, Bool, true, false, Option, Some, None, Result, Ok, Err}
use Rattle.std.specs.Io.KnownBytes.{Appends}
use Rattle.sql_values.specs.declared.fail.Fail.{Fail}
use Rattle.sql_values.specs.Types.{rows_have_types}
use Rattle.count_laws.specs.Counts.{Rose}
use Rattle.run_ports.specs.Writing.{AppendsPrefix}
use Rattle.run_ports.specs.declared.files.Files.{Ghosts as FilesGhosts}
use Rattle.run_ports.specs.declared.sink.Sink.{Ghosts as SinkGhosts}
use Rattle.plan_docs.specs.Plans.{PlanForm}
use Rattle.plan_trees.specs.TreeTypes.{types_of}
use Rattle.plan_trees.specs.Allowed.{Allows}
use Rattle.plan_trees.specs.Stopped.{MayFail}
use Rattle.plan_trees.specs.Laws.{CannotFail}
use Rattle.plan_reader.specs.Trees.{tree_of}
use Rattle.csv_tables.specs.ResultTexts.{result_text}
use Rattle.task_executor.specs.FilterPassed.{FilterPassed}
use Rattle.task_executor.specs.Passed.{AreCountsIn}
use Rattle.command_line.specs.Words.{Job, no_job}
use Rattle.command_line.specs.declared.command.WordsFault.{WordsFault}
use Rattle.command_line.specs.declared.command.WordsFault.TheVariants as fault
use Rattle.query_runner.specs.Demos.{demo_contents}
use Rattle.query_runner.specs.Jobs.{AreTablesAsked, Contents, IsPlanAsked, Row}
use Rattle.query_runner.specs.Loading.{FirstIsRefused, HasNoFile, PlanFails, SomeTableIsUnread}
use Rattle.query_runner.specs.Lines.{count_lines, line, message}
use Rattle.query_runner.specs.declared.status.Status.{Status}
use Rattle.query_runner.specs.declared.status.Status.TheVariants as status

-- what is seen of a run from outside, before it and after it: files and output
pub record SeenOutside : Type 0 where
  pub held : Contents
  pub read_faults_before : ℕ
  pub read_faults_after : ℕ
  pub refused : Option (List ℕ)
  pub written_before : Option (List ℕ)
  pub written_after : Option (List ℕ)
  pub write_faults_before : ℕ
  pub write_faults_after : ℕ

-- what was written to the errors, before a run and after it
pub record Heard : Type 0 where
  pub told_before : Option (List ℕ)
  pub told_after : Option (List ℕ)
  pub faults_before : ℕ
  pub faults_after : ℕ

-- what is seen of a run over these files and this output, as they were before it and are after it
abbrev pub seen_of : {F O : Type 0} → FilesGhosts F → SinkGhosts O → F → F → O → O → SeenOutside
seen_of of_files of_output files files_after out out_after = record {
  held = of_files.holds files;
  read_faults_before = of_files.faults files;
  read_faults_after = of_files.faults files_after;
  refused = of_files.refused files_after;
  written_before = of_output.written out;
  written_after = of_output.written out_after;
  write_faults_before = of_output.faults out;
  write_faults_after = of_output.faults out_after;
}

-- what was written to these errors
abbrev pub heard_on : {E : Type 0} → SinkGhosts E → E → E → Heard
heard_on of_errors err err_after = record {
  told_before = of_errors.written err;
  told_after = of_errors.written err_after;
  faults_before = of_errors.faults err;
  faults_after = of_errors.faults err_after;
}

-- the text of a list of rows that the plan's tree allows over its tables
pub record IsTextOf (plan : PlanForm) (tables : List (List Row)) (text : List ℕ) : Type 0 where
  pub list : List Row
  pub allowed : Allows (tree_of plan) tables list
  pub is_text : text ≡ result_text plan.output (types_of (tree_of plan)) list

-- a text that the plan allows over the tables that were asked for, of rows that have the types of its columns
pub record IsResult (held : Contents) (job : Job) (plan : PlanForm) (text : List ℕ) : Type 0 where
  pub tables : List (List Row)
  pub are_tables : AreTablesAsked held job plan.tables tables
  pub is_text : IsTextOf plan tables text
  pub typed : IsTrue (rows_have_types (types_of (tree_of plan)) is_text.list)

-- the result was written whole, and nothing else
pub record WroteResult (job : Job) (plan : PlanForm) (seen : SeenOutside) : Type 0 where
  pub text : List ℕ
  pub is_result : IsResult seen.held job plan text
  pub appends : Appends seen.written_before seen.written_after text

-- a beginning of the result was written, and then a write failed
pub record StoppedWriting (job : Job) (plan : PlanForm) (seen : SeenOutside) : Type 0 where
  pub text : List ℕ
  pub is_result : IsResult seen.held job plan text
  pub appends : AppendsPrefix seen.written_before seen.written_after text
  pub rose : Rose seen.write_faults_before seen.write_faults_after

-- an expression of the plan may fail with this kind on a row that it may have been given
pub record MayHaveFailed (held : Contents) (job : Job) (plan : PlanForm) (node : ℕ) (kind : Fail) : Type 0 where
  pub tables : List (List Row)
  pub are_tables : AreTablesAsked held job plan.tables tables
  pub may_fail : MayFail (tree_of plan) tables node kind

-- nothing was written
abbrev pub WroteNothing : SeenOutside → Type 0
WroteNothing seen = seen.written_after ≡ seen.written_before

-- why a plan that was read gave no result
abbrev pub RunFails : PlanForm → List (List Row) → Status → Type 0
RunFails plan tables status.Memory = Unit {0}
RunFails plan tables (status.ExprFailed node kind) = MayFail (tree_of plan) tables node kind
RunFails plan tables _ = ⊥

-- what an answer means once the plan was read
abbrev pub PlanAnswered : Job → PlanForm → SeenOutside → Status → Type 0
PlanAnswered job plan seen status.Ok = WroteResult job plan seen
PlanAnswered job plan seen status.Memory = WroteNothing seen
PlanAnswered job plan seen status.BadWords = ⊥
PlanAnswered job plan seen (status.ReadFault file) = WroteNothing seen
    × SomeTableIsUnread seen.held job plan.tables seen.read_faults_before seen.read_faults_after seen.refused file
PlanAnswered job plan seen (status.PlanRefused code path) = WroteNothing seen × HasNoFile job plan.tables code path
PlanAnswered job plan seen (status.TableRefused table row column why) =
    WroteNothing seen × FirstIsRefused seen.held job plan.tables table row column why
PlanAnswered job plan seen (status.ExprFailed node kind) =
    WroteNothing seen × MayHaveFailed seen.held job plan node kind
PlanAnswered job plan seen status.WriteFault = StoppedWriting job plan seen

-- this text was written to the errors, or a beginning of it where a write failed
pub record ToldText (heard : Heard) (text : List ℕ) : Type 0 where
  pub whole : ¬ Rose heard.faults_before heard.faults_after → Appends heard.told_before heard.told_after text
  pub begun : AppendsPrefix heard.told_before heard.told_after text

-- what was written to the errors: nothing where all went well, else the answer's message as a line
abbrev pub Told : Heard → List ℕ → Status → Type 0
Told heard text status.Ok = heard.told_after ≡ heard.told_before
Told heard text _ = ToldText heard (line text)

-- these are the counts of the plan's dynamic filters that are waited for, over the tables that were asked for
pub record AreCountsAsked (held : Contents) (job : Job) (plan : PlanForm) (counts : List FilterPassed) : Type 0 where
  pub tables : List (List Row)
  pub are_tables : AreTablesAsked held job plan.tables tables
  pub are : AreCountsIn plan tables counts

-- these lines were written, if they are asked for, and else nothing
abbrev pub ToldAsked : Bool → Heard → List FilterPassed → Type 0
ToldAsked true heard counts = ToldText heard (count_lines counts)
ToldAsked false heard counts = heard.told_after ≡ heard.told_before

-- a line for each of them was written to the errors
pub record ToldCounts (held : Contents) (job : Job) (plan : PlanForm) (heard : Heard) : Type 0 where
  pub counts : List FilterPassed
  pub are : AreCountsAsked held job plan counts
  pub told : ToldText heard (count_lines counts)

-- where all went well, the counts of filters if they are asked for, and else nothing
abbrev pub ToldWell : Bool → Contents → Job → PlanForm → Heard → Type 0
ToldWell true held job plan heard = ToldCounts held job plan heard
ToldWell false held job plan heard = heard.told_after ≡ heard.told_before

-- what was written to the errors of a plan that ran
abbrev pub ToldRan : Contents → Job → PlanForm → Heard → List ℕ → Status → Type 0
ToldRan held job plan heard text status.Ok = ToldWell job.counts held job plan heard
ToldRan held job plan heard text _ = ToldText heard (line text)

-- no plan was read
pub record PlanIsUnread (job : Job) (seen : SeenOutside) (heard : Heard) (answer : Status) : Type 0 where
  pub why : PlanFails seen.held job seen.read_faults_before seen.read_faults_after seen.refused answer
  pub nothing : WroteNothing seen
  pub told : Told heard (message job [] answer) answer

-- the plan's file holds this plan, and it was run
pub record PlanRan (job : Job) (seen : SeenOutside) (heard : Heard) (answer : Status) : Type 0 where
  pub plan : PlanForm
  pub is_plan : IsPlanAsked seen.held job plan
  pub answered : PlanAnswered job plan seen answer
  pub told : ToldRan seen.held job plan heard (message job plan.tables answer) answer

-- what an answer means where the arguments ask for this
abbrev pub JobAnswered : Job → SeenOutside → Heard → Status → Type 0
JobAnswered job seen heard answer = PlanIsUnread job seen heard answer ⊎ PlanRan job seen heard answer

-- the number of the demo that is asked for, if one is
abbrev pub demo_of : Option Job → Option ℕ
demo_of None = None
demo_of (Some job) = job.demo

-- what is seen of a run with a demo: its documents are what the files hold, and no read of them fails
abbrev pub seen_for : Option ℕ → SeenOutside → SeenOutside
seen_for None seen = seen
seen_for (Some number) seen = record seen {
  held = Some (demo_contents number);
  read_faults_before = 0;
  read_faults_after = 0;
  refused = None;
}

-- the answer where the arguments were not read
abbrev pub status_of_words : WordsFault → Status
status_of_words fault.Bad = status.BadWords
status_of_words fault.Memory = status.Memory

-- the arguments are no command line: that is reported, or memory was wanting
pub record WordsAreBad (seen : SeenOutside) (heard : Heard) (answer : Status) : Type 0 where
  pub is : (answer ≡ status.BadWords) ⊎ (answer ≡ status.Memory)
  pub nothing : WroteNothing seen
  pub told : Told heard (message no_job [] answer) answer

-- what an answer means
abbrev pub Answered : Option Job → SeenOutside → Heard → Status → Type 0
Answered None seen heard answer = WordsAreBad seen heard answer
Answered (Some job) seen heard answer = JobAnswered job (seen_for job.demo seen) heard answer

-- the answer of a run's steps
abbrev pub status_of : {A : Type 0} → Result A Status → Status
status_of (Ok x) = status.Ok
status_of (Err s) = s

-- no read and no write failed
pub record MetNoFault (seen : SeenOutside) : Type 0 where
  pub reads : ¬ Rose seen.read_faults_before seen.read_faults_after
  pub writes : ¬ Rose seen.write_faults_before seen.write_faults_after

-- a good plan over good tables, in which nothing may fail
pub record IsSound (held : Contents) (job : Job) (plan : PlanForm) (tables : List (List Row)) : Type 0 where
  pub is_plan : IsPlanAsked held job plan
  pub are_tables : AreTablesAsked held job plan.tables tables
  pub calm : CannotFail (tree_of plan) tables

-- a run of what is sound that met no fault of the outside gave the result, or memory was wanting
pub record IsComplete (asked : Option Job) (seen : SeenOutside) (answer : Status) : Type 0 where
  pub ends_well : (job : Job) (held : List ℕ → Option (List ℕ)) (plan : PlanForm) (tables : List (List Row))
      → asked ≡ Some job → (seen_for job.demo seen).held ≡ Some held → IsSound (Some held) job plan tables
      → MetNoFault (seen_for job.demo seen) → (answer ≡ status.Ok) ⊎ (answer ≡ status.Memory)
