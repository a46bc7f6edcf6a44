-- What is reported of an answer.
use Rattle.std.proofs.Common.{◌≡◌, ℕ, List, Bool, true, false, Option, refl, subst}
use Rattle.std.specs.Io.KnownBytes.{Appends}
use Rattle.count_laws.specs.Counts.{Rose}
use Rattle.run_ports.specs.Writing.{AppendsPrefix}
use Rattle.plan_docs.specs.declared.plan.TableDoc.{TableDoc}
use Rattle.plan_docs.specs.Plans.{PlanForm}
use Rattle.task_executor.specs.FilterPassed.{FilterPassed}
use Rattle.command_line.specs.Words.{Job}
use Rattle.query_runner.specs.Answers.{AreCountsAsked, Heard, RunFails, Told, ToldAsked, ToldRan, ToldWell}
use Rattle.query_runner.specs.Jobs.{Contents, Row}
use Rattle.query_runner.specs.Lines.{line}
use Rattle.query_runner.specs.Loading.{FilesFail, TablesFail}
use Rattle.query_runner.specs.declared.status.Status.{Status}
use Rattle.query_runner.specs.declared.status.Status.TheVariants as status

-- of each answer but Ok a line is written, or a beginning of it
pub told : (heard : Heard) (text : List ℕ) (answer : Status) → ¬ (answer ≡ status.Ok)
    → (¬ Rose heard.faults_before heard.faults_after → Appends heard.told_before heard.told_after (line text))
    → AppendsPrefix heard.told_before heard.told_after (line text)
    → Told heard text answer
told heard text status.Ok other whole begun = absurd (other refl)
told heard text status.Memory other whole begun = record { whole = whole; begun = begun }
told heard text status.BadWords other whole begun = record { whole = whole; begun = begun }
told heard text (status.ReadFault file) other whole begun = record { whole = whole; begun = begun }
told heard text (status.PlanRefused code path) other whole begun = record { whole = whole; begun = begun }
told heard text (status.TableRefused table row column why) other whole begun = record { whole = whole; begun = begun }
told heard text (status.ExprFailed node kind) other whole begun = record { whole = whole; begun = begun }
told heard text status.WriteFault other whole begun = record { whole = whole; begun = begun }

-- so it is of a plan that ran, where not all went well
pub told_ran : (held : Contents) (job : Job) (plan : PlanForm) (heard : Heard) (text : List ℕ) (answer : Status) → ¬ (answer ≡ status.Ok) → Told heard text answer
    → ToldRan held job plan heard text answer
told_ran held job plan heard text status.Ok other was = absurd (other refl)
told_ran held job plan heard text status.Memory other was = was
told_ran held job plan heard text status.BadWords other was = was
told_ran held job plan heard text (status.ReadFault file) other was = was
told_ran held job plan heard text (status.PlanRefused code path) other was = was
told_ran held job plan heard text (status.TableRefused table row column why) other was = was
told_ran held job plan heard text (status.ExprFailed node kind) other was = was
told_ran held job plan heard text status.WriteFault other was = was

-- where all went well, the counts are those that were asked for
pub told_well : (asks : Bool) (held : Contents) (job : Job) (plan : PlanForm) (heard : Heard) (counts : List FilterPassed) → AreCountsAsked held job plan counts
    → ToldAsked asks heard counts → ToldWell asks held job plan heard
told_well true held job plan heard counts are told = record { counts = counts; are = are; told = told }
told_well false held job plan heard counts are told = told

-- no cause of a refusal is one of an answer that all went well
pub files_refuse : (job : Job) (docs : List TableDoc) (answer : Status) → FilesFail job docs answer → ¬ (answer ≡ status.Ok)
files_refuse job docs answer fails same = subst (λ (a : Status). FilesFail job docs a) same fails

pub tables_refuse : (held : Contents) (job : Job) (docs : List TableDoc) (before after : ℕ) (refused : Option (List ℕ)) (answer : Status)
    → TablesFail held job docs before after refused answer → ¬ (answer ≡ status.Ok)
tables_refuse held job docs before after refused answer fails same = subst (λ (a : Status). TablesFail held job docs before after refused a) same fails

pub runs_refuse : (plan : PlanForm) (tables : List (List Row)) (answer : Status) → RunFails plan tables answer → ¬ (answer ≡ status.Ok)
runs_refuse plan tables answer fails same = subst (λ (a : Status). RunFails plan tables a) same fails
