-- A run of what is sound, which met no fault of the outside, has no cause to refuse.
use Rattle.std.proofs.Common.{◌≡◌, ◌⊎◌, inl, inr, ℕ, List, Option, Some, None, refl, subst, sym}
use Rattle.run_ports.specs.Reading.{AreBytesOf}
use Rattle.plan_docs.specs.Plans.{PlanForm}
use Rattle.plan_reader.specs.Judgement.{IsPlan, RefusedFor}
use Rattle.plan_reader.specs.Trees.{tree_of}
use Rattle.plan_trees.specs.Stopped.{MayFail}
use Rattle.plan_checks.specs.declared.fault.PlanFault.TheVariants as plan_fault
use Rattle.command_line.specs.Words.{Job}
use Rattle.query_runner.specs.Jobs.{AreTablesAsked, IsPlanAsked, Row}
use Rattle.query_runner.specs.Loading.{IsNoPlan, PlanFails, TableIsRefused}
use Rattle.query_runner.specs.Answers.{Answered, Heard, IsComplete, IsSound, JobAnswered, MetNoFault, PlanAnswered, SeenOutside, seen_for}
use Rattle.query_runner.specs.declared.status.Status.{Status}
use Rattle.query_runner.specs.declared.status.Status.TheVariants as status
use Rattle.query_runner.proofs.TableLemmas.{all_have_files, one_list_of_tables, tables_serve}

-- bytes mean one plan
pub one_plan : (bytes : List ℕ) (a b : PlanForm) → IsPlan bytes a → IsPlan bytes b → a ≡ b
one_plan bytes a b p q = cc (p.json.value, q.json.value, p.means, q.means)

-- bytes that mean a plan are not refused
not_refused : (bytes : List ℕ) (plan : PlanForm) (code : ℕ) (path : List ℕ) → IsPlan bytes plan → RefusedFor bytes (plan_fault.Refused code path) → ⊥
not_refused bytes plan code path good (inl not_json) = not_json.no_document good.document good.json
not_refused bytes plan code path good (inr refused) = cc (good.json.value, refused.json.value, good.passes, refused.refused)

-- a name has one content
one_content : (held : List ℕ → Option (List ℕ)) (name a b : List ℕ) → AreBytesOf (Some held) name a → AreBytesOf (Some held) name b → a ≡ b
one_content held name a b p q = cc (p, q)

plan_serves : (held : List ℕ → Option (List ℕ)) (job : Job) (plan : PlanForm) (code : ℕ) (path : List ℕ)
    → IsPlanAsked (Some held) job plan → IsNoPlan (Some held) job code path → ⊥
plan_serves held job plan code path good bad =
    let same = one_content held job.plan good.bytes bad.bytes good.are_bytes bad.are_bytes in
    not_refused bad.bytes plan code path (subst (λ (bytes : List ℕ). IsPlan bytes plan) same good.is_plan) bad.why

one_plan_asked : (held : List ℕ → Option (List ℕ)) (job : Job) (a b : PlanForm) → IsPlanAsked (Some held) job a → IsPlanAsked (Some held) job b → a ≡ b
one_plan_asked held job a b p q =
    let same = one_content held job.plan p.bytes q.bytes p.are_bytes q.are_bytes in
    one_plan q.bytes a b (subst (λ (bytes : List ℕ). IsPlan bytes a) same p.is_plan) q.is_plan

-- no plan was read, though there is one
unread : (job : Job) (seen : SeenOutside) (answer : Status) (held : List ℕ → Option (List ℕ)) (plan : PlanForm)
    → PlanFails (Some held) job seen.read_faults_before seen.read_faults_after seen.refused answer
    → IsPlanAsked (Some held) job plan → MetNoFault seen → (answer ≡ status.Ok) ⊎ (answer ≡ status.Memory)
unread job seen status.Ok held plan why good calm = inl refl
unread job seen status.Memory held plan why good calm = inr refl
unread job seen status.BadWords held plan why good calm = absurd why
unread job seen (status.ReadFault file) held plan why good calm = absurd (calm.reads why.1.rose)
unread job seen (status.PlanRefused code path) held plan why good calm = absurd (plan_serves held job plan code path good why)
unread job seen (status.TableRefused table row column cause) held plan why good calm = absurd why
unread job seen (status.ExprFailed node kind) held plan why good calm = absurd why
unread job seen status.WriteFault held plan why good calm = absurd why

-- the plan was read
ran : (job : Job) (seen : SeenOutside) (answer : Status) (held : List ℕ → Option (List ℕ)) (plan : PlanForm) (tables : List (List Row))
    → PlanAnswered job plan seen answer → seen.held ≡ Some held → IsSound (Some held) job plan tables
    → MetNoFault seen → (answer ≡ status.Ok) ⊎ (answer ≡ status.Memory)
ran job seen status.Ok held plan tables answered tells sound calm = inl refl
ran job seen status.Memory held plan tables answered tells sound calm = inr refl
ran job seen status.BadWords held plan tables answered tells sound calm = absurd answered
ran job seen (status.ReadFault file) held plan tables answered tells sound calm =
    absurd (calm.reads answered.1.unread.failed.rose)
ran job seen (status.PlanRefused code path) held plan tables answered tells sound calm =
    let all = all_have_files (Some held) job plan.tables tables 0 sound.are_tables in
    let first = answered.1.is_first in absurd (cc (all, first))
ran job seen (status.TableRefused table row column why) held plan tables answered tells sound calm =
    let bad = answered.1 in
    absurd (tables_serve held job plan.tables tables bad.place bad.doc row column why sound.are_tables bad.is_doc
    (subst (λ h. TableIsRefused h job bad.doc row column why) tells bad.refused))
ran job seen (status.ExprFailed node kind) held plan tables answered tells sound calm =
    let failed = answered.1 in
    let here = subst (λ h. AreTablesAsked h job plan.tables failed.tables) tells failed.are_tables in
    let same = one_list_of_tables held job plan.tables failed.tables tables here sound.are_tables in
    absurd (sound.calm node kind (subst (λ (t : List (List Row)). MayFail (tree_of plan) t node kind) same failed.may_fail))
ran job seen status.WriteFault held plan tables answered tells sound calm = absurd (calm.writes answered.rose)

job_complete : (job : Job) (seen : SeenOutside) (heard : Heard) (answer : Status) (held : List ℕ → Option (List ℕ)) (plan : PlanForm) (tables : List (List Row))
    → JobAnswered job seen heard answer → seen.held ≡ Some held → IsSound (Some held) job plan tables
    → MetNoFault seen → (answer ≡ status.Ok) ⊎ (answer ≡ status.Memory)
job_complete job seen heard answer held plan tables (inl bad) tells sound calm =
    unread job seen answer held plan (subst (λ h. PlanFails h job seen.read_faults_before seen.read_faults_after seen.refused answer) tells bad.why) sound.is_plan calm
job_complete job seen heard answer held plan tables (inr good) tells sound calm =
    let same = one_plan_asked held job good.plan plan (subst (λ h. IsPlanAsked h job good.plan) tells good.is_plan) sound.is_plan in
    ran job seen answer held plan tables (subst (λ (p : PlanForm). PlanAnswered job p seen answer) same good.answered) tells sound calm

complete_by : (asked : Option Job) (seen : SeenOutside) (heard : Heard) (answer : Status) (job : Job) (held : List ℕ → Option (List ℕ)) (plan : PlanForm) (tables : List (List Row))
    → Answered asked seen heard answer → asked ≡ Some job → (seen_for job.demo seen).held ≡ Some held → IsSound (Some held) job plan tables
    → MetNoFault (seen_for job.demo seen) → (answer ≡ status.Ok) ⊎ (answer ≡ status.Memory)
complete_by None seen heard answer job held plan tables answered is tells sound calm = absurd cc
complete_by (Some found) seen heard answer job held plan tables answered is tells sound calm =
    let same : found ≡ job = cc in
    job_complete job (seen_for job.demo seen) heard answer held plan tables (subst (λ (j : Job). JobAnswered j (seen_for j.demo seen) heard answer) same answered) tells sound calm

pub complete : (asked : Option Job) (seen : SeenOutside) (heard : Heard) (answer : Status) → Answered asked seen heard answer → IsComplete asked seen answer
complete asked seen heard answer answered = record {
  ends_well = λ job held plan tables is tells sound calm. complete_by asked seen heard answer job held plan tables answered is tells sound calm;
}

-- what is answered of the documents of a demo is answered of a job of this demo
pub demo_answered : (job : Job) (demo : Option ℕ) (number : ℕ) (seen : SeenOutside) (heard : Heard) (answer : Status) → demo ≡ Some number
    → JobAnswered job (seen_for (Some number) seen) heard answer → JobAnswered job (seen_for demo seen) heard answer
demo_answered job demo number seen heard answer is answered =
    subst (λ (d : Option ℕ). JobAnswered job (seen_for d seen) heard answer) (sym is) answered
