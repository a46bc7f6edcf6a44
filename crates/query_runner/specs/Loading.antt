-- Why a plan or its tables were not read.
use Rattle.std.specs.Prelude.{◌≡◌, ℕ, ◌+◌, ◌-◌, ◌^◌, min, List, [], ◌∷◌, take, Option, Some, None, slice_get}
use Rattle.count_laws.specs.Counts.{Rose}
use Rattle.run_ports.specs.Reading.{AreBytesOf}
use Rattle.json_paths.specs.Places.{pointer_text}
use Rattle.json_paths.specs.declared.key.Key.TheVariants as key
use Rattle.json_paths.specs.declared.step.Step.TheVariants as step
use Rattle.plan_docs.specs.declared.plan.TableDoc.{TableDoc}
use Rattle.plan_reader.specs.Judgement.{RefusedFor}
use Rattle.plan_checks.specs.declared.fault.PlanFault.TheVariants as plan_fault
use Rattle.csv_tables.specs.Tables.{TableRefusedFor}
use Rattle.csv_tables.specs.declared.fault.TableFault.TheVariants as table_fault
use Rattle.command_line.specs.Words.{Job}
use Rattle.query_runner.specs.Jobs.{AreTablesAsked, Contents, IsFileOf, Row, first_without_file, row_limit}
use Rattle.query_runner.specs.declared.status.Status.{Status}
use Rattle.query_runner.specs.declared.status.Status.TheVariants as status

-- a read of this file failed
pub record ReadFailed (before after : ℕ) (refused : Option (List ℕ)) (name : List ℕ) : Type 0 where
  pub rose : Rose before after
  pub is_name : refused ≡ Some name

-- a number as far as 32 bits count
abbrev pub as_number : ℕ → ℕ
as_number n = min n (2 ^ 32 - 1)

-- the file of this table could not be read
pub record TableIsUnread (job : Job) (doc : TableDoc) (before after : ℕ) (refused : Option (List ℕ)) (file : ℕ) : Type 0 where
  pub place : ℕ
  pub name : List ℕ
  pub is_file : IsFileOf job doc place name
  pub is_number : file ≡ as_number (place + 1)
  pub failed : ReadFailed before after refused name

-- the first table whose file could not be read, where each has a file: the files of the tables before it
-- are tables
pub record SomeTableIsUnread (held : Contents) (job : Job) (docs : List TableDoc) (before after : ℕ) (refused : Option (List ℕ)) (file : ℕ) : Type 0 where
  pub all_have_files : first_without_file job docs ≡ None
  pub table : ℕ
  pub doc : TableDoc
  pub is_doc : slice_get docs table ≡ Some doc
  pub earlier : List (List Row)
  pub are_tables : AreTablesAsked held job (take table docs) earlier
  pub unread : TableIsUnread job doc before after refused file

-- the path of a table's name
abbrev pub name_path : ℕ → List ℕ
name_path table = pointer_text (step.Key key.Tables ∷ step.Index table ∷ step.Key key.Name ∷ [])

-- the arguments name no file for a table, and this is the first such table
pub record HasNoFile (job : Job) (docs : List TableDoc) (code : ℕ) (path : List ℕ) : Type 0 where
  pub table : ℕ
  pub is_first : first_without_file job docs ≡ Some table
  pub is_four : code ≡ 4
  pub is_path : path ≡ name_path table

-- the plan's file holds no plan
pub record IsNoPlan (held : Contents) (job : Job) (code : ℕ) (path : List ℕ) : Type 0 where
  pub bytes : List ℕ
  pub are_bytes : AreBytesOf held job.plan bytes
  pub why : RefusedFor bytes (plan_fault.Refused code path)

-- the file of this table holds no table of the plan's
pub record TableIsRefused (held : Contents) (job : Job) (doc : TableDoc) (row column why : ℕ) : Type 0 where
  pub place : ℕ
  pub file : List ℕ
  pub is_file : IsFileOf job doc place file
  pub bytes : List ℕ
  pub are_bytes : AreBytesOf held file bytes
  pub refused : TableRefusedFor doc.columns row_limit bytes (table_fault.Refused row column why)

-- the first table whose file holds no table of the plan's, where each has a file: those of the tables
-- before it do
pub record FirstIsRefused (held : Contents) (job : Job) (docs : List TableDoc) (table row column why : ℕ) : Type 0 where
  pub all_have_files : first_without_file job docs ≡ None
  pub place : ℕ
  pub is_number : table ≡ as_number place
  pub doc : TableDoc
  pub is_doc : slice_get docs place ≡ Some doc
  pub earlier : List (List Row)
  pub are_tables : AreTablesAsked held job (take place docs) earlier
  pub refused : TableIsRefused held job doc row column why

-- why a file was not read
abbrev pub ReadFails : ℕ → ℕ → ℕ → Option (List ℕ) → List ℕ → Status → Type 0
ReadFails number before after refused name status.Memory = Unit {0}
ReadFails number before after refused name (status.ReadFault file) = (file ≡ number) × ReadFailed before after refused name
ReadFails number before after refused name _ = ⊥

-- why there is no plan
abbrev pub PlanFails : Contents → Job → ℕ → ℕ → Option (List ℕ) → Status → Type 0
PlanFails held job before after refused status.Memory = Unit {0}
PlanFails held job before after refused (status.ReadFault file) = (file ≡ 0) × ReadFailed before after refused job.plan
PlanFails held job before after refused (status.PlanRefused code path) = IsNoPlan held job code path
PlanFails held job before after refused _ = ⊥

-- why not every table has a file
abbrev pub FilesFail : Job → List TableDoc → Status → Type 0
FilesFail job docs status.Memory = Unit {0}
FilesFail job docs (status.PlanRefused code path) = HasNoFile job docs code path
FilesFail job docs _ = ⊥

-- why this table, of this place, was not read
abbrev pub TableFails : Contents → Job → TableDoc → ℕ → ℕ → ℕ → Option (List ℕ) → Status → Type 0
TableFails held job doc place before after refused status.Memory = Unit {0}
TableFails held job doc place before after refused (status.ReadFault file) = TableIsUnread job doc before after refused file
TableFails held job doc place before after refused (status.TableRefused table row column why) =
    (table ≡ as_number place) × TableIsRefused held job doc row column why
TableFails held job doc place before after refused _ = ⊥

-- why the tables were not read
abbrev pub TablesFail : Contents → Job → List TableDoc → ℕ → ℕ → Option (List ℕ) → Status → Type 0
TablesFail held job docs before after refused status.Memory = Unit {0}
TablesFail held job docs before after refused (status.ReadFault file) = SomeTableIsUnread held job docs before after refused file
TablesFail held job docs before after refused (status.TableRefused table row column why) = FirstIsRefused held job docs table row column why
TablesFail held job docs before after refused _ = ⊥
