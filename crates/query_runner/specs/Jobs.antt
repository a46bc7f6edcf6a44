-- What the arguments ask for, over what the files hold: the plan, and the rows of its tables.
use Rattle.std.specs.Prelude.{◌≡◌, ℕ, List, [], ◌∷◌, Option, Some, is_none}
use Rattle.std.specs.List.{position_from}
use Rattle.sql_values.specs.declared.value.Value.{Value}
use Rattle.run_ports.specs.Reading.{AreBytesOf}
use Rattle.plan_docs.specs.declared.plan.TableDoc.{TableDoc}
use Rattle.plan_docs.specs.Plans.{PlanForm}
use Rattle.plan_reader.specs.Judgement.{IsPlan}
use Rattle.csv_tables.specs.Tables.{IsTable}
use Rattle.command_line.specs.Words.{Job, file_of}

-- how many rows a table may have
abbrev pub row_limit : ℕ
row_limit = 16000000

-- the bytes of a name, where the files say it
abbrev pub Contents : Type 0
Contents = Option (List ℕ → Option (List ℕ))

abbrev pub Row : Type 0
Row = List Value

-- the plan's file holds this plan
pub record IsPlanAsked (held : Contents) (job : Job) (plan : PlanForm) : Type 0 where
  pub bytes : List ℕ
  pub are_bytes : AreBytesOf held job.plan bytes
  pub is_plan : IsPlan bytes plan

-- the first table for which the arguments name no file
abbrev pub first_without_file : Job → List TableDoc → Option ℕ
first_without_file job docs = position_from (λ doc. is_none (file_of doc.name job.files)) 0 docs

-- the arguments name this file for a table
pub record IsFileOf (job : Job) (doc : TableDoc) (place : ℕ) (file : List ℕ) : Type 0 where
  pub is : file_of doc.name job.files ≡ Some (place, file)

-- the table's file holds these rows, in the columns of the plan's table
pub record IsTableAsked (held : Contents) (job : Job) (doc : TableDoc) (rows : List Row) : Type 0 where
  pub place : ℕ
  pub file : List ℕ
  pub is_file : IsFileOf job doc place file
  pub bytes : List ℕ
  pub are_bytes : AreBytesOf held file bytes
  pub is_table : IsTable doc.columns row_limit bytes rows

-- the tables' files hold these rows, table by table
abbrev pub AreTablesAsked : Contents → Job → List TableDoc → List (List Row) → Type 0
AreTablesAsked held job [] [] = Unit {0}
AreTablesAsked held job [] (rows ∷ more) = ⊥
AreTablesAsked held job (doc ∷ docs) [] = ⊥
AreTablesAsked held job (doc ∷ docs) (rows ∷ more) = IsTableAsked held job doc rows × AreTablesAsked held job docs more
