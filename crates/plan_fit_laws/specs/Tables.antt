-- A plan that was read, and tables of the columns that it declares.
use Rattle.std.specs.Prelude.{◌≡◌, ℕ, List, map}
use Rattle.sql_values.specs.declared.table.Table.{Table}
use Rattle.plan_docs.specs.declared.plan.TableDoc.{TableDoc}
use Rattle.plan_docs.specs.Plans.{PlanForm}
use Rattle.plan_link_laws.specs.Judgement.{IsPlan}

-- some bytes are this plan
pub record WasRead (plan : PlanForm) : Type 0 where
  pub bytes : List ℕ
  pub is_plan : IsPlan bytes plan

-- table by table the columns that are declared
abbrev pub HaveColumns : List TableDoc → List Table → Type 0
HaveColumns docs tables = map (λ table. table.columns) tables ≡ map (λ doc. doc.columns) docs
