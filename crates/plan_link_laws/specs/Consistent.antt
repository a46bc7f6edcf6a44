-- Plans of documents of any number of fragments of which no check fails.
use Rattle.std.specs.Prelude.{◌≡◌, None}
use Rattle.serde_json.specs.Data.{Data}
use Rattle.plan_docs.specs.Documents.{plan_of}
use Rattle.plan_docs.specs.Plans.{PlanForm}
use Rattle.plan_reader.specs.Judgement.{judgement_of}

pub record IsConsistent (plan : PlanForm) : Type 0 where
  pub document : Data
  pub passes : judgement_of document ≡ None
  pub means : plan ≡ plan_of document
