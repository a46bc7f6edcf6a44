-- What bytes are as a plan: a document that no check refuses, and the plan that it means; or the
-- code and the place of the first check that fails.
use Rattle.std.specs.Prelude.{◌≡◌, ◌⊎◌, ℕ, List, Option, Some, None, Result, Ok, Err}
use Rattle.std.specs.Option.{option_or}
use Rattle.serde_json.specs.Data.{Data}
use Rattle.json_paths.specs.declared.step.Step.{Step}
use Rattle.json_paths.specs.Places.{pointer_text}
use Rattle.plan_checks.specs.declared.fault.PlanFault.{PlanFault}
use Rattle.plan_checks.specs.declared.fault.PlanFault.TheVariants.{Refused, Memory}
use Rattle.plan_checks.specs.Documents.{IsJson, IsNotJson, refusal_of}
use Rattle.plan_docs.specs.Documents.{plan_of}
use Rattle.plan_docs.specs.Plans.{PlanForm}
use Rattle.plan_spreads.specs.Plans.{plan_spreads}
use Rattle.plan_types.specs.Plans.{plan_types}
use Rattle.plan_reader.specs.Filters.{first_misdirected}

abbrev pub refused_at : ℕ → List Step → Option (ℕ × List ℕ)
refused_at code path = Some (code, pointer_text path)

-- code 5, where types were wanted
abbrev pub untyped : {A : Type 0} → Result A (List Step) → Option (ℕ × List ℕ)
untyped (Ok types) = None
untyped (Err path) = refused_at 5 path

-- code 8, where spreads were wanted
abbrev pub misplaced : {A : Type 0} → Result A (List Step) → Option (ℕ × List ℕ)
misplaced (Ok spreads) = None
misplaced (Err path) = refused_at 8 path

-- code 9, at the dynamic filter that was found
abbrev pub misdirected : Option (List Step) → Option (ℕ × List ℕ)
misdirected None = None
misdirected (Some path) = refused_at 9 path

-- the checks of a plan, in their order
abbrev pub plan_refusal : PlanForm → Option (ℕ × List ℕ)
plan_refusal plan =
    option_or (untyped (plan_types plan))
    (option_or (misplaced (plan_spreads plan))
    (misdirected (first_misdirected plan)))

-- all checks of a document, in their order
abbrev pub judgement_of : Data → Option (ℕ × List ℕ)
judgement_of d = option_or (refusal_of d) (plan_refusal (plan_of d))

-- the bytes are a document that no check refuses, and the plan is what it means
pub record IsPlan (bytes : List ℕ) (plan : PlanForm) : Type 0 where
  pub document : Data
  pub json : IsJson bytes document
  pub passes : judgement_of document ≡ None
  pub means : plan ≡ plan_of document

-- the bytes are a document, and the first check that fails has the code and the path
pub record IsRefused (bytes : List ℕ) (code : ℕ) (path : List ℕ) : Type 0 where
  pub document : Data
  pub json : IsJson bytes document
  pub refused : judgement_of document ≡ Some (code, path)

-- why bytes are no plan
abbrev pub RefusedFor : List ℕ → PlanFault → Type 0
RefusedFor bytes (Refused code path) = IsNotJson bytes code path ⊎ IsRefused bytes code path
RefusedFor bytes Memory = Unit {0}
