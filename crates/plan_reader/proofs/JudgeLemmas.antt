-- The checks of a document and then of its plan are all checks, in their order.
use Rattle.std.proofs.Common.{◌≡◌, inl, inr, ℕ, List, Option, Some, None, sym, ap, ◌∙◌}
use Rattle.std.specs.Option.{option_or}
use Rattle.serde_json.specs.Data.{Data}
use Rattle.plan_checks.specs.declared.fault.PlanFault.{PlanFault}
use Rattle.plan_checks.specs.declared.fault.PlanFault.TheVariants.{Refused, Memory}
use Rattle.plan_checks.specs.Documents as document
use Rattle.plan_docs.specs.Documents.{plan_of}
use Rattle.plan_docs.specs.Plans.{PlanForm}
use Rattle.plan_reader.specs.Judgement.{IsPlan, RefusedFor, plan_refusal}

first_told : {A : Type 0} (o p : Option A) (x : A) → o ≡ Some x → option_or o p ≡ Some x
first_told o p x is = ap (λ r. option_or r p) is

second_told : {A : Type 0} (o p : Option A) → o ≡ None → option_or o p ≡ p
second_told o p is = ap (λ r. option_or r p) is

-- a document that is refused is refused
pub refused_first : (bytes : List ℕ) (fault : PlanFault) → document.RefusedFor bytes fault → RefusedFor bytes fault
refused_first bytes (Refused code path) why =
    elim why [
      | inl none ↦ inl none
      | inr refused ↦ inr (record {
        document = refused.document;
        json = refused.json;
        refused = first_told (document.refusal_of refused.document) (plan_refusal (plan_of refused.document)) (code, path) refused.refused;
      })
    ]
refused_first bytes Memory why = tt

-- a plan of a document that passes is refused
pub refused_later : (bytes : List ℕ) (d : Data) (plan : PlanForm) (fault : PlanFault) → document.IsDocument bytes d → plan ≡ plan_of d
    → document.RefusedAs (plan_refusal plan) fault → RefusedFor bytes fault
refused_later bytes d plan (Refused code path) is means why =
    inr (record {
      document = d;
      json = is.json;
      refused = second_told (document.refusal_of d) (plan_refusal (plan_of d)) is.passes ∙ (ap plan_refusal (sym means) ∙ why);
    })
refused_later bytes d plan Memory is means why = tt

pub accepted : (bytes : List ℕ) (d : Data) (plan : PlanForm) → document.IsDocument bytes d → plan ≡ plan_of d → plan_refusal plan ≡ None → IsPlan bytes plan
accepted bytes d plan is means passes = record {
  document = d;
  json = is.json;
  passes = second_told (document.refusal_of d) (plan_refusal (plan_of d)) is.passes ∙ (ap plan_refusal (sym means) ∙ passes);
  means = means;
}

pub ruleset judged = (refused_first, refused_later, accepted)
