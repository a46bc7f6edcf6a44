-- Bytes that are no JSON are refused.
use Rattle.std.proofs.Common.{inl, ℕ, List}
use Rattle.plan_checks.specs.declared.fault.PlanFault.{PlanFault}
use Rattle.plan_checks.specs.declared.fault.PlanFault.TheVariants.{Refused, Memory}
use Rattle.plan_checks.specs.Documents.{NotJsonFor, RefusedFor}

pub not_json : (bytes : List ℕ) (fault : PlanFault) → NotJsonFor bytes fault → RefusedFor bytes fault
not_json bytes (Refused code path) why = inl why
not_json bytes Memory why = tt
