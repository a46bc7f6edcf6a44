-- Laws of `LimitOp`.
use Rattle.std.specs.Prelude.{◌≡◌, ◌↔◌, ℕ, List, [], ◌++◌, false, take}
use Rattle.std.proofs.Common.{ap, sym, ◌∙◌, append-nil}
use Rattle.sql_values.specs.declared.value.Value.{Value}
use Rattle.operator_core.specs.Samples.{has_row}
use Rattle.operator_core.specs.SampleLaws.{has_row-none}
use Rattle.operator_core.specs.NoteLaws.{take-none}

-- what is left where no row comes is what it holds
pub limit-rest : (left : ℕ) (rows B : List (List Value)) → B ≡ rows ++ take left [] → (has_row rows ≡ false) ↔ (B ≡ [])
limit-rest left rows B e =
    let same : B ≡ rows = e ∙ ap (λ x. rows ++ x) (take-none left) ∙ append-nil rows in
    let h = has_row-none rows in
    ((λ f. same ∙ h.0 f), (λ f. h.1 (sym same ∙ f)))
