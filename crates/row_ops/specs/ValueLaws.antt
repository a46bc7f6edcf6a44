-- Laws of `ValuesOp`.
use Rattle.std.specs.Prelude.{◌≡◌, ◌↔◌, ℕ, List, [], Bool, true, false, not, ◌&&◌, nat_lt, length, drop, refl}
use Rattle.std.proofs.Common.{ap, arith, sym, ◌∙◌}
use Rattle.std.proofs.lemmas.Bool.{le-ltb, ltb-false}
use Rattle.std.proofs.lemmas.List.{drop_all, length-drop}
use Rattle.sql_values.specs.declared.value.Value.{Value}
use Rattle.sql_values.specs.declared.fail.Fail.{Fail}

none-left : (given : ℕ) (rows : List (List Value)) → (nat_lt given (length rows) ≡ false) ↔ (drop given rows ≡ [])
none-left given rows = (
  (λ e. drop_all given rows (ltb-false given (length rows) e)),
  (λ e. le-ltb given (length rows) (omega (arith, ap length e, length-drop given rows))),
)

-- what is left is the rows from the next one on
pub values-rest : (given : ℕ) (rows B : List (List Value)) → B ≡ drop given rows → (nat_lt given (length rows) ≡ false) ↔ (B ≡ [])
values-rest given rows B e = let none = none-left given rows in ((λ f. e ∙ none.0 f), (λ f. none.1 (sym e ∙ f)))

-- it is finished where it was told to finish and has given its rows
pub values-finished : (told holds : Bool) → ((told && not holds) ≡ true) ↔ ((told ≡ true) × (holds ≡ false) × ((node : ℕ) (kind : Fail) → ⊥ → ⊥))
values-finished true true = ((λ e. cc), (λ h. cc (h.1)))
values-finished true false = ((λ _. (refl, refl, λ node kind fails. fails)), (λ _. refl))
values-finished false holds = ((λ e. cc), (λ h. cc (h.0)))
