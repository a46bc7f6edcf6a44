-- Where nothing fails.
use Rattle.std.proofs.Common.{◌≡◌, zero, suc, List, [], ◌∷◌, refl, arith, map}
use Rattle.std.specs.Prelude.{Contains}
use Rattle.sql_values.specs.declared.value.Value.{Value}
use Rattle.sql_values.specs.declared.fail.Fail.{Fail}
use Rattle.relation_laws.specs.Verdicts.{Verdict, keeps, drops, fails, failures}

-- an item of a list behind one more
behind_one : {X : Type 0} (x y : X) (xs : List X) → Contains xs y → Contains (x ∷ xs) y
behind_one x y xs (k, lt, is) = (suc k, omega (arith, lt), is)

at_front : {X : Type 0} (x : X) (xs : List X) → Contains (x ∷ xs) x
at_front x xs = (zero, omega arith, refl)

-- no verdict is a failure
pub no_failures : (verdicts : List Verdict) → ((kind : Fail) → ¬ Contains verdicts (fails kind)) → failures verdicts ≡ 0
no_failures [] h = refl
no_failures (keeps row ∷ verdicts) h = no_failures verdicts (λ kind among. h kind (behind_one (keeps row) (fails kind) verdicts among))
no_failures (drops ∷ verdicts) h = no_failures verdicts (λ kind among. h kind (behind_one drops (fails kind) verdicts among))
no_failures (fails kind ∷ verdicts) h = absurd (h kind (at_front (fails kind) verdicts))

-- a verdict on rows is the verdict on one of them
pub record Judgement (judge : List Value → Verdict) (rows : List (List Value)) (verdict : Verdict) : Type 0 where
  pub row : List Value
  pub among : Contains rows row
  pub so : judge row ≡ verdict

judgement : (judge : List Value → Verdict) (rows : List (List Value)) (verdict : Verdict) → Contains (map judge rows) verdict → Judgement judge rows verdict
judgement judge [] verdict (k, lt, is) = absurd (omega (arith, lt))
judgement judge (row ∷ rows) verdict (zero, lt, is) = record { row = row; among = at_front row rows; so = is }
judgement judge (row ∷ rows) verdict (suc k, lt, is) =
    let rest = judgement judge rows verdict (k, omega (arith, lt), is) in
    record { row = rest.row; among = behind_one row rest.row rows rest.among; so = rest.so }

pub calm_rows : (judge : List Value → Verdict) (rows : List (List Value)) → ((kind : Fail) (row : List Value) → Contains rows row → ¬ (judge row ≡ fails kind)) → failures (map judge rows) ≡ 0
calm_rows judge rows h = no_failures (map judge rows) (λ kind among. let j = judgement judge rows (fails kind) among in h kind j.row j.among j.so)
