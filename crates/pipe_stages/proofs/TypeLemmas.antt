-- The types behind one more step.
use Rattle.std.proofs.Common.{◌≡◌, ℕ, List, [], ◌∷◌, ◌++◌, refl}
use Rattle.sql_values.specs.declared.types.SqlType.{SqlType}
use Rattle.plan_layout.specs.Pipes.{StepForm}
use Rattle.driver_net_laws.specs.Types.{PipeTypes, types_after, types_through}

pub through_last : (types : ℕ → PipeTypes) (halved : List SqlType) (first : List StepForm) (step : StepForm) (taken : List SqlType)
    → types_through types halved (first ++ step ∷ []) taken ≡ types_after types halved step (types_through types halved first taken)
through_last types halved [] step taken = refl
through_last types halved (one ∷ first) step taken = through_last types halved first step (types_after types halved one taken)
