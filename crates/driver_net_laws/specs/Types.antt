-- The types of the rows of a pipe: of those that it takes, and of those that come behind each of its steps.
use Rattle.std.specs.Prelude.{◌≡◌, ℕ, List, [], ◌∷◌, ◌++◌, Bool, true, false, ◌==◌, map, slice_get, Some}
use Rattle.sql_values.specs.declared.types.SqlType.{SqlType}
use Rattle.sql_functions.specs.CallTypes.{type_at}
use Rattle.plan_trees.specs.Steps as plan_step
use Rattle.plan_trees.specs.TreeTypes.{call_kind}
use Rattle.plan_layout.specs.Pipes.{PipeForm, SourceForm, StepForm, TargetForm, table, rows, sides, fragment, edge, does, probe, partial, final, result, cell, side, readers, takers}
use Rattle.plan_trees.specs.Layouts.{partial_types}

-- of the rows of its source, of those that come to its last step, of those that come to the last step of the pipe whose
-- rows it reads, and of those that it gives
pub record PipeTypes : Type 0 where
  pub taken : List SqlType
  pub before : List SqlType
  pub halved : List SqlType
  pub given : List SqlType

-- behind a step over rows of some types. The second half of an aggregate groups the rows that came to the first one
abbrev pub types_after : (ℕ → PipeTypes) → List SqlType → StepForm → List SqlType → List SqlType
types_after types halved (does id step) between = plan_step.types_after step between
types_after types halved (probe id kind on at) between = between ++ (types at).given
types_after types halved (partial id keys calls) between = partial_types between keys calls
types_after types halved (final id keys calls) between = map (type_at halved) keys ++ map (call_kind halved) calls

abbrev pub types_through : (ℕ → PipeTypes) → List SqlType → List StepForm → List SqlType → List SqlType
types_through types halved [] between = between
types_through types halved (step ∷ steps) between = types_through types halved steps (types_after types halved step between)

-- a pipe gives its rows to the one at the place: to the source of a union, or to that which reads its fragment
abbrev pub gives_to : ℕ → TargetForm → Bool
gives_to at result = false
gives_to at (cell on) = false
gives_to at (side pipe) = pipe == at
gives_to at (readers output pipe) = pipe == at
gives_to at (takers pipe) = false

-- the rows of those that give to the pipe at a place are of the types that it takes
abbrev pub AreGiven : List PipeForm → (ℕ → PipeTypes) → ℕ → Type 0
AreGiven layout types at = (from : ℕ) (pipe : PipeForm) → slice_get layout from ≡ Some pipe → gives_to at pipe.target ≡ true
    → (types from).given ≡ (types at).taken

-- and the rows that came to the last steps of those that give to it are of its `halved` types
abbrev pub AreHalved : List PipeForm → (ℕ → PipeTypes) → ℕ → Type 0
AreHalved layout types at = (from : ℕ) (pipe : PipeForm) → slice_get layout from ≡ Some pipe → gives_to at pipe.target ≡ true
    → (types from).before ≡ (types at).halved

-- what fetches has no step, and is asked for no types
abbrev pub TakesTypes : List PipeForm → (ℕ → PipeTypes) → ℕ → SourceForm → Type 0
TakesTypes layout types at (table place columns kinds) = (types at).taken ≡ kinds
TakesTypes layout types at (rows kinds list) = (types at).taken ≡ kinds
TakesTypes layout types at sides = AreGiven layout types at
TakesTypes layout types at (fragment number) = AreGiven layout types at × AreHalved layout types at
TakesTypes layout types at (edge pipe numbers) = Unit {0}

pub record PipeIsTyped (layout : List PipeForm) (types : ℕ → PipeTypes) (at : ℕ) (pipe : PipeForm) : Type 0 where
  pub takes : TakesTypes layout types at pipe.source
  pub last : (steps : List StepForm) (step : StepForm) → pipe.steps ≡ steps ++ step ∷ []
      → (types at).before ≡ types_through types (types at).halved steps (types at).taken
  pub gives : (types at).given ≡ types_through types (types at).halved pipe.steps (types at).taken

abbrev pub PipesAreTyped : List PipeForm → (ℕ → PipeTypes) → Type 0
PipesAreTyped layout types = (at : ℕ) (pipe : PipeForm) → slice_get layout at ≡ Some pipe → PipeIsTyped layout types at pipe
