-- What a layout has to be so that its drivers can be made: expressions have types, calls can be made, and sources can
-- be read.
use Rattle.std.specs.Prelude.{◌≡◌, ℕ, ◌+◌, ◌<◌, List, [], ◌∷◌, IsTrue, length, slice_get, Some}
use Rattle.sql_values.specs.declared.table.Table.{Table}
use Rattle.sql_values.specs.declared.types.SqlType.{SqlType}
use Rattle.accumulators.specs.Limits.{are_allowed}
use Rattle.col_pages.specs.Fits.{AllFit}
use Rattle.page_processor.specs.Typed.{AllTyped, IsTyped}
use Rattle.pipe_laws.specs.Fits.{IsReadFrom}
use Rattle.plan_layout.specs.Pipes.{PipeForm, SourceForm, StepForm, table, rows, sides, fragment, edge, does, probe, partial, final}
use Rattle.plan_trees.specs.Layouts.{partial_types}
use Rattle.plan_trees.specs.Steps as plan_step
use Rattle.driver_net_laws.specs.Types.{PipeTypes, types_after}

-- a stage can be made that does this over rows of these types
abbrev pub DoesFit : List SqlType → plan_step.StepForm → Type 0
DoesFit between (plan_step.filter predicate) = (0 < length between) × IsTyped between predicate
DoesFit between (plan_step.project columns) = (0 < length columns) × AllTyped between columns
DoesFit between (plan_step.aggregate keys calls) = (0 < length keys + length calls) × IsTrue (are_allowed between calls)
DoesFit between (plan_step.limit count) = Unit {0}
DoesFit between step = 0 < length between

-- a stage can be made for the step, over rows of these types
abbrev pub StepFits : List SqlType → StepForm → List SqlType → Type 0
StepFits halved (does id step) between = DoesFit between step
StepFits halved (probe id kind on at) between = Unit {0}
StepFits halved (partial id keys calls) between = (0 < length keys + length calls) × IsTrue (are_allowed between calls)
StepFits halved (final id keys calls) between =
    (0 < length keys + length calls) × IsTrue (are_allowed halved calls) × (between ≡ partial_types halved keys calls)

abbrev pub StepsFit : (ℕ → PipeTypes) → List SqlType → List StepForm → List SqlType → Type 0
StepsFit types halved [] between = Unit {0}
StepsFit types halved (step ∷ steps) between =
    StepFits halved step between × StepsFit types halved steps (types_after types halved step between)

-- the source can be read
abbrev pub SourceFits : List Table → SourceForm → Type 0
SourceFits tables (table place columns kinds) = IsReadFrom tables place columns
SourceFits tables (rows kinds list) = (0 < length kinds) × AllFit kinds list
SourceFits tables sides = Unit {0}
SourceFits tables (fragment number) = Unit {0}
SourceFits tables (edge pipe numbers) = Unit {0}

pub record PipeFits (tables : List Table) (types : ℕ → PipeTypes) (at : ℕ) (pipe : PipeForm) : Type 0 where
  pub source : SourceFits tables pipe.source
  pub steps : StepsFit types (types at).halved pipe.steps (types at).taken

abbrev pub LayoutFits : List Table → List PipeForm → (ℕ → PipeTypes) → Type 0
LayoutFits tables layout types = (at : ℕ) (pipe : PipeForm) → slice_get layout at ≡ Some pipe → PipeFits tables types at pipe
