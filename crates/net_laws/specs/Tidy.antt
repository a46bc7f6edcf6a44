-- What is asked of a layout besides that its pipes run a plan.
use Rattle.std.specs.Prelude.{◌≡◌, ℕ, List, [], Option, None, Some, slice_get, true}
use Rattle.plan_layout.specs.Pipes.{PipeForm, SourceForm, table, rows, sides, fragment, edge}
use Rattle.plan_layout.specs.Runs.{AreFetched}
use Rattle.net_laws.specs.Givers.{GiveToReaders, GiveToUnions}
use Rattle.net_laws.specs.Reached.{is_fetching}

-- only what takes from a table has a scan
abbrev pub IsOwnScan : SourceForm → Option ℕ → Type 0
IsOwnScan (table place columns types) read = Unit {0}
IsOwnScan (rows types list) read = read ≡ None
IsOwnScan sides read = read ≡ None
IsOwnScan (fragment number) read = read ≡ None
IsOwnScan (edge pipe numbers) read = read ≡ None

-- who gives to a union, and to what reads a fragment, is known; for the latter one pipe fetches, and does no more
pub record IsTidy (layout : List PipeForm) : Type 0 where
  pub unions : GiveToUnions layout
  pub readers : GiveToReaders layout
  pub fetched : AreFetched layout
  pub plain : (at : ℕ) (pipe : PipeForm) → slice_get layout at ≡ Some pipe → is_fetching pipe.target ≡ true → pipe.steps ≡ []
  pub scans : (at : ℕ) (pipe : PipeForm) → slice_get layout at ≡ Some pipe → IsOwnScan pipe.source pipe.scan
