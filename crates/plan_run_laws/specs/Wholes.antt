-- A whole run that begins as a stopped one: what the drivers of one node's pipeline took and gave, and more
-- behind it. Of the pipelines below it is said that they ran whole, not that they began as the
-- stopped ones.
use Rattle.std.specs.Prelude.{ℕ, ◌<◌, List, ◌++◌}
use Rattle.bag_laws.specs.Laws.{TaskRows}
use Rattle.plan_trees.specs.Allowed.{skipping}
use Rattle.plan_run_laws.specs.Nets.{Below, Lanes, Went}
use Rattle.plan_run_laws.specs.RunPlans.{RunPlan}
use Rattle.plan_run_laws.specs.Spreads.{Tables}
use Rattle.plan_run_laws.specs.Stops.{AreNoted, Flags, MayCome, Notes}

-- the rows of each driver, with more behind them
abbrev pub longer : Lanes → Lanes → Lanes
longer lanes more k d = lanes k d ++ more k d

-- a whole run gives the drivers of the node's pipeline what they took, and more where their
-- sources had not ended. What fails is left out, and the builds are as the notes know them
pub record Whole (tables : Tables) (n w : ℕ) (node : RunPlan) (notes : Notes) (took : Lanes)
    (ended : Flags) : Type 0 where
  pub more : Lanes
  pub builds : List TaskRows
  pub below : Below skipping tables n w node builds (longer took more)
  pub noted : (k d : ℕ) → k < n → d < w → AreNoted notes builds k d
  pub none : (k d : ℕ) → k < n → d < w → MayCome (ended k d) (more k d)

-- and the drivers of the node's pipeline gave what they gave, and more where they were not done
pub record RunsOn (tables : Tables) (n w : ℕ) (node : RunPlan) (notes : Notes) (took gave : Lanes)
    (ended done : Flags) : Type 0 where
  pub whole : Whole tables n w node notes took ended
  pub rest : Lanes
  pub went : Went skipping n w node whole.builds (longer took whole.more) (longer gave rest)
  pub none : (k d : ℕ) → k < n → d < w → MayCome (done k d) (rest k d)
