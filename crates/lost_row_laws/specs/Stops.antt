-- Runs that something stopped, whose scans lost rows.
use Rattle.std.specs.Prelude.{◌≡◌, ℕ, ◌<◌, List, [], ◌∷◌, ◌++◌, filter, true, Some}
use Rattle.sql_values.specs.declared.value.Value.{Value}
use Rattle.bag_laws.specs.Buckets.{Sits}
use Rattle.bag_laws.specs.Gather.{gather}
use Rattle.bag_laws.specs.Laws.{TaskRows}
use Rattle.bag_laws.specs.Weights.{SameWeights}
use Rattle.relation_laws.specs.Joins.{are_partners}
use Rattle.plan_trees.specs.Allowed.{scanned, skipping, width_of}
use Rattle.plan_trees.specs.TreeTypes.{types_of}
use Rattle.column_origins.specs.Origins.{left_column}
use Rattle.plan_run_laws.specs.Nets.{Lanes, of_tasks}
use Rattle.plan_run_laws.specs.Stages.{IsAlone, MayHave, first_half}
use Rattle.plan_run_laws.specs.RunPlans.{RunPlan, tree_of_run}
use Rattle.plan_run_laws.specs.RunPlans as plan
use Rattle.plan_run_laws.specs.Spreads.{Tables}
use Rattle.plan_run_laws.specs.Stops.{AllSet, AreNoted, AreOpen, Flags, Hop, MayCome, Notes, PassedSoFar, StoppedPipe, TookOf}
use Rattle.plan_run_laws.specs.Wholes.{longer}
use Rattle.lost_row_laws.specs.Nets.{BelowLosing}
use Rattle.lost_row_laws.specs.Sieves.{Sieve, is_held, is_lost, over_input, under}

-- where a sieve of a join holds anything back, its right side is whole in all tasks, and that has no partner there
abbrev pub AreSure : List (ℕ × ℕ) → ℕ → StoppedPipe → List Sieve → Type 0
AreSure on n p own =
    (a : List Value) → is_held own a ≡ true
    → AllSet n p.drivers p.done × (filter (are_partners on a) (gather n (of_tasks p.drivers p.gave)) ≡ [])

-- what the drivers of a node's pipeline took from its sources so far, and all pipelines below, as `Stops` says it but for
-- scans and the sieves of joins
abbrev pub StopsLosing : Tables → List Sieve → ℕ → ℕ → RunPlan → Notes → Lanes → Flags → Type 0
StopsLosing tables sieves n w (plan.scan id table columns types) notes took ended =
    (notes ≡ []) × (lost : Lanes)
    × Hop (scanned tables table columns) (gather n (of_tasks w (longer took lost))) (AllSet n w ended) (Unit {0})
    × ((k d : ℕ) → k < n → d < w → Sits (is_lost skipping sieves types) (lost k d))
StopsLosing tables sieves n w (plan.values id types rows) notes took ended =
    (notes ≡ []) × ((k : ℕ) → k < n → TookOf w (took k) (ended k) rows (Unit {0}))
StopsLosing tables sieves n w (plan.remote id output m input) notes took ended =
    (p : StoppedPipe) × (notes ≡ []) × StopsLosing tables sieves m p.drivers input p.notes p.took p.ended
    × AreOpen [] m p.drivers input p.notes p.took p.gave p.ended p.done
    × PassedSoFar output m n p w took ended
StopsLosing tables sieves n w (plan.step id s input) notes took ended =
    MayHave s w × StopsLosing tables (under (types_of (tree_of_run input)) s sieves) n w input notes took ended
StopsLosing tables sieves n w (plan.halves id source output m h input) notes took ended =
    (p : StoppedPipe) × (notes ≡ []) × IsAlone w
    × StopsLosing tables [] m p.drivers input p.notes p.took p.ended
    × AreOpen (first_half (types_of (tree_of_run input)) h ∷ []) m p.drivers input p.notes p.took p.gave p.ended p.done
    × PassedSoFar output m n p w took ended
StopsLosing tables sieves n w (plan.join id kind on left right) [] took ended = ⊥
StopsLosing tables sieves n w (plan.join id kind on left right) (note ∷ notes) took ended =
    (own : List Sieve) × (p : StoppedPipe) × StopsLosing tables [] n p.drivers right p.notes p.took p.ended
    × AreOpen [] n p.drivers right p.notes p.took p.gave p.ended p.done
    × ((k d : ℕ) → k < n → d < w → (built : List (List Value)) → note k d ≡ Some built
    → ((e : ℕ) → e < p.drivers → p.done k e ≡ true)
    × SameWeights (of_tasks p.drivers p.gave k) built)
    × AreSure on n p own
    × StopsLosing tables (over_input (left_column kind (width_of (tree_of_run left))) (own ++ sieves)) n w left notes took ended
StopsLosing tables sieves n w (plan.union id left right) notes took ended =
    (p : StoppedPipe) × (q : StoppedPipe) × (notes ≡ [])
    × StopsLosing tables [] n p.drivers left p.notes p.took p.ended
    × AreOpen [] n p.drivers left p.notes p.took p.gave p.ended p.done
    × StopsLosing tables [] n q.drivers right q.notes q.took q.ended
    × AreOpen [] n q.drivers right q.notes q.took q.gave q.ended q.done
    × ((k : ℕ) → k < n
    → TookOf w (took k) (ended k) (of_tasks p.drivers p.gave k ++ of_tasks q.drivers q.gave k)
    (((e : ℕ) → e < p.drivers → p.done k e ≡ true)
    × ((e : ℕ) → e < q.drivers → q.done k e ≡ true)))

-- a whole run of which a stopped one is the beginning
pub record WholeLosing (tables : Tables) (sieves : List Sieve) (n w : ℕ) (node : RunPlan) (notes : Notes) (took : Lanes)
    (ended : Flags) : Type 0 where
  pub more : Lanes
  pub builds : List TaskRows
  pub below : BelowLosing skipping tables sieves n w node builds (longer took more)
  pub noted : (k d : ℕ) → k < n → d < w → AreNoted notes builds k d
  pub none : (k d : ℕ) → k < n → d < w → MayCome (ended k d) (more k d)
