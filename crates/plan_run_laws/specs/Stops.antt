-- A run that something stopped: its drivers stand anywhere, and each can go on, whatever comes.
-- A driver is done where its target, or the next stage, was told to finish; it then gives no more.
use Rattle.std.specs.Prelude.{◌≡◌, ℕ, ◌<◌, List, [], ◌∷◌, ◌++◌, Bool, true, Option, Some, None}
use Rattle.sql_values.specs.declared.value.Value.{Value}
use Rattle.bag_laws.specs.Gather.{gather}
use Rattle.bag_laws.specs.Laws.{TaskRows}
use Rattle.bag_laws.specs.Weights.{SameWeights}
use Rattle.plan_trees.specs.Allowed.{scanned, skipping}
use Rattle.plan_trees.specs.TreeTypes.{types_of}
use Rattle.plan_run_laws.specs.Nets.{AreFor, Lanes, of_tasks}
use Rattle.plan_run_laws.specs.Stages.{IsAlone, MayHave, Stage, StagesMake, first_half}
use Rattle.plan_run_laws.specs.RunPlans.{Output, RunPlan, tree_of_run}
use Rattle.plan_run_laws.specs.RunPlans as plan
use Rattle.plan_run_laws.specs.Runs.{sent}
use Rattle.plan_run_laws.specs.Spreads.{Tables}

-- for each driver: whether its source has ended, or whether its target, or the next stage, was
-- told to finish
abbrev pub Flags : Type 0
Flags = ℕ → ℕ → Bool

abbrev pub AllSet : ℕ → ℕ → Flags → Type 0
AllSet n w flags = (k d : ℕ) → k < n → d < w → flags k d ≡ true

-- no row comes where that is over
abbrev pub MayCome : Bool → List (List Value) → Type 0
MayCome over more = over ≡ true → more ≡ []

-- the stages of a driver go on with more rows, those that fail left out; where the driver is
-- done they give no more
pub record StageGoesOn (stages : List Stage) (took gave : List (List Value)) (done : Bool)
    (more : List (List Value)) : Type 0 where
  pub rest : List (List Value)
  pub chain : StagesMake skipping stages (took ++ more) (gave ++ rest)
  pub none : MayCome done rest

-- they can go on, whatever comes
abbrev pub StagesCanGoOn : List Stage → List (List Value) → List (List Value) → Bool → Bool → Type 0
StagesCanGoOn stages took gave ended done =
    (more : List (List Value)) → MayCome ended more → StageGoesOn stages took gave done more

-- what the notes of each driver know of the builds of the joins along the left sides, from the
-- node down
abbrev pub Notes : Type 0
Notes = List (ℕ → ℕ → Option (List (List Value)))

-- the build is what the note knows, in any order; where the note knows nothing, it is any
abbrev pub IsNoted : Option (List (List Value)) → List (List Value) → Type 0
IsNoted None build = Unit {0}
IsNoted (Some built) build = SameWeights build built

abbrev pub AreNoted : Notes → List TaskRows → ℕ → ℕ → Type 0
AreNoted [] builds k d = Unit {0}
AreNoted (note ∷ notes) [] k d = ⊥
AreNoted (note ∷ notes) (build ∷ builds) k d =
    IsNoted (note k d) (build k) × AreNoted notes builds k d

-- each driver of the node's pipeline, with some last stages, can go on, whatever the builds are
-- of which its notes know nothing
abbrev pub AreOpen : List Stage → ℕ → ℕ → RunPlan → Notes → Lanes → Lanes → Flags → Flags → Type 0
AreOpen last n w node notes took gave ended done =
    (k d : ℕ) → k < n → d < w → (builds : List TaskRows) → AreNoted notes builds k d
    → (stages : List Stage) × AreFor node builds k stages
    × StagesCanGoOn (stages ++ last) (took k d) (gave k d) (ended k d) (done k d)

-- rows are put somewhere and taken from there, and some are left. Where it is over none is
-- left, and whoever put them has closed
pub record Hop (put took : List (List Value)) (IsOver HasClosed : Type 0) : Type 0 where
  pub left : List (List Value)
  pub some : SameWeights (took ++ left) put
  pub all : IsOver → left ≡ []
  pub closed : IsOver → HasClosed

-- the drivers of a task took what was put for it: it is over where all of them have ended
abbrev pub TookOf : ℕ → TaskRows → (ℕ → Bool) → List (List Value) → Type 0 → Type 0
TookOf drivers took ended put AreDone =
    Hop put (gather drivers took) ((d : ℕ) → d < drivers → ended d ≡ true) AreDone

-- the pipeline of a node as it stands, in all tasks of its fragment: its drivers in each task,
-- what their notes know, what each took and gave, whose sources have ended, and who gives no
-- more
pub record StoppedPipe : Type 0 where
  pub drivers : ℕ
  pub notes : Notes
  pub took : Lanes
  pub gave : Lanes
  pub ended : Flags
  pub done : Flags

-- what passed an edge so far
abbrev pub PassedSoFar : Output → ℕ → ℕ → StoppedPipe → ℕ → Lanes → Flags → Type 0
PassedSoFar output m n p w took ended =
    (k : ℕ) → k < n
    → TookOf w (took k) (ended k) (sent output n k (gather m (of_tasks p.drivers p.gave)))
    (AllSet m p.drivers p.done)

-- what the drivers of a node's pipeline took from its sources so far, and all pipelines below.
-- Where no join is left there are no notes
abbrev pub Stops : Tables → ℕ → ℕ → RunPlan → Notes → Lanes → Flags → Type 0
Stops tables n w (plan.scan id table columns types) notes took ended =
    (notes ≡ [])
    × Hop (scanned tables table columns) (gather n (of_tasks w took)) (AllSet n w ended) (Unit {0})
Stops tables n w (plan.values id types rows) notes took ended =
    (notes ≡ []) × ((k : ℕ) → k < n → TookOf w (took k) (ended k) rows (Unit {0}))
Stops tables n w (plan.remote id output m input) notes took ended =
    (p : StoppedPipe) × (notes ≡ []) × Stops tables m p.drivers input p.notes p.took p.ended
    × AreOpen [] m p.drivers input p.notes p.took p.gave p.ended p.done
    × PassedSoFar output m n p w took ended
Stops tables n w (plan.step id s input) notes took ended =
    MayHave s w × Stops tables n w input notes took ended
Stops tables n w (plan.halves id source output m h input) notes took ended =
    (p : StoppedPipe) × (notes ≡ []) × IsAlone w
    × Stops tables m p.drivers input p.notes p.took p.ended
    × AreOpen (first_half (types_of (tree_of_run input)) h ∷ []) m p.drivers input p.notes p.took p.gave p.ended p.done
    × PassedSoFar output m n p w took ended
Stops tables n w (plan.join id kind on left right) [] took ended = ⊥
Stops tables n w (plan.join id kind on left right) (note ∷ notes) took ended =
    (p : StoppedPipe) × Stops tables n p.drivers right p.notes p.took p.ended
    × AreOpen [] n p.drivers right p.notes p.took p.gave p.ended p.done
    × ((k d : ℕ) → k < n → d < w → (built : List (List Value)) → note k d ≡ Some built
    → ((e : ℕ) → e < p.drivers → p.done k e ≡ true)
    × SameWeights (of_tasks p.drivers p.gave k) built)
    × Stops tables n w left notes took ended
Stops tables n w (plan.union id left right) notes took ended =
    (p : StoppedPipe) × (q : StoppedPipe) × (notes ≡ [])
    × Stops tables n p.drivers left p.notes p.took p.ended
    × AreOpen [] n p.drivers left p.notes p.took p.gave p.ended p.done
    × Stops tables n q.drivers right q.notes q.took q.ended
    × AreOpen [] n q.drivers right q.notes q.took q.gave q.ended q.done
    × ((k : ℕ) → k < n
    → TookOf w (took k) (ended k) (of_tasks p.drivers p.gave k ++ of_tasks q.drivers q.gave k)
    (((e : ℕ) → e < p.drivers → p.done k e ≡ true)
    × ((e : ℕ) → e < q.drivers → q.done k e ≡ true)))
