-- The spread of each fragment's root, or the first place at which the placement of a plan is broken: first that of
-- fragment 0, then the remote sources, then the nodes that have no spread.
use Rattle.std.specs.Prelude.{◌≡◌, ℕ, ◌+◌, List, [], ◌∷◌, slice_get, Bool, true, false, if◌then◌else◌, Option, Some, None, Result, Ok, Err}
use Rattle.std.specs.Option.{option_or}
use Rattle.json_paths.specs.declared.key.Key.TheVariants as key
use Rattle.json_paths.specs.declared.step.Step.TheVariants as step
use Rattle.json_paths.specs.Places.{pointer_text}
use Rattle.sql_exprs.specs.Typing.{Path, typed_then}
use Rattle.plan_docs.specs.declared.plan.Placement.{Placement}
use Rattle.plan_docs.specs.declared.plan.Placement.TheVariants as placement
use Rattle.plan_docs.specs.Plans.{FragmentForm, PlanForm}
use Rattle.plan_types.specs.Faults.{or_fault}
use Rattle.plan_types.specs.Plans.{root_path}
use Rattle.plan_spreads.specs.declared.fault.SpreadFault.{SpreadFault}
use Rattle.plan_spreads.specs.declared.fault.SpreadFault.TheVariants as fault
use Rattle.plan_spreads.specs.declared.spread.RowSpread.{RowSpread}
use Rattle.plan_spreads.specs.declared.spread.RowSpread.TheVariants.{Whole}
use Rattle.plan_spreads.specs.Nodes.{spread_of}
use Rattle.plan_spreads.specs.Operators.{is_parted}
use Rattle.plan_spreads.specs.Sources.{misread}

abbrev pub is_single : Placement → Bool
is_single placement.Single = true
is_single p = false

abbrev pub first_placement : Path
first_placement = step.Key key.Fragments ∷ step.Index 0 ∷ step.Key key.Placement ∷ []

-- fragment 0, which gives the result, is one task
abbrev pub placement_fault : Option FragmentForm → Option Path
placement_fault None = None
placement_fault (Some f) = if is_single f.placement then None else Some first_placement

-- the fragments from place i on, from the first
abbrev pub sources_fault : ℕ → List FragmentForm → Option Path
sources_fault i [] = None
sources_fault i (f ∷ fs) = option_or (misread f.placement (i + 1) fs (root_path i) f.root) (sources_fault (i + 1) fs)

-- rows that each task has would be given once for each
abbrev pub root_spread : Path → RowSpread → Result RowSpread Path
root_spread path s = if is_parted s then Ok s else Err path

-- one task may run any node
abbrev pub fragment_spread : ℕ → List FragmentForm → FragmentForm → Result RowSpread Path
fragment_spread i later f =
    if is_single f.placement then Ok Whole
    else typed_then (spread_of f.placement (i + 1) later (root_path i) f.root) (root_spread (root_path i))

abbrev pub all_spreads : ℕ → List FragmentForm → Result (List RowSpread) Path
all_spreads i [] = Ok []
all_spreads i (f ∷ fs) = typed_then (fragment_spread i fs f) (λ s. typed_then (all_spreads (i + 1) fs) (λ ss. Ok (s ∷ ss)))

unfoldable pub plan_spreads : PlanForm → Result (List RowSpread) Path
plan_spreads plan =
    or_fault (placement_fault (slice_get plan.fragments 0))
    (or_fault (sources_fault 0 plan.fragments)
    (all_spreads 0 plan.fragments))

-- the fault names the place as a pointer, or memory was wanting
abbrev pub RefusedFor : Result (List RowSpread) Path → SpreadFault → Type 0
RefusedFor spreads (fault.Refused pointer) = (path : Path) × (spreads ≡ Err path) × (pointer ≡ pointer_text path)
RefusedFor spreads fault.Memory = Unit {0}
