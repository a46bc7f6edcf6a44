-- The notes of the drivers of a pipeline, join by join and driver by driver.
use Rattle.std.proofs.Common.{◌≡◌, ℕ, List, [], ◌∷◌, Some, None, sym, subst}
use Rattle.sql_values.specs.declared.relational.JoinKind.{JoinKind}
use Rattle.operator_core.specs.Rows.{Row}
use Rattle.bag_laws.specs.Laws.{TaskRows}
use Rattle.plan_run_laws.specs.RunPlans.{RunPlan, scan, values, remote, step, halves, join, union}
use Rattle.plan_run_laws.specs.Stops.{AreNoted, IsNoted}
use Rattle.pipe_laws.specs.Stopped.{AgreeWith}
use Rattle.pipe_laws.specs.Trees.{AreBuilds}
use Rattle.pipe_laws.proofs.OperatorLemmas.{first_agrees}
use Rattle.pipe_laws.proofs.TreeLemmas.{in_task}
use Rattle.pipe_laws.specs.Lanes.{HasNotes, Noted, first_note, notes_of_lanes, other_notes}

pub none_agree : (notes : Noted) (builds : List (List Row)) → notes ≡ [] → AgreeWith notes builds
none_agree notes builds none = subst (λ (ns : Noted). AgreeWith ns builds) (sym none) tt

pub has_others : (id : ℕ) (kind : JoinKind) (on : List (ℕ × ℕ)) (left right : RunPlan) (notes : Noted) → HasNotes (join id kind on left right) notes → HasNotes left (other_notes notes)
has_others id kind on left right [] has = absurd has
has_others id kind on left right (noted ∷ notes) has = has

pub join_agrees : (id : ℕ) (kind : JoinKind) (on : List (ℕ × ℕ)) (left right : RunPlan) (notes : Noted) (built : List Row) (builds : List (List Row)) → HasNotes (join id kind on left right) notes
    → IsNoted (first_note notes) built → AgreeWith (other_notes notes) builds → AgreeWith notes (built ∷ builds)
join_agrees id kind on left right [] built builds has is agrees = absurd has
join_agrees id kind on left right (None ∷ notes) built builds has is agrees = agrees
join_agrees id kind on left right (Some rows ∷ notes) built builds has is agrees = (is, agrees)

-- builds that are as the notes of all drivers know them are as those of one driver do
pub agreed : (run : RunPlan) (notes : ℕ → ℕ → Noted) (builds : List TaskRows) (k d : ℕ) → HasNotes run (notes k d) → AreNoted (notes_of_lanes run notes) builds k d
    → AgreeWith (notes k d) (in_task k builds)
agreed (scan id table columns types) notes builds k d has noted = none_agree (notes k d) (in_task k builds) has
agreed (values id types rows) notes builds k d has noted = none_agree (notes k d) (in_task k builds) has
agreed (remote id output tasks input) notes builds k d has noted = none_agree (notes k d) (in_task k builds) has
agreed (step id s input) notes builds k d has noted = agreed input notes builds k d has noted
agreed (join id kind on left right) notes [] k d has noted = absurd noted
agreed (join id kind on left right) notes (build ∷ builds) k d has noted =
    join_agrees id kind on left right (notes k d) (build k) (in_task k builds) has noted.0
    (agreed left (λ (i e : ℕ). other_notes (notes i e)) builds k d (has_others id kind on left right (notes k d) has) noted.1)
agreed (halves id source output m h input) notes builds k d has noted = none_agree (notes k d) (in_task k builds) has
agreed (union id left right) notes builds k d has noted = none_agree (notes k d) (in_task k builds) has

-- a driver has a note for each join, so builds that agree with them are as many
pub builds_for : (run : RunPlan) (notes : Noted) (builds : List (List Row)) → HasNotes run notes → AgreeWith notes builds → AreBuilds run builds
builds_for (scan id table columns types) notes builds has agrees = tt
builds_for (values id types rows) notes builds has agrees = tt
builds_for (remote id output tasks input) notes builds has agrees = tt
builds_for (step id s input) notes builds has agrees = builds_for input notes builds has agrees
builds_for (join id kind on left right) [] builds has agrees = absurd has
builds_for (join id kind on left right) (noted ∷ notes) [] has agrees = absurd agrees
builds_for (join id kind on left right) (noted ∷ notes) (built ∷ builds) has agrees = builds_for left notes builds has (first_agrees noted notes built builds agrees).1
builds_for (halves id source output m h input) notes builds has agrees = tt
builds_for (union id left right) notes builds has agrees = tt
