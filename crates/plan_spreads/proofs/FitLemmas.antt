-- The tree of a typed plan as it runs has the columns that its parts ask for.
use Rattle.std.proofs.Common.{◌≡◌, ℕ, ◌+◌, ◌-◌, ◌<◌, zero, suc, List, [], ◌∷◌, length, Bool, true, false, refl, ap, sym, ◌∙◌, subst}
use Rattle.std.specs.Prelude.{None, Ok, Err, ◌&&◌, if◌then◌else◌, slice_get, unwrap_or}
use Rattle.std.specs.Cmp.Lexicographic.{pointwise}
use Rattle.std.proofs.lemmas.List.Elements.{All-nil}
use Rattle.sql_values.specs.declared.types.SqlType.{SqlType}
use Rattle.sql_values.specs.declared.value.Value.{Value}
use Rattle.sql_functions.specs.CallTypes.{same_type}
use Rattle.json_paths.specs.declared.key.Key.TheVariants as key
use Rattle.sql_exprs.specs.Typing.{Path, typed_then, under}
use Rattle.sql_exprs.proofs.TypingLemmas.{typed_then_ok}
use Rattle.plan_docs.specs.Nodes.{NodeForm, scan, values, remote, filter, project, join, aggregate, aggregate_final, sort, top_n, top_n_final, limit, limit_final, union}
use Rattle.plan_docs.specs.Plans.{FragmentForm, PlanForm}
use Rattle.plan_trees.specs.Widths.{FitsWidths}
use Rattle.plan_types.specs.declared.row_types.RowTypes.{RowTypes}
use Rattle.plan_types.specs.RowTypes.{plain}
use Rattle.plan_types.specs.Faults.{or_fault}
use Rattle.plan_types.specs.Nodes.{node_types, same_rows}
use Rattle.plan_types.specs.Operators.{aggregate_types, filter_types, join_types, project_types, sort_types, union_types}
use Rattle.plan_types.specs.Plans.{all_types, fragment_types, output_fault, plan_types, result_fault, root_path}
use Rattle.plan_run_laws.specs.RunPlans.{RunPlan, tree_of_run}
use Rattle.plan_run_laws.specs.RunPlans as run
use Rattle.plan_spreads.specs.declared.spread.RowSpread.{RowSpread}
use Rattle.plan_spreads.specs.Halves.{AllMeet, Halved, HalvesMeet, Meets, RootMeets, aggregates, top_ns, limits}
use Rattle.plan_spreads.specs.Plans.{all_spreads, placement_fault, plan_spreads, sources_fault}
use Rattle.plan_spreads.specs.Runs.{Part, fragment_parts, no_part, node_run, one_over, one_with, part_read, plan_run}
use Rattle.plan_spreads.specs.Sources.{misread}
use Rattle.plan_spreads.specs.Widths.{AllLeavesFit, LeavesFit}
use Rattle.plan_spreads.proofs.NodeLemmas.{right_none}
use Rattle.plan_spreads.proofs.PlanLemmas.{all_meet, all_stand, first_spread}
use Rattle.plan_spreads.proofs.ReadParts.{AllStand, Over, over_half}
use Rattle.plan_spreads.proofs.WidthLemmas.{node_width, unless_fault}

abbrev Fits : RunPlan → Type 0
Fits r = FitsWidths (tree_of_run r)

over_fits : (id source : ℕ) (o : run.Output) (tasks : ℕ) (root : RunPlan) → Fits root → Fits (one_over id source o tasks root)
over_fits id source o tasks (run.aggregate half keys calls input) h = h
over_fits id source o tasks (run.aggregate_parts half below p n keys calls input) h = h
over_fits id source o tasks root h = h

with_fits : (id : ℕ) (r : RunPlan) → Fits r → Fits (one_with id r)
with_fits id (run.remote source o tasks root) h = over_fits id source o tasks root h
with_fits id r h = h

same_lengths : (xs ys : List SqlType) → pointwise same_type xs ys ≡ true → length xs ≡ length ys
same_lengths [] [] h = refl
same_lengths [] (y ∷ ys) h = absurd cc
same_lengths (x ∷ xs) [] h = absurd cc
same_lengths (x ∷ xs) (y ∷ ys) h = ap suc (same_lengths xs ys (second (same_type x y) (pointwise same_type xs ys) h))
  where
    second : (a b : Bool) → a && b ≡ true → b ≡ true
    second true b g = g
    second false b g = absurd cc

if_same : (b : Bool) (columns t : RowTypes) (path : Path) → (if b then Ok columns else Err path) ≡ Ok t → b ≡ true
if_same true columns t path e = refl
if_same false columns t path e = absurd cc

module _ (first : ℕ) (later : List FragmentForm) (types : List RowTypes) (parts : List Part) (all : AllStand later types parts)
    (fit : (k : ℕ) → Fits (unwrap_or (slice_get parts k) no_part).root) where
  abbrev NodeFits : NodeForm → Type 0
  NodeFits node = Fits (node_run first parts node)

  -- what a FINAL node reads
  half_fits : (id : ℕ) (operator : Halved) (input : NodeForm) → Over first later operator input → Fits (one_with id (node_run first parts input))
  half_fits id operator input o =
      with_fits id (node_run first parts input) (subst NodeFits o.is (fit (o.fragment - first)))

  node_fits : (path : Path) (node : NodeForm) (t : RowTypes) → Meets first later node → LeavesFit node → node_types first types path node ≡ Ok t → NodeFits node
  node_fits path (scan id table columns kinds) t m w e = w
  node_fits path (values id kinds rows) t m w e = w
  node_fits path (remote id fragment) t m w e = fit (fragment - first)
  node_fits path (filter id predicate input) t m w e =
      typed_then_ok (node_types first types (under path key.Input) input) (filter_types path predicate) t _ e (λ below h g. node_fits (under path key.Input) input below m w h)
  node_fits path (project id columns input) t m w e =
      typed_then_ok (node_types first types (under path key.Input) input) (project_types path columns) t _ e (λ below h g. node_fits (under path key.Input) input below m w h)
  node_fits path (join id kind on filters left right) t m w e =
      typed_then_ok (node_types first types (under path key.Left) left)
      (λ l. typed_then (node_types first types (under path key.Right) right) (join_types path on l)) t _ e
      (λ l h g. typed_then_ok (node_types first types (under path key.Right) right) (join_types path on l) t _ g
      (λ r h2 g2. (node_fits (under path key.Left) left l m.0 w.0 h, node_fits (under path key.Right) right r m.1 w.1 h2)))
  node_fits path (aggregate id step keys calls input) t m w e =
      typed_then_ok (node_types first types (under path key.Input) input) (aggregate_types path step keys calls) t _ e
      (λ below h g. node_fits (under path key.Input) input below m.1 w h)
  node_fits path (aggregate_final id input) t m w e = half_fits id aggregates input (over_half first later aggregates input m)
  node_fits path (sort id keys input) t m w e =
      typed_then_ok (node_types first types (under path key.Input) input) (sort_types path keys) t _ e (λ below h g. node_fits (under path key.Input) input below m w h)
  node_fits path (top_n id step count keys input) t m w e =
      typed_then_ok (node_types first types (under path key.Input) input) (sort_types path keys) t _ e (λ below h g. node_fits (under path key.Input) input below m.1 w h)
  node_fits path (top_n_final id input) t m w e = half_fits id top_ns input (over_half first later top_ns input m)
  node_fits path (limit id step count input) t m w e =
      typed_then_ok (node_types first types (under path key.Input) input) same_rows t _ e (λ below h g. node_fits (under path key.Input) input below m.1 w h)
  node_fits path (limit_final id input) t m w e = half_fits id limits input (over_half first later limits input m)
  node_fits path (union id left right) t m w e =
      typed_then_ok (node_types first types (under path key.Left) left)
      (λ l. typed_then (node_types first types (under path key.Right) right) (union_types path l)) t _ e
      (λ l h g. typed_then_ok (node_types first types (under path key.Right) right) (union_types path l) t _ g
      (λ r h2 g2.
      let same = same_lengths l.columns r.columns (if_same (pointwise same_type l.columns r.columns) (plain l.columns) t path g2) in (
        node_fits (under path key.Left) left l m.0 w.0 h,
        node_fits (under path key.Right) right r m.1 w.1 h2,
        node_width first later types parts all (under path key.Left) left l m.0 h ∙ same ∙ sym (node_width first later types parts all (under path key.Right) right r m.1 h2),
      )))

  root_fits : (path : Path) (node : NodeForm) (t : RowTypes) → RootMeets first later node → LeavesFit node → node_types first types path node ≡ Ok t → NodeFits node
  root_fits path (aggregate id step keys calls input) t m w e =
      typed_then_ok (node_types first types (under path key.Input) input) (aggregate_types path step keys calls) t _ e
      (λ below h g. node_fits (under path key.Input) input below m w h)
  root_fits path (top_n id step count keys input) t m w e =
      typed_then_ok (node_types first types (under path key.Input) input) (sort_types path keys) t _ e (λ below h g. node_fits (under path key.Input) input below m w h)
  root_fits path (limit id step count input) t m w e =
      typed_then_ok (node_types first types (under path key.Input) input) same_rows t _ e (λ below h g. node_fits (under path key.Input) input below m w h)
  root_fits path node t m w e = node_fits path node t m w e

  fragment_fits : (i : ℕ) (f : FragmentForm) (t : RowTypes) → first ≡ i + 1 → RootMeets first later f.root → LeavesFit f.root → fragment_types types i f ≡ Ok t → NodeFits f.root
  fragment_fits i f t is m w e =
      typed_then_ok (node_types (i + 1) types (root_path i) f.root) (λ ts. or_fault (output_fault i ts.columns f.output) (Ok ts)) t _ e
      (λ ts typed g. root_fits (root_path i) f.root ts m w (ap (λ n. node_types n types (root_path i) f.root) is ∙ typed))

all_fit : (tasks : ℕ) → 0 < tasks → (i : ℕ) (fs : List FragmentForm) (ts : List RowTypes) (ss : List RowSpread) → AllMeet i fs → AllLeavesFit fs → sources_fault i fs ≡ None
    → all_spreads i fs ≡ Ok ss → all_types i fs ≡ Ok ts → (k : ℕ) → Fits (unwrap_or (slice_get (fragment_parts tasks i fs) k) no_part).root
all_fit tasks some i [] ts ss m w a e h k = All-nil (λ (row : List Value). length row ≡ 0)
all_fit tasks some i (f ∷ fs) ts ss m w a e h k =
    let here = misread f.placement (i + 1) fs (root_path i) f.root in
    let rest_fault = sources_fault (i + 1) fs in
    let spreads = first_spread i f fs ss e in
    let parts = fragment_parts tasks (i + 1) fs in
    typed_then_ok (all_types (i + 1) fs) (λ later. typed_then (fragment_types later i f) (λ types. Ok (types ∷ later))) ts _ h
    (λ later h1 k1. typed_then_ok (fragment_types later i f) (λ types. Ok (types ∷ later)) ts _ k1
    (λ t h2 k2.
    let stand = all_stand tasks some (i + 1) fs later spreads.rest m.1 (right_none here rest_fault a) spreads.below h1 in
    let rest = all_fit tasks some (i + 1) fs later spreads.rest m.1 w.1 (right_none here rest_fault a) spreads.below h1 in
    at_place k (fragment_fits (i + 1) fs later parts stand rest i f t refl m.0 w.0 h2) rest))
  where
    at_place : (k : ℕ) → Fits (node_run (i + 1) (fragment_parts tasks (i + 1) fs) f.root)
        → ((j : ℕ) → Fits (unwrap_or (slice_get (fragment_parts tasks (i + 1) fs) j) no_part).root)
        → Fits (unwrap_or (slice_get (fragment_parts tasks i (f ∷ fs)) k) no_part).root
    at_place zero first rest = first
    at_place (suc j) first rest = rest j

pub parts_fit : (plan : PlanForm) (types : List RowTypes) (spreads : List RowSpread) → plan_types plan ≡ Ok types → plan_spreads plan ≡ Ok spreads
    → HalvesMeet plan.fragments → AllLeavesFit plan.fragments → (tasks : ℕ) → 0 < tasks → (i : ℕ) → Fits (part_read 0 (fragment_parts tasks 0 plan.fragments) i).root
unfolding plan_types plan_spreads
parts_fit plan types spreads h e m w tasks some i =
    let fs = plan.fragments in
    let one = unless_fault (placement_fault (slice_get fs 0)) (or_fault (sources_fault 0 fs) (all_spreads 0 fs)) spreads e in
    let sent = unless_fault (sources_fault 0 fs) (all_spreads 0 fs) spreads one.1 in
    typed_then_ok (all_types 0 fs) (λ ts. or_fault (result_fault (length plan.output) ts) (Ok ts)) types _ h
    (λ ts typed g. all_fit tasks some 0 fs ts spreads (all_meet fs m) w sent.0 sent.1 typed (i - 0))

pub plan_fits : (plan : PlanForm) (types : List RowTypes) (spreads : List RowSpread) → plan_types plan ≡ Ok types → plan_spreads plan ≡ Ok spreads
    → HalvesMeet plan.fragments → AllLeavesFit plan.fragments → (tasks : ℕ) → 0 < tasks → FitsWidths (tree_of_run (plan_run tasks plan))
plan_fits plan types spreads h e m w tasks some = parts_fit plan types spreads h e m w tasks some 0
