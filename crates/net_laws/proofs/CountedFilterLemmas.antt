-- What the layout of a plan has of filters are those of the plan.
use Rattle.std.proofs.Common.{◌≡◌, ℕ, List, get_or, map, inl, inr, Some, refl, ap, subst, ◌∙◌}
use Rattle.std.specs.Prelude.{All, Contains, slice_get}
use Rattle.std.proofs.lemmas.List.Elements.{All-contains}
use Rattle.std.proofs.lemmas.Option.{get_or_from_slice_get, slice_get-get_or, slice_get_within}
use Rattle.sql_values.specs.declared.relational.JoinKind.{JoinKind}
use Rattle.plan_docs.specs.declared.node.DynamicFilter.{DynamicFilter}
use Rattle.plan_docs.specs.Nodes.{NodeForm, scan, values, remote, step, join, union}
use Rattle.plan_docs.specs.Plans.{FragmentForm, PlanForm}
use Rattle.plan_trees.specs.declared.tree.Pair.{Pair}
use Rattle.plan_trees.specs.TreeForms.{pair_view}
use Rattle.plan_run_laws.specs.RunPlans.{RunPlan}
use Rattle.plan_layout.specs.declared.filters.PlacedFilter.{PlacedFilter}
use Rattle.plan_layout.specs.declared.pipe.Parallelism.{Parallelism}
use Rattle.plan_layout.specs.Filters.{IsPlaced}
use Rattle.plan_layout.specs.Layouts.{layout_of}
use Rattle.plan_layout.specs.Pipes.{BuildForm}
use Rattle.net_laws.specs.RunJoins.{EachJoin, FiltersReachIn, JoinClaim, ReachesIn}
use Rattle.net_laws.proofs.BuiltLemmas.{builds_of_joins}
use Rattle.net_laws.specs.PlanFilters.{HasFilter, IsFilterOfPlan}

abbrev pub OfFilter : Type 1
OfFilter = ℕ → List Pair → DynamicFilter → Type 0

-- what is said of each filter of a join
abbrev pub EachFilter : OfFilter → JoinClaim
EachFilter P id kind on filters left = (k : ℕ) (f : DynamicFilter) → slice_get filters k ≡ Some f → P id on f

contains_at : (fs : List DynamicFilter) (k : ℕ) (f : DynamicFilter) → slice_get fs k ≡ Some f → Contains fs f
contains_at fs k f is = (k, slice_get_within fs k f is, get_or_from_slice_get fs k f f is)

-- what holds of each filter that a node has is said of each
has_each : (P : OfFilter) (n : NodeForm) → ((at : ℕ) (on : List Pair) (f : DynamicFilter) → HasFilter n at on f → P at on f) → EachJoin (EachFilter P) n
has_each P (scan id table columns types) of = tt
has_each P (values id types rows) of = tt
has_each P (remote id fragment) of = tt
has_each P (step id operator input) of = has_each P input of
has_each P (join id kind on filters left right) of = (
  λ k f is. of id on f (inl (refl, refl, contains_at filters k f is)),
  has_each P left (λ at pairs f has. of at pairs f (inr (inl has))),
  has_each P right (λ at pairs f has. of at pairs f (inr (inr has))),
)
has_each P (union id left right) of =
    (has_each P left (λ at pairs f has. of at pairs f (inl has)), has_each P right (λ at pairs f has. of at pairs f (inr has)))

-- and what a claim of each join says of its filters holds of one that a node has
module _ (C : JoinClaim) (P : OfFilter)
    (take : (id : ℕ) (kind : JoinKind) (on : List Pair) (fs : List DynamicFilter) (left : NodeForm) (f : DynamicFilter)
    → C id kind on fs left → Contains fs f → P id on f) where
  each_has : (n : NodeForm) → EachJoin C n → (at : ℕ) (pairs : List Pair) (f : DynamicFilter) → HasFilter n at pairs f → P at pairs f
  each_has (scan id table columns types) each at pairs f has = absurd has
  each_has (values id types rows) each at pairs f has = absurd has
  each_has (remote id fragment) each at pairs f has = absurd has
  each_has (step id operator input) each at pairs f has = each_has input each at pairs f has
  each_has (join id kind on filters left right) each at pairs f (inl (same, on_same, there)) =
      subst (λ (ps : List Pair). P at ps f) on_same (subst (λ (i : ℕ). P i on f) same (take id kind on filters left f each.0 there))
  each_has (join id kind on filters left right) each at pairs f (inr (inl has)) = each_has left each.1 at pairs f has
  each_has (join id kind on filters left right) each at pairs f (inr (inr has)) = each_has right each.2 at pairs f has
  each_has (union id left right) each at pairs f (inl has) = each_has left each.0 at pairs f has
  each_has (union id left right) each at pairs f (inr has) = each_has right each.1 at pairs f has

  of_plan : (plan : PlanForm) → All (λ (part : FragmentForm). EachJoin C part.root) plan.fragments
      → (id : ℕ) (on : List Pair) (f : DynamicFilter) → IsFilterOfPlan plan id on f → P id on f
  of_plan plan each id on f is =
      each_has is.part.root (All-contains (λ (part : FragmentForm). EachJoin C part.root) plan.fragments is.part each is.there) id on f is.has

-- what is said of each filter of a plan holds of one
pub filter_of_plan : (Q : DynamicFilter → Type 0) (plan : PlanForm)
    → All (λ (part : FragmentForm). EachJoin (EachFilter (λ id on f. Q f)) part.root) plan.fragments
    → (id : ℕ) (on : List Pair) (f : DynamicFilter) → IsFilterOfPlan plan id on f → Q f
filter_of_plan Q plan each id on f is =
    of_plan (EachFilter (λ id on f. Q f)) (λ id on f. Q f) (λ at kind pairs fs left g said (k, lt, same).
    said k g (slice_get-get_or fs k g lt ∙ ap (λ (h : DynamicFilter). Some h) same)) plan each id on f is

-- where the filters of a plan reach their scans in a run, one does
pub reaches_of_plan : (run : RunPlan) (plan : PlanForm) → FiltersReachIn run plan
    → (id : ℕ) (on : List Pair) (f : DynamicFilter) → IsFilterOfPlan plan id on f → ReachesIn run id (map pair_view on) f
reaches_of_plan run plan reach id on f is =
    of_plan (λ at kind pairs fs left. All (ReachesIn run at (map pair_view pairs)) fs) (λ at pairs g. ReachesIn run at (map pair_view pairs) g)
    (λ at kind pairs fs left g all there. All-contains (ReachesIn run at (map pair_view pairs)) fs g all there) plan reach id on f is

-- a filter of the layout is one of the plan
pub placed_of_plan : (p : Parallelism) (plan : PlanForm) (f : PlacedFilter) (placed : IsPlaced (layout_of p plan) f)
    → IsFilterOfPlan plan placed.build.join placed.build.on f.filter
placed_of_plan p plan f placed =
    let all : All (λ (part : FragmentForm). EachJoin (EachFilter (IsFilterOfPlan plan)) part.root) plan.fragments =
    λ k d lt.
    let part = get_or plan.fragments k d in
    has_each (IsFilterOfPlan plan) part.root (λ at on g has. record {
      part = part;
      there = (k, lt, get_or_from_slice_get plan.fragments k part part (slice_get-get_or plan.fragments k d lt));
      has = has;
    }) in
    builds_of_joins (λ (build : BuildForm). (k : ℕ) (g : DynamicFilter) → slice_get build.filters k ≡ Some g → IsFilterOfPlan plan build.join build.on g)
    p plan all f.pipe placed.build placed.builds f.place f.filter placed.there
