-- What builds in the layout of a plan builds the right side of a join of the plan, and each join has such a pipe.
use Rattle.std.proofs.Common.{◌≡◌, ℕ, ◌+◌, suc, zero, List, [], ◌∷◌, ◌++◌, length, get_or, map, Bool, true, false, refl, ap, ◌∙◌, subst, Some}
use Rattle.std.specs.Prelude.{All, slice_get, ◌==◌, if◌then◌else◌}
use Rattle.std.proofs.lemmas.List.Elements.{All-get_or, All-head, All-tail}
use Rattle.std.proofs.lemmas.Option.{get_or_from_slice_get, slice_get-get_or, slice_get_within}
use Rattle.sql_values.specs.declared.relational.JoinKind.{JoinKind}
use Rattle.plan_trees.specs.declared.tree.Pair.{Pair}
use Rattle.plan_trees.specs.TreeForms.{pair_view}
use Rattle.plan_docs.specs.declared.node.DynamicFilter.{DynamicFilter}
use Rattle.plan_docs.specs.declared.plan.Output.{Output}
use Rattle.plan_docs.specs.Nodes.{NodeForm}
use Rattle.plan_docs.specs.Nodes as node
use Rattle.plan_docs.specs.Plans.{FragmentForm, PlanForm}
use Rattle.plan_spreads.specs.Runs.{plan_run}
use Rattle.plan_spreads.proofs.EachLemmas.{Each, each_at, each_join}
use Rattle.plan_layout.specs.declared.filters.PlacedFilter.{PlacedFilter}
use Rattle.plan_layout.specs.declared.pipe.Parallelism.{Parallelism}
use Rattle.plan_layout.specs.Edges.{edge_numbers, fetches_of, reader_of, target_of}
use Rattle.plan_layout.specs.Filters.{AreFiltersFor, Builds}
use Rattle.plan_layout.specs.Layouts.{driver_numbers, fragment_pipes, laid, layout_of, site_of, with_fetches}
use Rattle.plan_layout.specs.Pipes.{BuildForm, PipeForm, SourceForm, StepForm, TargetForm, cell, readers, result, side}
use Rattle.plan_layout.specs.Runs.{IsLaid, Runs, bare}
use Rattle.plan_layout.specs.Sides.{Site, built_for, pipes_of, sides_of}
use Rattle.plan_layout.specs.Steps.{side_count}
use Rattle.plan_layout.proofs.LayoutLemmas.{plan_laid}
use Rattle.plan_layout.proofs.PipeLemmas.{each_fetch, each_numbered}
use Rattle.plan_link_laws.specs.Consistent.{IsConsistent}
use Rattle.net_laws.specs.BuiltFilters.{AreOfPlan, BuiltFiltersReach, JoinsAreBuilt}
use Rattle.net_laws.specs.RunJoins.{EachJoin, JoinClaim, ReachesIn}
use Rattle.net_laws.proofs.JoinFilterLemmas.{plan_filters}

-- what is said of each join of a plan is said of what pipes build
module _ (B : BuildForm → Type 0) where
  abbrev Reach : NodeForm → Type 0
  Reach n = EachJoin (λ id kind on filters left. B (record { join = id; on = on; filters = filters })) n

  abbrev PipeReaches : PipeForm → Type 0
  PipeReaches pipe = (build : BuildForm) → pipe.target ≡ cell build → B build

  sides_reach : (s : Site) (own next : ℕ) (n : NodeForm) → Reach n → Each PipeReaches (sides_of s own next n)
  sides_reach s own next (node.scan id place columns types) r = tt
  sides_reach s own next (node.values id types list) r = tt
  sides_reach s own next (node.remote id number) r = tt
  sides_reach s own next (node.step id operator input) r = sides_reach s own next input r
  sides_reach s own next (node.join id kind on filters left right) r =
      let at = next + side_count left in
      let build : BuildForm = record { join = id; on = on; filters = filters } in
      each_join PipeReaches (sides_of s own next left) (pipes_of s at (built_for id on filters) right) (sides_reach s own next left r.1)
      ((λ other is. let same : build ≡ other = cc is in subst B same r.0), sides_reach s at (at + 1) right r.2)
  sides_reach s own next (node.union id left right) r =
      let at = next + 1 + side_count left in
      each_join PipeReaches (pipes_of s next (side own) left) (pipes_of s at (side own) right) ((λ build is. absurd cc), sides_reach s next (next + 1) left r.0)
      ((λ build is. absurd cc), sides_reach s at (at + 1) right r.1)

  block_reaches : (s : Site) (done : List PipeForm) (target : TargetForm) (root : NodeForm) → ((build : BuildForm) → target ≡ cell build → ⊥) → Reach root
      → Each PipeReaches (fragment_pipes s done target root)
  block_reaches s done target root none r =
      let at = length done in
      let own = pipes_of s at target root in
      let all = with_fetches done own in
      let mine : Each PipeReaches own = ((λ build is. absurd (none build is)), sides_reach s at (at + 1) root r) in
      each_numbered PipeReaches (λ pipe numbers h. h) (driver_numbers done all) all
      (each_join PipeReaches own (fetches_of (edge_numbers done own) at own) mine
      (each_fetch PipeReaches PipeReaches (λ pipe place numbers h build is. absurd cc) (edge_numbers done own) at own mine))

  root_builds_none : (first : Bool) (output : Output) (at : ℕ) (build : BuildForm) → (if first then result else readers output at) ≡ cell build → ⊥
  root_builds_none true output at build is = cc
  root_builds_none false output at build is = cc

  all_reach : (p : Parallelism) (fragments : List FragmentForm) (fs : List FragmentForm) (number : ℕ) (done : List PipeForm)
      → All (λ (f : FragmentForm). Reach f.root) fs → Each PipeReaches done → Each PipeReaches (laid p fragments number done fs)
  all_reach p fragments [] number done r each = each
  all_reach p fragments (f ∷ fs) number done r each =
      let s = site_of p fragments number f in
      let target = target_of number f.output done in
      all_reach p fragments fs (number + 1) (done ++ fragment_pipes s done target f.root) (All-tail (λ (g : FragmentForm). Reach g.root) f fs r)
      (each_join PipeReaches done (fragment_pipes s done target f.root) each
      (block_reaches s done target f.root (root_builds_none (number == 0) f.output (reader_of number done)) (All-head (λ (g : FragmentForm). Reach g.root) f fs r)))

  pub builds_of_joins : (p : Parallelism) (plan : PlanForm) → All (λ (f : FragmentForm). Reach f.root) plan.fragments
      → (at : ℕ) (build : BuildForm) → Builds (layout_of p plan) at build → B build
  builds_of_joins p plan all at build b = each_at PipeReaches (layout_of p plan) at b.pipe b.is (all_reach p plan.fragments plan.fragments 0 [] all tt) build b.gives

pub plan_builds_reach : (plan : PlanForm) → IsConsistent plan → (p : Parallelism) (tasks : ℕ) → BuiltFiltersReach (plan_run tasks plan) (layout_of p plan)
plan_builds_reach plan c p tasks at build b =
    let run = plan_run tasks plan in
    builds_of_joins (λ (built : BuildForm). All (ReachesIn run built.join (map pair_view built.on)) built.filters) p plan (plan_filters plan c tasks) at build b

-- what is said of a pipe without its numbers
record Real (layout : List PipeForm) (at : ℕ) (known : PipeForm) : Type 0 where
  pipe : PipeForm
  is : slice_get layout at ≡ Some pipe
  same : bare pipe ≡ known

real : (layout : List PipeForm) (at : ℕ) (known : PipeForm) → slice_get (map bare layout) at ≡ Some known → Real layout at known
real [] at known is = absurd cc
real (pipe ∷ layout) zero known is = record { pipe = pipe; is = refl; same = cc is }
real (pipe ∷ layout) (suc at) known is = let rest = real layout at known is in record { pipe = rest.pipe; is = rest.is; same = rest.same }

-- each join of a node is as a pipe that builds its right side makes it
module _ (layout : List PipeForm) (Of : JoinClaim)
    (one : (id : ℕ) (kind : JoinKind) (on : List Pair) (filters : List DynamicFilter) (left : NodeForm) (at : ℕ)
    → Builds layout at (record { join = id; on = on; filters = filters }) → Of id kind on filters left) where
  node_built : (s : Site) (own : ℕ) (n : NodeForm) (source : SourceForm) (steps : List StepForm) → Runs (map bare layout) s own n source steps → EachJoin Of n
  node_built s own (node.scan id place columns types) source steps r = tt
  node_built s own (node.values id types list) source steps r = tt
  node_built s own (node.remote id number) source steps r = tt
  node_built s own (node.step id operator input) source steps r = node_built s own input source r.0 r.2
  node_built s own (node.join id kind on filters left right) source steps r =
      let q = real layout r.0 r.1.pipe r.1.is in (
        one id kind on filters left r.0 (record { pipe = q.pipe; is = q.is; gives = ap (λ (x : PipeForm). x.target) q.same ∙ r.1.has }),
        node_built s own left source r.2.0 r.2.2,
        node_built s r.0 right r.1.pipe.source r.1.pipe.steps r.1.below,
      )
  node_built s own (node.union id left right) source steps r = (
    node_built s r.2.0 left r.2.1.pipe.source r.2.1.pipe.steps r.2.1.below,
    node_built s r.3.0 right r.3.1.pipe.source r.3.1.pipe.steps r.3.1.below,
  )

  fragments_built : (p : Parallelism) (fragments : List FragmentForm) → ((number : ℕ) (f : FragmentForm) → slice_get fragments number ≡ Some f → IsLaid layout p fragments number f)
      → All (λ (f : FragmentForm). EachJoin Of f.root) fragments
  fragments_built p fragments laid k d less =
      let f = get_or fragments k d in
      let l = laid k f (slice_get-get_or fragments k d less) in
      node_built (site_of p fragments k f) (length l.done) f.root l.root.pipe.source l.root.pipe.steps l.root.below

pub plan_joins_built : (p : Parallelism) (plan : PlanForm) → JoinsAreBuilt (layout_of p plan) plan
plan_joins_built p plan =
    fragments_built (layout_of p plan) (λ id kind on filters left. (at : ℕ) × Builds (layout_of p plan) at (record { join = id; on = on; filters = filters }))
    (λ id kind on filters left at b. (at, b)) p plan.fragments (plan_laid p plan)

all_at : {A : Type 0} (P : A → Type 0) (xs : List A) (k : ℕ) (x : A) → slice_get xs k ≡ Some x → All P xs → P x
all_at P xs k x is all = subst P (get_or_from_slice_get xs k x x is) (All-get_or P xs k x (slice_get_within xs k x is) all)

pub plan_scan_filters : (plan : PlanForm) → IsConsistent plan → (p : Parallelism) (tasks scan : ℕ) (filters : List PlacedFilter) → AreFiltersFor (layout_of p plan) scan filters
    → AreOfPlan (plan_run tasks plan) (layout_of p plan) plan scan filters
plan_scan_filters plan c p tasks scan filters are =
    let layout = layout_of p plan in
    let run = plan_run tasks plan in
    record {
      each = λ i f is.
          let (placed, of) = are.each i f is in (
            placed,
            of,
            all_at (ReachesIn run placed.build.join (map pair_view placed.build.on)) placed.build.filters f.place f.filter placed.there
                (plan_builds_reach plan c p tasks f.pipe placed.build placed.builds),
          );
      all = fragments_built layout
          (λ id kind on own left. (k : ℕ) (d : DynamicFilter) → slice_get own k ≡ Some d → d.scan ≡ scan
          → (i : ℕ) × (f : PlacedFilter) × (slice_get filters i ≡ Some f) × (f.filter ≡ d))
          (λ id kind on own left at b k d is of.
          let f : PlacedFilter = record { pipe = at; place = k; filter = d } in
          let (i, found) = are.all f (record { build = record { join = id; on = on; filters = own }; builds = b; there = is }) of in
          (i, f, found, refl)) p plan.fragments (plan_laid p plan);
    }
