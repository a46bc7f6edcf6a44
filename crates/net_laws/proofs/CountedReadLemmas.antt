-- A dynamic filter that reaches its scan in a run is for one that a pipe reads, and has its place there.
use Rattle.std.proofs.Common.{◌≡◌, ℕ, List, [], ◌∷◌, get_or, map, true, Some, refl}
use Rattle.std.specs.Prelude.{slice_get}
use Rattle.sql_values.specs.declared.value.Value.{Value}
use Rattle.plan_docs.specs.declared.node.DynamicFilter.{DynamicFilter}
use Rattle.plan_docs.specs.Plans.{PlanForm}
use Rattle.plan_trees.specs.declared.tree.Pair.{Pair}
use Rattle.plan_trees.specs.TreeForms.{pair_view}
use Rattle.column_origins.specs.declared.origin.Origin.{Origin}
use Rattle.plan_run_laws.specs.RunPlans.{RunPlan, tree_of_run}
use Rattle.lost_row_laws.specs.Sieves.{Sieve}
use Rattle.sieve_laws.proofs.ComingLemmas.{own_arrives}
use Rattle.net_laws.specs.BuiltFilters.{AreOfPlan}
use Rattle.net_laws.specs.RunJoins.{FiltersReachIn, ReachesIn}
use Rattle.plan_layout.specs.declared.filters.PlacedFilter.{PlacedFilter}
use Rattle.plan_layout.specs.Filters.{scan_filters}
use Rattle.plan_layout.specs.Pipes.{PipeForm}
use Rattle.net_laws.specs.Reached.{AreReached}
use Rattle.net_laws.proofs.KnownLemmas.{first_there}
use Rattle.net_laws.proofs.StandLemmas.{in_it}
use Rattle.net_laws.specs.PlanFilters.{HasPlace, IsFilterOfPlan}
use Rattle.net_laws.proofs.CountedFilterLemmas.{filter_of_plan, reaches_of_plan}
use Rattle.net_laws.proofs.CountedScanLemmas.{IsReadBy, scan_read}

module _ (layout : List PipeForm) (run : RunPlan) (reached : AreReached layout run) where
  -- the table of the scan that a pipe reads, where a filter reaches it
  pub filter_read : (join : ℕ) (on : List (ℕ × ℕ)) (f : DynamicFilter) → ReachesIn run join on f → IsReadBy layout (tree_of_run run) f.scan
  filter_read join on f r =
      let s : Sieve = record { column = (get_or on f.key (0, 0)).0; pass = λ (v : Value). true } in
      let own : ℕ → List Sieve = λ id. s ∷ [] in
      let from : Origin = record { scan = f.scan; column = f.column } in
      let there = own_arrives own join r.side s (first_there s []) r.within from r.comes run [] r.has in
      let root = reached.root in
      scan_read layout own (record { column = f.column; pass = s.pass }) f.scan
      1 run reached.at root.pipe.drivers root.pipe.source root.pipe.steps root.so
      (in_it layout 1 reached.at root.pipe root.is root.tasks) [] there

  -- a filter of the plan is among those of the scan
  pub has_place : (plan : PlanForm) → FiltersReachIn run plan
      → ((pipe : PipeForm) (scan : ℕ) → pipe.scan ≡ Some scan → AreOfPlan run layout plan scan (scan_filters layout pipe))
      → (join : ℕ) (on : List Pair) (f : DynamicFilter) → IsFilterOfPlan plan join on f → HasPlace layout f
  has_place plan reach are join on f of =
      let t = filter_read join (map pair_view on) f (reaches_of_plan run plan reach join on f of) in
      let pipe = t.reads.pipe in
      let fs = scan_filters layout pipe in
      let found = filter_of_plan (λ (d : DynamicFilter). d.scan ≡ f.scan → (i : ℕ) × (g : PlacedFilter) × (slice_get fs i ≡ Some g) × (g.filter ≡ d))
      plan (are pipe f.scan t.reads.scan).all join on f of refl in
      record {
        at = t.at;
        pipe = pipe;
        there = t.reads.is;
        place = found.0;
        own = found.1;
        is = found.2;
        same = found.3;
      }
