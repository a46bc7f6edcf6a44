-- What the right side of each join of a run gave, in all tasks, is a list that its tree gives.
use Rattle.std.proofs.Common.{◌≡◌, inl, inr, ℕ, List, [], ◌++◌, map, Some, refl, sym, ◌∙◌}
use Rattle.std.specs.Prelude.{slice_get}
use Rattle.sql_values.specs.declared.relational.JoinKind.{JoinKind}
use Rattle.operator_core.specs.Calls.{IsLawful}
use Rattle.plan_trees.specs.Allowed.{strict, width_of}
use Rattle.plan_trees.specs.TreeForms.{TreeForm, pair_view}
use Rattle.plan_trees.specs.TreeTypes.{types_of}
use Rattle.column_origins.specs.Origins.{left_column}
use Rattle.plan_run_laws.specs.Nets.{of_tasks}
use Rattle.plan_run_laws.specs.RunPlans.{RunPlan, tree_of_run}
use Rattle.plan_run_laws.specs.RunPlans as plan
use Rattle.plan_run_laws.proofs.ComposeLemmas.{composed}
use Rattle.tree_evaluator.specs.Fits.{FitsTables}
use Rattle.pipe_laws.specs.Pipes.{AreOver, PipeState}
use Rattle.pipe_laws.proofs.FitLemmas.{fits_widths}
use Rattle.driver_loop.specs.Drivers.{DriverState}
use Rattle.driver_loop.specs.contracts.stage.StageOperator.TheImpl.{ghosts}
use Rattle.driver_loop.specs.declared.stage.Stage.{Stage}
use Rattle.lost_row_laws.specs.Sieves.{Sieve, over_input, under}
use Rattle.lost_row_laws.proofs.RestoreLemmas.{put_back}
use Rattle.lost_row_laws.proofs.WireLemmas.{wired}
use Rattle.sieve_laws.specs.ComingDown.{ComeDown, HasJoin}
use Rattle.sieve_laws.proofs.OverLemmas.{gave_whole}
use Rattle.sieve_laws.proofs.TypedLemmas.{typed as run_typed}
use Rattle.plan_layout.specs.Pipes.{BuildForm, PipeForm, SourceForm, StepForm, cell}
use Rattle.net_laws.specs.RunPipes.{Alone, PipeIn, RunsAs}
use Rattle.driver_net_laws.specs.Nets.{AreDriversOf, NetForm}
use Rattle.driver_net_laws.specs.Settled.{AreSettled}
use Rattle.driver_net_laws.specs.States.{Flow, IsFlowOf, pipe_states_of}
use Rattle.net_laws.specs.Sifted.{IsSifted, IsSure}
use Rattle.net_laws.specs.Throughout.{Throughout}
use Rattle.net_laws.specs.Tidy.{IsTidy}
use Rattle.net_laws.proofs.StandLemmas.{Passes, all_stand}
use Rattle.net_laws.specs.RightSides.{HasRight}
use Rattle.net_laws.proofs.CountedScanLemmas.{either}
use Rattle.net_laws.proofs.PlacedLemmas.{IsListed, IsPlaced, inputs_placed, listed_as, one_task}

module _ (net : NetForm) (drivers : List DriverState) (of : AreDriversOf net drivers) (settled : AreSettled net drivers) (flow : Flow)
    (flowed : IsFlowOf net.layout drivers flow)
    (laws : IsLawful ghosts) (tidy : IsTidy net.layout) (passes : Passes net drivers flow) (of_join due : ℕ → List Sieve)
    (over : AreOver (pipe_states_of net.layout drivers flow)) where
  abbrev P : ℕ → PipeState Stage
  P = pipe_states_of net.layout drivers flow

  -- the pipe at a place builds the right side of a join of a tree, and gave a list that the right side gives
  pub record RightOf (tree : TreeForm) (at : ℕ) (build : BuildForm) : Type 0 where
    pub n : ℕ
    pub right : RunPlan
    pub pipe : PipeIn net.layout n (cell build) at (Alone (RunsAs net.layout n right))
    pub has : HasRight tree build.join (map pair_view build.on) (tree_of_run right)
    pub listed : IsListed (tree_of_run right) net.tables n (of_tasks (P at).drivers (P at).gave)

  -- of the join of an id
  pub record RightListed (tree : TreeForm) (id : ℕ) : Type 0 where
    pub at : ℕ
    pub build : BuildForm
    pub join : build.join ≡ id
    pub side : RightOf tree at build

  -- so it is in a tree that has the joins of another
  within : (t u : TreeForm) → ((at : ℕ) (pairs : List (ℕ × ℕ)) (side : TreeForm) → HasRight t at pairs side → HasRight u at pairs side) → (id : ℕ)
      → RightListed t id → RightListed u id
  within t u more id r =
      let s = r.side in
      record {
        at = r.at;
        build = r.build;
        join = r.join;
        side = record {
          n = s.n;
          right = s.right;
          pipe = s.pipe;
          has = more r.build.join (map pair_view r.build.on) (tree_of_run s.right) s.has;
          listed = s.listed;
        };
      }

  abbrev Sifts : (n : ℕ) (run : RunPlan) (own w : ℕ) (source : SourceForm) (steps : List StepForm) → RunsAs net.layout n run own w source steps → Type 0
  Sifts n run own w source steps r = Throughout (IsSifted net.layout drivers due) (IsSure P of_join) net.layout n run own w source steps r

  -- what a pipe gave whose node is placed
  listed_at : (n : ℕ) (run : RunPlan) (at : ℕ) (pipe : PipeForm) → slice_get net.layout at ≡ Some pipe → pipe.tasks ≡ n → IsPlaced n run
      → FitsTables (tree_of_run run) net.tables
      → (r : RunsAs net.layout n run at pipe.drivers pipe.source pipe.steps) → ComeDown of_join due [] run
      → Sifts n run at pipe.drivers pipe.source pipe.steps r
      → IsListed (tree_of_run run) net.tables n (of_tasks (P at).drivers (P at).gave)
  listed_at n run at pipe is tasks placed fits r down sifts =
      let stands = all_stand net drivers of settled flow flowed laws tidy passes of_join due [] n run at pipe is tasks r
      (record { down = down; all = sifts }) fits in
      let gave = gave_whole ghosts laws P of_join net.tables over [] at n run stands.is stands.on.stands in
      let lists = of_tasks (P at).drivers (P at).gave in
      let ran = put_back strict net.tables n run (run_typed run net.tables fits) lists
      (wired strict net.tables [] n (P at).drivers run gave.builds (P at).took (P at).gave gave.below gave.went) in
      let says = composed strict net.tables placed.some (fits_widths (tree_of_run run) net.tables fits) placed.placed lists ran in
      listed_as (tree_of_run run) net.tables n lists placed.some placed.spread (one_task placed.placed) says

  pub right_listed : (n : ℕ) (run : RunPlan) → IsPlaced n run → FitsTables (tree_of_run run) net.tables
      → (own w : ℕ) (source : SourceForm) (steps : List StepForm)
      → (r : RunsAs net.layout n run own w source steps) → (sieves : List Sieve) → ComeDown of_join due sieves run → Sifts n run own w source steps r
      → (id : ℕ) (kind : JoinKind) (side : RunPlan) → HasJoin run id kind side → RightListed (tree_of_run run) id
  right_listed n (plan.scan i table columns types) placed fits own w source steps r sieves down sifts id kind side has = absurd has
  right_listed n (plan.values i types rows) placed fits own w source steps r sieves down sifts id kind side has = absurd has
  right_listed n (plan.remote i output m input) placed fits own w source steps r sieves down sifts id kind side has =
      let inputs : IsPlaced m input = inputs_placed placed.some placed.placed in
      within (tree_of_run input) (tree_of_run (plan.remote i output m input)) (λ at pairs s h. h) id
      (right_listed m input inputs fits r.1.at r.1.root.pipe.drivers r.1.root.pipe.source r.1.root.pipe.steps r.1.root.so sieves down sifts id kind side has)
  right_listed n (plan.step i s input) placed fits own w source steps r sieves down sifts id kind side has =
      let inputs : IsPlaced n input = inputs_placed placed.some placed.placed in
      within (tree_of_run input) (tree_of_run (plan.step i s input)) (λ at pairs s h. h) id
      (right_listed n input inputs fits.1 own w source r.1.0 r.1.2 (under (types_of (tree_of_run input)) s sieves) down sifts id kind side has)
  right_listed n (plan.join i how on left right) placed fits own w source steps r sieves down sifts id kind side has =
      let inputs : IsPlaced n left × IsPlaced n right = inputs_placed placed.some placed.placed in
      let p = r.3 in
      let t = tree_of_run (plan.join i how on left right) in
      either
      (λ same. record {
        at = r.0;
        build = r.1;
        join = r.2.join ∙ same.0;
        side = record {
          n = n;
          right = right;
          pipe = p;
          has = inl (sym r.2.join, sym r.2.pairs, refl);
          listed = listed_at n right r.0 p.pipe p.is p.tasks inputs.1 fits.1 p.so.1 down.1 sifts.1;
        };
      })
      (either
      (λ there. within (tree_of_run left) t (λ at pairs s h. inr (inl h)) id
      (right_listed n left inputs.0 fits.0 own w source r.4.0 r.4.2 (over_input (left_column how (width_of (tree_of_run left))) (of_join i ++ sieves))
      down.0 sifts.2 id kind side there))
      (λ there. within (tree_of_run right) t (λ at pairs s h. inr (inr h)) id
      (right_listed n right inputs.1 fits.1 r.0 p.pipe.drivers p.pipe.source p.pipe.steps p.so.1 [] down.1 sifts.1 id kind side there)))
      has
  right_listed n (plan.halves i remote output m half input) placed fits own w source steps r sieves down sifts id kind side has =
      let inputs : IsPlaced m input = inputs_placed placed.some placed.placed in
      within (tree_of_run input) (tree_of_run (plan.halves i remote output m half input)) (λ at pairs s h. h) id
      (right_listed m input inputs fits.1 r.2.at r.2.root.pipe.drivers r.2.root.pipe.source r.2.root.so.1.0 r.2.root.so.1.2 [] down sifts id kind side has)
  right_listed n (plan.union i left right) placed fits own w source steps r sieves down sifts id kind side has =
      let inputs : IsPlaced n left × IsPlaced n right = inputs_placed placed.some placed.placed in
      let p = r.3.1 in
      let q = r.4.1 in
      let t = tree_of_run (plan.union i left right) in
      either
      (λ there. within (tree_of_run left) t (λ at pairs s h. inl h) id
      (right_listed n left inputs.0 fits.1 r.3.0 p.pipe.drivers p.pipe.source p.pipe.steps p.so [] down.0 sifts.0 id kind side there))
      (λ there. within (tree_of_run right) t (λ at pairs s h. inr h) id
      (right_listed n right inputs.1 fits.2 r.4.0 q.pipe.drivers q.pipe.source q.pipe.steps q.so [] down.1 sifts.1 id kind side there))
      has
