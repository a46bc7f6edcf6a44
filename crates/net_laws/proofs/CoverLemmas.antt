-- A plan that runs in pipes, with what is said of the pipes that begin below.
use Rattle.std.proofs.Common.{◌≡◌, ℕ, List, map, ap, Some, None, true, ◌⊎◌, inl, inr}
use Rattle.std.specs.List.{list_any}
use Rattle.plan_docs.specs.declared.node.NodeStep.TheVariants.{Single, Partial}
use Rattle.plan_docs.specs.Nodes.{NodeForm}
use Rattle.plan_docs.specs.Nodes as node
use Rattle.plan_docs.specs.Plans.{FragmentForm}
use Rattle.plan_run_laws.specs.RunPlans.{RunPlan}
use Rattle.plan_run_laws.specs.RunPlans as plan
use Rattle.plan_spreads.specs.Halves.{Halved, aggregates, half}
use Rattle.plan_spreads.specs.Runs.{Part, node_run, one_over}
use Rattle.plan_layout.specs.declared.pipe.Parallelism.{Parallelism}
use Rattle.plan_layout.specs.Edges.{target_of}
use Rattle.plan_layout.specs.Layouts.{site_of}
use Rattle.plan_layout.specs.Pipes.{PipeForm, SourceForm, StepForm, TargetForm, limit, partial, top_n}
use Rattle.plan_layout.specs.Runs.{PipeAt, Runs, bare}
use Rattle.plan_layout.specs.Sides.{Site}
use Rattle.plan_layout.specs.Steps.{final_of, groups_rows}
use Rattle.net_laws.specs.Reached.{IsWithin}
use Rattle.net_laws.specs.RunPipes.{Into, OfPipe, PipeIn, RunsAs, Takes}

pub in_sum : {A B C D : Type 0} → (A → C) → (B → D) → A ⊎ B → C ⊎ D
in_sum f g (inl a) = inl (f a)
in_sum f g (inr b) = inr (g b)

-- the plan runs so, and at each of the places is a pipe that begins below
abbrev pub Covers : List PipeForm → (ℕ → Type 0) → ℕ → RunPlan → OfPipe
Covers layout Of n run own w source steps =
    (r : RunsAs layout n run own w source steps) × ((place : ℕ) → Of place → IsWithin layout place n run own w source steps r)

-- or the pipe itself
abbrev pub Reaches : List PipeForm → (ℕ → Type 0) → ℕ → RunPlan → OfPipe
Reaches layout Of n run own w source steps =
    (r : RunsAs layout n run own w source steps) × ((place : ℕ) → Of place → (place ≡ own) ⊎ IsWithin layout place n run own w source steps r)

pub reaching : (layout : List PipeForm) (Of Below : ℕ → Type 0) (n : ℕ) (run : RunPlan) (own w : ℕ) (source : SourceForm) (steps : List StepForm)
    → ((place : ℕ) → Of place → (place ≡ own) ⊎ Below place) → Covers layout Below n run own w source steps → Reaches layout Of n run own w source steps
reaching layout Of Below n run own w source steps split c = (c.0, λ place of. in_sum (λ same. same) (c.1 place) (split place of))

-- the pipe of a fragment's root, by whether it is a PARTIAL node
abbrev pub RootReaches : List PipeForm → (ℕ → Type 0) → ℕ → ℕ → List Part → NodeForm → OfPipe
RootReaches layout Of m first parts (node.aggregate id Partial keys calls input) = Into (λ half. partial half keys calls) (Reaches layout Of m (node_run first parts input))
RootReaches layout Of m first parts (node.top_n id Partial count keys input) = Into (λ half. top_n half count keys) (Reaches layout Of m (node_run first parts input))
RootReaches layout Of m first parts (node.limit id Partial count input) = Into (λ half. limit half count) (Reaches layout Of m (node_run first parts input))
RootReaches layout Of m first parts root = Reaches layout Of m (node_run first parts root)

pub root_whole : (layout : List PipeForm) (Of : ℕ → Type 0) (m first : ℕ) (parts : List Part) (root : NodeForm) → half root ≡ None
    → (own w : ℕ) (source : SourceForm) (steps : List StepForm) → RootReaches layout Of m first parts root own w source steps
    → Reaches layout Of m (node_run first parts root) own w source steps
root_whole layout Of m first parts (node.aggregate id Single keys calls input) none own w source steps h = h
root_whole layout Of m first parts (node.aggregate id Partial keys calls input) none own w source steps h = absurd cc
root_whole layout Of m first parts (node.top_n id Single count keys input) none own w source steps h = h
root_whole layout Of m first parts (node.top_n id Partial count keys input) none own w source steps h = absurd cc
root_whole layout Of m first parts (node.limit id Single count input) none own w source steps h = h
root_whole layout Of m first parts (node.limit id Partial count input) none own w source steps h = absurd cc
root_whole layout Of m first parts root none own w source steps h = h

pub same_pipe : (layout : List PipeForm) (n : ℕ) (target : TargetForm) (at : ℕ) (A B : OfPipe)
    → ((own w : ℕ) (source : SourceForm) (steps : List StepForm) → A own w source steps → B own w source steps) → PipeIn layout n target at A → PipeIn layout n target at B
same_pipe layout n target at A B weaker p = record {
  pipe = p.pipe;
  is = p.is;
  tasks = p.tasks;
  has = p.has;
  so = weaker at p.pipe.drivers p.pipe.source p.pipe.steps p.so;
}

-- a FINAL node over a PARTIAL root
module _ (layout : List PipeForm) (Of : ℕ → Type 0) (n m from : ℕ) (parts : List Part) (id source_id : ℕ) (output : plan.Output) (own w : ℕ) (source : SourceForm) (steps : List StepForm) where
  abbrev RootTaken : NodeForm → Type 0
  RootTaken root = Takes layout own source output m (RootReaches layout Of m from parts root)

  abbrev OneRuns : NodeForm → Type 0
  OneRuns root = Covers layout Of n (one_over id source_id output m (node_run from parts root)) own w source steps

  abbrev HalfCovers : (step : ℕ → StepForm) (run : RunPlan) → Type 0
  HalfCovers step run =
      (t : Takes layout own source output m (Into step (RunsAs layout m run)))
      × ((place : ℕ) → Of place → (place ≡ t.at) ⊎ IsWithin layout place m run t.at t.root.pipe.drivers t.root.pipe.source t.root.so.1.0 t.root.so.1.2)

  half_covers : (step : ℕ → StepForm) (run : RunPlan) → Takes layout own source output m (Into step (Reaches layout Of m run)) → HalfCovers step run
  half_covers step run t = (
    record {
      number = t.number;
      is = t.is;
      form = t.form;
      sent = t.sent;
      at = t.at;
      root = record {
        pipe = t.root.pipe;
        is = t.root.is;
        tasks = t.root.tasks;
        has = t.root.has;
        so = (t.root.so.0, (t.root.so.1.0, t.root.so.1.1, t.root.so.1.2.0));
      };
    },
    t.root.so.1.2.1,
  )

  pub final_half : (operator : Halved) (root : NodeForm) → half root ≡ Some operator → steps ≡ final_of id root
      → ((operator ≡ aggregates → list_any groups_rows steps ≡ true) → w ≡ 1) → RootTaken root → OneRuns root
  final_half operator (node.aggregate other Partial keys calls input) h are alone taken =
      let t = half_covers (λ half. partial half keys calls) (node_run from parts input) taken in
      ((alone (λ e. ap (list_any groups_rows) are), are, t.0), t.1)
  final_half operator (node.top_n other Partial count keys input) h are alone taken =
      let t = half_covers (λ half. top_n half count keys) (node_run from parts input) taken in
      ((alone (λ e. absurd cc), are, t.0), t.1)
  final_half operator (node.limit other Partial count input) h are alone taken =
      let t = half_covers (λ half. limit half count) (node_run from parts input) taken in
      ((alone (λ e. absurd cc), are, t.0), t.1)
  final_half operator (node.aggregate other Single keys calls input) h are alone taken = absurd cc
  final_half operator (node.top_n other Single count keys input) h are alone taken = absurd cc
  final_half operator (node.limit other Single count input) h are alone taken = absurd cc
  final_half operator root h are alone taken = absurd cc

-- at the place is a pipe of the fragment that begins below the node, or a place that
-- `Told` gives a fragment that is read there
abbrev pub Holds : (layout : List PipeForm) (s : Site) (Told : ℕ → ℕ → Type 0) (place own : ℕ) (x : NodeForm) (source : SourceForm) (steps : List StepForm)
    → Runs layout s own x source steps → Type 0
Holds layout s Told place own (node.scan id table columns types) source steps r = ⊥
Holds layout s Told place own (node.values id types list) source steps r = ⊥
Holds layout s Told place own (node.remote id number) source steps r = Told number place
Holds layout s Told place own (node.step id operator input) source steps r = Holds layout s Told place own input source r.0 r.2
Holds layout s Told place own (node.join id kind on filters left right) source steps r =
    ((place ≡ r.0) ⊎ Holds layout s Told place r.0 right r.1.pipe.source r.1.pipe.steps r.1.below) ⊎ Holds layout s Told place own left source r.2.0 r.2.2
Holds layout s Told place own (node.union id left right) source steps r =
    ((place ≡ r.2.0) ⊎ Holds layout s Told place r.2.0 left r.2.1.pipe.source r.2.1.pipe.steps r.2.1.below)
    ⊎ ((place ≡ r.3.0) ⊎ Holds layout s Told place r.3.0 right r.3.1.pipe.source r.3.1.pipe.steps r.3.1.below)

-- where the root of a fragment runs, each place that `Told` gives the fragment is that of the root, or below
abbrev pub RootHolds : (layout : List PipeForm) (s : Site) (Told : ℕ → ℕ → Type 0) (number at : ℕ) → NodeForm → SourceForm → List StepForm → Type 0
RootHolds layout s Told number at root source steps =
    (r : Runs layout s at root source steps) × ((place : ℕ) → Told number place → (place ≡ at) ⊎ Holds layout s Told place at root source steps r)

-- it runs at this place
abbrev pub HoldsAt : List PipeForm → Parallelism → List FragmentForm → (ℕ → ℕ → Type 0) → ℕ → FragmentForm → ℕ → Type 0
HoldsAt layout p fragments Told number f at =
    PipeAt (map bare layout) (site_of p fragments number f) (target_of number f.output layout) at
    (RootHolds (map bare layout) (site_of p fragments number f) Told number at f.root)
