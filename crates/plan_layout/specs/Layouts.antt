-- The layout of a plan: the pipes of its fragments, and the numbers of their drivers.
use Rattle.std.specs.Prelude.{ℕ, ◌+◌, ◌*◌, List, [], ◌∷◌, ◌++◌, length}
use Rattle.plan_docs.specs.Nodes.{NodeForm}
use Rattle.plan_docs.specs.Plans.{FragmentForm, PlanForm}
use Rattle.plan_spreads.specs.Runs.{tasks_of}
use Rattle.plan_layout.specs.declared.pipe.Parallelism.{Parallelism}
use Rattle.plan_layout.specs.declared.pipe.Series.{Series}
use Rattle.plan_layout.specs.Edges.{after, edge_numbers, fetches_of, target_of}
use Rattle.plan_layout.specs.Pipes.{PipeForm, TargetForm}
use Rattle.plan_layout.specs.Sides.{Site, pipes_of}

-- in one task, and in all
abbrev pub lanes_in : List PipeForm → ℕ
lanes_in [] = 0
lanes_in (pipe ∷ pipes) = pipe.drivers + lanes_in pipes

abbrev pub drivers_in : List PipeForm → ℕ
drivers_in [] = 0
drivers_in (pipe ∷ pipes) = pipe.tasks * pipe.drivers + drivers_in pipes

-- in a task the drivers of each pipe follow those of the one before
abbrev pub numbered : Series → List PipeForm → List PipeForm
numbered numbers [] = []
numbered numbers (pipe ∷ pipes) = record pipe { numbers = numbers } ∷ numbered (after pipe.drivers numbers) pipes

-- the drivers of all fragments are numbered by tasks
abbrev pub driver_numbers : List PipeForm → List PipeForm → Series
driver_numbers done pipes = record { first = drivers_in done; stride = lanes_in pipes }

abbrev pub number_all : List PipeForm → List PipeForm → List PipeForm
number_all done pipes = numbered (driver_numbers done pipes) pipes

abbrev pub with_fetches : List PipeForm → List PipeForm → List PipeForm
with_fetches done own = own ++ fetches_of (edge_numbers done own) (length done) own

-- the pipes of a fragment behind those of the fragments before
abbrev pub fragment_pipes : Site → List PipeForm → TargetForm → NodeForm → List PipeForm
fragment_pipes s done target root = number_all done (with_fetches done (pipes_of s (length done) target root))

abbrev pub site_of : Parallelism → List FragmentForm → ℕ → FragmentForm → Site
site_of p fragments number f = record {
  fragments = fragments;
  fragment = number;
  tasks = tasks_of p.tasks f.placement;
  drivers = tasks_of p.drivers f.placement;
}

-- with the pipes of the fragments from this number on
abbrev pub laid : Parallelism → List FragmentForm → ℕ → List PipeForm → List FragmentForm → List PipeForm
laid p fragments number done [] = done
laid p fragments number done (f ∷ fs) =
    laid p fragments (number + 1)
    (done ++ fragment_pipes (site_of p fragments number f) done (target_of number f.output done) f.root) fs

abbrev pub layout_of : Parallelism → PlanForm → List PipeForm
layout_of p plan = laid p plan.fragments 0 [] plan.fragments
