-- The pipes of one fragment without those that fetch: that of its root, and those that begin below, in the order in
-- which a walk to each node, its input or left side and then its right side, meets their topmost nodes.
use Rattle.std.specs.Prelude.{ℕ, ◌+◌, List, [], ◌∷◌, ◌++◌, map}
use Rattle.plan_docs.specs.declared.node.DynamicFilter.{DynamicFilter}
use Rattle.plan_docs.specs.Nodes.{NodeForm, scan, values, remote, step, join, union}
use Rattle.plan_docs.specs.Plans.{FragmentForm, fragment_view}
use Rattle.plan_trees.specs.declared.tree.Pair.{Pair}
use Rattle.plan_layout.specs.declared.pipe.Series.{Series}
use Rattle.plan_layout.specs.declared.sides.Site as declared
use Rattle.plan_layout.specs.Pipes.{PipeForm, TargetForm, cell, side}
use Rattle.plan_layout.specs.Steps.{drivers_in_task, scan_read, side_count, source_of, steps_of}

-- a fragment as it runs: its number among all, its tasks, and the drivers of a pipe in each
pub record Site : Type 0 where
  pub fragments : List FragmentForm
  pub fragment : ℕ
  pub tasks : ℕ
  pub drivers : ℕ

abbrev pub site_view : declared.Site → Site
site_view s = record {
  fragments = map fragment_view s.fragments.now;
  fragment = s.fragment;
  tasks = s.tasks;
  drivers = s.drivers;
}

-- what a pipe has before its drivers are numbered
abbrev pub unnumbered : Series
unnumbered = record { first = 0; stride = 0 }

-- the pipe of a node. `next` is the place of the first pipe that begins below it
abbrev pub pipe_of : Site → ℕ → TargetForm → NodeForm → PipeForm
pipe_of s next target node = record {
  fragment = s.fragment;
  tasks = s.tasks;
  drivers = drivers_in_task s.drivers (source_of node) (steps_of s.fragments next node) target;
  numbers = unnumbered;
  source = source_of node;
  scan = scan_read node;
  steps = steps_of s.fragments next node;
  target = target;
}

-- the target of a join's right side
abbrev pub built_for : ℕ → List Pair → List DynamicFilter → TargetForm
built_for id on filters = cell (record { join = id; on = on; filters = filters })

-- those that begin below a node of the pipe `own`, from the place `next` on
abbrev pub sides_of : Site → ℕ → ℕ → NodeForm → List PipeForm
sides_of s own next (scan id place columns types) = []
sides_of s own next (values id types list) = []
sides_of s own next (remote id number) = []
sides_of s own next (step id operator input) = sides_of s own next input
sides_of s own next (join id kind on filters left right) =
    sides_of s own next left
    ++ pipe_of s (next + side_count left + 1) (built_for id on filters) right
    ∷ sides_of s (next + side_count left) (next + side_count left + 1) right
sides_of s own next (union id left right) =
    (pipe_of s (next + 1) (side own) left ∷ sides_of s next (next + 1) left)
    ++ pipe_of s (next + 1 + side_count left + 1) (side own) right
    ∷ sides_of s (next + 1 + side_count left) (next + 1 + side_count left + 1) right

-- all of them, the first one at the place `at`
abbrev pub pipes_of : Site → ℕ → TargetForm → NodeForm → List PipeForm
pipes_of s at target node = pipe_of s (at + 1) target node ∷ sides_of s at (at + 1) node
