-- The pipes that fetch what others read of other fragments.
use Rattle.std.specs.Prelude.{ℕ, ◌+◌, List, [], ◌∷◌, Bool, true, false, ◌==◌, if◌then◌else◌, None, unwrap_or}
use Rattle.std.specs.List.{position_from}
use Rattle.plan_docs.specs.declared.plan.Output.{Output}
use Rattle.plan_layout.specs.declared.pipe.Series.{Series}
use Rattle.plan_layout.specs.Pipes.{PipeForm, SourceForm, TargetForm, edge, fragment, readers, result, takers}
use Rattle.plan_layout.specs.Sides.{unnumbered}

abbrev pub reads_fragment : SourceForm → Bool
reads_fragment (fragment number) = true
reads_fragment source = false

abbrev pub reads_edge : SourceForm → Bool
reads_edge (edge pipe numbers) = true
reads_edge source = false

abbrev pub is_fragment : ℕ → SourceForm → Bool
is_fragment number (fragment n) = n == number
is_fragment number source = false

abbrev pub reads : ℕ → PipeForm → Bool
reads number pipe = is_fragment number pipe.source

-- the place of the pipe that reads the fragment
abbrev pub reader_of : ℕ → List PipeForm → ℕ
reader_of number pipes = unwrap_or (position_from (reads number) 0 pipes) 0

-- the rows of fragment 0 are the result
abbrev pub target_of : ℕ → Output → List PipeForm → TargetForm
target_of number output done = if number == 0 then result else readers output (reader_of number done)

abbrev pub count_if : Bool → ℕ → ℕ
count_if true n = n
count_if false n = 0

-- how many of the pipes read a fragment
abbrev pub sources_in : List PipeForm → ℕ
sources_in [] = 0
sources_in (pipe ∷ pipes) = count_if (reads_fragment pipe.source) 1 + sources_in pipes

-- one for each task in which a fragment is read
abbrev pub edges_in : List PipeForm → ℕ
edges_in [] = 0
edges_in (pipe ∷ pipes) = count_if (reads_edge pipe.source) pipe.tasks + edges_in pipes

-- what fetches for the pipe at a place: one driver in each of its tasks
abbrev pub fetch_of : PipeForm → ℕ → Series → PipeForm
fetch_of pipe at numbers = record {
  fragment = pipe.fragment;
  tasks = pipe.tasks;
  drivers = 1;
  numbers = unnumbered;
  source = edge at numbers;
  scan = None;
  steps = [];
  target = takers at;
}

abbrev pub after : ℕ → Series → Series
after count numbers = record { first = numbers.first + count; stride = numbers.stride }

-- for each of the pipes that reads a fragment. The first one is at the place `at`
abbrev pub fetches_of : Series → ℕ → List PipeForm → List PipeForm
fetches_of numbers at [] = []
fetches_of numbers at (pipe ∷ pipes) =
    if reads_fragment pipe.source then fetch_of pipe at numbers ∷ fetches_of (after 1 numbers) (at + 1) pipes
    else fetches_of numbers (at + 1) pipes

-- the edges of all fragments are numbered by tasks, and in a task by its sources
abbrev pub edge_numbers : List PipeForm → List PipeForm → Series
edge_numbers done own = record { first = edges_in done; stride = sources_in own }
