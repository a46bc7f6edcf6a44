-- That what the pipes of a layout have in each task is numbered from 0 on: fragment by fragment, in it task by task, and
-- in a task pipe by pipe.
use Rattle.std.specs.Prelude.{◌≡◌, ℕ, ◌+◌, ◌<◌, List, [], ◌∷◌, ◌⊎◌, slice_get, Some}
use Rattle.plan_layout.specs.declared.pipe.Series.{Series}
use Rattle.plan_layout.specs.Edges.{count_if, reads_edge}
use Rattle.plan_layout.specs.Pipes.{PipeForm, SourceForm, edge, number_in_task}
use Rattle.plan_layout.specs.Sides.{unnumbered}

-- one of those that a pipe has in a task
pub record Seat (width : PipeForm → ℕ) (layout : List PipeForm) : Type 0 where
  pub at : ℕ
  pub pipe : PipeForm
  pub is : slice_get layout at ≡ Some pipe
  pub task : ℕ
  pub has_task : task < pipe.tasks
  pub lane : ℕ
  pub has_lane : lane < width pipe

-- smaller in the first number that differs
abbrev pub Precedes : List ℕ → List ℕ → Type 0
Precedes [] ys = ⊥
Precedes (x ∷ xs) [] = ⊥
Precedes (x ∷ xs) (y ∷ ys) = (x < y) ⊎ ((x ≡ y) × Precedes xs ys)

module _ {width : PipeForm → ℕ} {layout : List PipeForm} where
  abbrev pub address : Seat width layout → List ℕ
  address s = s.pipe.fragment ∷ s.task ∷ s.at ∷ s.lane ∷ []

  abbrev pub number_at : (PipeForm → Series) → Seat width layout → ℕ
  number_at numbers s = number_in_task (numbers s.pipe) s.task + s.lane

-- the numbers are those below the count, each of one seat, in the order of the seats
pub record AreNumbered (width : PipeForm → ℕ) (numbers : PipeForm → Series) (layout : List PipeForm) (count : ℕ) : Type 0 where
  pub below : (a : Seat width layout) → number_at numbers a < count
  pub some : (n : ℕ) → n < count → (a : Seat width layout) × (number_at numbers a ≡ n)
  pub in_order : (a b : Seat width layout) → Precedes (address a) (address b) → number_at numbers a < number_at numbers b
  pub once : (a b : Seat width layout) → number_at numbers a ≡ number_at numbers b → address a ≡ address b

-- a pipe that fetches has an edge in each task
abbrev pub edges_of : PipeForm → ℕ
edges_of pipe = count_if (reads_edge pipe.source) 1

abbrev pub series_of : SourceForm → Series
series_of (edge pipe numbers) = numbers
series_of source = unnumbered
