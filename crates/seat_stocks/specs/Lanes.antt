-- The lanes of edges, by the place of the pipe that they go to.
use Rattle.std.specs.Prelude.{ℕ, ◌+◌, List, slice_index_or}

-- of these first lanes of pipes that of a task
abbrev pub lane_at : List ℕ → ℕ → ℕ → ℕ
lane_at firsts at task = slice_index_or firsts at 0 + task
