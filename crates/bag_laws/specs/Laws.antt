-- What the laws speak of.
use Rattle.std.specs.Prelude.{◌≡◌, ℕ, ◌<◌, List}
use Rattle.sql_values.specs.declared.value.Value.{Value}
use Rattle.sql_values.specs.declared.order.KeySpec.{KeySpec}
use Rattle.sql_values.specs.declared.relational.JoinKind.{JoinKind}
use Rattle.relation_laws.specs.Joins.{join_of}
use Rattle.bag_laws.specs.Firsts.{IsFirstOf, IsTopOf}
use Rattle.bag_laws.specs.Gather.{gather}

-- the rows that each task has
abbrev pub TaskRows : Type 0
TaskRows = ℕ → List (List Value)

-- each task's rows are first rows of its piece
abbrev pub AreFirstsOf : ℕ → ℕ → TaskRows → TaskRows → Type 0
AreFirstsOf count tasks pieces firsts = (k : ℕ) → k < tasks → IsFirstOf count (pieces k) (firsts k)

-- each task's rows are top rows of its piece
abbrev pub AreTopsOf : List KeySpec → ℕ → ℕ → TaskRows → TaskRows → Type 0
AreTopsOf keys count tasks pieces tops = (k : ℕ) → k < tasks → IsTopOf keys count (pieces k) (tops k)

-- the tasks' joins, one behind the other, are the join of all rows of both sides
abbrev pub JoinTogether : JoinKind → List (ℕ × ℕ) → ℕ → ℕ → ℕ → TaskRows → TaskRows → Type 0
JoinTogether kind on left_width right_width tasks left right =
    gather tasks (λ k. join_of kind on left_width right_width (left k) (right k))
    ≡ join_of kind on left_width right_width (gather tasks left) (gather tasks right)
