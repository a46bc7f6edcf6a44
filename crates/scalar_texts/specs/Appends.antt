-- A text that may have been appended in part.
use Rattle.std.specs.Prelude.{◌≡◌, ℕ, List, ◌++◌}

-- `new` is `old` and then a beginning of `text`
pub record AppendsStart (text old new : List ℕ) : Type 0 where
  pub front : List ℕ
  pub rest : List ℕ
  pub parts : front ++ rest ≡ text
  pub appended : new ≡ old ++ front
