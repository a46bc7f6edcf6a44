-- What the adapter of operators that give late keeps.
use Rattle.std.specs.Prelude.{ℕ, List, Bool}
use Rattle.sql_values.specs.declared.types.SqlType.{SqlType}

-- the types of the rows of the pages that it takes, and the most rows of one that it gives
pub record PageTypes : Type 0 where
  pub takes : List SqlType
  pub size : ℕ

pub record LateState (K : Type 0) : Type 0 where
  pub kernel : K
  pub is_told : Bool
