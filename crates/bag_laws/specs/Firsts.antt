-- The first rows of some order, and of a sorted one.
use Rattle.std.specs.Prelude.{◌≡◌, ℕ, List, take}
use Rattle.bag_laws.specs.Weights.{SameWeights}
pub use Rattle.relation_laws.specs.Sorts.{IsTopOf}

-- the items in some order, cut after so many
pub record IsFirstOf {X : Type 0} (count : ℕ) (items first : List X) : Type 0 where
  pub order : List X
  pub same : SameWeights items order
  pub is : first ≡ take count order
