-- The items of a bucket, and lists that hold only items that pass a test.
use Rattle.std.specs.Prelude.{◌≡◌, ℕ, ◌<◌, List, Bool, All, filter, get_or, map, sum_by, ◌==◌, if◌then◌else◌}
use Rattle.sql_values.specs.declared.value.Value.{Value}
use Rattle.sql_values.specs.Cells.{cut}
use Rattle.sql_values.specs.Buckets.{bucket_of}

abbrev pub of_bucket : {X : Type 0} → (X → ℕ) → ℕ → List X → List X
of_bucket bucket k items = filter (λ x. bucket x == k) items

-- the bucket of a row by some of its columns
abbrev pub key_bucket : ℕ → List ℕ → List Value → ℕ
key_bucket buckets columns row = bucket_of (cut columns row) buckets

-- no item fails the test
pub record Sits {X : Type 0} (passes : X → Bool) (items : List X) : Type 0 where
  pub none_fails : sum_by (λ x. if passes x then 0 else 1) items ≡ 0

-- each task below a number has only items of its own bucket
abbrev pub SitByBucket : {X : Type 0} → (X → ℕ) → ℕ → (ℕ → List X) → Type 0
SitByBucket bucket tasks lists = (k : ℕ) → k < tasks → Sits (λ x. bucket x == k) (lists k)

-- pairs of a column on the left and one on the right
abbrev pub lefts : List (ℕ × ℕ) → List ℕ
lefts pairs = map (λ pair. pair.0) pairs

abbrev pub rights : List (ℕ × ℕ) → List ℕ
rights pairs = map (λ pair. pair.1) pairs

-- the columns that stand at some places of others
abbrev pub at_places : List ℕ → List ℕ → List ℕ
at_places columns places = map (λ place. get_or columns place 0) places

abbrev pub AllBelow : ℕ → List ℕ → Type 0
AllBelow width columns = All (λ column. column < width) columns
