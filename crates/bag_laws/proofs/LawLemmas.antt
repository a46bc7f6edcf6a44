-- The laws as the public functions state them.
use Rattle.std.proofs.Common.{◌≡◌, ℕ, ◌<◌, zero, suc, List, [], ◌∷◌, arith, length}
use Rattle.std.specs.Prelude.{All, Contains}
use Rattle.sql_values.specs.declared.types.SqlType.{SqlType}
use Rattle.sql_values.specs.declared.value.Value.{Value}
use Rattle.sql_values.specs.declared.relational.Call.{Call}
use Rattle.sql_values.specs.declared.relational.JoinKind.{JoinKind}
use Rattle.sql_values.specs.Bags.{SameBag}
use Rattle.relation_laws.specs.Groups.{groups_of}
use Rattle.relation_laws.specs.Joins.{join_of}
use Rattle.bag_laws.specs.Weights.{SameWeights}
use Rattle.bag_laws.specs.Gather.{gather}
use Rattle.bag_laws.specs.Buckets.{AllBelow, SitByBucket, at_places, key_bucket, lefts, of_bucket, rights}
use Rattle.bag_laws.specs.Pieces.{finals_of}
use Rattle.bag_laws.proofs.BagLemmas.{bag_from_same, same_from_bag}
use Rattle.bag_laws.proofs.BucketLemmas.{key_bucket-below, same-buckets}
use Rattle.bag_laws.proofs.GroupLemmas.{same-groups_of_by_bucket}
use Rattle.bag_laws.proofs.JoinLemmas.{join-by_bucket, same-join}
use Rattle.bag_laws.proofs.KeyLemmas.{key_bucket-cut, key_bucket-take, partners-key_bucket}
use Rattle.bag_laws.proofs.PieceLemmas.{same-finals_of_by_bucket}

pub bag-buckets : (n : ℕ) → 0 < n → (columns : List ℕ) (rows : List (List Value)) → SameBag (gather n (λ k. of_bucket (key_bucket n columns) k rows)) rows
bag-buckets n lt columns rows =
    bag_from_same (gather n (λ k. of_bucket (key_bucket n columns) k rows)) rows
    (same-buckets (key_bucket n columns) n (λ row. key_bucket-below n columns row lt) rows)

pub bag-join : (kind : JoinKind) (on : List (ℕ × ℕ)) (l r : ℕ) (A B C D : List (List Value)) → SameBag A B → SameBag C D → SameBag (join_of kind on l r A C) (join_of kind on l r B D)
bag-join kind on l r A B C D s t =
    bag_from_same (join_of kind on l r A C) (join_of kind on l r B D) (same-join kind on l r (same_from_bag A B s) (same_from_bag C D t))

pub join-by_columns : (kind : JoinKind) (on pairs : List (ℕ × ℕ)) (l r n : ℕ) → All (Contains on) pairs → (left right : ℕ → List (List Value))
    → SitByBucket (key_bucket n (lefts pairs)) n left → SitByBucket (key_bucket n (rights pairs)) n right
    → gather n (λ k. join_of kind on l r (left k) (right k)) ≡ join_of kind on l r (gather n left) (gather n right)
join-by_columns kind on pairs l r n h left right =
    join-by_bucket kind on l r (key_bucket n (lefts pairs)) (key_bucket n (rights pairs)) (partners-key_bucket on pairs h n) n left right

pub groups-by_columns : (types : List SqlType) (columns : List ℕ) (calls : List Call) (places : List ℕ) (n : ℕ) → 0 < length columns → 0 < n
    → AllBelow (length columns) places → (lists : ℕ → List (List Value)) → SitByBucket (key_bucket n (at_places columns places)) n lists
    → SameWeights (gather n (λ k. groups_of types columns calls (lists k))) (groups_of types columns calls (gather n lists))
groups-by_columns types [] calls places n some lt below lists sits = absurd (omega (arith, some))
groups-by_columns types (column ∷ columns) calls places n some lt below lists sits =
    same-groups_of_by_bucket types calls column columns (key_bucket n (at_places (column ∷ columns) places)) (key_bucket n places)
    (λ row. key_bucket-cut n (column ∷ columns) places row below) n (λ key. key_bucket-below n places key lt) lists sits

pub finals-by_columns : (types : List SqlType) (width : ℕ) (calls : List Call) (columns : List ℕ) (n : ℕ) → 0 < width → 0 < n
    → AllBelow width columns → (lists : ℕ → List (List Value)) → SitByBucket (key_bucket n columns) n lists
    → SameWeights (gather n (λ k. finals_of types width calls (lists k))) (finals_of types width calls (gather n lists))
finals-by_columns types zero calls columns n some lt below lists sits = absurd (omega (arith, some))
finals-by_columns types (suc width) calls columns n some lt below lists sits =
    same-finals_of_by_bucket types calls width (key_bucket n columns) (key_bucket n columns)
    (λ row. key_bucket-take n (suc width) columns row below) n (λ key. key_bucket-below n columns key lt) lists sits
