-- The rows of a join have the types of both sides.
use Rattle.std.proofs.Common.{ℕ, List, [], ◌∷◌, ◌++◌, length}
use Rattle.std.specs.Prelude.{All, filter}
use Rattle.std.proofs.lemmas.List.Elements.{All-filter, All-cons, All-nil}
use Rattle.sql_values.specs.declared.types.SqlType.{SqlType}
use Rattle.sql_values.specs.declared.value.Value.{Value}
use Rattle.sql_values.specs.declared.relational.JoinKind.{JoinKind}
use Rattle.sql_values.specs.declared.relational.JoinKind.TheVariants.{Inner, Left}
use Rattle.relation_laws.specs.Joins.{are_partners, beside_each, join_of, nulls, partnered}
use Rattle.relation_laws.proofs.WidthLemmas.{All-each, All-flat}
use Rattle.group_type_laws.proofs.TypeLemmas.{append-are_of, nulls-are_of}
use Rattle.tree_type_laws.proofs.RowLemmas.{Has}

beside_has : (ks ls : List SqlType) (a : List Value) (bs : List (List Value)) → Has ks a → All (Has ls) bs → All (Has (ks ++ ls)) (beside_each a bs)
beside_has ks ls a bs h all = All-each (Has ls) (Has (ks ++ ls)) (λ b. a ++ b) (λ b k. append-are_of ks ls a b h k) bs all

partnered_has : (ks ls : List SqlType) (kind : JoinKind) (a : List Value) (bs : List (List Value)) → Has ks a → All (Has ls) bs → All (Has (ks ++ ls)) (partnered kind (nulls (length ls)) a bs)
partnered_has ks ls Inner a bs h all = beside_has ks ls a bs h all
partnered_has ks ls Left a [] h all = All-cons (Has (ks ++ ls)) (a ++ nulls (length ls)) [] (append-are_of ks ls a (nulls (length ls)) h (nulls-are_of ls)) (All-nil (Has (ks ++ ls)))
partnered_has ks ls Left a (b ∷ bs) h all = beside_has ks ls a (b ∷ bs) h all

pub join_keeps : (ks ls : List SqlType) (kind : JoinKind) (on : List (ℕ × ℕ)) (width : ℕ) (left right : List (List Value)) → All (Has ks) left → All (Has ls) right
    → All (Has (ks ++ ls)) (join_of kind on width (length ls) left right)
join_keeps ks ls kind on width left right all h =
    All-flat (Has ks) (Has (ks ++ ls)) (λ a. partnered kind (nulls (length ls)) a (filter (are_partners on a) right))
    (λ a k. partnered_has ks ls kind a (filter (are_partners on a) right) k (All-filter (are_partners on a) (Has ls) right h)) left all
