-- Hashing bytes one by one and value by value.
use Rattle.std.proofs.Common.{◌≡◌, ℕ, ◌+◌, ◌<◌, List, [], ◌∷◌, ◌++◌, length, get_or, drop, refl, ap, sym, ◌∙◌, drop-cons, add-one}
use Rattle.std.specs.List.{flat_map}
use Rattle.sql_values.specs.declared.value.Value.{Value}
use Rattle.sql_values.specs.Buckets.{bytes_of, hash_byte, hash_after}

pub hash_after-append : (hash : ℕ) (a b : List ℕ) → hash_after hash (a ++ b) ≡ hash_after (hash_after hash a) b
hash_after-append hash [] b = refl
hash_after-append hash (x ∷ a) b = hash_after-append (hash_byte hash x) a b

pub hash_more : (hash i : ℕ) (bytes : List ℕ) → i < length bytes → hash_after hash (drop i bytes) ≡ hash_after (hash_byte hash (get_or bytes i 0)) (drop (i + 1) bytes)
hash_more hash i bytes h = rw (add-one, drop-cons bytes i 0)

pub hash_more_value : (hash i : ℕ) (values : List Value) (d : Value) → i < length values → hash_after hash (flat_map bytes_of (drop i values)) ≡ hash_after (hash_after hash (bytes_of (get_or values i d))) (flat_map bytes_of (drop (i + 1) values))
hash_more_value hash i values d h =
    ap (λ vs. hash_after hash (flat_map bytes_of vs)) (drop-cons values i d h ∙ ap (λ k. get_or values i d ∷ drop k values) (sym (add-one i)))
    ∙ hash_after-append hash (bytes_of (get_or values i d)) (flat_map bytes_of (drop (i + 1) values))

pub ruleset hashing = (hash_after-append, hash_more, hash_more_value)
