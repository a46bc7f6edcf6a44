-- The hash of the values of a key. Any function of the values would do.
use Rattle.std.specs.Prelude.{ℕ, ◌*◌, ◌/◌, ◌%◌, ◌^◌, List, [], ◌∷◌, length, bit_xor, if◌then◌else◌}
use Rattle.std.specs.Int.{w32, w64, w128, cast_unsigned}
use Rattle.sql_values.specs.declared.value.Value.{Value}
use Rattle.sql_values.specs.declared.value.Value.TheVariants.{Null, Boolean, Bigint, Decimal, Varchar, Date}
use Rattle.sql_values.specs.Buckets.{hash_after}

-- the hash after one more number of 64 bits: the upper half of a product is what is spread best
abbrev pub hash_word : ℕ → ℕ → ℕ
hash_word hash word =
    let product : ℕ = bit_xor hash word * 11400714819323198485 % 2 ^ 64 in
    bit_xor product (product / 2 ^ 32)

-- the hash after one more value
abbrev pub hash_value : ℕ → Value → ℕ
hash_value hash Null = hash_word hash 7046029254386353131
hash_value hash (Boolean truth) = hash_word hash (if truth then 1 else 0)
hash_value hash (Bigint n) = hash_word hash (cast_unsigned w64 n)
hash_value hash (Decimal n) =
    hash_word (hash_word hash (cast_unsigned w128 n % 2 ^ 64)) (cast_unsigned w128 n / 2 ^ 64)
hash_value hash (Varchar text) = hash_word (hash_after hash text) (length text)
hash_value hash (Date day) = hash_word hash (cast_unsigned w32 day)

-- the hash after more values
abbrev pub hash_values : ℕ → List Value → ℕ
hash_values hash [] = hash
hash_values hash (v ∷ vs) = hash_values (hash_value hash v) vs

-- the hash of no value
abbrev pub no_value : ℕ
no_value = 14695981039346656037

abbrev pub hash_of : List Value → ℕ
hash_of values = hash_values no_value values
