-- The bucket of some values: FNV-1a of 64 bits over their bytes.
use Rattle.std.specs.Prelude.{◌≡◌, ℕ, ◌*◌, ◌%◌, ◌^◌, ◌<◌, List, [], ◌∷◌, ◌++◌, length, flat_map, bit_xor, slice_index_or, ℤ, if◌then◌else◌}
use Rattle.std.specs.Int.{Width, w32, w64, w128, cast_unsigned, to_le_bytes}
use Rattle.sql_values.specs.declared.value.Value.{Value}
use Rattle.sql_values.specs.declared.value.Value.TheVariants.{Null, Boolean, Bigint, Decimal, Varchar, Date}

-- a number in two's complement, its low byte first
unfoldable pub number_bytes : Width → ℤ → List ℕ
number_bytes width n = to_le_bytes width (cast_unsigned width n)

-- 0 for NULL, else 1 and the value, with a text behind its length
abbrev pub bytes_of : Value → List ℕ
bytes_of Null = 0 ∷ []
bytes_of (Boolean truth) = 1 ∷ (if truth then 1 else 0) ∷ []
bytes_of (Bigint n) = 1 ∷ number_bytes w64 n
bytes_of (Decimal unscaled) = 1 ∷ number_bytes w128 unscaled
bytes_of (Varchar text) = 1 ∷ (to_le_bytes w64 (length text) ++ text)
bytes_of (Date day) = 1 ∷ number_bytes w32 day

-- the hash after one more byte
abbrev pub hash_byte : ℕ → ℕ → ℕ
hash_byte hash byte = bit_xor hash byte * 1099511628211 % 2 ^ 64

-- the hash after more bytes
abbrev pub hash_after : ℕ → List ℕ → ℕ
hash_after hash [] = hash
hash_after hash (b ∷ bs) = hash_after (hash_byte hash b) bs

-- one of n buckets, from 0
abbrev pub bucket_of : List Value → ℕ → ℕ
bucket_of values n = hash_after 14695981039346656037 (flat_map bytes_of values) % n

-- hashes, each of which goes on by the value at its place
pub record GoOnBy (value : ℕ → Value) (old new : List ℕ) : Type 0 where
  pub len : length new ≡ length old
  pub each : (k : ℕ) → k < length old → slice_index_or new k 0 ≡ hash_after (slice_index_or old k 0) (bytes_of (value k))
