-- Hashes, each at a place, and the places of one bucket behind one another.
use Rattle.std.specs.Prelude.{◌≡◌, ℕ, ◌<◌, ◌≤◌, ◌^◌, List, length, map, slice_index_or, Bool, Option, nat_eq, bit_and}
use Rattle.group_index.specs.declared.chains.Link.{Link}
use Rattle.group_index.specs.Places.{last_below, place_before}

abbrev pub hash_at : List ℕ → ℕ → ℕ
hash_at hashes place = slice_index_or hashes place 0

-- the hash stands at the place
abbrev pub has_hash : List ℕ → ℕ → ℕ → Bool
has_hash hashes hash place = nat_eq (hash_at hashes place) hash

-- the last place of a hash among the first n
abbrev pub last_of_hash : List ℕ → ℕ → ℕ → Option ℕ
last_of_hash hashes hash n = place_before (last_below (has_hash hashes hash) n)

-- the hash at the place is of this bucket
abbrev pub sits : ℕ → List ℕ → ℕ → ℕ → Bool
sits mask hashes bucket place = nat_eq (bit_and (hash_at hashes place) mask) bucket

abbrev pub hashes_of : List Link → List ℕ
hashes_of links = map (λ link. link.hash) links

abbrev pub link_at : List Link → ℕ → Link
link_at links place = slice_index_or links place record { hash = 0; before = 0 }

-- what each link has behind it gives the last place of its bucket below
abbrev pub AreLinked : ℕ → List Link → Type 0
AreLinked mask links =
    (place : ℕ) → place < length links
    → (link_at links place).before ≡ last_below (sits mask (hashes_of links) (bit_and (hash_at (hashes_of links) place) mask)) place

-- the head of a hash's bucket
abbrev pub head_of : ℕ → List ℕ → ℕ → ℕ
head_of mask heads hash = slice_index_or heads (bit_and hash mask) 0

-- and each head the last place of its bucket
abbrev pub AreHeads : ℕ → List ℕ → List Link → Type 0
AreHeads mask heads links =
    (bucket : ℕ) → bucket < length heads → slice_index_or heads bucket 0 ≡ last_below (sits mask (hashes_of links) bucket) (length links)

pub record AreChains (mask : ℕ) (heads : List ℕ) (links : List Link) : Type 0 where
  pub few : length links < 2 ^ 32
  pub buckets : mask < length heads
  pub headed : AreHeads mask heads links
  pub linked : AreLinked mask links

-- the number gives the last place of the hash's bucket below some place
pub record IsOnChain (links : List Link) (hash start : ℕ) : Type 0 where
  pub mask : ℕ
  pub below : ℕ
  pub few : length links < 2 ^ 32
  pub within : below ≤ length links
  pub is : start ≡ last_below (sits mask (hashes_of links) (bit_and hash mask)) below
  pub linked : AreLinked mask links
