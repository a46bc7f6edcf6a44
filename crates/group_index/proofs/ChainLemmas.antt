-- Chains with one more link, and steps along one.
use Rattle.std.proofs.Common.{◌≡◌, ◌≢◌, ℕ, ◌+◌, ◌<◌, ◌≤◌, ◌^◌, zero, suc, List, [], ◌∷◌, ◌++◌, length, map, set, refl, ap, sym, ◌∙◌, arith, true, false, ◌⊎◌, inl, inr}
use Rattle.std.specs.Prelude.{nat_eq, bit_and, slice_index_or}
use Rattle.std.proofs.lemmas.Bool.{cases_lt, eqb-true, eq-eqb, ne_eqb}
use Rattle.std.proofs.lemmas.Bool.Decides.{eqb_tells}
use Rattle.std.proofs.lemmas.List.{get_or-map, get_or-set_same, get_or-set_other, length-append, length-set, length-map, map-append}
use Rattle.std.proofs.lemmas.Nat.{and_le_r}
use Rattle.std.proofs.Math.ListN.{get_or-append}
use Rattle.std.proofs.Math.Seq.{get_or-append_seam}
use Rattle.group_index.specs.declared.chains.Link.{Link}
use Rattle.group_index.specs.Places.{last_below, place_before}
use Rattle.group_index.specs.Chains.{AreChains, AreHeads, AreLinked, IsOnChain, has_hash, hash_at, hashes_of, head_of, last_of_hash, link_at, sits}
use Rattle.group_index.proofs.PlaceLemmas.{last_below-at, last_below-over, last_below-passes, last_below-same, last_below-skip, last_below-within}

-- the hashes of links
pub hash-link : (links : List Link) (place : ℕ) → hash_at (hashes_of links) place ≡ (link_at links place).hash
hash-link [] place = refl
hash-link (x ∷ links) zero = refl
hash-link (x ∷ links) (suc place) = hash-link links place

hashes-more : (links : List Link) (x : Link) → hashes_of (links ++ x ∷ []) ≡ hashes_of links ++ x.hash ∷ []
hashes-more links x = map-append (λ (l : Link). l.hash) links (x ∷ [])

hash-before : (links : List Link) (x : Link) (place : ℕ) → place < length links → hash_at (hashes_of (links ++ x ∷ [])) place ≡ hash_at (hashes_of links) place
hash-before links x place lt =
    ap (λ hs. hash_at hs place) (hashes-more links x)
    ∙ get_or-append (hashes_of links) (x.hash ∷ []) 0 place (omega (arith, lt, length-map links (λ (l : Link). l.hash)))

hash-last : (links : List Link) (x : Link) → hash_at (hashes_of (links ++ x ∷ [])) (length links) ≡ x.hash
hash-last links x =
    ap (λ hs. hash_at hs (length links)) (hashes-more links x)
    ∙ ap (hash_at (hashes_of links ++ x.hash ∷ [])) (sym (length-map links (λ (l : Link). l.hash)))
    ∙ get_or-append_seam (hashes_of links) x.hash [] 0

-- below the last link the buckets are as before
sits-before : (mask : ℕ) (links : List Link) (x : Link) (bucket place : ℕ) → place ≤ length links
    → last_below (sits mask (hashes_of (links ++ x ∷ [])) bucket) place ≡ last_below (sits mask (hashes_of links) bucket) place
sits-before mask links x bucket place le =
    last_below-same (sits mask (hashes_of (links ++ x ∷ [])) bucket) (sits mask (hashes_of links) bucket) place
    (λ k lt. ap (λ h. nat_eq (bit_and h mask) bucket) (hash-before links x k (omega (arith, lt, le))))

head-new : (mask : ℕ) (heads : List ℕ) (links : List Link) (x : Link) (bucket : ℕ) → AreHeads mask heads links → bucket < length heads
    → ((nat_eq (bit_and x.hash mask) bucket ≡ true) × (bit_and x.hash mask ≡ bucket)) ⊎ ((nat_eq (bit_and x.hash mask) bucket ≡ false) × (bit_and x.hash mask ≢ bucket))
    → slice_index_or (set heads (bit_and x.hash mask) (suc (length links))) bucket 0 ≡ last_below (sits mask (hashes_of (links ++ x ∷ [])) bucket) (suc (length links))
head-new mask heads links x bucket headed lt (inl (test, same)) =
    ap (λ b. slice_index_or (set heads b (suc (length links))) bucket 0) same
    ∙ get_or-set_same heads bucket (suc (length links)) 0 lt
    ∙ sym (last_below-at (sits mask (hashes_of (links ++ x ∷ [])) bucket) (length links) (ap (λ h. nat_eq (bit_and h mask) bucket) (hash-last links x) ∙ test))
head-new mask heads links x bucket headed lt (inr (test, other)) =
    get_or-set_other heads (bit_and x.hash mask) bucket (suc (length links)) 0 (λ e. other (sym e))
    ∙ headed bucket lt
    ∙ sym (sits-before mask links x bucket (length links) (omega arith))
    ∙ sym (last_below-over (sits mask (hashes_of (links ++ x ∷ [])) bucket) (length links) (ap (λ h. nat_eq (bit_and h mask) bucket) (hash-last links x) ∙ test))

link-new : (mask : ℕ) (links : List Link) (x : Link) (place : ℕ) → AreLinked mask links
    → x.before ≡ last_below (sits mask (hashes_of links) (bit_and x.hash mask)) (length links)
    → (place < length links) ⊎ (length links ≡ place)
    → (link_at (links ++ x ∷ []) place).before ≡ last_below (sits mask (hashes_of (links ++ x ∷ [])) (bit_and (hash_at (hashes_of (links ++ x ∷ [])) place) mask)) place
link-new mask links x place linked is (inl lt) =
    ap (λ (l : Link). l.before) (get_or-append links (x ∷ []) (record { hash = 0; before = 0 }) place lt)
    ∙ linked place lt
    ∙ sym (sits-before mask links x (bit_and (hash_at (hashes_of links) place) mask) place (omega (arith, lt)))
    ∙ ap (λ h. last_below (sits mask (hashes_of (links ++ x ∷ [])) (bit_and h mask)) place) (sym (hash-before links x place lt))
link-new mask links x place linked is (inr e) =
    ap (λ n. (link_at (links ++ x ∷ []) n).before) (sym e)
    ∙ ap (λ (l : Link). l.before) (get_or-append_seam links x [] (record { hash = 0; before = 0 }))
    ∙ is
    ∙ sym (sits-before mask links x (bit_and x.hash mask) (length links) (omega arith))
    ∙ ap (λ h. last_below (sits mask (hashes_of (links ++ x ∷ [])) (bit_and h mask)) (length links)) (sym (hash-last links x))
    ∙ ap (λ n. last_below (sits mask (hashes_of (links ++ x ∷ [])) (bit_and (hash_at (hashes_of (links ++ x ∷ [])) n) mask)) n) e

below_or_last : (n place : ℕ) → place < suc n → (place < n) ⊎ (n ≤ place) → (place < n) ⊎ (n ≡ place)
below_or_last n place lt (inl less) = inl less
below_or_last n place lt (inr more) = inr (omega (arith, lt, more))

pub chains-more : (mask : ℕ) (heads : List ℕ) (links : List Link) (x : Link) → AreChains mask heads links → length links + 1 < 2 ^ 32
    → x.before ≡ slice_index_or heads (bit_and x.hash mask) 0 → bit_and x.hash mask < length heads
    → AreChains mask (set heads (bit_and x.hash mask) (suc (length links))) (links ++ x ∷ [])
chains-more mask heads links x chains few before within =
    let many : length (links ++ x ∷ []) ≡ suc (length links) = length-append links (x ∷ []) ∙ omega arith in
    let long : length (set heads (bit_and x.hash mask) (suc (length links))) ≡ length heads = length-set heads (bit_and x.hash mask) (suc (length links)) in
    record {
      few = omega (arith, few, many);
      buckets = omega (arith, chains.buckets, long);
      headed = λ bucket lt. head-new mask heads links x bucket chains.headed (omega (arith, lt, long)) (eqb_tells (bit_and x.hash mask) bucket)
          ∙ ap (last_below (sits mask (hashes_of (links ++ x ∷ [])) bucket)) (sym many);
      linked = λ place lt. link-new mask links x place chains.linked (before ∙ chains.headed (bit_and x.hash mask) within) (below_or_last (length links) place (omega (arith, lt, many)) (cases_lt place (length links)));
    }

-- the bucket of a link on a chain is the chain's
same-bucket : (links : List Link) (hash m : ℕ) → (c : IsOnChain links hash (suc m)) → bit_and (hash_at (hashes_of links) m) c.mask ≡ bit_and hash c.mask
same-bucket links hash m c = eqb-true (bit_and (hash_at (hashes_of links) m) c.mask) (bit_and hash c.mask)
    (last_below-passes (sits c.mask (hashes_of links) (bit_and hash c.mask)) c.below m (sym c.is))

pub on-within : (links : List Link) (hash start : ℕ) → IsOnChain links hash start → start ≤ length links
on-within links hash start c = omega (arith, c.within, c.is, last_below-within (sits c.mask (hashes_of links) (bit_and hash c.mask)) c.below)

before-is : (links : List Link) (hash m : ℕ) → (c : IsOnChain links hash (suc m)) → (link_at links m).before ≡ last_below (sits c.mask (hashes_of links) (bit_and hash c.mask)) m
before-is links hash m c =
    c.linked m (omega (arith, on-within links hash (suc m) c))
    ∙ ap (λ b. last_below (sits c.mask (hashes_of links) b) m) (same-bucket links hash m c)

pub on-before : (links : List Link) (hash m : ℕ) → IsOnChain links hash (suc m) → IsOnChain links hash (link_at links m).before
on-before links hash m c = record {
  mask = c.mask;
  below = m;
  few = c.few;
  within = omega (arith, on-within links hash (suc m) c);
  is = before-is links hash m c;
  linked = c.linked;
}

pub before-less : (links : List Link) (hash m : ℕ) → IsOnChain links hash (suc m) → (link_at links m).before ≤ m
before-less links hash m c = omega (arith, before-is links hash m c, last_below-within (sits c.mask (hashes_of links) (bit_and hash c.mask)) m)

-- a link of another hash is passed over
pub passed-over : (links : List Link) (hash m : ℕ) → IsOnChain links hash (suc m) → (link_at links m).hash ≢ hash
    → last_below (has_hash (hashes_of links) hash) (suc m) ≡ last_below (has_hash (hashes_of links) hash) (link_at links m).before
passed-over links hash m c other =
    let hs = hashes_of links in
    last_below-over (has_hash hs hash) m (ne_eqb (hash_at hs m) hash (λ e. other (sym (hash-link links m) ∙ e)))
    ∙ last_below-skip (sits c.mask hs (bit_and hash c.mask)) (has_hash hs hash) m
    (λ k lt is. eq-eqb (bit_and (hash_at hs k) c.mask) (bit_and hash c.mask) (ap (λ h. bit_and h c.mask) (eqb-true (hash_at hs k) hash is)))
    ∙ ap (last_below (has_hash hs hash)) (sym (before-is links hash m c))

pub found-at : (links : List Link) (hash m : ℕ) → (link_at links m).hash ≡ hash → last_below (has_hash (hashes_of links) hash) (suc m) ≡ suc m
found-at links hash m same = last_below-at (has_hash (hashes_of links) hash) m (eq-eqb (hash_at (hashes_of links) m) hash (hash-link links m ∙ same))

-- where a chain begins
bucket-there : (mask : ℕ) (heads : List ℕ) (links : List Link) (hash : ℕ) → AreChains mask heads links → bit_and hash mask < length heads
bucket-there mask heads links hash c = omega (arith, c.buckets, and_le_r hash mask)

pub head-on : (mask : ℕ) (heads : List ℕ) (links : List Link) (hash : ℕ) → AreChains mask heads links → IsOnChain links hash (head_of mask heads hash)
head-on mask heads links hash c = record {
  mask = mask;
  below = length links;
  few = c.few;
  within = omega arith;
  is = c.headed (bit_and hash mask) (bucket-there mask heads links hash c);
  linked = c.linked;
}

pub link-on : (mask : ℕ) (heads : List ℕ) (links : List Link) (place : ℕ) → AreChains mask heads links → place < length links
    → IsOnChain links (link_at links place).hash (link_at links place).before
link-on mask heads links place c lt = record {
  mask = mask;
  below = place;
  few = c.few;
  within = omega (arith, lt);
  is = c.linked place lt ∙ ap (λ h. last_below (sits mask (hashes_of links) (bit_and h mask)) place) (hash-link links place);
  linked = c.linked;
}

-- going along from there is going along from the end
from-start : (links : List Link) (hash mask below start : ℕ) → start ≡ last_below (sits mask (hashes_of links) (bit_and hash mask)) below
    → last_below (has_hash (hashes_of links) hash) below ≡ last_below (has_hash (hashes_of links) hash) start
from-start links hash mask below start is =
    let hs = hashes_of links in
    last_below-skip (sits mask hs (bit_and hash mask)) (has_hash hs hash) below
    (λ k lt at. eq-eqb (bit_and (hash_at hs k) mask) (bit_and hash mask) (ap (λ h. bit_and h mask) (eqb-true (hash_at hs k) hash at)))
    ∙ ap (last_below (has_hash hs hash)) (sym is)

pub from-head : (mask : ℕ) (heads : List ℕ) (links : List Link) (hash : ℕ) → AreChains mask heads links
    → last_of_hash (hashes_of links) hash (head_of mask heads hash) ≡ last_of_hash (hashes_of links) hash (length (hashes_of links))
from-head mask heads links hash c =
    sym (ap place_before (from-start links hash mask (length links) (head_of mask heads hash) (c.headed (bit_and hash mask) (bucket-there mask heads links hash c))))
    ∙ ap (last_of_hash (hashes_of links) hash) (sym (length-map links (λ (l : Link). l.hash)))

-- one of the heads of some hashes
pub head-of_each : (mask : ℕ) (heads hashes found : List ℕ) (i : ℕ) → found ≡ map (head_of mask heads) hashes → i < length hashes
    → slice_index_or found i 0 ≡ head_of mask heads (slice_index_or hashes i 0)
head-of_each mask heads hashes found i is lt = ap (λ fs. slice_index_or fs i 0) is ∙ get_or-map (head_of mask heads) hashes i 0 0 lt

pub from-link : (mask : ℕ) (heads : List ℕ) (links : List Link) (place : ℕ) → AreChains mask heads links → place < length links
    → last_below (has_hash (hashes_of links) (link_at links place).hash) place ≡ last_below (has_hash (hashes_of links) (link_at links place).hash) (link_at links place).before
from-link mask heads links place c lt =
    from-start links (link_at links place).hash mask place (link_at links place).before
    (c.linked place lt ∙ ap (λ h. last_below (sits mask (hashes_of links) (bit_and h mask)) place) (hash-link links place))
