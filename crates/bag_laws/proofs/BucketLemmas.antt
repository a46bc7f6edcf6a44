-- Items by bucket, and lists whose items all pass a test.
use Rattle.std.proofs.Common.{◌≡◌, ℕ, ◌+◌, ◌<◌, ◌≤◌, zero, suc, List, [], ◌∷◌, ◌++◌, Bool, true, false, refl, ap, sym, ◌∙◌, arith, map, ◌⊎◌, inl, inr}
use Rattle.std.specs.Prelude.{filter, flat_map, sum_by, if◌then◌else◌, ◌==◌, ltb}
use Rattle.std.proofs.lemmas.Bool.{cases_eq, cases_lt, eqb-true, eq-eqb, ne_eqb, lt-ltb, le-ltb}
use Rattle.std.proofs.lemmas.List.Sums.{sum_by-append, sum_by-cons}
use Rattle.std.proofs.lemmas.Nat.{mod_below}
use Rattle.sql_values.specs.declared.value.Value.{Value}
use Rattle.sql_values.specs.Buckets.{bytes_of, hash_after}
use Rattle.sql_values.specs.Cells.{cell}
use Rattle.bag_laws.specs.Weights.{SameWeights}
use Rattle.bag_laws.specs.Gather.{gather}
use Rattle.bag_laws.specs.Buckets.{Sits, SitByBucket, key_bucket, of_bucket}
use Rattle.bag_laws.proofs.BagLemmas.{same-refl, same-append, same-trans, same-sym, same-from_equal, weight-agree, weight-filter, weight-sum}
use Rattle.bag_laws.proofs.GatherLemmas.{gather-filter, gather-one}

-- the bucket of a row is one of so many
pub key_bucket-below : (n : ℕ) (columns : List ℕ) (row : List Value) → 0 < n → key_bucket n columns row < n
key_bucket-below n columns row lt = mod_below (hash_after 14695981039346656037 (flat_map bytes_of (map (cell row) columns))) n lt

pub false_unless : (b : Bool) → ¬ (b ≡ true) → b ≡ false
false_unless true not = absurd (not refl)
false_unless false not = refl

-- a test that holds where exactly one of two does
both_at : (a b c : Bool) (h : ℕ) → (if a then 1 else 0) ≡ (if b then 1 else 0) + (if c then 1 else 0) → (if a then h else 0) ≡ (if b then h else 0) + (if c then h else 0)
both_at true true true h e = absurd (omega (arith, e))
both_at true true false h e = omega arith
both_at true false true h e = omega arith
both_at true false false h e = absurd (omega (arith, e))
both_at false true true h e = absurd (omega (arith, e))
both_at false true false h e = absurd (omega (arith, e))
both_at false false true h e = absurd (omega (arith, e))
both_at false false false h e = omega arith

module _ {X : Type 0} where
  pub same-filter_either : (p q r : X → Bool) → ((x : X) → (if p x then 1 else 0) ≡ (if q x then 1 else 0) + (if r x then 1 else 0))
      → (A : List X) → SameWeights (filter p A) (filter q A ++ filter r A)
  same-filter_either p q r either A = record {
    weighs = λ h. omega (
      arith,
      weight-filter h p A,
      weight-filter h q A,
      weight-filter h r A,
      sum_by-append h (filter q A) (filter r A),
      weight-agree (λ x. if p x then h x else 0) (λ x. (if q x then h x else 0) + (if r x then h x else 0)) (λ x. both_at (p x) (q x) (r x) (h x) (either x)) A,
      weight-sum (λ x. if q x then h x else 0) (λ x. if r x then h x else 0) A,
    );
  }

  pub filter-every : (p : X → Bool) → ((x : X) → p x ≡ true) → (A : List X) → filter p A ≡ A
  filter-every p each [] = refl
  filter-every p each (x ∷ A) = ap (λ b. if b then x ∷ filter p A else filter p A) (each x) ∙ ap (λ items. x ∷ items) (filter-every p each A)

  pub filter-no : (p : X → Bool) → ((x : X) → p x ≡ false) → (A : List X) → filter p A ≡ []
  filter-no p each [] = refl
  filter-no p each (x ∷ A) = ap (λ b. if b then x ∷ filter p A else filter p A) (each x) ∙ filter-no p each A

counted : {s t u x y z : Bool} → s ≡ x → t ≡ y → u ≡ z → (if x then 1 else 0) ≡ (if y then 1 else 0) + (if z then 1 else 0)
    → (if s then 1 else 0) ≡ (if t then 1 else 0) + (if u then 1 else 0)
counted e f g h = ap (λ b. if b then 1 else 0) e ∙ h ∙ sym (λ i. (if f i then 1 else 0) + (if g i then 1 else 0))

below_or_at : (b n : ℕ) → (b ≡ n) ⊎ (¬ (b ≡ n)) → (n < b) ⊎ (b ≤ n)
    → (if ltb b (suc n) then 1 else 0) ≡ (if ltb b n then 1 else 0) + (if b == n then 1 else 0)
below_or_at b n (inl e) c =
    counted (lt-ltb b (suc n) (omega (arith, e))) (le-ltb b n (omega (arith, e))) (eq-eqb b n e) (omega arith)
below_or_at b n (inr ne) (inl gt) =
    counted (le-ltb b (suc n) (omega (arith, gt))) (le-ltb b n (omega (arith, gt))) (ne_eqb b n ne) (omega arith)
below_or_at b n (inr ne) (inr le) =
    counted (lt-ltb b (suc n) (omega (arith, le))) (lt-ltb b n (omega (arith, le, ne))) (ne_eqb b n ne) (omega arith)

module _ {X : Type 0} (bucket : X → ℕ) where
  first_buckets : (n : ℕ) (A : List X) → SameWeights (gather n (λ k. of_bucket bucket k A)) (filter (λ x. ltb (bucket x) n) A)
  first_buckets zero A = same-from_equal (sym (filter-no (λ x. ltb (bucket x) 0) (λ x. le-ltb (bucket x) 0 (omega arith)) A))
  first_buckets (suc n) A =
      same-trans (same-append (first_buckets n A) (same-refl (of_bucket bucket n A)))
      (same-sym (same-filter_either (λ x. ltb (bucket x) (suc n)) (λ x. ltb (bucket x) n) (λ x. bucket x == n)
      (λ x. below_or_at (bucket x) n (cases_eq (bucket x) n) (cases_lt n (bucket x))) A))

  -- all buckets together hold what was cut into them
  pub same-buckets : (n : ℕ) → ((x : X) → bucket x < n) → (A : List X) → SameWeights (gather n (λ k. of_bucket bucket k A)) A
  same-buckets n below A =
      same-trans (first_buckets n A) (same-from_equal (filter-every (λ x. ltb (bucket x) n) (λ x. lt-ltb (bucket x) n (below x)) A))

passes_at : (b : Bool) (n : ℕ) → (if b then 0 else 1) + n ≡ 0 → b ≡ true
passes_at true n e = refl
passes_at false n e = absurd (omega (arith, e))

module _ {X : Type 0} where
  pub sits-nil : (p : X → Bool) → Sits p []
  sits-nil p = record { none_fails = refl }

  pub sits-cons : (p : X → Bool) (x : X) (A : List X) → p x ≡ true → Sits p A → Sits p (x ∷ A)
  sits-cons p x A e s = record { none_fails = omega (arith, s.none_fails, sum_by-cons (λ y. if p y then 0 else 1) x A, ap {B = ℕ} (λ b. if b then 0 else 1) e) }

  pub sits-head : (p : X → Bool) (x : X) (A : List X) → Sits p (x ∷ A) → p x ≡ true
  sits-head p x A s = passes_at (p x) (sum_by (λ y. if p y then 0 else 1) A) (sym (sum_by-cons (λ y. if p y then 0 else 1) x A) ∙ s.none_fails)

  pub sits-tail : (p : X → Bool) (x : X) (A : List X) → Sits p (x ∷ A) → Sits p A
  sits-tail p x A s = record { none_fails = omega (arith, s.none_fails, sum_by-cons (λ y. if p y then 0 else 1) x A) }

  pub sits-append : (p : X → Bool) (A B : List X) → Sits p A → Sits p B → Sits p (A ++ B)
  sits-append p A B s t = record { none_fails = omega (arith, s.none_fails, t.none_fails, sum_by-append (λ x. if p x then 0 else 1) A B) }

  pub sits-same : (p : X → Bool) {A B : List X} → SameWeights A B → Sits p A → Sits p B
  sits-same p same s = record { none_fails = sym (same.weighs (λ x. if p x then 0 else 1)) ∙ s.none_fails }

  pub sits-weaker : (p q : X → Bool) → ((x : X) → p x ≡ true → q x ≡ true) → (A : List X) → Sits p A → Sits q A
  sits-weaker p q each [] s = sits-nil q
  sits-weaker p q each (x ∷ A) s = sits-cons q x A (each x (sits-head p x A s)) (sits-weaker p q each A (sits-tail p x A s))

  filter_at : (p q : X → Bool) (x : X) (A : List X) (b : Bool) → q x ≡ b → (b ≡ true → p x ≡ true) → Sits p (filter q A) → Sits p (if b then x ∷ filter q A else filter q A)
  filter_at p q x A true e h s = sits-cons p x (filter q A) (h refl) s
  filter_at p q x A false e h s = s

  -- what passes q passes p
  pub sits-filter_by : (p q : X → Bool) → ((x : X) → q x ≡ true → p x ≡ true) → (A : List X) → Sits p (filter q A)
  sits-filter_by p q each [] = sits-nil p
  sits-filter_by p q each (x ∷ A) = filter_at p q x A (q x) refl (each x) (sits-filter_by p q each A)

  pub sits-filter : (p q : X → Bool) (A : List X) → Sits p A → Sits p (filter q A)
  sits-filter p q [] s = sits-nil p
  sits-filter p q (x ∷ A) s = filter_at p q x A (q x) refl (λ e. sits-head p x A s) (sits-filter p q A (sits-tail p x A s))

  -- tests that agree on all that is there
  pub filter-sits_agree : (p q r : X → Bool) → ((x : X) → p x ≡ true → q x ≡ r x) → (A : List X) → Sits p A → filter q A ≡ filter r A
  filter-sits_agree p q r each [] s = refl
  filter-sits_agree p q r each (x ∷ A) s =
      λ i. if each x (sits-head p x A s) i then x ∷ filter-sits_agree p q r each A (sits-tail p x A s) i else filter-sits_agree p q r each A (sits-tail p x A s) i

  pub filter-sits_all : (p q : X → Bool) → ((x : X) → p x ≡ true → q x ≡ true) → (A : List X) → Sits p A → filter q A ≡ A
  filter-sits_all p q each A s = filter-sits_agree p q (λ x. true) each A s ∙ filter-every (λ x. true) (λ x. refl) A

  pub filter-sits_none : (p q : X → Bool) → ((x : X) → p x ≡ true → q x ≡ false) → (A : List X) → Sits p A → filter q A ≡ []
  filter-sits_none p q each A s = filter-sits_agree p q (λ x. false) each A s ∙ filter-no (λ x. false) (λ x. refl) A

  -- a bucket of lists that sit by bucket is the list of its task
  pub of_bucket-gather : (bucket : X → ℕ) (n : ℕ) (lists : ℕ → List X) → SitByBucket bucket n lists
      → (k : ℕ) → k < n → of_bucket bucket k (gather n lists) ≡ lists k
  of_bucket-gather bucket n lists sits k lt =
      gather-filter n (λ x. bucket x == k) lists
      ∙ gather-one n (λ j. of_bucket bucket k (lists j)) k lt
      (λ j less ne. filter-sits_none (λ x. bucket x == j) (λ x. bucket x == k) (λ x e. ne_eqb (bucket x) k (λ here. ne (sym (eqb-true (bucket x) j e) ∙ here))) (lists j) (sits j less))
      ∙ filter-sits_all (λ x. bucket x == k) (λ x. bucket x == k) (λ x e. e) (lists k) (sits k lt)

module _ {X Y : Type 0} where
  pub sits-map : (p : X → Bool) (q : Y → Bool) (f : X → Y) → ((x : X) → p x ≡ true → q (f x) ≡ true) → (A : List X) → Sits p A → Sits q (map f A)
  sits-map p q f each [] s = sits-nil q
  sits-map p q f each (x ∷ A) s = sits-cons q (f x) (map f A) (each x (sits-head p x A s)) (sits-map p q f each A (sits-tail p x A s))

  pub sits-flat_map : (p : X → Bool) (q : Y → Bool) (f : X → List Y) → ((x : X) → p x ≡ true → Sits q (f x)) → (A : List X) → Sits p A → Sits q (flat_map f A)
  sits-flat_map p q f each [] s = sits-nil q
  sits-flat_map p q f each (x ∷ A) s =
      sits-append q (f x) (flat_map f A) (each x (sits-head p x A s)) (sits-flat_map p q f each A (sits-tail p x A s))

  pub flat_map-sits_agree : (p : X → Bool) (f g : X → List Y) → ((x : X) → p x ≡ true → f x ≡ g x) → (A : List X) → Sits p A → flat_map f A ≡ flat_map g A
  flat_map-sits_agree p f g each [] s = refl
  flat_map-sits_agree p f g each (x ∷ A) s =
      λ i. each x (sits-head p x A s) i ++ flat_map-sits_agree p f g each A (sits-tail p x A s) i

  pub map-sits_agree : (p : X → Bool) (f g : X → Y) → ((x : X) → p x ≡ true → f x ≡ g x) → (A : List X) → Sits p A → map f A ≡ map g A
  map-sits_agree p f g each [] s = refl
  map-sits_agree p f g each (x ∷ A) s = λ i. each x (sits-head p x A s) i ∷ map-sits_agree p f g each A (sits-tail p x A s) i

  pub map-sits_back : (p : X → Bool) (f : X → Y) (g : Y → X) → ((x : X) → p x ≡ true → g (f x) ≡ x) → (A : List X) → Sits p A → map g (map f A) ≡ A
  map-sits_back p f g each [] s = refl
  map-sits_back p f g each (x ∷ A) s = λ i. each x (sits-head p x A s) i ∷ map-sits_back p f g each A (sits-tail p x A s) i
