-- Lists of tasks, gathered.
use Rattle.std.proofs.Common.{◌≡◌, ℕ, ◌+◌, ◌*◌, ◌/◌, ◌%◌, ◌<◌, ◌≤◌, length, append_assoc, zero, suc, List, [], ◌++◌, Bool, true, false, refl, subst, ap, sym, ◌∙◌, arith, map, ◌⊎◌, inl, inr}
use Rattle.std.specs.Prelude.{filter, flat_map, sum_by, ◌==◌, if◌then◌else◌}
use Rattle.std.proofs.lemmas.Bool.{cases_eq, cases_lt, eqb-true, eqb-false}
use Rattle.std.proofs.lemmas.Nat.{div-mul-add, div_below, mod-mul-add, mod_below}
use Rattle.std.proofs.lemmas.List.{map-append, append-nil}
use Rattle.std.proofs.lemmas.List.Concat.{flat_map-append}
use Rattle.std.proofs.lemmas.List.Sums.{sum_by-append}
use Rattle.std.proofs.lemmas.List.Elements.{filter-append}
use Rattle.bag_laws.specs.Weights.{SameWeights}
use Rattle.bag_laws.specs.Gather.{gather}
use Rattle.bag_laws.proofs.BagLemmas.{length_by_weights, same-refl, same-append, same-trans, same-sym, same-from_equal, same-exchange}

module _ {X : Type 0} where
  pub gather-agree : (n : ℕ) (f g : ℕ → List X) → ((k : ℕ) → k < n → f k ≡ g k) → gather n f ≡ gather n g
  gather-agree zero f g e = refl
  gather-agree (suc n) f g e = λ i. gather-agree n f g (λ k lt. e k (omega arith)) i ++ e n (omega arith) i

  pub same-gather : (n : ℕ) (f g : ℕ → List X) → ((k : ℕ) → k < n → SameWeights (f k) (g k)) → SameWeights (gather n f) (gather n g)
  same-gather zero f g e = same-refl []
  same-gather (suc n) f g e = same-append (same-gather n f g (λ k lt. e k (omega arith))) (e n (omega arith))

  pub same-gather_append : (n : ℕ) (f g : ℕ → List X) → SameWeights (gather n (λ k. f k ++ g k)) (gather n f ++ gather n g)
  same-gather_append zero f g = same-refl []
  same-gather_append (suc n) f g =
      same-trans (same-append (same-gather_append n f g) (same-refl (f n ++ g n))) (same-exchange (gather n f) (gather n g) (f n) (g n))

  pub gather-none : (n : ℕ) (f : ℕ → List X) → ((k : ℕ) → k < n → f k ≡ []) → gather n f ≡ []
  gather-none zero f e = refl
  gather-none (suc n) f e = λ i. gather-none n f (λ k lt. e k (omega arith)) i ++ e n (omega arith) i

  -- rows and columns of lists may be gathered in either order
  pub same-gather_gather : (n m : ℕ) (f : ℕ → ℕ → List X) → SameWeights (gather n (λ k. gather m (f k))) (gather m (λ j. gather n (λ k. f k j)))
  same-gather_gather zero m f = same-from_equal (sym (gather-none m (λ j. []) (λ j lt. refl)))
  same-gather_gather (suc n) m f =
      same-trans (same-append (same-gather_gather n m f) (same-refl (gather m (f n)))) (same-sym (same-gather_append m (λ j. gather n (λ k. f k j)) (f n)))

  one_at : (n : ℕ) (f : ℕ → List X) (k : ℕ) → k < suc n → ((j : ℕ) → j < suc n → ¬ (j ≡ k) → f j ≡ [])
      → (k < n → gather n f ≡ f k) → (n ≡ k) ⊎ (¬ (n ≡ k)) → gather (suc n) f ≡ f k
  one_at n f k lt others rest (inl e) =
      ap (λ items. items ++ f n) (gather-none n f (λ j below. others j (omega arith) (λ same. absurd (omega (arith, same, e, below))))) ∙ ap f e
  one_at n f k lt others rest (inr ne) =
      ap (λ items. gather n f ++ items) (others n (omega arith) ne) ∙ append-nil (gather n f) ∙ rest (omega (arith, ne))

  -- all lists but one are empty
  pub gather-one : (n : ℕ) (f : ℕ → List X) (k : ℕ) → k < n → ((j : ℕ) → j < n → ¬ (j ≡ k) → f j ≡ []) → gather n f ≡ f k
  gather-one zero f k lt others = absurd (omega (arith, lt))
  gather-one (suc n) f k lt others =
      one_at n f k lt others (λ below. gather-one n f k below (λ j less ne. others j (omega arith) ne)) (cases_eq n k)

module _ {X Y : Type 0} where
  pub gather-map : (n : ℕ) (f : X → Y) (lists : ℕ → List X) → map f (gather n lists) ≡ gather n (λ k. map f (lists k))
  gather-map zero f lists = refl
  gather-map (suc n) f lists = map-append f (gather n lists) (lists n) ∙ ap (λ items. items ++ map f (lists n)) (gather-map n f lists)

  pub gather-flat_map : (n : ℕ) (f : X → List Y) (lists : ℕ → List X) → flat_map f (gather n lists) ≡ gather n (λ k. flat_map f (lists k))
  gather-flat_map zero f lists = refl
  gather-flat_map (suc n) f lists =
      flat_map-append f (gather n lists) (lists n) ∙ ap (λ items. items ++ flat_map f (lists n)) (gather-flat_map n f lists)

module _ {X : Type 0} where
  pub gather-filter : (n : ℕ) (p : X → Bool) (lists : ℕ → List X) → filter p (gather n lists) ≡ gather n (λ k. filter p (lists k))
  gather-filter zero p lists = refl
  gather-filter (suc n) p lists = filter-append p (gather n lists) (lists n) ∙ ap (λ items. items ++ filter p (lists n)) (gather-filter n p lists)

module _ {X : Type 0} where
  weight_within : (h : X → ℕ) (n : ℕ) (lists : ℕ → List X) (k : ℕ) → k < suc n → (k < n → sum_by h (lists k) ≤ sum_by h (gather n lists))
      → (k < n) ⊎ (n ≤ k) → sum_by h (lists k) ≤ sum_by h (gather n lists ++ lists n)
  weight_within h n lists k lt rest (inl below) = omega (arith, rest below, sum_by-append h (gather n lists) (lists n))
  weight_within h n lists k lt rest (inr last) =
      let same : k ≡ n = omega (arith, lt, last) in
      let here : sum_by h (lists k) ≡ sum_by h (lists n) = ap (λ (j : ℕ). sum_by h (lists j)) same in
      omega (arith, here, sum_by-append h (gather n lists) (lists n))

  -- a task's list weighs no more than all
  pub weight-gather-le : (h : X → ℕ) (n : ℕ) (lists : ℕ → List X) (k : ℕ) → k < n → sum_by h (lists k) ≤ sum_by h (gather n lists)
  weight-gather-le h zero lists k lt = absurd (omega (arith, lt))
  weight-gather-le h (suc n) lists k lt = weight_within h n lists k lt (λ below. weight-gather-le h n lists k below) (cases_lt k n)

  pub length-gather-le : (n : ℕ) (lists : ℕ → List X) (k : ℕ) → k < n → length (lists k) ≤ length (gather n lists)
  length-gather-le n lists k lt =
      omega (arith, length_by_weights (lists k), length_by_weights (gather n lists), weight-gather-le (λ (x : X). 1) n lists k lt)

-- the drivers of all tasks, numbered through
module _ {X : Type 0} where
  pub gather-add : (a b : ℕ) (f : ℕ → List X) → gather (a + b) f ≡ gather a f ++ gather b (λ j. f (a + j))
  gather-add a zero f =
      let none : a + zero ≡ a = omega arith in
      ap (λ (n : ℕ). gather n f) none ∙ sym (append-nil (gather a f))
  gather-add a (suc b) f =
      let more : a + suc b ≡ suc (a + b) = omega arith in
      ap (λ (n : ℕ). gather n f) more ∙ ap (λ items. items ++ f (a + b)) (gather-add a b f)
      ∙ append_assoc (gather a f) (gather b (λ j. f (a + j))) (f (a + b))

  pub gather-flatten : (n m : ℕ) (f : ℕ → ℕ → List X) → gather n (λ k. gather m (f k)) ≡ gather (n * m) (λ i. f (i / m) (i % m))
  gather-flatten zero m f =
      let none : 0 ≡ 0 * m = grind arith in
      ap (λ (i : ℕ). gather i (λ j. f (j / m) (j % m))) none
  gather-flatten (suc n) m f =
      let more : n * m + m ≡ suc n * m = grind arith in
      ap (λ items. items ++ gather m (f n)) (gather-flatten n m f)
      ∙ ap (λ items. gather (n * m) (λ i. f (i / m) (i % m)) ++ items)
      (gather-agree m (f n) (λ j. f ((n * m + j) / m) ((n * m + j) % m)) (λ j lt. λ i. f (sym (div-mul-add n m j lt) i) (sym (mod-mul-add n m j lt) i)))
      ∙ sym (gather-add (n * m) m (λ i. f (i / m) (i % m)))
      ∙ ap (λ (i : ℕ). gather i (λ j. f (j / m) (j % m))) more

-- the task and the driver of a number
pub task_and_driver : (n m i : ℕ) → i < n * m → (i / m < n) × (i % m < m)
task_and_driver n zero i lt = absurd (grind (arith, lt))
task_and_driver n (suc m) i lt = (div_below i (suc m) n (omega arith) lt, mod_below i (suc m) (omega arith))

-- what is there for each task, as a function of the task
module _ {A : Type 0} (P : ℕ → A → Type 0) (default : A) where
  chosen_at : (n : ℕ) (a : A) (f : ℕ → A) → P n a → ((k : ℕ) → k < n → P k (f k)) → (k : ℕ) → k < suc n → (b : Bool) → (k == n) ≡ b → P k (if b then a else f k)
  chosen_at n a f here below k lt true e = subst (λ j. P j a) (sym (eqb-true k n e)) here
  chosen_at n a f here below k lt false e = below k (omega (arith, eqb-false k n e))

  pub chosen : (n : ℕ) → ((k : ℕ) → k < n → (a : A) × P k a) → (f : ℕ → A) × ((k : ℕ) → k < n → P k (f k))
  chosen zero each = (λ k. default, λ k lt. absurd (omega (arith, lt)))
  chosen (suc n) each =
      let before = chosen n (λ k lt. each k (omega arith)) in
      let last = each n (omega arith) in
      (λ k. if k == n then last.0 else before.0 k, λ k lt. chosen_at n last.0 before.0 last.1 before.1 k lt (k == n) refl)
