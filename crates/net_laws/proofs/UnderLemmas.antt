-- Each fragment of a plan is read, below the first, by a source that another reads in its turn.
use Rattle.std.proofs.Common.{◌≡◌, ℕ, ◌+◌, ◌<◌, suc, zero, List, [], ◌∷◌, length, Bool, true, false, ◌⊎◌, inl, inr, refl, ap, sym, ◌∙◌, subst, arith, Some}
use Rattle.std.specs.Prelude.{slice_get, ◌==◌, if◌then◌else◌}
use Rattle.std.proofs.lemmas.Bool.{eqb-true}
use Rattle.plan_docs.specs.Nodes.{NodeForm}
use Rattle.plan_docs.specs.Nodes as node
use Rattle.plan_docs.specs.Plans.{FragmentForm}
use Rattle.plan_spreads.specs.Reading.{AllReadOn, AreReadOnce, EachSource, IsAmong, reads_in, reads_of}
use Rattle.plan_layout.specs.Pipes.{PipeForm, SourceForm, StepForm}
use Rattle.plan_layout.specs.Runs.{Runs}
use Rattle.plan_layout.specs.Sides.{Site}
use Rattle.net_laws.proofs.CoverLemmas.{Holds}

-- the second fragment is the first, or is read in it, or below it
pub data Under (fragments : List FragmentForm) : ℕ → ℕ → Type 0 where
  itself : {k n : ℕ} → k ≡ n → Under fragments k n
  below : {k n : ℕ} (m : ℕ) (f : FragmentForm) → slice_get fragments k ≡ Some f → 0 < reads_of m f.root → Under fragments m n → Under fragments k n

-- and one that is read there
read_under : (fragments : List FragmentForm) {k n : ℕ} (m : ℕ) (f : FragmentForm) → Under fragments k n → slice_get fragments n ≡ Some f → 0 < reads_of m f.root
    → Under fragments k m
read_under fragments {k} {n} m f (itself same) is some = below m f (ap (slice_get fragments) same ∙ is) some (itself refl)
read_under fragments m f (below l g there first rest) is some = below l g there first (read_under fragments m f rest is some)

one_of_two : (a b : ℕ) → 0 < a + b → (0 < a) ⊎ (0 < b)
one_of_two zero b some = inr (omega (arith, some))
one_of_two (suc a) b some = inl (omega arith)

by_either : {A B C : Type 0} → (A → C) → (B → C) → A ⊎ B → C
by_either f g (inl a) = f a
by_either f g (inr b) = g b

named_is : (m n : ℕ) → 0 < (if m == n then 1 else 0) → m ≡ n
named_is m n some = by (m == n) refl some
  where
    by : (b : Bool) → m == n ≡ b → 0 < (if b then 1 else 0) → m ≡ n
    by true same some = eqb-true m n same
    by false other some = absurd (omega (arith, some))

module _ (P : ℕ → Type 0) (n : ℕ) where
  each_source_of : (x : NodeForm) → 0 < reads_of n x → EachSource P x → P n
  each_source_of (node.scan id table columns types) some each = absurd (omega (arith, some))
  each_source_of (node.values id types rows) some each = absurd (omega (arith, some))
  each_source_of (node.remote id m) some each = subst P (named_is m n some) each
  each_source_of (node.step id operator input) some each = each_source_of input some each
  each_source_of (node.join id kind on filters left right) some each =
      by_either (λ h. each_source_of left h each.0) (λ h. each_source_of right h each.1) (one_of_two (reads_of n left) (reads_of n right) some)
  each_source_of (node.union id left right) some each =
      by_either (λ h. each_source_of left h each.0) (λ h. each_source_of right h each.1) (one_of_two (reads_of n left) (reads_of n right) some)

-- a place that `Told` gives a fragment is held (`Holds`) where a source reads the fragment
module _ (layout : List PipeForm) (s : Site) (Told : ℕ → ℕ → Type 0) (n place : ℕ) (told : Told n place) where
  pub source_holds : (x : NodeForm) (own : ℕ) (source : SourceForm) (steps : List StepForm) → 0 < reads_of n x → (r : Runs layout s own x source steps)
      → Holds layout s Told place own x source steps r
  source_holds (node.scan id table columns types) own source steps some r = absurd (omega (arith, some))
  source_holds (node.values id types rows) own source steps some r = absurd (omega (arith, some))
  source_holds (node.remote id m) own source steps some r =
      let same : n ≡ m = sym (named_is m n some) in
      subst (λ (k : ℕ). Told k place) same told
  source_holds (node.step id operator input) own source steps some r = source_holds input own source r.0 some r.2
  source_holds (node.join id kind on filters left right) own source steps some r =
      two_sides (one_of_two (reads_of n left) (reads_of n right) some) (λ h. source_holds left own source r.2.0 h r.2.2)
      (λ h. source_holds right r.0 r.1.pipe.source r.1.pipe.steps h r.1.below)
    where
      two_sides : {A B : Type 0} → (0 < reads_of n left) ⊎ (0 < reads_of n right) → (0 < reads_of n left → A) → (0 < reads_of n right → B) → ((place ≡ r.0) ⊎ B) ⊎ A
      two_sides (inl h) first second = inr (first h)
      two_sides (inr h) first second = inl (inr (second h))
  source_holds (node.union id left right) own source steps some r =
      two_sides (one_of_two (reads_of n left) (reads_of n right) some) (λ h. source_holds left r.2.0 r.2.1.pipe.source r.2.1.pipe.steps h r.2.1.below)
      (λ h. source_holds right r.3.0 r.3.1.pipe.source r.3.1.pipe.steps h r.3.1.below)
    where
      two_sides : {A B : Type 0} → (0 < reads_of n left) ⊎ (0 < reads_of n right) → (0 < reads_of n left → A) → (0 < reads_of n right → B)
          → ((place ≡ r.2.0) ⊎ A) ⊎ ((place ≡ r.3.0) ⊎ B)
      two_sides (inl h) first second = inl (inr (first h))
      two_sides (inr h) first second = inr (inr (second h))

-- a fragment reads fragments after its own
reads_later : (fs : List FragmentForm) (start : ℕ) → AllReadOn start fs → (i : ℕ) (f : FragmentForm) (n : ℕ) → slice_get fs i ≡ Some f → 0 < reads_of n f.root → start + i < n
reads_later [] start on i f n is some = absurd cc
reads_later (g ∷ fs) start on zero f n is some =
    let same : f ≡ g = cc is in
    let first = each_source_of (IsAmong (start + 1) (length fs)) n g.root (subst (λ (h : FragmentForm). 0 < reads_of n h.root) same some) on.0 in
    omega (arith, first.0)
reads_later (g ∷ fs) start on (suc i) f n is some =
    let rest = reads_later fs (start + 1) on.1 i f n is some in
    omega (arith, rest)

-- the fragment in which one is read
record ReadIn (fs : List FragmentForm) (n : ℕ) : Type 0 where
  i : ℕ
  f : FragmentForm
  is : slice_get fs i ≡ Some f
  some : 0 < reads_of n f.root

read_in : (fs : List FragmentForm) (n : ℕ) → 0 < reads_in n fs → ReadIn fs n
read_in [] n some = absurd (omega (arith, some))
read_in (f ∷ fs) n some = by (one_of_two (reads_of n f.root) (reads_in n fs) some) (λ h. read_in fs n h)
  where
    by : (0 < reads_of n f.root) ⊎ (0 < reads_in n fs) → (0 < reads_in n fs → ReadIn fs n) → ReadIn (f ∷ fs) n
    by (inl h) rest = record { i = 0; f = f; is = refl; some = h }
    by (inr h) rest = let r = rest h in record { i = suc r.i; f = r.f; is = r.is; some = r.some }

pub there_below : (fs : List FragmentForm) (i : ℕ) (f : FragmentForm) → slice_get fs i ≡ Some f → i < length fs
there_below [] i f is = absurd cc
there_below (g ∷ fs) zero f is = omega arith
there_below (g ∷ fs) (suc i) f is = omega (arith, there_below fs i f is)

module _ (fragments : List FragmentForm) (on : AllReadOn 0 fragments) (once : AreReadOnce fragments) where
  under_within : (bound n : ℕ) → n < bound → n < length fragments → Under fragments 0 n
  under_within zero n less lt = absurd (omega (arith, less))
  under_within (suc bound) zero less lt = itself refl
  under_within (suc bound) (suc n) less lt =
      let above : 0 < suc n = omega arith in
      let one = once (suc n) above lt in
      let r = read_in fragments (suc n) (omega (arith, one)) in
      let later = reads_later fragments 0 on r.i r.f (suc n) r.is r.some in
      let fewer : r.i < bound = omega (arith, later, less) in
      read_under fragments (suc n) r.f (under_within bound r.i fewer (there_below fragments r.i r.f r.is)) r.is r.some

  pub all_under : (n : ℕ) → n < length fragments → Under fragments 0 n
  all_under n lt = under_within (suc n) n (omega arith) lt
