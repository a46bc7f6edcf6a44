-- For each pipe of a layout at most one fetches: those that fetch name the places in their order.
use Rattle.std.proofs.Common.{◌≡◌, ℕ, ◌+◌, ◌<◌, ◌≤◌, suc, zero, List, [], ◌∷◌, ◌++◌, length, Bool, true, false, ◌⊎◌, inl, inr, refl, ap, ◌∙◌, subst, arith, Some}
use Rattle.std.specs.Prelude.{slice_get, if◌then◌else◌}
use Rattle.std.proofs.lemmas.Bool.{cases_order}
use Rattle.plan_docs.specs.Nodes.{NodeForm}
use Rattle.plan_docs.specs.Plans.{FragmentForm, PlanForm}
use Rattle.plan_layout.specs.declared.pipe.Parallelism.{Parallelism}
use Rattle.plan_layout.specs.declared.pipe.Series.{Series}
use Rattle.plan_layout.specs.Edges.{after, edge_numbers, fetch_of, fetches_of, reads_edge, reads_fragment, target_of}
use Rattle.plan_layout.specs.Layouts.{driver_numbers, fragment_pipes, laid, layout_of, numbered, site_of}
use Rattle.plan_layout.specs.Pipes.{PipeForm, SourceForm, TargetForm, edge, fragment, rows, sides, table}
use Rattle.plan_layout.specs.Sides.{Site, pipes_of}
use Rattle.plan_layout.proofs.PipeLemmas.{each_pipe}
use Rattle.plan_layout.proofs.SideLemmas.{length_append}
use Rattle.plan_spreads.proofs.EachLemmas.{Each}
use Rattle.net_laws.specs.Readers.{AreFetchedOnce}
use Rattle.net_laws.proofs.LayoutNumberLemmas.{reads_none}

-- the place that a pipe fetches for lies from `low` on, and what is said of the pipes behind it of the next place
abbrev Next : SourceForm → ℕ → (ℕ → Type 0) → Type 0
Next (edge at numbers) low Rest = (low ≤ at) × Rest (at + 1)
Next source low Rest = Rest low

-- each place is higher than those before, and all lie below the end
abbrev Rising : ℕ → ℕ → List PipeForm → Type 0
Rising end low [] = low ≤ end
Rising end low (pipe ∷ pipes) = Next pipe.source low (λ next. Rising end next pipes)

next_lower : (source : SourceForm) (low lower : ℕ) (P Q : ℕ → Type 0) → lower ≤ low → ((n m : ℕ) → m ≤ n → P n → Q m) → Next source low P → Next source lower Q
next_lower (edge at numbers) low lower P Q le weaker h = (omega (arith, le, h.0), weaker (at + 1) (at + 1) (omega arith) h.1)
next_lower (table place columns types) low lower P Q le weaker h = weaker low lower le h
next_lower (rows types list) low lower P Q le weaker h = weaker low lower le h
next_lower sides low lower P Q le weaker h = weaker low lower le h
next_lower (fragment number) low lower P Q le weaker h = weaker low lower le h

next_both : (source : SourceForm) (low : ℕ) (P Q : ℕ → Type 0) → ((n : ℕ) → P n → Q n) → Next source low P → Next source low Q
next_both (edge at numbers) low P Q weaker h = (h.0, weaker (at + 1) h.1)
next_both (table place columns types) low P Q weaker h = weaker low h
next_both (rows types list) low P Q weaker h = weaker low h
next_both sides low P Q weaker h = weaker low h
next_both (fragment number) low P Q weaker h = weaker low h

lower_end : (end more low lower : ℕ) (pipes : List PipeForm) → end ≤ more → lower ≤ low → Rising end low pipes → Rising more lower pipes
lower_end end more low lower [] le least h = omega (arith, le, least, h)
lower_end end more low lower (pipe ∷ pipes) le least h =
    next_lower pipe.source low lower (λ next. Rising end next pipes) (λ next. Rising more next pipes) least (λ n m fewer g. lower_end end more n m pipes le fewer g) h

-- one list behind the other
rising_append : (middle end low : ℕ) (xs ys : List PipeForm) → Rising middle low xs → Rising end middle ys → Rising end low (xs ++ ys)
rising_append middle end low [] ys h g = lower_end end end middle low ys (omega arith) h g
rising_append middle end low (x ∷ xs) ys h g =
    next_both x.source low (λ next. Rising middle next xs) (λ next. Rising end next (xs ++ ys)) (λ n rest. rising_append middle end n xs ys rest g) h

rising_numbered : (end low : ℕ) (numbers : Series) (pipes : List PipeForm) → Rising end low pipes → Rising end low (numbered numbers pipes)
rising_numbered end low numbers [] h = h
rising_numbered end low numbers (pipe ∷ pipes) h =
    next_both pipe.source low (λ next. Rising end next pipes) (λ next. Rising end next (numbered (after pipe.drivers numbers) pipes))
    (λ n rest. rising_numbered end n (after pipe.drivers numbers) pipes rest) h

next_plain : (source : SourceForm) (low : ℕ) (P : ℕ → Type 0) → reads_edge source ≡ false → P low → Next source low P
next_plain (edge at numbers) low P not h = absurd cc
next_plain (table place columns types) low P not h = h
next_plain (rows types list) low P not h = h
next_plain sides low P not h = h
next_plain (fragment number) low P not h = h

abbrev IsPlain : PipeForm → Type 0
IsPlain pipe = reads_edge pipe.source ≡ false

rising_plain : (low : ℕ) (pipes : List PipeForm) → Each IsPlain pipes → Rising low low pipes
rising_plain low [] each = omega arith
rising_plain low (pipe ∷ pipes) each = next_plain pipe.source low (λ next. Rising low next pipes) each.0 (rising_plain low pipes each.1)

rising_if : (b : Bool) (first : PipeForm) (more none : List PipeForm) (end low : ℕ) → Rising end low (first ∷ more) → Rising end low none
    → Rising end low (if b then first ∷ more else none)
rising_if true first more none end low h g = h
rising_if false first more none end low h g = g

fetches_rise : (numbers : Series) (at : ℕ) (own : List PipeForm) → Rising (at + length own) at (fetches_of numbers at own)
fetches_rise numbers at [] = omega arith
fetches_rise numbers at (pipe ∷ own) =
    let end : at + 1 + length own ≡ at + length (pipe ∷ own) = omega arith in
    let least : at ≤ at = omega arith in
    let one : at ≤ at + 1 = omega arith in
    let same : at + length (pipe ∷ own) ≤ at + length (pipe ∷ own) = omega arith in
    rising_if (reads_fragment pipe.source) (fetch_of pipe at numbers) (fetches_of (after 1 numbers) (at + 1) own) (fetches_of numbers (at + 1) own) (at + length (pipe ∷ own)) at
    (least, subst (λ (n : ℕ). Rising n (at + 1) (fetches_of (after 1 numbers) (at + 1) own)) end (fetches_rise (after 1 numbers) (at + 1) own))
    (lower_end (at + length (pipe ∷ own)) (at + length (pipe ∷ own)) (at + 1) at (fetches_of numbers (at + 1) own) same one
    (subst (λ (n : ℕ). Rising n (at + 1) (fetches_of numbers (at + 1) own)) end (fetches_rise numbers (at + 1) own)))

pub length_numbered : (numbers : Series) (pipes : List PipeForm) → length (numbered numbers pipes) ≡ length pipes
length_numbered numbers [] = refl
length_numbered numbers (pipe ∷ pipes) = ap suc (length_numbered (after pipe.drivers numbers) pipes)

block_rises : (s : Site) (done : List PipeForm) (target : TargetForm) (root : NodeForm)
    → Rising (length (done ++ fragment_pipes s done target root)) (length done) (fragment_pipes s done target root)
block_rises s done target root =
    let own = pipes_of s (length done) target root in
    let fetches = fetches_of (edge_numbers done own) (length done) own in
    let all = own ++ fetches in
    let plain = each_pipe IsPlain s (λ next aim n. reads_none n) (length done) target root in
    let rise = rising_append (length done) (length done + length own) (length done) own fetches (rising_plain (length done) own plain) (fetches_rise (edge_numbers done own) (length done) own) in
    let long = length_append done (fragment_pipes s done target root) in
    let same = length_numbered (driver_numbers done all) all in
    let both = length_append own fetches in
    let more : length done + length own ≤ length (done ++ fragment_pipes s done target root) = omega (arith, long, same, both) in
    let least : length done ≤ length done = omega arith in
    lower_end (length done + length own) (length (done ++ fragment_pipes s done target root)) (length done) (length done) (fragment_pipes s done target root) more least
    (rising_numbered (length done + length own) (length done) (driver_numbers done all) all rise)

all_rise : (p : Parallelism) (fragments fs : List FragmentForm) (number : ℕ) (done : List PipeForm) → Rising (length done) 0 done
    → Rising (length (laid p fragments number done fs)) 0 (laid p fragments number done fs)
all_rise p fragments [] number done h = h
all_rise p fragments (f ∷ fs) number done h =
    let s = site_of p fragments number f in
    let target = target_of number f.output done in
    let block = fragment_pipes s done target f.root in
    all_rise p fragments fs (number + 1) (done ++ block) (rising_append (length done) (length (done ++ block)) 0 done block h (block_rises s done target f.root))

-- the places that sources name are in the order of the pipes of these sources
behind_source : (source : SourceForm) (at : ℕ) (numbers : Series) (low : ℕ) (P : ℕ → Type 0) → source ≡ edge at numbers → Next source low P → (low ≤ at) × P (at + 1)
behind_source source at numbers low P is h = subst (λ (x : SourceForm). Next x low P) is h

next_least : (source : SourceForm) (low : ℕ) (P : ℕ → Type 0) → Next source low P → (n : ℕ) × (low ≤ n) × P n
next_least (edge at numbers) low P h = let more : low ≤ at + 1 = omega (arith, h.0) in (at + 1, more, h.1)
next_least (table place columns types) low P h = let same : low ≤ low = omega arith in (low, same, h)
next_least (rows types list) low P h = let same : low ≤ low = omega arith in (low, same, h)
next_least sides low P h = let same : low ≤ low = omega arith in (low, same, h)
next_least (fragment number) low P h = let same : low ≤ low = omega arith in (low, same, h)

from_low : (end low : ℕ) (pipes : List PipeForm) (j : ℕ) (other : PipeForm) (at : ℕ) (numbers : Series) → Rising end low pipes → slice_get pipes j ≡ Some other
    → other.source ≡ edge at numbers → low ≤ at
from_low end low [] j other at numbers h is so = absurd cc
from_low end low (pipe ∷ pipes) zero other at numbers h is so =
    let same : pipe ≡ other = cc is in
    let source = ap (λ (q : PipeForm). q.source) same ∙ so in
    (behind_source pipe.source at numbers low (λ next. Rising end next pipes) source h).0
from_low end low (pipe ∷ pipes) (suc j) other at numbers h is so =
    let n = next_least pipe.source low (λ next. Rising end next pipes) h in
    let later = from_low end n.0 pipes j other at numbers n.2 is so in
    omega (arith, n.1, later)

in_order : (end low : ℕ) (pipes : List PipeForm) (i j : ℕ) (pipe other : PipeForm) (at from : ℕ) (numbers more : Series) → Rising end low pipes → i < j
    → slice_get pipes i ≡ Some pipe → slice_get pipes j ≡ Some other → pipe.source ≡ edge at numbers → other.source ≡ edge from more → at < from
in_order end low [] i j pipe other at from numbers more h lt is there so such = absurd cc
in_order end low (x ∷ pipes) i zero pipe other at from numbers more h lt is there so such = absurd (omega (arith, lt))
in_order end low (x ∷ pipes) zero (suc j) pipe other at from numbers more h lt is there so such =
    let same : x ≡ pipe = cc is in
    let source = ap (λ (q : PipeForm). q.source) same ∙ so in
    let rest = behind_source x.source at numbers low (λ next. Rising end next pipes) source h in
    let later = from_low end (at + 1) pipes j other from more rest.1 there such in
    omega (arith, later)
in_order end low (x ∷ pipes) (suc i) (suc j) pipe other at from numbers more h lt is there so such =
    let n = next_least x.source low (λ next. Rising end next pipes) h in
    let less : i < j = omega (arith, lt) in
    in_order end n.0 pipes i j pipe other at from numbers more n.2 less is there so such

pub plan_fetched_once : (p : Parallelism) (plan : PlanForm) → AreFetchedOnce (layout_of p plan)
plan_fetched_once p plan i j at pipe other numbers more is there so such = by (cases_order i j)
  where
    by : (i ≡ j) ⊎ ((i < j) ⊎ (j < i)) → i ≡ j
    by (inl same) = same
    by (inr (inl less)) =
        let layout = layout_of p plan in
        let lt = in_order (length layout) 0 layout i j pipe other at at numbers more (all_rise p plan.fragments plan.fragments 0 [] (omega arith)) less is there so such in
        absurd (omega (arith, lt))
    by (inr (inr less)) =
        let layout = layout_of p plan in
        let lt = in_order (length layout) 0 layout j i other pipe at at more numbers (all_rise p plan.fragments plan.fragments 0 [] (omega arith)) less there is such so in
        absurd (omega (arith, lt))
