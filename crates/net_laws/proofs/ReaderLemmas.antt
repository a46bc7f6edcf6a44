-- Each fragment but the first is read by one pipe.
use Rattle.std.proofs.Common.{◌≡◌, ℕ, ◌+◌, ◌<◌, ◌≤◌, suc, zero, List, [], ◌∷◌, ◌++◌, length, Bool, true, false, cond, ◌⊎◌, inl, inr, refl, ap, sym, ◌∙◌, subst, arith, Some}
use Rattle.std.specs.Prelude.{slice_get, ◌==◌, if◌then◌else◌, unwrap_or}
use Rattle.std.specs.List.{position_from}
use Rattle.std.proofs.lemmas.Bool.{eqb-true, eq-eqb}
use Rattle.plan_docs.specs.declared.plan.Output.{Output}
use Rattle.plan_docs.specs.Nodes.{NodeForm}
use Rattle.plan_docs.specs.Nodes as node
use Rattle.plan_docs.specs.Plans.{FragmentForm, PlanForm}
use Rattle.plan_spreads.specs.Runs.{tasks_of}
use Rattle.plan_spreads.specs.Reading.{AllReadOn, AreReadOnce, EachSource, IsAmong, reads_in, reads_of}
use Rattle.plan_layout.specs.declared.pipe.Parallelism.{Parallelism}
use Rattle.plan_layout.specs.declared.pipe.Series.{Series}
use Rattle.plan_layout.specs.Edges.{after, count_if, edge_numbers, fetch_of, fetches_of, is_fragment, reader_of, reads, reads_fragment, target_of}
use Rattle.plan_layout.specs.Layouts.{driver_numbers, fragment_pipes, laid, layout_of, numbered, site_of, with_fetches}
use Rattle.plan_layout.specs.Pipes.{PipeForm, SourceForm, TargetForm, edge, fragment, readers, result, rows, side, sides, table}
use Rattle.net_laws.specs.Readers.{IsReader, IsRootAt}
use Rattle.plan_layout.specs.Runs.{IsLaid}
use Rattle.plan_layout.specs.Sides.{Site, built_for, pipes_of, sides_of}
use Rattle.plan_layout.specs.Steps.{drivers_in_task, side_count, source_of}
use Rattle.plan_spreads.proofs.EachLemmas.{Each, each_at, each_join}
use Rattle.plan_layout.proofs.FetchLemmas.{in_either}
use Rattle.plan_layout.proofs.PipeLemmas.{each_block, each_fetch, each_numbered}

-- how many pipes read the fragment
abbrev readers_in : ℕ → List PipeForm → ℕ
readers_in number [] = 0
readers_in number (pipe ∷ pipes) = count_if (reads number pipe) 1 + readers_in number pipes

readers_append : (number : ℕ) (xs ys : List PipeForm) → readers_in number (xs ++ ys) ≡ readers_in number xs + readers_in number ys
readers_append number [] ys = omega arith
readers_append number (x ∷ xs) ys = omega (arith, readers_append number xs ys)

count_one : (b : Bool) → count_if b 1 ≡ (if b then 1 else 0)
count_one true = refl
count_one false = refl

module _ (number : ℕ) (s : Site) where
  -- of the node's own pipe, and of those below
  node_readers : (own next : ℕ) (n : NodeForm) → count_if (is_fragment number (source_of n)) 1 + readers_in number (sides_of s own next n) ≡ reads_of number n
  node_readers own next (node.scan id place columns types) = refl
  node_readers own next (node.values id types list) = refl
  node_readers own next (node.remote id other) = let one = count_one (other == number) in omega (arith, one)
  node_readers own next (node.step id operator input) = node_readers own next input
  node_readers own next (node.join id kind on filters left right) =
      let at = next + side_count left in
      let both = readers_append number (sides_of s own next left) (pipes_of s at (built_for id on filters) right) in
      let first = node_readers own next left in
      let second = node_readers at (at + 1) right in
      omega (arith, both, first, second)
  node_readers own next (node.union id left right) =
      let at = next + 1 + side_count left in
      let both = readers_append number (pipes_of s next (side own) left) (pipes_of s at (side own) right) in
      let first = node_readers next (next + 1) left in
      let second = node_readers at (at + 1) right in
      omega (arith, both, first, second)

readers_if : (number : ℕ) (b : Bool) (first : PipeForm) (more none : List PipeForm) → reads number first ≡ false → readers_in number more ≡ 0 → readers_in number none ≡ 0
    → readers_in number (if b then first ∷ more else none) ≡ 0
readers_if number true first more none not h g = let here = ap (λ b. count_if b 1) not in omega (arith, here, h)
readers_if number false first more none not h g = g

fetch_readers : (number : ℕ) (numbers : Series) (at : ℕ) (own : List PipeForm) → readers_in number (fetches_of numbers at own) ≡ 0
fetch_readers number numbers at [] = refl
fetch_readers number numbers at (pipe ∷ own) =
    readers_if number (reads_fragment pipe.source) (fetch_of pipe at numbers) (fetches_of (after 1 numbers) (at + 1) own) (fetches_of numbers (at + 1) own) refl
    (fetch_readers number (after 1 numbers) (at + 1) own) (fetch_readers number numbers (at + 1) own)

numbered_readers : (number : ℕ) (numbers : Series) (pipes : List PipeForm) → readers_in number (numbered numbers pipes) ≡ readers_in number pipes
numbered_readers number numbers [] = refl
numbered_readers number numbers (pipe ∷ pipes) = ap (λ n. count_if (reads number pipe) 1 + n) (numbered_readers number (after pipe.drivers numbers) pipes)

block_readers : (number : ℕ) (s : Site) (done : List PipeForm) (target : TargetForm) (root : NodeForm) → readers_in number (fragment_pipes s done target root) ≡ reads_of number root
block_readers number s done target root =
    let own = pipes_of s (length done) target root in
    let fetches = fetches_of (edge_numbers done own) (length done) own in
    let same = numbered_readers number (driver_numbers done (own ++ fetches)) (own ++ fetches) in
    let both = readers_append number own fetches in
    let mine = node_readers number s (length done) (length done + 1) root in
    let none = fetch_readers number (edge_numbers done own) (length done) own in
    omega (arith, same, both, mine, none)

-- the sources of all pipes
abbrev Names : (ℕ → Type 0) → SourceForm → Type 0
Names P (fragment number) = P number
Names P source = Unit {0}

abbrev PipeNames : (ℕ → Type 0) → PipeForm → Type 0
PipeNames P pipe = Names P pipe.source

module _ (P : ℕ → Type 0) where
  own_names : (n : NodeForm) → EachSource P n → Names P (source_of n)
  own_names (node.scan id place columns types) each = tt
  own_names (node.values id types list) each = tt
  own_names (node.remote id number) each = each
  own_names (node.step id operator input) each = own_names input each
  own_names (node.join id kind on filters left right) each = own_names left each.0
  own_names (node.union id left right) each = tt

  module _ (s : Site) where
    side_names : (own next : ℕ) (n : NodeForm) → EachSource P n → Each (PipeNames P) (sides_of s own next n)
    side_names own next (node.scan id place columns types) each = tt
    side_names own next (node.values id types list) each = tt
    side_names own next (node.remote id number) each = tt
    side_names own next (node.step id operator input) each = side_names own next input each
    side_names own next (node.join id kind on filters left right) each =
        let at = next + side_count left in
        each_join (PipeNames P) (sides_of s own next left) (pipes_of s at (built_for id on filters) right) (side_names own next left each.0)
        (own_names right each.1, side_names at (at + 1) right each.1)
    side_names own next (node.union id left right) each =
        let at = next + 1 + side_count left in
        each_join (PipeNames P) (pipes_of s next (side own) left) (pipes_of s at (side own) right) (own_names left each.0, side_names next (next + 1) left each.0)
        (own_names right each.1, side_names at (at + 1) right each.1)

-- a pipe reads fragments after its own
abbrev ReadsOn : PipeForm → Type 0
ReadsOn pipe = Names (λ number. pipe.fragment < number) pipe.source

names_on : (i count : ℕ) (at : ℕ) (source : SourceForm) → at ≡ i → Names (IsAmong (i + 1) count) source → Names (λ number. at < number) source
names_on i count at (table place columns types) is h = tt
names_on i count at (rows types list) is h = tt
names_on i count at sides is h = tt
names_on i count at (fragment number) is h = omega (arith, is, h.0)
names_on i count at (edge pipe numbers) is h = tt

each_both : (P Q R : PipeForm → Type 0) → ((pipe : PipeForm) → P pipe → Q pipe → R pipe) → (pipes : List PipeForm) → Each P pipes → Each Q pipes → Each R pipes
each_both P Q R both [] h g = tt
each_both P Q R both (pipe ∷ pipes) h g = (both pipe h.0 g.0, each_both P Q R both pipes h.1 g.1)

module _ (s : Site) (done : List PipeForm) (target : TargetForm) (root : NodeForm) (count : ℕ) (among : EachSource (IsAmong (s.fragment + 1) count) root) where
  abbrev Q : PipeForm → Type 0
  Q = PipeNames (IsAmong (s.fragment + 1) count)

  block_names : Each Q (fragment_pipes s done target root)
  block_names =
      let own = pipes_of s (length done) target root in
      let all = with_fetches done own in
      let mine : Each Q own = (own_names (IsAmong (s.fragment + 1) count) root among, side_names (IsAmong (s.fragment + 1) count) s (length done) (length done + 1) root among) in
      each_numbered Q (λ pipe numbers h. h) (driver_numbers done all) all
      (each_join Q own (fetches_of (edge_numbers done own) (length done) own) mine (each_fetch Q Q (λ pipe at numbers h. tt) (edge_numbers done own) (length done) own mine))

  block_reads_on : Each ReadsOn (fragment_pipes s done target root)
  block_reads_on =
      let IsHere : PipeForm → Type 0 = λ pipe. pipe.fragment ≡ s.fragment in
      each_both IsHere Q ReadsOn (λ pipe h g. names_on s.fragment count pipe.fragment pipe.source h g) (fragment_pipes s done target root)
      (each_block IsHere s (λ next aim n. refl) (λ pipe at numbers h. h) (λ pipe numbers h. h) done target root) block_names

module _ (p : Parallelism) (fragments : List FragmentForm) where
  all_read_on : (fs : List FragmentForm) (number : ℕ) (done : List PipeForm) → AllReadOn number fs → Each ReadsOn done → Each ReadsOn (laid p fragments number done fs)
  all_read_on [] number done on each = each
  all_read_on (f ∷ fs) number done on each =
      let s = site_of p fragments number f in
      let target = target_of number f.output done in
      let block = fragment_pipes s done target f.root in
      all_read_on fs (number + 1) (done ++ block) on.1 (each_join ReadsOn done block each (block_reads_on s done target f.root (length fs) on.0))

  all_readers : (n : ℕ) (fs : List FragmentForm) (number : ℕ) (done : List PipeForm)
      → readers_in n (laid p fragments number done fs) ≡ readers_in n done + reads_in n fs
  all_readers n [] number done = omega arith
  all_readers n (f ∷ fs) number done =
      let s = site_of p fragments number f in
      let target = target_of number f.output done in
      let block = fragment_pipes s done target f.root in
      let both = readers_append n done block in
      let here = block_readers n s done target f.root in
      let rest = all_readers n fs (number + 1) (done ++ block) in
      omega (arith, both, here, rest)

-- the first pipe that reads the fragment, where there is no other
record FoundOne (n : ℕ) (pipes : List PipeForm) (from : ℕ) : Type 0 where
  k : ℕ
  pipe : PipeForm
  is : slice_get pipes k ≡ Some pipe
  reads_it : reads n pipe ≡ true
  first : position_from (reads n) from pipes ≡ Some (from + k)
  only : (i : ℕ) (other : PipeForm) → slice_get pipes i ≡ Some other → reads n other ≡ true → i ≡ k

none_reads : (n : ℕ) (pipes : List PipeForm) → readers_in n pipes ≡ 0 → (i : ℕ) (other : PipeForm) → slice_get pipes i ≡ Some other → reads n other ≡ true → ⊥
none_reads n [] none i other is so = absurd cc
none_reads n (pipe ∷ pipes) none zero other is so =
    let same : pipe ≡ other = cc is in
    let here = ap (λ (q : PipeForm). count_if (reads n q) 1) same ∙ ap (λ b. count_if b 1) so in
    omega (arith, none, here)
none_reads n (pipe ∷ pipes) none (suc i) other is so = none_reads n pipes (omega (arith, none)) i other is so

find_one : (n : ℕ) (pipes : List PipeForm) (from : ℕ) → readers_in n pipes ≡ 1 → FoundOne n pipes from
find_one n [] from one = absurd (omega (arith, one))
find_one n (pipe ∷ pipes) from one = by (reads n pipe) refl one (λ h. find_one n pipes (from + 1) h)
  where
    by : (b : Bool) → reads n pipe ≡ b → count_if b 1 + readers_in n pipes ≡ 1 → (readers_in n pipes ≡ 1 → FoundOne n pipes (from + 1)) → FoundOne n (pipe ∷ pipes) from
    by true so sum rest =
        let none : readers_in n pipes ≡ 0 = omega (arith, sum) in
        let plus : from ≡ from + 0 = omega arith in
        record {
          k = 0;
          pipe = pipe;
          is = refl;
          reads_it = so;
          first = ap (λ b. cond b (Some from) (position_from (reads n) (from + 1) pipes)) so ∙ ap Some plus;
          only = λ i other is h. alone i other is h none;
        }
      where
        alone : (i : ℕ) (other : PipeForm) → slice_get (pipe ∷ pipes) i ≡ Some other → reads n other ≡ true → readers_in n pipes ≡ 0 → i ≡ 0
        alone zero other is h none = refl
        alone (suc i) other is h none = absurd (none_reads n pipes none i other is h)
    by false so sum rest =
        let r = rest (omega (arith, sum)) in
        let plus : from + 1 + r.k ≡ from + suc r.k = omega arith in
        record {
          k = suc r.k;
          pipe = r.pipe;
          is = r.is;
          reads_it = r.reads_it;
          first = ap (λ b. cond b (Some from) (position_from (reads n) (from + 1) pipes)) so ∙ r.first ∙ ap Some plus;
          only = λ i other is h. behind r.k r.only i other is h;
        }
      where
        behind : (k : ℕ) → ((i : ℕ) (other : PipeForm) → slice_get pipes i ≡ Some other → reads n other ≡ true → i ≡ k)
            → (i : ℕ) (other : PipeForm) → slice_get (pipe ∷ pipes) i ≡ Some other → reads n other ≡ true → i ≡ suc k
        behind k only zero other is h =
            let same : pipe ≡ other = cc is in
            let here = ap (reads n) same ∙ h in
            absurd cc
        behind k only (suc i) other is h = ap suc (only i other is h)

source_is : (n : ℕ) (source : SourceForm) → is_fragment n source ≡ true → source ≡ fragment n
source_is n (fragment m) h = ap fragment (eqb-true m n h)
source_is n source h = absurd cc

reads_own : (n : ℕ) (source : SourceForm) → source ≡ fragment n → is_fragment n source ≡ true
reads_own n source is = ap (is_fragment n) is ∙ eq-eqb n n refl

one_reader : (n : ℕ) (layout : List PipeForm) → readers_in n layout ≡ 1 → Each ReadsOn layout → IsReader layout n (reader_of n layout)
one_reader n layout one on =
    let f = find_one n layout 0 one in
    let place : f.k ≡ reader_of n layout = (let none : f.k ≡ 0 + f.k = omega arith in none ∙ sym (ap (λ o. unwrap_or o 0) f.first)) in
    let source = source_is n f.pipe.source f.reads_it in
    subst (IsReader layout n) place (record {
      pipe = f.pipe;
      is = f.is;
      reads = source;
      earlier = subst (Names (λ number. f.pipe.fragment < number)) source (each_at ReadsOn layout f.k f.pipe f.is on);
      only = λ i other is h. f.only i other is (reads_own n other.source h);
    })

pub plan_reader : (p : Parallelism) (plan : PlanForm) → AllReadOn 0 plan.fragments → AreReadOnce plan.fragments → (n : ℕ) → 0 < n → n < length plan.fragments
    → IsReader (layout_of p plan) n (reader_of n (layout_of p plan))
plan_reader p plan on once n some lt =
    let count : readers_in n (layout_of p plan) ≡ reads_in n plan.fragments = (let all = all_readers p plan.fragments n plan.fragments 0 [] in omega (arith, all)) in
    one_reader n (layout_of p plan) (count ∙ once n some lt) (all_read_on p plan.fragments plan.fragments 0 [] on tt)

-- the reader stands among the pipes of the fragments before
same_first : (n : ℕ) (done rest : List PipeForm) (k : ℕ) (pipe : PipeForm) (from : ℕ) → slice_get done k ≡ Some pipe → reads n pipe ≡ true
    → position_from (reads n) from (done ++ rest) ≡ position_from (reads n) from done
same_first n [] rest k pipe from is so = absurd cc
same_first n (x ∷ done) rest zero pipe from is so =
    let same : x ≡ pipe = cc is in
    let here = ap (reads n) same ∙ so in
    ap (λ b. cond b (Some from) (position_from (reads n) (from + 1) (done ++ rest))) here ∙ sym (ap (λ b. cond b (Some from) (position_from (reads n) (from + 1) done)) here)
same_first n (x ∷ done) rest (suc k) pipe from is so =
    ap (cond (reads n x) (Some from)) (same_first n done rest k pipe (from + 1) is so)

pub same_reader : (n : ℕ) (layout done rest : List PipeForm) (at : ℕ) → layout ≡ done ++ rest → ((k : ℕ) (pipe : PipeForm) → slice_get rest k ≡ Some pipe → n ≤ pipe.fragment)
    → IsReader layout n at → reader_of n done ≡ reader_of n layout
same_reader n layout done rest at are later r =
    by (in_either done rest at r.pipe (subst (λ (l : List PipeForm). slice_get l at ≡ Some r.pipe) are r.is))
  where
    by : (slice_get done at ≡ Some r.pipe) ⊎ (j : ℕ) × (at ≡ length done + j) × (slice_get rest j ≡ Some r.pipe) → reader_of n done ≡ reader_of n layout
    by (inl here) =
        let same = same_first n done rest at r.pipe 0 here (reads_own n r.pipe.source r.reads) in
        ap (λ o. unwrap_or o 0) (sym (ap (position_from (reads n) 0) are ∙ same))
    by (inr (j, place, there)) =
        let least = later j r.pipe there in
        absurd (omega (arith, least, r.earlier))

pub same_target : (n : ℕ) (output : Output) (layout done : List PipeForm) (b : Bool) → n == 0 ≡ b → (0 < n → reader_of n done ≡ reader_of n layout)
    → (if b then result else readers output (reader_of n done)) ≡ (if b then result else readers output (reader_of n layout))
same_target n output layout done true is same = refl
same_target n output layout done false is same = ap (readers output) (same (above n is))
  where
    above : (m : ℕ) → m == 0 ≡ false → 0 < m
    above zero h = absurd cc
    above (suc m) h = omega arith

pub root_at : (p : Parallelism) (plan : PlanForm) (n : ℕ) (f : FragmentForm) → (0 < n → IsReader (layout_of p plan) n (reader_of n (layout_of p plan)))
    → IsLaid (layout_of p plan) p plan.fragments n f → (at : ℕ) × IsRootAt (layout_of p plan) p plan.fragments n f at
root_at p plan n f reader l =
    let layout = layout_of p plan in
    let same = same_target n f.output layout l.done (n == 0) refl (λ some. same_reader n layout l.done l.rest (reader_of n layout) l.are l.later (reader some)) in (
      length l.done,
      record {
        pipe = l.root.pipe;
        is = l.root.is;
        part = l.root.part;
        tasks = l.root.tasks;
        drivers = l.root.drivers ∙ ap (drivers_in_task (tasks_of p.drivers f.placement) l.root.pipe.source l.root.pipe.steps) same;
        has = l.root.has ∙ same;
        below = l.root.below;
      },
    )
