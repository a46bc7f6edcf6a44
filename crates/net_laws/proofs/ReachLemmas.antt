-- Where the root of a fragment runs, all pipes of it and of the fragments read in it stand at its place or below, but
-- for those that fetch. Of fragment 0 these are all pipes that do not fetch.
use Rattle.std.proofs.Common.{◌≡◌, ℕ, ◌+◌, ◌<◌, ◌≤◌, List, [], ◌++◌, length, map, false, ◌⊎◌, inl, inr, refl, sym, subst, arith, Some}
use Rattle.std.specs.Prelude.{slice_get, ◌==◌}
use Rattle.plan_docs.specs.Plans.{FragmentForm, PlanForm}
use Rattle.plan_spreads.specs.Reading.{AllReadOn, AreReadOnce, reads_of}
use Rattle.plan_layout.specs.declared.pipe.Parallelism.{Parallelism}
use Rattle.plan_layout.specs.Edges.{edge_numbers, fetches_of, reader_of, target_of}
use Rattle.plan_layout.specs.Layouts.{driver_numbers, layout_of, site_of}
use Rattle.plan_layout.specs.Pipes.{PipeForm, SourceForm, StepForm, TargetForm}
use Rattle.plan_layout.specs.Runs.{PipeAt, bare}
use Rattle.plan_layout.specs.Sides.{Site, pipes_of}
use Rattle.plan_layout.specs.Steps.{side_count}
use Rattle.plan_layout.proofs.FetchLemmas.{in_either}
use Rattle.plan_layout.proofs.PipeLemmas.{each_fetch}
use Rattle.plan_layout.proofs.SideLemmas.{Stand, side_length}
use Rattle.plan_spreads.proofs.EachLemmas.{Each, each_at, each_by, each_join, each_weaker}
use Rattle.net_laws.specs.Readers.{IsReader}
use Rattle.net_laws.specs.Reached.{is_fetching}
use Rattle.net_laws.proofs.BlockLemmas.{Before, Fetches, HasBlock, Laid, all_blocks, at_pipe, block_of, nodes_laid, of_block, own_or_fetch, pipe_laid, stands}
use Rattle.net_laws.proofs.CoverLemmas.{Holds, HoldsAt, RootHolds}
use Rattle.net_laws.proofs.LayoutLaneLemmas.{plan_manned}
use Rattle.net_laws.proofs.ReaderLemmas.{same_reader, same_target}
use Rattle.net_laws.proofs.UnderLemmas.{Under, itself, below, all_under, source_holds, there_below}

-- at the place is a pipe of the fragment that does not fetch
pub record IsOwn (layout : List PipeForm) (number place : ℕ) : Type 0 where
  pub pipe : PipeForm
  pub is : slice_get layout place ≡ Some pipe
  pub part : pipe.fragment ≡ number
  pub stays : is_fetching pipe.target ≡ false

-- a pipe of it or of one that is read below
abbrev pub IsTold : List PipeForm → List FragmentForm → ℕ → ℕ → Type 0
IsTold layout fragments number place = (n : ℕ) × Under fragments number n × IsOwn layout n place

module _ (layout : List PipeForm) (p : Parallelism) (fragments : List FragmentForm) (number : ℕ) (f : FragmentForm) (b : HasBlock p fragments layout number f) where
  abbrev pub s : Site
  s = site_of p fragments number f

  abbrev pub at : ℕ
  at = length b.done

  abbrev pub target : TargetForm
  target = target_of number f.output b.done

  abbrev pub own : List PipeForm
  own = pipes_of s at target f.root

  abbrev pub fetches : List PipeForm
  fetches = fetches_of (edge_numbers b.done own) at own

  abbrev pub block : List PipeForm
  block = block_of p fragments number b.done f

  abbrev pub Told : ℕ → ℕ → Type 0
  Told = IsTold layout fragments

  all_fetch : Each Fetches fetches
  all_fetch = each_fetch Fetches (λ pipe. Unit {0}) (λ pipe place numbers h. refl) (edge_numbers b.done own) at own (each_by (λ pipe. Unit {0}) own (λ i pipe is. tt))

  abbrev pub InOwn : ℕ → Type 0
  InOwn place = (at ≤ place) × (place < at + (1 + side_count f.root))

  among_own : (k place : ℕ) (pipe : PipeForm) → place ≡ at + k → is_fetching pipe.target ≡ false → (k < length own) ⊎ Fetches pipe → InOwn place
  among_own k place pipe is stays (inl lt) =
      let low : at ≤ place = omega (arith, is) in
      let high : place < at + (1 + side_count f.root) = omega (arith, is, lt, side_length s at (at + 1) f.root) in
      (low, high)
  among_own k place pipe is stays (inr fetches_it) = absurd cc

  in_block : (k place : ℕ) (pipe : PipeForm) → place ≡ at + k → pipe.fragment ≡ number → is_fetching pipe.target ≡ false
      → (slice_get block k ≡ Some pipe) ⊎ (j : ℕ) × (k ≡ length block + j) × (slice_get b.more j ≡ Some pipe) → InOwn place
  in_block k place pipe is part stays (inl here) =
      among_own k place pipe is stays (own_or_fetch (driver_numbers b.done (own ++ fetches)) own fetches all_fetch k pipe here)
  in_block k place pipe is part stays (inr (j, behind, there)) =
      let more = each_at (λ (q : PipeForm). number < q.fragment) b.more j pipe there b.later in
      absurd (omega (arith, part, more))

  in_layout : (place : ℕ) (pipe : PipeForm) → pipe.fragment ≡ number → is_fetching pipe.target ≡ false
      → (slice_get b.done place ≡ Some pipe) ⊎ (k : ℕ) × (place ≡ length b.done + k) × (slice_get (block ++ b.more) k ≡ Some pipe) → InOwn place
  in_layout place pipe part stays (inl here) =
      let less = each_at (Before p fragments number) b.done place pipe here b.earlier in
      absurd (omega (arith, part, less))
  in_layout place pipe part stays (inr (k, is, there)) = in_block k place pipe is part stays (in_either block b.more k pipe there)

  pub in_own : (place : ℕ) → IsOwn layout number place → InOwn place
  in_own place o =
      in_layout place o.pipe o.part o.stays (in_either b.done (block ++ b.more) place o.pipe (subst (λ (l : List PipeForm). slice_get l place ≡ Some o.pipe) b.are o.is))

  pub stand : Stand (map bare layout) at own
  stand = subst (λ (l : List PipeForm). Stand (map bare l) at own) (sym b.are) (stands (driver_numbers b.done (own ++ fetches)) b.done own fetches b.more)

  root_laid : PipeAt (map bare layout) s target at (Laid (map bare layout) s Told at (at + 1) f.root)
  root_laid = pipe_laid (map bare layout) s Told at target f.root (nodes_laid (map bare layout) s Told at (at + 1) f.root) stand

  told_at : slice_get fragments number ≡ Some f → (l : PipeAt (map bare layout) s target at (Laid (map bare layout) s Told at (at + 1) f.root)) (place : ℕ) → Told number place
      → (place ≡ at) ⊎ Holds (map bare layout) s Told place at f.root l.pipe.source l.pipe.steps l.below.0
  told_at is l place (n, itself same, o) =
      let mine = in_own place (subst (λ (i : ℕ). IsOwn layout i place) (sym same) o) in
      at_pipe (map bare layout) s Told at target f.root l place mine.0 mine.1
  told_at is l place (n, below m g there some rest, o) =
      let same : g ≡ f = cc (is, there) in
      let reads = subst (λ (h : FragmentForm). 0 < reads_of m h.root) same some in
      inr (source_holds (map bare layout) s Told m place (n, rest, o) f.root at l.pipe.source l.pipe.steps reads l.below.0)

  pub all_later : Each (λ pipe. number ≤ pipe.fragment) (block ++ b.more)
  all_later =
      each_join (λ pipe. number ≤ pipe.fragment) block b.more (of_block p fragments (λ pipe. number ≤ pipe.fragment) number b.done f (λ pipe h. omega (arith, h)))
      (each_weaker (λ pipe. number < pipe.fragment) (λ pipe. number ≤ pipe.fragment) (λ pipe h. omega (arith, h)) b.more b.later)

  pub root_holds : slice_get fragments number ≡ Some f → (0 < number → IsReader layout number (reader_of number layout)) → (place : ℕ) × HoldsAt layout p fragments Told number f place
  root_holds is reader =
      let l = root_laid in
      let same = same_target number f.output layout b.done (number == 0) refl
      (λ some. same_reader number layout b.done (block ++ b.more) (reader_of number layout) b.are
      (λ k pipe h. each_at (λ (q : PipeForm). number ≤ q.fragment) (block ++ b.more) k pipe h all_later) (reader some)) in
      let Below : SourceForm → List StepForm → Type 0 = RootHolds (map bare layout) s Told number at f.root in
      let here : PipeAt (map bare layout) s target at Below = record {
        pipe = l.pipe;
        is = l.is;
        part = l.part;
        tasks = l.tasks;
        drivers = l.drivers;
        has = l.has;
        below = (l.below.0, told_at is l);
      } in
      (at, subst (λ (t : TargetForm). PipeAt (map bare layout) s t at Below) same here)

module _ (p : Parallelism) (plan : PlanForm) where
  abbrev layout : List PipeForm
  layout = layout_of p plan

  pub roots_hold : ((n : ℕ) (f : FragmentForm) → 0 < n → slice_get plan.fragments n ≡ Some f → IsReader layout n (reader_of n layout))
      → (n : ℕ) (f : FragmentForm) → slice_get plan.fragments n ≡ Some f → (at : ℕ) × HoldsAt layout p plan.fragments (IsTold layout plan.fragments) n f at
  roots_hold read n f is =
      let none : 0 + n ≡ n = omega arith in
      let block = subst (λ (i : ℕ). HasBlock p plan.fragments layout i f) none (all_blocks p plan.fragments plan.fragments 0 [] tt n f is) in
      root_holds layout p plan.fragments n f block is (λ some. read n f some is)

  pub all_told : AllReadOn 0 plan.fragments → AreReadOnce plan.fragments → (place : ℕ) (pipe : PipeForm) → slice_get layout place ≡ Some pipe
      → is_fetching pipe.target ≡ false → IsTold layout plan.fragments 0 place
  all_told on once place pipe is stays =
      let m = plan_manned p plan place pipe is in
      let lt = there_below plan.fragments pipe.fragment m.part m.is in
      (pipe.fragment, all_under plan.fragments on once pipe.fragment lt, record { pipe = pipe; is = is; part = refl; stays = stays })
