-- The drivers of a layout are numbered, and its edges.
use Rattle.std.proofs.Common.{◌≡◌, ℕ, ◌+◌, ◌*◌, ◌<◌, List, [], ◌∷◌, ◌++◌, length, Bool, true, false, refl, ap, sym, ◌∙◌, subst, arith}
use Rattle.std.specs.Prelude.{if◌then◌else◌}
use Rattle.plan_docs.specs.Nodes.{NodeForm}
use Rattle.plan_docs.specs.Nodes as node
use Rattle.plan_docs.specs.Plans.{FragmentForm, PlanForm}
use Rattle.plan_layout.specs.declared.pipe.Parallelism.{Parallelism}
use Rattle.plan_layout.specs.declared.pipe.Series.{Series}
use Rattle.plan_layout.specs.Edges.{after, count_if, edge_numbers, edges_in, fetch_of, fetches_of, reads_edge, reads_fragment, sources_in, target_of}
use Rattle.plan_layout.specs.Layouts.{driver_numbers, drivers_in, fragment_pipes, laid, lanes_in, layout_of, numbered, site_of, with_fetches}
use Rattle.net_laws.specs.Numbers.{AreNumbered, edges_of, series_of}
use Rattle.plan_layout.specs.Pipes.{PipeForm, TargetForm}
use Rattle.plan_layout.specs.Sides.{Site, pipes_of}
use Rattle.plan_layout.specs.Steps.{source_of}
use Rattle.plan_spreads.proofs.EachLemmas.{Each, each_join, each_weaker}
use Rattle.plan_layout.proofs.PipeLemmas.{each_block, each_pipe}
use Rattle.net_laws.proofs.SeatLemmas.{Follow, IsOf, Numbered, all_numbered, none_numbered, seats, widths, with_block}

abbrev IsBelow : ℕ → PipeForm → Type 0
IsBelow number pipe = pipe.fragment < number

-- no node takes from an edge of what fetches
pub reads_none : (n : NodeForm) → reads_edge (source_of n) ≡ false
reads_none (node.scan id place columns types) = refl
reads_none (node.values id types list) = refl
reads_none (node.remote id number) = refl
reads_none (node.step id operator input) = reads_none input
reads_none (node.join id kind on filters left right) = reads_none left
reads_none (node.union id left right) = refl

abbrev drivers_of : PipeForm → ℕ
drivers_of pipe = pipe.drivers

abbrev numbers_of : PipeForm → Series
numbers_of pipe = pipe.numbers

abbrev edge_series : PipeForm → Series
edge_series pipe = series_of pipe.source

drivers_seats : (pipes : List PipeForm) → seats drivers_of numbers_of pipes ≡ drivers_in pipes
drivers_seats [] = refl
drivers_seats (pipe ∷ pipes) = ap (λ n. pipe.tasks * pipe.drivers + n) (drivers_seats pipes)

drivers_widths : (numbers : Series) (pipes : List PipeForm) → widths drivers_of numbers_of (numbered numbers pipes) ≡ lanes_in pipes
drivers_widths numbers [] = refl
drivers_widths numbers (pipe ∷ pipes) = ap (λ n. pipe.drivers + n) (drivers_widths (after pipe.drivers numbers) pipes)

drivers_follow : (first stride : ℕ) (pipes : List PipeForm)
    → Follow drivers_of numbers_of first stride (numbered (record { first = first; stride = stride }) pipes)
drivers_follow first stride [] = tt
drivers_follow first stride (pipe ∷ pipes) = ((λ some. refl), drivers_follow (first + pipe.drivers) stride pipes)

times_if : (b : Bool) (n : ℕ) → n * count_if b 1 ≡ count_if b n
times_if true n = omega arith
times_if false n = omega arith

edges_seats : (pipes : List PipeForm) → seats edges_of edge_series pipes ≡ edges_in pipes
edges_seats [] = refl
edges_seats (pipe ∷ pipes) =
    let here = times_if (reads_edge pipe.source) pipe.tasks in
    let rest = edges_seats pipes in
    omega (arith, here, rest)

edges_numbered : (numbers : Series) (pipes : List PipeForm) → widths edges_of edge_series (numbered numbers pipes) ≡ widths edges_of edge_series pipes
edges_numbered numbers [] = refl
edges_numbered numbers (pipe ∷ pipes) = ap (λ n. edges_of pipe + n) (edges_numbered (after pipe.drivers numbers) pipes)

follow_numbered : (first stride : ℕ) (numbers : Series) (pipes : List PipeForm) → Follow edges_of edge_series first stride pipes
    → Follow edges_of edge_series first stride (numbered numbers pipes)
follow_numbered first stride numbers [] follow = tt
follow_numbered first stride numbers (pipe ∷ pipes) follow = (follow.0, follow_numbered (first + edges_of pipe) stride (after pipe.drivers numbers) pipes follow.1)

abbrev HasNone : PipeForm → Type 0
HasNone pipe = edges_of pipe ≡ 0

widths_behind : (own more : List PipeForm) → Each HasNone own → widths edges_of edge_series (own ++ more) ≡ widths edges_of edge_series more
widths_behind [] more none = refl
widths_behind (pipe ∷ own) more none =
    let rest = widths_behind own more none.1 in
    omega (arith, none.0, rest)

follow_behind : (first stride : ℕ) (own more : List PipeForm) → Each HasNone own → Follow edges_of edge_series first stride more
    → Follow edges_of edge_series first stride (own ++ more)
follow_behind first stride [] more none follow = follow
follow_behind first stride (pipe ∷ own) more none follow =
    let same : first ≡ first + edges_of pipe = omega (arith, none.0) in (
      (λ some. absurd (omega (arith, some, none.0))),
      subst (λ (n : ℕ). Follow edges_of edge_series n stride (own ++ more)) same (follow_behind first stride own more none.1 follow),
    )

count_by : (b : Bool) (first : PipeForm) (more none : List PipeForm) (n : ℕ) → edges_of first ≡ 1 → widths edges_of edge_series more ≡ n → widths edges_of edge_series none ≡ n
    → widths edges_of edge_series (if b then first ∷ more else none) ≡ count_if b 1 + n
count_by true first more none n one h g = omega (arith, one, h)
count_by false first more none n one h g = omega (arith, g)

fetch_widths : (numbers : Series) (at : ℕ) (own : List PipeForm) → widths edges_of edge_series (fetches_of numbers at own) ≡ sources_in own
fetch_widths numbers at [] = refl
fetch_widths numbers at (pipe ∷ own) =
    count_by (reads_fragment pipe.source) (fetch_of pipe at numbers) (fetches_of (after 1 numbers) (at + 1) own) (fetches_of numbers (at + 1) own) (sources_in own) refl
    (fetch_widths (after 1 numbers) (at + 1) own) (fetch_widths numbers (at + 1) own)

follow_if : (b : Bool) (first : PipeForm) (more none : List PipeForm) (from stride : ℕ) → Follow edges_of edge_series from stride (first ∷ more)
    → Follow edges_of edge_series from stride none → Follow edges_of edge_series from stride (if b then first ∷ more else none)
follow_if true first more none from stride f g = f
follow_if false first more none from stride f g = g

fetch_follow : (first stride : ℕ) (at : ℕ) (own : List PipeForm) → Follow edges_of edge_series first stride (fetches_of (record { first = first; stride = stride }) at own)
fetch_follow first stride at [] = tt
fetch_follow first stride at (pipe ∷ own) =
    let numbers : Series = record { first = first; stride = stride } in
    follow_if (reads_fragment pipe.source) (fetch_of pipe at numbers) (fetches_of (after 1 numbers) (at + 1) own) (fetches_of numbers (at + 1) own) first stride
    ((λ some. refl), fetch_follow (first + 1) stride (at + 1) own) (fetch_follow first stride (at + 1) own)

module _ (s : Site) (done : List PipeForm) (target : TargetForm) (root : NodeForm) where
  abbrev own : List PipeForm
  own = pipes_of s (length done) target root

  abbrev all : List PipeForm
  all = with_fetches done own

  abbrev block : List PipeForm
  block = fragment_pipes s done target root

  abbrev IsHere : PipeForm → Type 0
  IsHere pipe = IsOf drivers_of numbers_of s.fragment s.tasks pipe

  pub each_of : Each IsHere block
  each_of = each_block IsHere s (λ next aim n. (refl, refl)) (λ pipe at numbers h. h) (λ pipe numbers h. h) done target root

  block_drivers : Follow drivers_of numbers_of (seats drivers_of numbers_of done) (widths drivers_of numbers_of block) block
  block_drivers =
      let first = sym (drivers_seats done) in
      let stride = sym (drivers_widths (driver_numbers done all) all) in
      subst (λ (n : ℕ). Follow drivers_of numbers_of n (widths drivers_of numbers_of block) block) first
      (subst (λ (n : ℕ). Follow drivers_of numbers_of (drivers_in done) n block) stride (drivers_follow (drivers_in done) (lanes_in all) all))

  own_none : Each HasNone own
  own_none = each_pipe HasNone s (λ next aim n. ap (λ b. count_if b 1) (reads_none n)) (length done) target root

  block_edges : Follow edges_of edge_series (seats edges_of edge_series done) (widths edges_of edge_series block) block
  block_edges =
      let fetches = fetches_of (edge_numbers done own) (length done) own in
      let first = sym (edges_seats done) in
      let stride = sym (edges_numbered (driver_numbers done all) all ∙ widths_behind own fetches own_none ∙ fetch_widths (edge_numbers done own) (length done) own) in
      subst (λ (n : ℕ). Follow edges_of edge_series n (widths edges_of edge_series block) block) first
      (subst (λ (n : ℕ). Follow edges_of edge_series (edges_in done) n block) stride
      (follow_numbered (edges_in done) (sources_in own) (driver_numbers done all) all
      (follow_behind (edges_in done) (sources_in own) own fetches own_none (fetch_follow (edges_in done) (sources_in own) (length done) own))))

  pub drivers_with : Each (IsBelow s.fragment) done → Numbered drivers_of numbers_of done → Numbered drivers_of numbers_of (done ++ block)
  drivers_with below so_far = with_block drivers_of numbers_of done block s.fragment s.tasks each_of block_drivers below so_far

  pub edges_with : Each (IsBelow s.fragment) done → Numbered edges_of edge_series done → Numbered edges_of edge_series (done ++ block)
  edges_with below so_far = with_block edges_of edge_series done block s.fragment s.tasks each_of block_edges below so_far

  pub below_with : Each (IsBelow s.fragment) done → Each (IsBelow (s.fragment + 1)) (done ++ block)
  below_with below =
      each_join (IsBelow (s.fragment + 1)) done block
      (each_weaker (IsBelow s.fragment) (IsBelow (s.fragment + 1)) (λ pipe h. omega (arith, h)) done below)
      (each_weaker IsHere (IsBelow (s.fragment + 1)) (λ pipe h. omega (arith, h.0)) block each_of)

module _ (p : Parallelism) (fragments : List FragmentForm) where
  all_drivers : (fs : List FragmentForm) (number : ℕ) (done : List PipeForm) → Each (IsBelow number) done → Numbered drivers_of numbers_of done
      → Numbered drivers_of numbers_of (laid p fragments number done fs)
  all_drivers [] number done below so_far = so_far
  all_drivers (f ∷ fs) number done below so_far =
      let s = site_of p fragments number f in
      let target = target_of number f.output done in
      all_drivers fs (number + 1) (done ++ fragment_pipes s done target f.root) (below_with s done target f.root below) (drivers_with s done target f.root below so_far)

  all_edges : (fs : List FragmentForm) (number : ℕ) (done : List PipeForm) → Each (IsBelow number) done → Numbered edges_of edge_series done
      → Numbered edges_of edge_series (laid p fragments number done fs)
  all_edges [] number done below so_far = so_far
  all_edges (f ∷ fs) number done below so_far =
      let s = site_of p fragments number f in
      let target = target_of number f.output done in
      all_edges fs (number + 1) (done ++ fragment_pipes s done target f.root) (below_with s done target f.root below) (edges_with s done target f.root below so_far)

pub plan_drivers : (p : Parallelism) (plan : PlanForm) → AreNumbered (λ pipe. pipe.drivers) (λ pipe. pipe.numbers) (layout_of p plan) (drivers_in (layout_of p plan))
plan_drivers p plan =
    let layout = layout_of p plan in
    all_numbered drivers_of numbers_of layout (drivers_in layout) (drivers_seats layout)
    (all_drivers p plan.fragments plan.fragments 0 [] tt (none_numbered drivers_of numbers_of))

pub plan_edges : (p : Parallelism) (plan : PlanForm) → AreNumbered edges_of (λ pipe. series_of pipe.source) (layout_of p plan) (edges_in (layout_of p plan))
plan_edges p plan =
    let layout = layout_of p plan in
    all_numbered edges_of edge_series layout (edges_in layout) (edges_seats layout)
    (all_edges p plan.fragments plan.fragments 0 [] tt (none_numbered edges_of edge_series))
