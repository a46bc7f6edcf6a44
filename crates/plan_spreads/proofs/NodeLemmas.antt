-- The nodes of a fragment are placed: as a whole in one task, and at their spreads in several.
use Rattle.std.proofs.Common.{◌≡◌, ℕ, ◌-◌, ◌<◌, List, length, Option, Some, None, refl, ap, sym, ◌∙◌, subst}
use Rattle.std.specs.Prelude.{Result, Ok, Err, if◌then◌else◌}
use Rattle.std.specs.Option.{ok_or, option_or}
use Rattle.json_paths.specs.declared.key.Key.TheVariants as key
use Rattle.sql_exprs.specs.Typing.{Path, typed_then, under}
use Rattle.sql_exprs.proofs.TypingLemmas.{typed_then_ok}
use Rattle.bag_laws.specs.Buckets.{AllBelow}
use Rattle.plan_docs.specs.declared.plan.Output.{Output}
use Rattle.plan_docs.specs.declared.plan.Output.TheVariants as output
use Rattle.plan_docs.specs.declared.plan.Placement.{Placement}
use Rattle.plan_docs.specs.declared.plan.Placement.TheVariants as placement
use Rattle.plan_docs.specs.Nodes.{NodeForm, scan, values, remote, filter, project, join, aggregate, aggregate_final, sort, top_n, top_n_final, limit, limit_final, union}
use Rattle.plan_docs.specs.Plans.{FragmentForm}
use Rattle.plan_types.specs.declared.row_types.RowTypes.{RowTypes}
use Rattle.plan_types.specs.Nodes.{read_from}
use Rattle.plan_run_laws.specs.RunPlans.{RunPlan}
use Rattle.plan_run_laws.specs.RunPlans as run
use Rattle.plan_run_laws.specs.Spreads as runs
use Rattle.plan_run_laws.specs.Placements.{Placed, scan_whole, values_whole, values_every, remote_whole, filter_stays, step_whole, join_whole, halves_whole, final_by, union_whole}
use Rattle.plan_spreads.specs.declared.spread.RowSpread.{RowSpread}
use Rattle.plan_spreads.specs.declared.spread.RowSpread.TheVariants.{Every}
use Rattle.plan_spreads.specs.Halves.{Halved, aggregates, top_ns, limits, Meets}
use Rattle.plan_spreads.specs.Nodes.{over, spread_of}
use Rattle.plan_spreads.specs.Operators.{aggregate_spread, final_spread, first_rows_spread, join_spread, project_spread, remote_spread, scan_spread, union_spread}
use Rattle.plan_spreads.specs.Runs.{Part, node_run, one_over, output_view, part_read, source_run, row_spread_view}
use Rattle.plan_spreads.specs.Sources.{fits_reader, fragment_read, half_keys, keys_read, misread, output_of, root_keys, source_fault}
use Rattle.plan_spreads.proofs.OperatorLemmas.{aggregate_placed, final_over, join_placed, not_first, project_placed, remote_placed, scan_placed, union_placed}
use Rattle.plan_spreads.proofs.ReadParts.{AllStand, Over, Reads, has_read, over_half}
use Rattle.plan_spreads.proofs.WidthLemmas.{root_read}

pub chosen : (o : Option RowSpread) (path : Path) (s : RowSpread) → ok_or o path ≡ Ok s → o ≡ Some s
chosen (Some x) path s e = let same : x ≡ s = cc e in ap Some same
chosen None path s e = absurd cc

-- the spread of an input, and what the operator made of it
pub record Made (input : Result RowSpread Path) (spread : RowSpread → Option RowSpread) (s : RowSpread) : Type 0 where
  pub below : RowSpread
  pub was : input ≡ Ok below
  pub gives : spread below ≡ Some s

pub made : (path : Path) (input : Result RowSpread Path) (spread : RowSpread → Option RowSpread) (s : RowSpread) → over path input spread ≡ Ok s → Made input spread s
made path (Ok below) spread s e = record { below = below; was = refl; gives = chosen (spread below) path s e }
made path (Err p) spread s e = absurd cc

-- what a filter has no say in stays
stays : (input : Result RowSpread Path) (s : RowSpread) → typed_then input (λ below. Ok below) ≡ Ok s → input ≡ Ok s
stays (Ok below) s e = e
stays (Err p) s e = e

none_some : (s : RowSpread) → None ≡ Some s → ⊥
none_some s e = cc

pub left_none : (a b : Option Path) → option_or a b ≡ None → a ≡ None
left_none None b e = refl
left_none (Some p) b e = absurd cc

pub right_none : (a b : Option Path) → option_or a b ≡ None → b ≡ None
right_none None b e = e
right_none (Some p) b e = absurd cc

-- one task reads what goes to one task
single_output : (path : Path) (o : Output) → (if fits_reader placement.Single o then None else Some path) ≡ None → output_view o ≡ run.single
single_output path output.Single e = refl
single_output path o e = absurd cc

module _ (first : ℕ) (later : List FragmentForm) (types : List RowTypes) (parts : List Part) (all : AllStand later types parts) where
  abbrev part_at : ℕ → Part
  part_at fragment = part_read first parts fragment

  goes : (operator : Option Halved) (fragment : ℕ) (r : Reads first later operator fragment) → (part_at fragment).output ≡ output_view r.f.output
  goes operator fragment r = (all (fragment - first) r.f r.at).output

  -- where the source is read by one task
  goes_single : (operator : Option Halved) (path : Path) (fragment : ℕ) (r : Reads first later operator fragment)
      → source_fault placement.Single first later path fragment ≡ None → run.single ≡ (part_at fragment).output
  goes_single operator path fragment r e =
      sym (goes operator fragment r ∙ single_output path r.f.output
      (subst (λ o. (if fits_reader placement.Single (output_of o) then None else Some path) ≡ None) r.read e))

  group_whole : (id : ℕ) (path : Path) (input : NodeForm) → Over first later aggregates input → misread placement.Single first later path input ≡ None
      → Placed 1 (node_run first parts (aggregate_final id input)) runs.whole
  group_whole id path input o e =
      let part = part_at o.fragment in
      let g = root_read first later types parts all (Some aggregates) o.fragment o.reads in
      let to = goes_single (Some aggregates) path o.fragment o.reads (subst (λ x. misread placement.Single first later path x ≡ None) (sym o.is) e) in
      subst (λ x. Placed 1 (node_run first parts (aggregate_final id x)) runs.whole) o.is
      (subst (λ r. Placed 1 (one_over id o.source part.output part.tasks r) runs.whole) (sym g.is)
      (subst (λ out. Placed 1 (run.aggregate_parts id o.source out part.tasks g.by_keys g.calls g.below) runs.whole) to
      (halves_whole g.reads.is_read g.reads.placed)))

  top_whole : (id : ℕ) (path : Path) (input : NodeForm) → Over first later top_ns input → misread placement.Single first later path input ≡ None
      → Placed 1 (node_run first parts (top_n_final id input)) runs.whole
  top_whole id path input o e =
      let part = part_at o.fragment in
      let g = root_read first later types parts all (Some top_ns) o.fragment o.reads in
      let to = goes_single (Some top_ns) path o.fragment o.reads (subst (λ x. misread placement.Single first later path x ≡ None) (sym o.is) e) in
      subst (λ x. Placed 1 (node_run first parts (top_n_final id x)) runs.whole) o.is
      (subst (λ r. Placed 1 (one_over id o.source part.output part.tasks r) runs.whole) (sym g.is)
      (subst (λ out. Placed 1 (run.topn_parts id o.source out part.tasks g.count g.keys g.below) runs.whole) to
      (halves_whole g.reads.is_read g.reads.placed)))

  limited_whole : (id : ℕ) (path : Path) (input : NodeForm) → Over first later limits input → misread placement.Single first later path input ≡ None
      → Placed 1 (node_run first parts (limit_final id input)) runs.whole
  limited_whole id path input o e =
      let part = part_at o.fragment in
      let g = root_read first later types parts all (Some limits) o.fragment o.reads in
      let to = goes_single (Some limits) path o.fragment o.reads (subst (λ x. misread placement.Single first later path x ≡ None) (sym o.is) e) in
      subst (λ x. Placed 1 (node_run first parts (limit_final id x)) runs.whole) o.is
      (subst (λ r. Placed 1 (one_over id o.source part.output part.tasks r) runs.whole) (sym g.is)
      (subst (λ out. Placed 1 (run.limit_parts id o.source out part.tasks g.count g.below) runs.whole) to
      (halves_whole g.reads.is_read g.reads.placed)))

  -- one task may run any node
  pub single_placed : (path : Path) (node : NodeForm) → Meets first later node → misread placement.Single first later path node ≡ None
      → Placed 1 (node_run first parts node) runs.whole
  single_placed path (scan id table columns kinds) m e = scan_whole
  single_placed path (values id kinds rows) m e = values_whole
  single_placed path (remote id fragment) m e =
      let part = part_at fragment in
      let r = has_read first later None fragment (fragment_read first later fragment) refl m in
      let reads = (root_read first later types parts all None fragment r).0 in
      subst (λ out. Placed 1 (run.remote id out part.tasks part.root) runs.whole) (goes_single None path fragment r e)
      (remote_whole reads.is_read reads.placed)
  single_placed path (filter id predicate input) m e = filter_stays (single_placed (under path key.Input) input m e)
  single_placed path (project id columns input) m e = step_whole (single_placed (under path key.Input) input m e)
  single_placed path (join id kind on filters left right) m e =
      let l = misread placement.Single first later (under path key.Left) left in
      let r = misread placement.Single first later (under path key.Right) right in
      join_whole (single_placed (under path key.Left) left m.0 (left_none l r e)) (single_placed (under path key.Right) right m.1 (right_none l r e))
  single_placed path (aggregate id step keys calls input) m e = step_whole (single_placed (under path key.Input) input m.1 e)
  single_placed path (aggregate_final id input) m e = group_whole id (under path key.Input) input (over_half first later aggregates input m) e
  single_placed path (sort id keys input) m e = step_whole (single_placed (under path key.Input) input m e)
  single_placed path (top_n id step count keys input) m e = step_whole (single_placed (under path key.Input) input m.1 e)
  single_placed path (top_n_final id input) m e = top_whole id (under path key.Input) input (over_half first later top_ns input m) e
  single_placed path (limit id step count input) m e = step_whole (single_placed (under path key.Input) input m.1 e)
  single_placed path (limit_final id input) m e = limited_whole id (under path key.Input) input (over_half first later limits input m) e
  single_placed path (union id left right) m e =
      let l = misread placement.Single first later (under path key.Left) left in
      let r = misread placement.Single first later (under path key.Right) right in
      union_whole (single_placed (under path key.Left) left m.0 (left_none l r e)) (single_placed (under path key.Right) right m.1 (right_none l r e))

  module _ (p : Placement) (n : ℕ) where
    source_placed : (id : ℕ) (path : Path) (fragment : ℕ) (s : RowSpread) → Reads first later None fragment
        → ok_or (remote_spread (output_of (fragment_read first later fragment))) path ≡ Ok s
        → Placed n (source_run id (part_at fragment)) (row_spread_view s)
    source_placed id path fragment s r e =
        let part = part_at fragment in
        let reads = root_read first later types parts all None fragment r in
        let stands = all (fragment - first) r.f r.at in
        let found = chosen (remote_spread r.f.output) path s (subst (λ o. ok_or (remote_spread (output_of o)) path ≡ Ok s) r.read e) in
        subst (λ out. Placed n (run.remote id out part.tasks part.root) (row_spread_view s)) (sym stands.output)
        (remote_placed n id part.tasks (length (read_from first types fragment).columns) part.root r.f.output s stands.fits reads.1 reads.0 found)

    group_by : (id : ℕ) (path : Path) (input : NodeForm) (s : RowSpread) → Over first later aggregates input
        → over path (spread_of p first later (under path key.Input) input) (final_spread p (keys_read first later input)) ≡ Ok s
        → Placed n (node_run first parts (aggregate_final id input)) (row_spread_view s)
    group_by id path input s o e =
        let part = part_at o.fragment in
        let f = o.reads.f in
        let g = root_read first later types parts all (Some aggregates) o.fragment o.reads in
        let stands = all (o.fragment - first) f o.reads.at in
        let at = under path key.Input in
        let over_source = subst (λ x. over path (spread_of p first later at x) (final_spread p (keys_read first later x)) ≡ Ok s) (sym o.is) e in
        let over_read = subst (λ x. over path (ok_or (remote_spread (output_of x)) at) (final_spread p (root_keys x)) ≡ Ok s) o.reads.read over_source in
        let h = made path (ok_or (remote_spread f.output) at) (final_spread p (half_keys f.root)) s over_read in
        let by = final_over f.output p (half_keys f.root) h.below s (chosen (remote_spread f.output) at h.below h.was) h.gives in
        let some = subst (λ k. 0 < k) g.count by.some in
        let within = subst (λ k. AllBelow k by.columns) g.count by.within in
        subst (λ x. Placed n (node_run first parts (aggregate_final id x)) (row_spread_view s)) o.is
        (subst (λ r. Placed n (one_over id o.source part.output part.tasks r) (row_spread_view s)) (sym g.is)
        (subst (λ out. Placed n (run.aggregate_parts id o.source out part.tasks g.by_keys g.calls g.below) (row_spread_view s)) (sym (stands.output ∙ by.is))
        (subst (λ x. Placed n (run.aggregate_parts id o.source (run.hashed by.columns) part.tasks g.by_keys g.calls g.below) (row_spread_view x)) by.same
        (final_by some within g.reads.is_read g.reads.placed))))

    -- a node that has a spread is placed at it, whichever number of tasks runs it
    pub node_placed : (path : Path) (node : NodeForm) (s : RowSpread) → Meets first later node → spread_of p first later path node ≡ Ok s
        → Placed n (node_run first parts node) (row_spread_view s)
    node_placed path (scan id table columns kinds) s m e = scan_placed n id table columns kinds p s (chosen (scan_spread p) path s e)
    node_placed path (values id kinds rows) s m e =
        let same : Every ≡ s = cc e in subst (λ x. Placed n (run.values id kinds rows) (row_spread_view x)) same values_every
    node_placed path (remote id fragment) s m e =
        source_placed id path fragment s (has_read first later None fragment (fragment_read first later fragment) refl m) e
    node_placed path (filter id predicate input) s m e =
        let below = stays (spread_of p first later (under path key.Input) input) s e in
        filter_stays (node_placed (under path key.Input) input s m below)
    node_placed path (project id columns input) s m e =
        let h = made path (spread_of p first later (under path key.Input) input) (project_spread columns) s e in
        project_placed n id columns (node_run first parts input) h.below s h.gives (node_placed (under path key.Input) input h.below m h.was)
    node_placed path (join id kind on filters left right) s m e =
        let r = spread_of p first later (under path key.Right) right in
        typed_then_ok (spread_of p first later (under path key.Left) left) (λ l. over path r (join_spread on l)) s _ e
        (λ l h g.
        let k = made path r (join_spread on l) s g in
        join_placed n id kind on (node_run first parts left) (node_run first parts right) l k.below s k.gives
        (node_placed (under path key.Left) left l m.0 h) (node_placed (under path key.Right) right k.below m.1 k.was))
    node_placed path (aggregate id step keys calls input) s m e =
        let h = made path (spread_of p first later (under path key.Input) input) (aggregate_spread step keys) s e in
        aggregate_placed n id step keys calls (node_run first parts input) h.below s m.0 h.gives (node_placed (under path key.Input) input h.below m.1 h.was)
    node_placed path (aggregate_final id input) s m e = group_by id path input s (over_half first later aggregates input m) e
    node_placed path (sort id keys input) s m e =
        let h = made path (spread_of p first later (under path key.Input) input) (λ x. None) s e in absurd (none_some s h.gives)
    node_placed path (top_n id step count keys input) s m e =
        let h = made path (spread_of p first later (under path key.Input) input) (first_rows_spread step) s e in
        absurd (not_first step h.below s m.0 h.gives)
    node_placed path (top_n_final id input) s m e =
        let h = made path (spread_of p first later (under path key.Input) input) (λ x. None) s e in absurd (none_some s h.gives)
    node_placed path (limit id step count input) s m e =
        let h = made path (spread_of p first later (under path key.Input) input) (first_rows_spread step) s e in
        absurd (not_first step h.below s m.0 h.gives)
    node_placed path (limit_final id input) s m e =
        let h = made path (spread_of p first later (under path key.Input) input) (λ x. None) s e in absurd (none_some s h.gives)
    node_placed path (union id left right) s m e =
        let r = spread_of p first later (under path key.Right) right in
        typed_then_ok (spread_of p first later (under path key.Left) left) (λ l. over path r (union_spread l)) s _ e
        (λ l h g.
        let k = made path r (union_spread l) s g in
        union_placed n id (node_run first parts left) (node_run first parts right) l k.below s k.gives
        (node_placed (under path key.Left) left l m.0 h) (node_placed (under path key.Right) right k.below m.1 k.was))
