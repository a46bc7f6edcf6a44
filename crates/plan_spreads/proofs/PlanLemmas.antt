-- A plan whose placement is not broken is placed as it runs.
use Rattle.std.proofs.Common.{◌≡◌, ℕ, ◌+◌, ◌-◌, ◌<◌, zero, suc, List, [], ◌∷◌, length, Bool, true, false, Some, None, refl, ap, sym, ◌∙◌, subst, arith}
use Rattle.std.specs.Prelude.{Result, Ok, Err, if◌then◌else◌, nat_le, slice_get, unwrap_or}
use Rattle.std.specs.List.{position_from}
use Rattle.sql_values.specs.declared.types.SqlType.{SqlType}
use Rattle.json_paths.specs.declared.key.Key.TheVariants as key
use Rattle.sql_exprs.specs.Typing.{Path, typed_then, under}
use Rattle.sql_exprs.proofs.TypingLemmas.{typed_then_ok}
use Rattle.plan_docs.specs.declared.node.NodeStep.TheVariants.{Single, Partial}
use Rattle.plan_docs.specs.declared.plan.Output.{Output}
use Rattle.plan_docs.specs.declared.plan.Output.TheVariants as output
use Rattle.plan_docs.specs.declared.plan.Placement.{Placement}
use Rattle.plan_docs.specs.declared.plan.Placement.TheVariants as placement
use Rattle.plan_docs.specs.Nodes.{NodeForm, scan, values, remote, filter, project, join, aggregate, aggregate_final, sort, top_n, top_n_final, limit, limit_final, union}
use Rattle.plan_docs.specs.Plans.{FragmentForm, PlanForm}
use Rattle.plan_types.specs.declared.row_types.RowTypes.{RowTypes}
use Rattle.plan_types.specs.Faults.{or_fault}
use Rattle.plan_types.specs.Nodes.{node_types, same_rows}
use Rattle.plan_types.specs.Operators.{aggregate_types, sort_types}
use Rattle.plan_types.specs.Plans.{all_types, fragment_types, output_fault, output_path, plan_types, result_fault, root_path}
use Rattle.plan_run_laws.specs.RunPlans.{RunPlan}
use Rattle.plan_run_laws.specs.RunPlans as run
use Rattle.plan_run_laws.specs.Spreads as runs
use Rattle.plan_run_laws.specs.Placements.{Placed, values_whole}
use Rattle.plan_spreads.specs.declared.spread.RowSpread.{RowSpread}
use Rattle.plan_spreads.specs.declared.spread.RowSpread.TheVariants.{Whole}
use Rattle.plan_spreads.specs.Halves.{AllMeet, HalvesMeet, Meets, RootMeets, half}
use Rattle.plan_spreads.specs.Nodes.{over, spread_of}
use Rattle.plan_spreads.specs.Operators.{is_parted, partial_spread}
use Rattle.plan_spreads.specs.Plans.{all_spreads, first_placement, fragment_spread, is_single, placement_fault, plan_spreads, root_spread, sources_fault}
use Rattle.plan_spreads.specs.Runs.{Part, fragment_parts, fragment_run, no_part, node_run, output_view, part_read, plan_run, row_spread_view, tasks_of}
use Rattle.plan_spreads.specs.Sources.{half_keys, misread}
use Rattle.plan_spreads.proofs.NodeLemmas.{left_none, made, node_placed, right_none, single_placed}
use Rattle.plan_spreads.proofs.OperatorLemmas.{FitsColumns, ReadAs, parted_read, partial_parted}
use Rattle.plan_spreads.proofs.ReadParts.{AllStand, Rooted, Stands, one_more}
use Rattle.plan_spreads.proofs.WidthLemmas.{aggregate_count, all_within, limited_columns, no_entry, node_width, sorted_columns, unless_fault}

if_parted : (b : Bool) (below s : RowSpread) (path : Path) → (if b then Ok below else Err path) ≡ Ok s → b ≡ true
if_parted true below s path e = refl
if_parted false below s path e = absurd cc

parted_same : (b : Bool) (below s : RowSpread) (path : Path) → (if b then Ok below else Err path) ≡ Ok s → below ≡ s
parted_same true below s path e = cc e
parted_same false below s path e = absurd cc

-- a root that is no half meets as any node does, and a node as a root does
whole_meets : (first : ℕ) (later : List FragmentForm) (node : NodeForm) → half node ≡ None → RootMeets first later node → Meets first later node
whole_meets first later (aggregate id Single keys calls input) h m = (refl, m)
whole_meets first later (aggregate id Partial keys calls input) h m = absurd cc
whole_meets first later (top_n id Single count keys input) h m = (refl, m)
whole_meets first later (top_n id Partial count keys input) h m = absurd cc
whole_meets first later (limit id Single count input) h m = (refl, m)
whole_meets first later (limit id Partial count input) h m = absurd cc
whole_meets first later node h m = m

root_meets : (first : ℕ) (later : List FragmentForm) (node : NodeForm) → Meets first later node → RootMeets first later node
root_meets first later (aggregate id step keys calls input) m = m.1
root_meets first later (top_n id step count keys input) m = m.1
root_meets first later (limit id step count input) m = m.1
root_meets first later node m = m

pub all_meet : (fs : List FragmentForm) → HalvesMeet fs → AllMeet 0 fs
all_meet [] m = tt
all_meet (f ∷ fs) m = (root_meets 1 fs f.root m.0, m.1)

output_fits : (i : ℕ) (columns : List SqlType) (o : Output) → output_fault i columns o ≡ None → FitsColumns o (length columns)
output_fits i columns (output.Hash places) e =
    all_within (length columns) 0 places (no_entry (output_path i) key.Columns (position_from (nat_le (length columns)) 0 places) e)
output_fits i columns output.Single e = tt
output_fits i columns output.Broadcast e = tt
output_fits i columns output.Result e = tt

-- the spread of a fragment's root
abbrev rooted_spread : Placement → Path → Result RowSpread Path → Result RowSpread Path
rooted_spread p path r = if is_single p then Ok Whole else typed_then r (root_spread path)

module _ (tasks : ℕ) (some : 0 < tasks) (first : ℕ) (later : List FragmentForm) (types : List RowTypes) (parts : List Part) (all : AllStand later types parts) where
  several_read : (p : Placement) (path : Path) (node : NodeForm) (s : RowSpread) → Meets first later node
      → typed_then (spread_of p first later path node) (root_spread path) ≡ Ok s → ReadAs tasks (node_run first parts node)
  several_read p path node s m e =
      typed_then_ok (spread_of p first later path node) (root_spread path) s _ e
      (λ below h g. parted_read tasks (node_run first parts node) below some (if_parted (is_parted below) below s path g)
      (node_placed first later types parts all p tasks path node below m h))

  root_reads : (p : Placement) (path : Path) (node : NodeForm) (s : RowSpread) → Meets first later node → misread p first later path node ≡ None
      → rooted_spread p path (spread_of p first later path node) ≡ Ok s → ReadAs (tasks_of tasks p) (node_run first parts node)
  root_reads placement.Single path node s m a e =
      record { spread = runs.whole; is_read = refl; placed = single_placed first later types parts all path node m a }
  root_reads placement.Source path node s m a e = several_read placement.Source path node s m e
  root_reads placement.Hash path node s m a e = several_read placement.Hash path node s m e

  several_placed : (p : Placement) (path : Path) (node : NodeForm) (s : RowSpread) → Meets first later node
      → typed_then (spread_of p first later path node) (root_spread path) ≡ Ok s → Placed tasks (node_run first parts node) (row_spread_view s)
  several_placed p path node s m e =
      typed_then_ok (spread_of p first later path node) (root_spread path) s _ e
      (λ below h g. subst (λ x. Placed tasks (node_run first parts node) (row_spread_view x)) (parted_same (is_parted below) below s path g)
      (node_placed first later types parts all p tasks path node below m h))

  -- a root that is no half is placed at the spread that is answered
  root_placed : (p : Placement) (path : Path) (node : NodeForm) (s : RowSpread) → Meets first later node → misread p first later path node ≡ None
      → rooted_spread p path (spread_of p first later path node) ≡ Ok s → Placed (tasks_of tasks p) (node_run first parts node) (row_spread_view s)
  root_placed placement.Single path node s m a e =
      let same : Whole ≡ s = cc e in
      subst (λ x. Placed 1 (node_run first parts node) (row_spread_view x)) same (single_placed first later types parts all path node m a)
  root_placed placement.Source path node s m a e = several_placed placement.Source path node s m e
  root_placed placement.Hash path node s m a e = several_placed placement.Hash path node s m e

  several_below : (p : Placement) (path : Path) (input : NodeForm) (s : RowSpread) → Meets first later input
      → typed_then (over path (spread_of p first later (under path key.Input) input) partial_spread) (root_spread path) ≡ Ok s
      → ReadAs tasks (node_run first parts input)
  several_below p path input s m e =
      let at = under path key.Input in
      typed_then_ok (over path (spread_of p first later at input) partial_spread) (root_spread path) s _ e
      (λ x h g.
      let k = made path (spread_of p first later at input) partial_spread x h in
      parted_read tasks (node_run first parts input) k.below some (partial_parted k.below x k.gives)
      (node_placed first later types parts all p tasks at input k.below m k.was))

  -- the input of a PARTIAL root
  half_reads : (p : Placement) (path : Path) (input : NodeForm) (s : RowSpread) → Meets first later input → misread p first later (under path key.Input) input ≡ None
      → rooted_spread p path (over path (spread_of p first later (under path key.Input) input) partial_spread) ≡ Ok s
      → ReadAs (tasks_of tasks p) (node_run first parts input)
  half_reads placement.Single path input s m a e =
      record { spread = runs.whole; is_read = refl; placed = single_placed first later types parts all (under path key.Input) input m a }
  half_reads placement.Source path input s m a e = several_below placement.Source path input s m e
  half_reads placement.Hash path input s m a e = several_below placement.Hash path input s m e

  module _ (out : run.Output) (p : Placement) (path : Path) (t : RowTypes) (s : RowSpread) where
    abbrev part : NodeForm → Part
    part node = record { tasks = tasks_of tasks p; output = out; root = node_run first parts node }

    whole_root : (node : NodeForm) → Meets first later node → misread p first later path node ≡ None
        → rooted_spread p path (spread_of p first later path node) ≡ Ok s → node_types first types path node ≡ Ok t → Rooted None 0 t (part node)
    whole_root node m a e h = (root_reads p path node s m a e, node_width first later types parts all path node t m h)

    rooted : (node : NodeForm) → RootMeets first later node → misread p first later path node ≡ None
        → rooted_spread p path (spread_of p first later path node) ≡ Ok s → node_types first types path node ≡ Ok t
        → Rooted (half node) (half_keys node) t (part node)
    rooted (aggregate id Partial keys calls input) m a e h = record {
      id = id;
      by_keys = keys;
      calls = calls;
      below = node_run first parts input;
      is = refl;
      reads = half_reads p path input s m a e;
      count = refl;
      width = typed_then_ok (node_types first types (under path key.Input) input) (aggregate_types path Partial keys calls) t _ h
          (λ below g k. aggregate_count path Partial keys calls below t k);
    }
    rooted (top_n id Partial count keys input) m a e h = record {
      id = id;
      count = count;
      keys = keys;
      below = node_run first parts input;
      is = refl;
      reads = half_reads p path input s m a e;
      width = typed_then_ok (node_types first types (under path key.Input) input) (sort_types path keys) t _ h
          (λ below g k. node_width first later types parts all (under path key.Input) input below m g ∙ ap length (sorted_columns path keys below t k));
    }
    rooted (limit id Partial count input) m a e h = record {
      id = id;
      count = count;
      below = node_run first parts input;
      is = refl;
      reads = half_reads p path input s m a e;
      width = typed_then_ok (node_types first types (under path key.Input) input) same_rows t _ h
          (λ below g k. node_width first later types parts all (under path key.Input) input below m g ∙ ap length (limited_columns below t k));
    }
    rooted (aggregate id Single keys calls input) m a e h = whole_root (aggregate id Single keys calls input) (refl, m) a e h
    rooted (top_n id Single count keys input) m a e h = whole_root (top_n id Single count keys input) (refl, m) a e h
    rooted (limit id Single count input) m a e h = whole_root (limit id Single count input) (refl, m) a e h
    rooted (scan id table columns kinds) m a e h = whole_root (scan id table columns kinds) m a e h
    rooted (values id kinds rows) m a e h = whole_root (values id kinds rows) m a e h
    rooted (remote id fragment) m a e h = whole_root (remote id fragment) m a e h
    rooted (filter id predicate input) m a e h = whole_root (filter id predicate input) m a e h
    rooted (project id columns input) m a e h = whole_root (project id columns input) m a e h
    rooted (join id kind on filters left right) m a e h = whole_root (join id kind on filters left right) m a e h
    rooted (aggregate_final id input) m a e h = whole_root (aggregate_final id input) m a e h
    rooted (sort id keys input) m a e h = whole_root (sort id keys input) m a e h
    rooted (top_n_final id input) m a e h = whole_root (top_n_final id input) m a e h
    rooted (limit_final id input) m a e h = whole_root (limit_final id input) m a e h
    rooted (union id left right) m a e h = whole_root (union id left right) m a e h

fragment_stands : (tasks : ℕ) → 0 < tasks → (i : ℕ) (later : List FragmentForm) (types : List RowTypes) (parts : List Part) → AllStand later types parts
    → (f : FragmentForm) (t : RowTypes) (s : RowSpread) → RootMeets (i + 1) later f.root → misread f.placement (i + 1) later (root_path i) f.root ≡ None
    → fragment_spread i later f ≡ Ok s → fragment_types types i f ≡ Ok t → Stands f t (fragment_run tasks (i + 1) parts f)
fragment_stands tasks some i later types parts all f t s m a e h =
    typed_then_ok (node_types (i + 1) types (root_path i) f.root) (λ ts. or_fault (output_fault i ts.columns f.output) (Ok ts)) t _ h
    (λ ts typed g.
    let u = unless_fault (output_fault i ts.columns f.output) (Ok ts) t g in
    let same : ts ≡ t = cc u.1 in
    subst (λ x. Stands f x (fragment_run tasks (i + 1) parts f)) same (record {
      output = refl;
      fits = output_fits i ts.columns f.output u.0;
      root = rooted tasks some (i + 1) later types parts all (output_view f.output) f.placement (root_path i) ts s f.root m a e typed;
    }))

pub all_stand : (tasks : ℕ) → 0 < tasks → (i : ℕ) (fs : List FragmentForm) (ts : List RowTypes) (ss : List RowSpread) → AllMeet i fs → sources_fault i fs ≡ None
    → all_spreads i fs ≡ Ok ss → all_types i fs ≡ Ok ts → AllStand fs ts (fragment_parts tasks i fs)
all_stand tasks some i [] ts ss m a e h = λ k f is. absurd cc
all_stand tasks some i (f ∷ fs) ts ss m a e h =
    let here = misread f.placement (i + 1) fs (root_path i) f.root in
    let rest_fault = sources_fault (i + 1) fs in
    typed_then_ok (fragment_spread i fs f) (λ s. typed_then (all_spreads (i + 1) fs) (λ rest. Ok (s ∷ rest))) ss _ e
    (λ s e1 g1. typed_then_ok (all_spreads (i + 1) fs) (λ rest. Ok (s ∷ rest)) ss _ g1
    (λ rest e2 g2. typed_then_ok (all_types (i + 1) fs) (λ later. typed_then (fragment_types later i f) (λ types. Ok (types ∷ later))) ts _ h
    (λ later h1 k1. typed_then_ok (fragment_types later i f) (λ types. Ok (types ∷ later)) ts _ k1
    (λ t h2 k2.
    let parts = fragment_parts tasks (i + 1) fs in
    let below = all_stand tasks some (i + 1) fs later rest m.1 (right_none here rest_fault a) e2 h1 in
    let same : t ∷ later ≡ ts = cc k2 in
    subst (λ x. AllStand (f ∷ fs) x (fragment_parts tasks i (f ∷ fs))) same
    (one_more f fs t later (fragment_run tasks (i + 1) parts f) parts
    (fragment_stands tasks some i fs later parts below f t s m.0 (left_none here rest_fault a) e1 h2) below)))))

-- the spread of the first of some fragments, and those of the others
pub record FirstSpread (i : ℕ) (f : FragmentForm) (fs : List FragmentForm) (ss : List RowSpread) : Type 0 where
  pub first : RowSpread
  pub rest : List RowSpread
  pub here : fragment_spread i fs f ≡ Ok first
  pub below : all_spreads (i + 1) fs ≡ Ok rest
  pub are : first ∷ rest ≡ ss

pub first_spread : (i : ℕ) (f : FragmentForm) (fs : List FragmentForm) (ss : List RowSpread) → all_spreads i (f ∷ fs) ≡ Ok ss → FirstSpread i f fs ss
first_spread i f fs ss e =
    typed_then_ok (fragment_spread i fs f) (λ s. typed_then (all_spreads (i + 1) fs) (λ rest. Ok (s ∷ rest))) ss (FirstSpread i f fs ss) e
    (λ s e1 g1. typed_then_ok (all_spreads (i + 1) fs) (λ rest. Ok (s ∷ rest)) ss (FirstSpread i f fs ss) g1
    (λ rest e2 g2. record { first = s; rest = rest; here = e1; below = e2; are = cc g2 }))

-- the types of the fragments after the first
pub record LaterTypes (i : ℕ) (fs : List FragmentForm) : Type 0 where
  pub later : List RowTypes
  pub are : all_types (i + 1) fs ≡ Ok later

pub later_types : (i : ℕ) (f : FragmentForm) (fs : List FragmentForm) (ts : List RowTypes) → all_types i (f ∷ fs) ≡ Ok ts → LaterTypes i fs
later_types i f fs ts h =
    typed_then_ok (all_types (i + 1) fs) (λ later. typed_then (fragment_types later i f) (λ types. Ok (types ∷ later))) ts (LaterTypes i fs) h
    (λ later h1 k1. record { later = later; are = h1 })

abbrev run_at : List Part → ℕ → RunPlan
run_at parts k = (unwrap_or (slice_get parts k) no_part).root

each_placed : (tasks : ℕ) → 0 < tasks → (i : ℕ) (fs : List FragmentForm) (ts : List RowTypes) (ss : List RowSpread) → AllMeet i fs → sources_fault i fs ≡ None
    → all_spreads i fs ≡ Ok ss → all_types i fs ≡ Ok ts → (k : ℕ) (f : FragmentForm) (s : RowSpread) → slice_get fs k ≡ Some f → slice_get ss k ≡ Some s
    → half f.root ≡ None → Placed (tasks_of tasks f.placement) (run_at (fragment_parts tasks i fs) k) (row_spread_view s)
each_placed tasks some i [] ts ss m a e h k g s is given whole = absurd cc
each_placed tasks some i (f ∷ fs) ts ss m a e h zero g s is given whole =
    let here = misread f.placement (i + 1) fs (root_path i) f.root in
    let rest_fault = sources_fault (i + 1) fs in
    let spreads = first_spread i f fs ss e in
    let types = later_types i f fs ts h in
    let parts = fragment_parts tasks (i + 1) fs in
    let stand = all_stand tasks some (i + 1) fs types.later spreads.rest m.1 (right_none here rest_fault a) spreads.below types.are in
    let same : f ≡ g = cc is in
    let none = subst (λ (x : FragmentForm). half x.root ≡ None) (sym same) whole in
    let told : Some spreads.first ≡ Some s = subst (λ l. slice_get l 0 ≡ Some s) (sym spreads.are) given in
    let answered : spreads.first ≡ s = cc told in
    subst (λ (x : FragmentForm). Placed (tasks_of tasks x.placement) (node_run (i + 1) parts f.root) (row_spread_view s)) same
    (subst (λ x. Placed (tasks_of tasks f.placement) (node_run (i + 1) parts f.root) (row_spread_view x)) answered
    (root_placed tasks some (i + 1) fs types.later parts stand f.placement (root_path i) f.root spreads.first (whole_meets (i + 1) fs f.root none m.0)
    (left_none here rest_fault a) spreads.here))
each_placed tasks some i (f ∷ fs) ts ss m a e h (suc k) g s is given whole =
    let here = misread f.placement (i + 1) fs (root_path i) f.root in
    let rest_fault = sources_fault (i + 1) fs in
    let spreads = first_spread i f fs ss e in
    let types = later_types i f fs ts h in
    each_placed tasks some (i + 1) fs types.later spreads.rest m.1 (right_none here rest_fault a) spreads.below types.are k g s is
    (subst (λ l. slice_get l (suc k) ≡ Some s) (sym spreads.are) given) whole

is_first : (p : Placement) → (if is_single p then None else Some first_placement) ≡ None → p ≡ placement.Single
is_first placement.Single e = refl
is_first p e = absurd cc

fragments_placed : (tasks : ℕ) → 0 < tasks → (fs : List FragmentForm) (ts : List RowTypes) (ss : List RowSpread) → HalvesMeet fs
    → placement_fault (slice_get fs 0) ≡ None → sources_fault 0 fs ≡ None → all_spreads 0 fs ≡ Ok ss → all_types 0 fs ≡ Ok ts
    → Placed 1 (part_read 0 (fragment_parts tasks 0 fs) 0).root runs.whole
fragments_placed tasks some [] ts ss m one a e h = values_whole
fragments_placed tasks some (f ∷ fs) ts ss m one a e h =
    let here = misread f.placement 1 fs (root_path 0) f.root in
    let rest_fault = sources_fault 1 fs in
    typed_then_ok (fragment_spread 0 fs f) (λ s. typed_then (all_spreads 1 fs) (λ rest. Ok (s ∷ rest))) ss _ e
    (λ s e1 g1. typed_then_ok (all_spreads 1 fs) (λ rest. Ok (s ∷ rest)) ss _ g1
    (λ rest e2 g2. typed_then_ok (all_types 1 fs) (λ later. typed_then (fragment_types later 0 f) (λ types. Ok (types ∷ later))) ts _ h
    (λ later h1 k1.
    let below = all_stand tasks some 1 fs later rest m.1 (right_none here rest_fault a) e2 h1 in
    let fits = subst (λ p. misread p 1 fs (root_path 0) f.root ≡ None) (is_first f.placement one) (left_none here rest_fault a) in
    single_placed 1 fs later (fragment_parts tasks 1 fs) below (root_path 0) f.root m.0 fits)))

pub plan_placed : (plan : PlanForm) (types : List RowTypes) (spreads : List RowSpread) → plan_types plan ≡ Ok types → plan_spreads plan ≡ Ok spreads
    → HalvesMeet plan.fragments → (tasks : ℕ) → 0 < tasks → Placed 1 (plan_run tasks plan) runs.whole
unfolding plan_types plan_spreads
plan_placed plan types spreads h e m tasks some =
    let fs = plan.fragments in
    let one = unless_fault (placement_fault (slice_get fs 0)) (or_fault (sources_fault 0 fs) (all_spreads 0 fs)) spreads e in
    let sent = unless_fault (sources_fault 0 fs) (all_spreads 0 fs) spreads one.1 in
    typed_then_ok (all_types 0 fs) (λ ts. or_fault (result_fault (length plan.output) ts) (Ok ts)) types _ h
    (λ ts typed g. fragments_placed tasks some fs ts spreads m one.0 sent.0 sent.1 typed)

-- each fragment whose root is no half is placed at the spread that is answered for it
pub roots_placed : (plan : PlanForm) (types : List RowTypes) (spreads : List RowSpread) → plan_types plan ≡ Ok types → plan_spreads plan ≡ Ok spreads
    → HalvesMeet plan.fragments → (tasks : ℕ) → 0 < tasks → (k : ℕ) (f : FragmentForm) (s : RowSpread) → slice_get plan.fragments k ≡ Some f
    → slice_get spreads k ≡ Some s → half f.root ≡ None
    → Placed (tasks_of tasks f.placement) (part_read 0 (fragment_parts tasks 0 plan.fragments) k).root (row_spread_view s)
unfolding plan_types plan_spreads
roots_placed plan types spreads h e m tasks some k f s is given whole =
    let fs = plan.fragments in
    let one = unless_fault (placement_fault (slice_get fs 0)) (or_fault (sources_fault 0 fs) (all_spreads 0 fs)) spreads e in
    let sent = unless_fault (sources_fault 0 fs) (all_spreads 0 fs) spreads one.1 in
    let at : k ≡ k - 0 = omega arith in
    typed_then_ok (all_types 0 fs) (λ ts. or_fault (result_fault (length plan.output) ts) (Ok ts)) types _ h
    (λ ts typed g.
    subst (λ n. Placed (tasks_of tasks f.placement) (run_at (fragment_parts tasks 0 fs) n) (row_spread_view s)) at
    (each_placed tasks some 0 fs ts spreads (all_meet fs m) sent.0 sent.1 typed k f s is given whole))
