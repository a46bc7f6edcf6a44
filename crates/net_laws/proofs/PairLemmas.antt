-- In a plan with types the pairs of each join name columns of its left side.
use Rattle.std.proofs.Common.{◌≡◌, ℕ, ◌+◌, ◌<◌, List, [], ◌∷◌, ◌++◌, length, Bool, true, false, cond, Option, Some, None, refl, ap, sym, ◌∙◌, subst}
use Rattle.std.specs.Prelude.{All, Ok, Err, not, slice_get, nat_lt, if◌then◌else◌}
use Rattle.std.specs.List.{position_from}
use Rattle.std.proofs.lemmas.List.Elements.{All-cons, All-nil}
use Rattle.std.proofs.lemmas.Option.{slice_get_within}
use Rattle.sql_values.specs.declared.types.SqlType.{SqlType}
use Rattle.json_paths.specs.declared.key.Key.TheVariants as key
use Rattle.sql_exprs.specs.Typing.{Path, typed_then, under}
use Rattle.sql_exprs.proofs.TypingLemmas.{typed_then_ok}
use Rattle.plan_trees.specs.declared.tree.Pair.{Pair}
use Rattle.plan_trees.specs.Allowed.{width_of}
use Rattle.plan_trees.specs.TreeForms.{TreeForm}
use Rattle.plan_docs.specs.Nodes.{NodeForm, scan, values, remote, filter, project, join, aggregate, aggregate_final, sort, top_n, top_n_final, limit, limit_final, union}
use Rattle.plan_docs.specs.Plans.{FragmentForm}
use Rattle.plan_types.specs.declared.row_types.RowTypes.{RowTypes}
use Rattle.plan_types.specs.RowTypes.{plain}
use Rattle.plan_types.specs.Faults.{entry_fault, or_fault}
use Rattle.plan_types.specs.Nodes.{node_types, same_rows}
use Rattle.plan_types.specs.Operators.{aggregate_types, filter_types, fits_found, is_unequal, join_types, project_types, sort_types, union_types}
use Rattle.plan_link_laws.specs.Trees.{node_tree}
use Rattle.plan_run_laws.specs.RunPlans.{tree_of_run}
use Rattle.plan_spreads.specs.Halves.{Halved, Meets, ReadsHalf, RootMeets, aggregates, top_ns, limits}
use Rattle.plan_spreads.specs.Reading.{EachSource}
use Rattle.plan_spreads.specs.Runs.{Part, part_read}
use Rattle.plan_spreads.proofs.ReadParts.{AllStand, over_half}
use Rattle.plan_spreads.proofs.WidthLemmas.{no_entry, node_width, unless_fault}
use Rattle.net_laws.specs.RunJoins.{EachJoin}
use Rattle.plan_link_laws.proofs.RunLemmas.{node_runs}

-- the left columns of pairs are among so many
abbrev pub LeftsWithin : ℕ → List Pair → Type 0
LeftsWithin width on = All (λ (pair : Pair). pair.left < width) on

found_within : (l r : List SqlType) (i : ℕ) (o p : Option SqlType) → slice_get l i ≡ o → not (fits_found o p) ≡ false → i < length l
found_within l r i (Some k) p is h = slice_get_within l i k is
found_within l r i None p is h = absurd cc

pairs_within : (l r : List SqlType) (i : ℕ) (on : List Pair) → position_from (is_unequal l r) i on ≡ None → LeftsWithin (length l) on
pairs_within l r i [] none = All-nil (λ (pair : Pair). pair.left < length l)
pairs_within l r i (pair ∷ on) none = by (is_unequal l r pair) refl none (λ later. pairs_within l r (i + 1) on later)
  where
    by : (b : Bool) → is_unequal l r pair ≡ b → cond b (Some i) (position_from (is_unequal l r) (i + 1) on) ≡ None
        → (position_from (is_unequal l r) (i + 1) on ≡ None → LeftsWithin (length l) on) → LeftsWithin (length l) (pair ∷ on)
    by true is found rest = absurd cc
    by false is found rest =
        All-cons (λ (p : Pair). p.left < length l) pair on
        (found_within l r pair.left (slice_get l pair.left) (slice_get r pair.right) refl is) (rest found)

no_fault : (b : Bool) (o : Option Path) (path : Path) (r : RowTypes) (t : RowTypes) → (if b then Err path else or_fault o (Ok r)) ≡ Ok t → o ≡ None
no_fault true o path r t e = absurd cc
no_fault false o path r t e = (unless_fault o (Ok r) t e).0

joined_within : (path : Path) (on : List Pair) (l r t : RowTypes) → join_types path on l r ≡ Ok t → LeftsWithin (length l.columns) on
joined_within path on l r t e =
    let place = position_from (is_unequal l.columns r.columns) 0 on in
    pairs_within l.columns r.columns 0 on
    (no_entry path key.On place
    (no_fault (nat_lt 256 (length l.columns + length r.columns)) (entry_fault path key.On place) path (plain (l.columns ++ r.columns)) t e))

module _ (first : ℕ) (later : List FragmentForm) (types : List RowTypes) (parts : List Part) (all : AllStand later types parts)
    (reads : ℕ → TreeForm) (P : ℕ → Type 0) (same : (n : ℕ) → P n → reads n ≡ tree_of_run (part_read first parts n).root) where
  abbrev Within : NodeForm → Type 0
  Within node = EachJoin (λ id kind on filters left. LeftsWithin (width_of (node_tree reads left)) on) node

  -- below a FINAL node is a source
  over_source : (operator : Halved) (input : NodeForm) → ReadsHalf operator first later input → Within input
  over_source operator input m = let o = over_half first later operator input m in subst Within o.is tt

  node_within : (path : Path) (node : NodeForm) (t : RowTypes) → Meets first later node → EachSource P node → node_types first types path node ≡ Ok t → Within node
  node_within path (scan id table columns kinds) t m each e = tt
  node_within path (values id kinds rows) t m each e = tt
  node_within path (remote id fragment) t m each e = tt
  node_within path (filter id predicate input) t m each e =
      typed_then_ok (node_types first types (under path key.Input) input) (filter_types path predicate) t _ e
      (λ below h g. node_within (under path key.Input) input below m each h)
  node_within path (project id columns input) t m each e =
      typed_then_ok (node_types first types (under path key.Input) input) (project_types path columns) t _ e
      (λ below h g. node_within (under path key.Input) input below m each h)
  node_within path (join id kind on filters left right) t m each e =
      typed_then_ok (node_types first types (under path key.Left) left)
      (λ l. typed_then (node_types first types (under path key.Right) right) (join_types path on l)) t _ e
      (λ l h g. typed_then_ok (node_types first types (under path key.Right) right) (join_types path on l) t _ g
      (λ r h2 g2. (
        subst (λ (width : ℕ). LeftsWithin width on)
            (sym (ap width_of (node_runs reads first parts P same left each.0) ∙ node_width first later types parts all (under path key.Left) left l m.0 h))
            (joined_within path on l r t g2),
        node_within (under path key.Left) left l m.0 each.0 h,
        node_within (under path key.Right) right r m.1 each.1 h2,
      )))
  node_within path (aggregate id step keys calls input) t m each e =
      typed_then_ok (node_types first types (under path key.Input) input) (aggregate_types path step keys calls) t _ e
      (λ below h g. node_within (under path key.Input) input below m.1 each h)
  node_within path (aggregate_final id input) t m each e = over_source aggregates input m
  node_within path (sort id keys input) t m each e =
      typed_then_ok (node_types first types (under path key.Input) input) (sort_types path keys) t _ e
      (λ below h g. node_within (under path key.Input) input below m each h)
  node_within path (top_n id step count keys input) t m each e =
      typed_then_ok (node_types first types (under path key.Input) input) (sort_types path keys) t _ e
      (λ below h g. node_within (under path key.Input) input below m.1 each h)
  node_within path (top_n_final id input) t m each e = over_source top_ns input m
  node_within path (limit id step count input) t m each e =
      typed_then_ok (node_types first types (under path key.Input) input) same_rows t _ e
      (λ below h g. node_within (under path key.Input) input below m.1 each h)
  node_within path (limit_final id input) t m each e = over_source limits input m
  node_within path (union id left right) t m each e =
      typed_then_ok (node_types first types (under path key.Left) left)
      (λ l. typed_then (node_types first types (under path key.Right) right) (union_types path l)) t _ e
      (λ l h g. typed_then_ok (node_types first types (under path key.Right) right) (union_types path l) t _ g
      (λ r h2 g2. (node_within (under path key.Left) left l m.0 each.0 h, node_within (under path key.Right) right r m.1 each.1 h2)))

  -- a root may be a PARTIAL node
  pub root_within : (path : Path) (node : NodeForm) (t : RowTypes) → RootMeets first later node → EachSource P node → node_types first types path node ≡ Ok t → Within node
  root_within path (aggregate id step keys calls input) t m each e =
      typed_then_ok (node_types first types (under path key.Input) input) (aggregate_types path step keys calls) t _ e
      (λ below h g. node_within (under path key.Input) input below m each h)
  root_within path (top_n id step count keys input) t m each e =
      typed_then_ok (node_types first types (under path key.Input) input) (sort_types path keys) t _ e
      (λ below h g. node_within (under path key.Input) input below m each h)
  root_within path (limit id step count input) t m each e =
      typed_then_ok (node_types first types (under path key.Input) input) same_rows t _ e
      (λ below h g. node_within (under path key.Input) input below m each h)
  root_within path node t m each e = node_within path node t m each e
