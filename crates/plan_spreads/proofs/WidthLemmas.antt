-- The rows of a typed node have as many columns as those of its tree.
use Rattle.std.proofs.Common.{◌≡◌, ℕ, ◌+◌, ◌-◌, ◌<◌, suc, List, [], ◌∷◌, ◌++◌, length, map, Bool, true, false, cond, Option, Some, None, refl, ap, sym, ◌∙◌, subst, length-append}
use Rattle.std.specs.Prelude.{Result, Ok, Err, nat_le, nat_lt, if◌then◌else◌}
use Rattle.std.specs.List.{position_from}
use Rattle.std.proofs.lemmas.Bool.{leb-false}
use Rattle.std.proofs.lemmas.List.{length-map}
use Rattle.std.proofs.lemmas.List.Elements.{All-cons, All-nil}
use Rattle.sql_values.specs.declared.types.SqlType.{SqlType}
use Rattle.sql_values.specs.declared.relational.Call.{Call}
use Rattle.sql_values.specs.declared.order.KeySpec.{KeySpec}
use Rattle.sql_functions.specs.CallTypes.{is_boolean, type_at}
use Rattle.bag_laws.specs.Buckets.{AllBelow}
use Rattle.json_paths.specs.declared.key.Key.{Key}
use Rattle.json_paths.specs.declared.key.Key.TheVariants as key
use Rattle.sql_exprs.specs.Forms.{Form}
use Rattle.sql_exprs.specs.Meaning.{kind_of}
use Rattle.sql_exprs.specs.Typing.{Path, entry, form_type, typed_then, under}
use Rattle.sql_exprs.proofs.TypingLemmas.{typed_then_ok}
use Rattle.plan_trees.specs.declared.tree.Pair.{Pair}
use Rattle.plan_trees.specs.Allowed.{width_of}
use Rattle.plan_trees.specs.TreeTypes as tree
use Rattle.plan_docs.specs.declared.node.NodeStep.{NodeStep}
use Rattle.plan_docs.specs.declared.node.NodeStep.TheVariants.{Single, Partial}
use Rattle.plan_docs.specs.Nodes.{NodeForm, scan, values, remote, filter, project, join, aggregate, aggregate_final, sort, top_n, top_n_final, limit, limit_final, union}
use Rattle.plan_docs.specs.Plans.{FragmentForm}
use Rattle.plan_types.specs.declared.row_types.RowTypes.{RowTypes}
use Rattle.plan_types.specs.RowTypes.{plain, whole_of}
use Rattle.plan_types.specs.Aggregates.{step_types, takes_not}
use Rattle.plan_types.specs.Cells.{cell_fault, misfit_from}
use Rattle.plan_types.specs.Faults.{entry_fault, or_fault}
use Rattle.plan_types.specs.Nodes.{final_rows, node_types, read_from, same_rows}
use Rattle.plan_types.specs.Operators.{aggregate_types, boolean_rows, column_types, filter_types, is_key_beyond, is_unequal, join_types, project_types, sort_types, union_types}
use Rattle.std.specs.Cmp.Lexicographic.{pointwise}
use Rattle.sql_functions.specs.CallTypes.{same_type}
use Rattle.plan_run_laws.specs.RunPlans.{tree_of_run}
use Rattle.plan_spreads.specs.Halves.{Halved, aggregates, top_ns, limits, Meets}
use Rattle.plan_spreads.specs.Runs.{Part, node_run, one_over, part_read}
use Rattle.plan_spreads.specs.Sources.{fragment_read, half_keys}
use Rattle.plan_spreads.proofs.ReadParts.{AllStand, Over, Reads, Rooted, has_read, over_half}

-- a fault that there is none of says nothing
pub unless_fault : {A : Type 0} (o : Option Path) (r : Result A Path) (x : A) → or_fault o r ≡ Ok x → (o ≡ None) × (r ≡ Ok x)
unless_fault None r x e = (refl, e)
unless_fault (Some path) r x e = absurd cc

pub no_entry : (path : Path) (k : Key) (o : Option ℕ) → entry_fault path k o ≡ None → o ≡ None
no_entry path k None e = refl
no_entry path k (Some i) e = absurd cc

within_by : (width from c : ℕ) (cs : List ℕ) (b : Bool) → nat_le width c ≡ b → cond b (Some from) (position_from (nat_le width) (from + 1) cs) ≡ None
    → (position_from (nat_le width) (from + 1) cs ≡ None → AllBelow width cs) → AllBelow width (c ∷ cs)
within_by width from c cs true t e rest = absurd cc
within_by width from c cs false t e rest = All-cons (λ x. x < width) c cs (leb-false width c t) (rest e)

-- where no column is beyond the rows, all are columns of theirs
pub all_within : (width from : ℕ) (columns : List ℕ) → position_from (nat_le width) from columns ≡ None → AllBelow width columns
all_within width from [] e = All-nil (λ x. x < width)
all_within width from (c ∷ cs) e = within_by width from c cs (nat_le width c) refl e (all_within width (from + 1) cs)

abbrev typed : List SqlType → Result RowTypes Path
typed columns = Ok (plain columns)

same_columns : (columns : List SqlType) (t : RowTypes) → typed columns ≡ Ok t → columns ≡ t.columns
same_columns columns t e = let same : plain columns ≡ t = cc e in ap (λ (r : RowTypes). r.columns) same

boolean_columns : (b : Bool) (path : Path) (columns : List SqlType) (t : RowTypes) → (if b then Ok (plain columns) else Err path) ≡ Ok t → columns ≡ t.columns
boolean_columns true path columns t e = same_columns columns t e
boolean_columns false path columns t e = absurd cc

filter_columns : (path : Path) (predicate : Form) (below t : RowTypes) → filter_types path predicate below ≡ Ok t → below.columns ≡ t.columns
filter_columns path predicate below t e =
    let at = under path key.Predicate in
    typed_then_ok (form_type below.columns at predicate) (boolean_rows at below.columns) t _ e
    (λ kind h g. boolean_columns (is_boolean kind) at below.columns t g)

counted : (columns : List SqlType) (path : Path) (i : ℕ) (forms : List Form) (kinds : List SqlType) → column_types columns path i forms ≡ Ok kinds
    → length forms ≡ length kinds
counted columns path i [] kinds e = let same : [] ≡ kinds = cc e in ap length same
counted columns path i (form ∷ forms) kinds e =
    typed_then_ok (form_type columns (entry path i) form) (λ kind. typed_then (column_types columns path (i + 1) forms) (λ rest. Ok (kind ∷ rest))) kinds _ e
    (λ kind h g. typed_then_ok (column_types columns path (i + 1) forms) (λ rest. Ok (kind ∷ rest)) kinds _ g
    (λ rest h2 g2. let same : kind ∷ rest ≡ kinds = cc g2 in ap suc (counted columns path (i + 1) forms rest h2) ∙ ap length same))

project_count : (path : Path) (forms : List Form) (below t : RowTypes) → project_types path forms below ≡ Ok t → length forms ≡ length t.columns
project_count path forms below t e =
    let at = under path key.Columns in
    typed_then_ok (column_types below.columns at 0 forms) (λ kinds. Ok (plain kinds)) t _ e
    (λ kinds h g. counted below.columns at 0 forms kinds h ∙ ap length (same_columns kinds t g))

join_by_width : (b : Bool) (o : Option Path) (path : Path) (columns : List SqlType) (t : RowTypes)
    → (if b then Err path else or_fault o (Ok (plain columns))) ≡ Ok t → columns ≡ t.columns
join_by_width true o path columns t e = absurd cc
join_by_width false o path columns t e = same_columns columns t (unless_fault o (Ok (plain columns)) t e).1

join_columns : (path : Path) (on : List Pair) (l r t : RowTypes) → join_types path on l r ≡ Ok t → l.columns ++ r.columns ≡ t.columns
join_columns path on l r t e =
    join_by_width (nat_lt 256 (length l.columns + length r.columns)) (entry_fault path key.On (position_from (is_unequal l.columns r.columns) 0 on)) path
    (l.columns ++ r.columns) t e

union_columns : (path : Path) (l r t : RowTypes) → union_types path l r ≡ Ok t → l.columns ≡ t.columns
union_columns path l r t e = boolean_columns (pointwise same_type l.columns r.columns) path l.columns t e

pub sorted_columns : (path : Path) (keys : List KeySpec) (below t : RowTypes) → sort_types path keys below ≡ Ok t → below.columns ≡ t.columns
sorted_columns path keys below t e =
    same_columns below.columns t
    (unless_fault (entry_fault path key.Keys (position_from (is_key_beyond (length below.columns)) 0 keys)) (Ok (plain below.columns)) t e).1

pub limited_columns : (below t : RowTypes) → same_rows below ≡ Ok t → below.columns ≡ t.columns
limited_columns below t e = same_columns below.columns t e

grouped_count : (f : ℕ → SqlType) (g : Call → SqlType) (keys : List ℕ) (calls : List Call) → length (map f keys ++ map g calls) ≡ length keys + length calls
grouped_count f g keys calls =
    length-append (map f keys) (map g calls) ∙ (λ i. length-map keys f i + length-map calls g i)

step_count : (step : NodeStep) (types : List SqlType) (keys : List ℕ) (calls : List Call)
    → length keys + length calls ≡ length (whole_of (step_types step types keys calls))
step_count Single types keys calls = sym (grouped_count (type_at types) (tree.call_kind types) keys calls)
step_count Partial types keys calls = sym (grouped_count (type_at types) (tree.call_kind types) keys calls)

-- the columns of the whole operator are its keys and its calls
pub aggregate_count : (path : Path) (step : NodeStep) (keys : List ℕ) (calls : List Call) (below t : RowTypes) → aggregate_types path step keys calls below ≡ Ok t
    → length keys + length calls ≡ length (whole_of t)
aggregate_count path step keys calls below t e =
    let types = below.columns in
    let made = step_types step types keys calls in
    let by_calls = entry_fault path key.Calls (position_from (takes_not types) 0 calls) in
    let h = (unless_fault (entry_fault path key.Keys (position_from (nat_le (length types)) 0 keys)) (or_fault by_calls (Ok made)) t e).1 in
    let same : made ≡ t = cc (unless_fault by_calls (Ok made) t h).1 in
    step_count step types keys calls ∙ ap (λ (r : RowTypes). length (whole_of r)) same

-- those of a SINGLE node are its own
single_columns : (path : Path) (step : NodeStep) (keys : List ℕ) (calls : List Call) (below t : RowTypes) → step ≡ Single
    → aggregate_types path step keys calls below ≡ Ok t → whole_of t ≡ t.columns
single_columns path Single keys calls below t is e =
    let types = below.columns in
    let made = step_types Single types keys calls in
    let by_calls = entry_fault path key.Calls (position_from (takes_not types) 0 calls) in
    let h = (unless_fault (entry_fault path key.Keys (position_from (nat_le (length types)) 0 keys)) (or_fault by_calls (Ok made)) t e).1 in
    let same : made ≡ t = cc (unless_fault by_calls (Ok made) t h).1 in
    subst (λ (r : RowTypes). whole_of r ≡ r.columns) same refl
single_columns path Partial keys calls below t is e = absurd cc

module _ (first : ℕ) (later : List FragmentForm) (types : List RowTypes) (parts : List Part) (all : AllStand later types parts) where
  -- the root that a source reads
  pub root_read : (operator : Option Halved) (fragment : ℕ) (r : Reads first later operator fragment)
      → Rooted operator (half_keys r.f.root) (read_from first types fragment) (part_read first parts fragment)
  root_read operator fragment r =
      let stands = all (fragment - first) r.f r.at in
      subst (λ h. Rooted h (half_keys r.f.root) (read_from first types fragment) (part_read first parts fragment)) r.is stands.root

  abbrev wide : NodeForm → ℕ
  wide node = width_of (tree_of_run (node_run first parts node))

  group_width : (id : ℕ) (path : Path) (input : NodeForm) (t : RowTypes) → Over first later aggregates input
      → typed_then (node_types first types path input) final_rows ≡ Ok t → wide (aggregate_final id input) ≡ length t.columns
  group_width id path input t o e =
      let part = part_read first parts o.fragment in
      let below = read_from first types o.fragment in
      let g = root_read (Some aggregates) o.fragment o.reads in
      let found = subst (λ x. typed_then (node_types first types path x) final_rows ≡ Ok t) (sym o.is) e in
      let kinds = tree.types_of (tree_of_run g.below) in
      subst (λ x. wide (aggregate_final id x) ≡ length t.columns) o.is
      (ap (λ r. width_of (tree_of_run (one_over id o.source part.output part.tasks r))) g.is
      ∙ grouped_count (type_at kinds) (tree.call_kind kinds) g.by_keys g.calls ∙ g.width ∙ ap length (same_columns (whole_of below) t found))

  top_width : (id : ℕ) (path : Path) (input : NodeForm) (t : RowTypes) → Over first later top_ns input
      → typed_then (node_types first types path input) same_rows ≡ Ok t → wide (top_n_final id input) ≡ length t.columns
  top_width id path input t o e =
      let part = part_read first parts o.fragment in
      let below = read_from first types o.fragment in
      let g = root_read (Some top_ns) o.fragment o.reads in
      let found = subst (λ x. typed_then (node_types first types path x) same_rows ≡ Ok t) (sym o.is) e in
      subst (λ x. wide (top_n_final id x) ≡ length t.columns) o.is
      (ap (λ r. width_of (tree_of_run (one_over id o.source part.output part.tasks r))) g.is ∙ g.width ∙ ap length (same_columns below.columns t found))

  limit_width : (id : ℕ) (path : Path) (input : NodeForm) (t : RowTypes) → Over first later limits input
      → typed_then (node_types first types path input) same_rows ≡ Ok t → wide (limit_final id input) ≡ length t.columns
  limit_width id path input t o e =
      let part = part_read first parts o.fragment in
      let below = read_from first types o.fragment in
      let g = root_read (Some limits) o.fragment o.reads in
      let found = subst (λ x. typed_then (node_types first types path x) same_rows ≡ Ok t) (sym o.is) e in
      subst (λ x. wide (limit_final id x) ≡ length t.columns) o.is
      (ap (λ r. width_of (tree_of_run (one_over id o.source part.output part.tasks r))) g.is ∙ g.width ∙ ap length (same_columns below.columns t found))

  pub node_width : (path : Path) (node : NodeForm) (t : RowTypes) → Meets first later node → node_types first types path node ≡ Ok t → wide node ≡ length t.columns
  node_width path (scan id table columns kinds) t m e = ap length (same_columns kinds t e)
  node_width path (values id kinds rows) t m e =
      ap length (same_columns kinds t (unless_fault (cell_fault path (misfit_from kinds 0 rows)) (Ok (plain kinds)) t e).1)
  node_width path (remote id fragment) t m e =
      let r = has_read first later None fragment (fragment_read first later fragment) refl m in
      let same : read_from first types fragment ≡ t = cc e in
      (root_read None fragment r).1 ∙ ap (λ (x : RowTypes). length x.columns) same
  node_width path (filter id predicate input) t m e =
      typed_then_ok (node_types first types (under path key.Input) input) (filter_types path predicate) t _ e
      (λ below h g. node_width (under path key.Input) input below m h ∙ ap length (filter_columns path predicate below t g))
  node_width path (project id columns input) t m e =
      typed_then_ok (node_types first types (under path key.Input) input) (project_types path columns) t _ e
      (λ below h g. length-map columns (kind_of (tree.types_of (tree_of_run (node_run first parts input)))) ∙ project_count path columns below t g)
  node_width path (join id kind on filters left right) t m e =
      typed_then_ok (node_types first types (under path key.Left) left)
      (λ l. typed_then (node_types first types (under path key.Right) right) (join_types path on l)) t _ e
      (λ l h g. typed_then_ok (node_types first types (under path key.Right) right) (join_types path on l) t _ g
      (λ r h2 g2.
      let a = node_width (under path key.Left) left l m.0 h in
      let b = node_width (under path key.Right) right r m.1 h2 in
      length-append (tree.types_of (tree_of_run (node_run first parts left))) (tree.types_of (tree_of_run (node_run first parts right)))
      ∙ (λ i. a i + b i) ∙ sym (length-append l.columns r.columns) ∙ ap length (join_columns path on l r t g2)))
  node_width path (aggregate id step keys calls input) t m e =
      typed_then_ok (node_types first types (under path key.Input) input) (aggregate_types path step keys calls) t _ e
      (λ below h g.
      let kinds = tree.types_of (tree_of_run (node_run first parts input)) in
      grouped_count (type_at kinds) (tree.call_kind kinds) keys calls ∙ aggregate_count path step keys calls below t g
      ∙ ap length (single_columns path step keys calls below t m.0 g))
  node_width path (aggregate_final id input) t m e = group_width id (under path key.Input) input t (over_half first later aggregates input m) e
  node_width path (sort id keys input) t m e =
      typed_then_ok (node_types first types (under path key.Input) input) (sort_types path keys) t _ e
      (λ below h g. node_width (under path key.Input) input below m h ∙ ap length (sorted_columns path keys below t g))
  node_width path (top_n id step count keys input) t m e =
      typed_then_ok (node_types first types (under path key.Input) input) (sort_types path keys) t _ e
      (λ below h g. node_width (under path key.Input) input below m.1 h ∙ ap length (sorted_columns path keys below t g))
  node_width path (top_n_final id input) t m e = top_width id (under path key.Input) input t (over_half first later top_ns input m) e
  node_width path (limit id step count input) t m e =
      typed_then_ok (node_types first types (under path key.Input) input) same_rows t _ e
      (λ below h g. node_width (under path key.Input) input below m.1 h ∙ ap length (limited_columns below t g))
  node_width path (limit_final id input) t m e = limit_width id (under path key.Input) input t (over_half first later limits input m) e
  node_width path (union id left right) t m e =
      typed_then_ok (node_types first types (under path key.Left) left)
      (λ l. typed_then (node_types first types (under path key.Right) right) (union_types path l)) t _ e
      (λ l h g. typed_then_ok (node_types first types (under path key.Right) right) (union_types path l) t _ g
      (λ r h2 g2. node_width (under path key.Left) left l m.0 h ∙ ap length (union_columns path l r t g2)))
