-- The tree of a typed plan as it runs, over tables of the declared columns: in any number of fragments.
use Rattle.std.proofs.Common.{◌≡◌, ℕ, ◌+◌, ◌-◌, zero, suc, List, [], ◌∷◌, ◌++◌, length, map, Bool, true, false, refl, ap, sym, ◌∙◌, subst, arith}
use Rattle.std.specs.Prelude.{IsTrue, ◌==◌, Option, Some, None, Result, Ok, Err, slice_get, nat_le, nat_lt, if◌then◌else◌, unwrap_or}
use Rattle.std.specs.List.{position_from}
use Rattle.std.proofs.lemmas.Bool.{eqb-true}
use Rattle.std.specs.Cmp.Lexicographic.{pointwise}
use Rattle.sql_values.specs.declared.order.KeySpec.{KeySpec}
use Rattle.sql_values.specs.declared.relational.Call.{Call}
use Rattle.sql_values.specs.declared.types.SqlType.{SqlType}
use Rattle.sql_values.specs.declared.types.SqlType.TheVariants.{Boolean, Bigint, Decimal, Varchar, Date}
use Rattle.sql_values.specs.declared.table.Table.{Table}
use Rattle.sql_functions.specs.CallTypes.{is_boolean, same_type}
use Rattle.json_paths.specs.declared.key.Key.TheVariants as key
use Rattle.sql_exprs.specs.Typing.{Path, form_type, typed_then, under}
use Rattle.sql_exprs.proofs.TypingLemmas.{typed_then_ok}
use Rattle.accumulators.specs.Limits.{are_allowed}
use Rattle.plan_docs.specs.declared.node.NodeStep.{NodeStep}
use Rattle.plan_docs.specs.declared.node.NodeStep.TheVariants.{Single, Partial}
use Rattle.plan_docs.specs.declared.plan.TableDoc.{TableDoc}
use Rattle.plan_docs.specs.Nodes.{NodeForm, scan, values, remote, filter, project, join, aggregate, aggregate_final, sort, top_n, top_n_final, limit, limit_final, union}
use Rattle.plan_docs.specs.Plans.{FragmentForm, PlanForm}
use Rattle.plan_trees.specs.TreeTypes as tree
use Rattle.plan_types.specs.declared.row_types.RowTypes.{RowTypes}
use Rattle.plan_types.specs.RowTypes.{plain, whole_of}
use Rattle.plan_types.specs.Aggregates.{step_types, takes_not, whole_types}
use Rattle.plan_types.specs.Cells.{cell_fault, misfit_from}
use Rattle.plan_types.specs.Faults.{entry_fault, or_fault}
use Rattle.plan_types.specs.Nodes.{final_rows, node_types, read_from, same_rows}
use Rattle.plan_types.specs.Operators.{aggregate_types, boolean_rows, column_types, filter_types, is_key_beyond, is_unequal, join_types, project_types, sort_types, union_types}
use Rattle.plan_types.specs.Plans.{all_types, fragment_types, output_fault, plan_types, result_fault, root_path}
use Rattle.plan_run_laws.specs.RunPlans.{RunPlan, tree_of_run}
use Rattle.plan_run_laws.specs.RunPlans as run
use Rattle.plan_spreads.specs.Halves.{AllMeet, Halved, HalvesMeet, Meets, RootMeets, aggregates, top_ns, limits, half}
use Rattle.plan_spreads.specs.Runs.{Part, fragment_parts, no_part, node_run, one_over, one_with, part_read}
use Rattle.plan_spreads.specs.Sources.{fragment_read}
use Rattle.plan_spreads.proofs.EachLemmas.{first_true, second_true}
use Rattle.plan_spreads.proofs.PlanLemmas.{all_meet}
use Rattle.plan_spreads.proofs.ReadParts.{Over, Reads, has_read, over_half}
use Rattle.tree_evaluator.specs.Fits.{FitsTables, TablesFit}
use Rattle.tree_evaluator.specs.Stops.{rows_of_table}
use Rattle.plan_fit_laws.specs.Tables.{HaveColumns}
use Rattle.plan_fit_laws.proofs.CellLemmas.{rows_fit}
use Rattle.plan_fit_laws.proofs.SoundLemmas.{AllWellMade, IsWellMade}
use Rattle.plan_fit_laws.proofs.TypedLemmas.{are_typed, boolean_same, calls_allowed, joined_columns, no_cell, no_entry, same_columns, scan_fit, unless_fault}

-- types that are the same are one
same_is : (k l : SqlType) → same_type k l ≡ true → k ≡ l
same_is Boolean Boolean h = refl
same_is Bigint Bigint h = refl
same_is (Decimal p s) (Decimal q t) h =
    let one = eqb-true p q (first_true (p == q) (s == t) h) in
    let two = eqb-true s t (second_true (p == q) (s == t) h) in
    ap (λ n. Decimal n s) one ∙ ap (λ n. Decimal q n) two
same_is Varchar Varchar h = refl
same_is Date Date h = refl
same_is k l h = absurd cc

all_same : (xs ys : List SqlType) → pointwise same_type xs ys ≡ true → xs ≡ ys
all_same [] [] h = refl
all_same [] (y ∷ ys) h = absurd cc
all_same (x ∷ xs) [] h = absurd cc
all_same (x ∷ xs) (y ∷ ys) h =
    let one = same_is x y (first_true (same_type x y) (pointwise same_type xs ys) h) in
    let rest = all_same xs ys (second_true (same_type x y) (pointwise same_type xs ys) h) in
    ap (λ z. z ∷ xs) one ∙ ap (λ zs. y ∷ zs) rest

when_same : (b : Bool) (columns : RowTypes) (path : Path) (t : RowTypes) → (if b then Ok columns else Err path) ≡ Ok t → (b ≡ true) × (columns ≡ t)
when_same true columns path t e = (refl, cc e)
when_same false columns path t e = absurd cc

-- what follows from the types of an aggregate's rows
record Grouped (step : NodeStep) (below : List SqlType) (keys : List ℕ) (calls : List Call) (types : RowTypes) : Type 0 where
  is : step_types step below keys calls ≡ types
  allowed : IsTrue (are_allowed below calls)

grouped : (path : Path) (step : NodeStep) (keys : List ℕ) (calls : List Call) (below types : RowTypes) → aggregate_types path step keys calls below ≡ Ok types
    → Grouped step below.columns keys calls types
grouped path step keys calls below types e =
    let behind : Result RowTypes Path = Ok (step_types step below.columns keys calls) in
    let last = entry_fault path key.Calls (position_from (takes_not below.columns) 0 calls) in
    let first = unless_fault (entry_fault path key.Keys (position_from (nat_le (length below.columns)) 0 keys)) (or_fault last behind) types e in
    let second = unless_fault last behind types first.1 in
    record { is = cc second.1; allowed = calls_allowed below.columns 0 calls (no_entry path key.Calls (position_from (takes_not below.columns) 0 calls) second.0) }

module _ (tables : List Table) where
  abbrev Fits : RunPlan → Type 0
  Fits r = FitsTables (tree_of_run r) (map rows_of_table tables)

  abbrev Has : RunPlan → List SqlType → Type 0
  Has r columns = tree.types_of (tree_of_run r) ≡ columns

  -- a PARTIAL root and the FINAL node over it are one
  over_same : (id source : ℕ) (o : run.Output) (tasks : ℕ) (root : RunPlan) → tree.types_of (tree_of_run (one_over id source o tasks root)) ≡ tree.types_of (tree_of_run root)
  over_same id source o tasks (run.aggregate half keys calls input) = refl
  over_same id source o tasks root = refl

  over_fits : (id source : ℕ) (o : run.Output) (tasks : ℕ) (root : RunPlan) → Fits root → Fits (one_over id source o tasks root)
  over_fits id source o tasks (run.aggregate half keys calls input) h = h
  over_fits id source o tasks root h = h

  with_same : (id : ℕ) (r : RunPlan) → tree.types_of (tree_of_run (one_with id r)) ≡ tree.types_of (tree_of_run r)
  with_same id (run.remote source o tasks root) = over_same id source o tasks root
  with_same id r = refl

  with_fits : (id : ℕ) (r : RunPlan) → Fits r → Fits (one_with id r)
  with_fits id (run.remote source o tasks root) h = over_fits id source o tasks root h
  with_fits id r h = h

  -- the run has these types, and they are those of no half of an aggregate
  pub record Agrees (types : RowTypes) (r : RunPlan) : Type 0 where
    pub same : Has r types.columns
    pub plain_is : types.whole ≡ None
    pub fits : Fits r

  -- what is known of a fragment: a half of an aggregate has the types of the whole
  pub record Known (f : FragmentForm) (types : RowTypes) (r : RunPlan) : Type 0 where
    pub same : Has r (whole_of types)
    pub plain_is : (half f.root ≡ Some aggregates → ⊥) → types.whole ≡ None
    pub fits : Fits r

  abbrev AllKnown : List FragmentForm → List RowTypes → List Part → Type 0
  AllKnown later types parts =
      (k : ℕ) (f : FragmentForm) → slice_get later k ≡ Some f → Known f (unwrap_or (slice_get types k) (plain [])) (unwrap_or (slice_get parts k) no_part).root

  whole_is : (types : RowTypes) → types.whole ≡ None → whole_of types ≡ types.columns
  whole_is types none = ap (λ (o : Option (List SqlType)). unwrap_or o types.columns) none

  plainly : (columns : List SqlType) (types : RowTypes) → plain columns ≡ types → types.whole ≡ None
  plainly columns types is = sym (ap (λ (t : RowTypes). t.whole) is)

  ok_plain : (columns : List SqlType) (types : RowTypes) (r : Result RowTypes Path) → r ≡ Ok (plain columns) → r ≡ Ok types → types.whole ≡ None
  ok_plain columns types r is e = let same : plain columns ≡ types = cc (is, e) in plainly columns types same

  boolean_plain : (b : Bool) (path : Path) (columns : List SqlType) (types : RowTypes) → (if b then Ok (plain columns) else Err path) ≡ Ok types → types.whole ≡ None
  boolean_plain true path columns types e = let same : plain columns ≡ types = cc e in plainly columns types same
  boolean_plain false path columns types e = absurd cc

  joined_plain : (b : Bool) (o : Option Path) (path : Path) (columns : List SqlType) (types : RowTypes) → (if b then Err path else or_fault o (Ok (plain columns))) ≡ Ok types → types.whole ≡ None
  joined_plain true o path columns types e = absurd cc
  joined_plain false o path columns types e = let same : plain columns ≡ types = cc ((unless_fault o (Ok (plain columns)) types e).1) in plainly columns types same

  module _ (docs : List TableDoc) (own : HaveColumns docs tables) (fit : TablesFit tables) (first : ℕ) (later : List FragmentForm) (types : List RowTypes) (parts : List Part)
      (known : AllKnown later types parts) where
    abbrev Told : Path → NodeForm → RowTypes → Type 0
    Told path node t = node_types first types path node ≡ Ok t

    abbrev Runs : NodeForm → RowTypes → Type 0
    Runs node t = Agrees t (node_run first parts node)

    -- a source of a fragment whose root is no half of an aggregate
    source_agrees : (id fragment : ℕ) (operator : Option Halved) (t : RowTypes) → (operator ≡ Some aggregates → ⊥) → Reads first later operator fragment
        → read_from first types fragment ≡ t → Runs (remote id fragment) t
    source_agrees id fragment operator t other r is =
        let k = known (fragment - first) r.f r.at in
        let none = k.plain_is (λ h. other (sym r.is ∙ h)) in
        record {
          same = k.same ∙ whole_is (read_from first types fragment) none ∙ ap (λ (u : RowTypes). u.columns) is;
          plain_is = sym (ap (λ (u : RowTypes). u.whole) is) ∙ none;
          fits = k.fits;
        }

    -- a FINAL node over a half of an aggregate
    final_agrees : (id : ℕ) (path : Path) (input : NodeForm) (t : RowTypes) → Over first later aggregates input → Told path (aggregate_final id input) t → Runs (aggregate_final id input) t
    final_agrees id path input t o e =
        let k = known (o.fragment - first) o.reads.f o.reads.at in
        let read = read_from first types o.fragment in
        let told : typed_then (node_types first types (under path key.Input) (remote o.source o.fragment)) final_rows ≡ Ok t =
        subst (λ (n : NodeForm). typed_then (node_types first types (under path key.Input) n) final_rows ≡ Ok t) (sym o.is) e in
        let same : plain (whole_of read) ≡ t = cc told in
        let here : Agrees t (one_with id (node_run first parts (remote o.source o.fragment))) = record {
          same = with_same id (node_run first parts (remote o.source o.fragment)) ∙ k.same ∙ ap (λ (u : RowTypes). u.columns) same;
          plain_is = plainly (whole_of read) t same;
          fits = with_fits id (node_run first parts (remote o.source o.fragment)) k.fits;
        } in
        subst (λ (n : NodeForm). Agrees t (one_with id (node_run first parts n))) o.is here

    -- and over one of another operator
    other_agrees : (id : ℕ) (operator : Halved) (path : Path) (input : NodeForm) (t : RowTypes) → (Some operator ≡ Some aggregates → ⊥) → Over first later operator input
        → typed_then (node_types first types (under path key.Input) input) same_rows ≡ Ok t → Agrees t (one_with id (node_run first parts input))
    other_agrees id operator path input t other o e =
        let read = read_from first types o.fragment in
        let told : typed_then (node_types first types (under path key.Input) (remote o.source o.fragment)) same_rows ≡ Ok t =
        subst (λ (n : NodeForm). typed_then (node_types first types (under path key.Input) n) same_rows ≡ Ok t) (sym o.is) e in
        let same : plain read.columns ≡ t = cc told in
        let below = source_agrees o.source o.fragment (Some operator) read other o.reads refl in
        let here : Agrees t (one_with id (node_run first parts (remote o.source o.fragment))) = record {
          same = with_same id (node_run first parts (remote o.source o.fragment)) ∙ below.same ∙ ap (λ (u : RowTypes). u.columns) same;
          plain_is = plainly read.columns t same;
          fits = with_fits id (node_run first parts (remote o.source o.fragment)) below.fits;
        } in
        subst (λ (n : NodeForm). Agrees t (one_with id (node_run first parts n))) o.is here

    -- rows that pass an operator as they are
    passed : (r : RunPlan) (below t : RowTypes) → Agrees below r → same_rows below ≡ Ok t → (over : RunPlan) → tree.types_of (tree_of_run over) ≡ tree.types_of (tree_of_run r) → (Fits r → Fits over)
        → Agrees t over
    passed r below t ih g over is fits =
        record { same = is ∙ ih.same ∙ same_columns below t g; plain_is = (let same : plain below.columns ≡ t = cc g in plainly below.columns t same); fits = fits ih.fits }

    sorted : (path : Path) (keys : List KeySpec) (below t : RowTypes) → sort_types path keys below ≡ Ok t → same_rows below ≡ Ok t
    sorted path keys below t e =
        (unless_fault (entry_fault path key.Keys (position_from (is_key_beyond (length below.columns)) 0 keys)) (Ok (plain below.columns)) t e).1

    node_agrees : (path : Path) (node : NodeForm) (t : RowTypes) → Meets first later node → IsWellMade docs node → Told path node t → Runs node t
    node_agrees path (scan id table columns kinds) t m w e =
        let same : plain kinds ≡ t = cc e in
        record {
          same = ap (λ (u : RowTypes). u.columns) same;
          plain_is = plainly kinds t same;
          fits = (w.0, w.1, scan_fit docs tables table columns kinds own fit w.1 w.2);
        }
    node_agrees path (values id kinds rows) t m w e =
        let none = unless_fault (cell_fault path (misfit_from kinds 0 rows)) (Ok (plain kinds)) t e in
        record {
          same = same_columns (plain kinds) t none.1;
          plain_is = (let same : plain kinds ≡ t = cc (none.1) in plainly kinds t same);
          fits = (w.0, rows_fit kinds 0 rows w.1 w.2 (no_cell path (misfit_from kinds 0 rows) none.0));
        }
    node_agrees path (remote id fragment) t m w e =
        let is : read_from first types fragment ≡ t = cc e in
        source_agrees id fragment None t (λ h. cc h) (has_read first later None fragment (fragment_read first later fragment) refl m) is
    node_agrees path (filter id predicate input) t m w e =
        typed_then_ok (node_types first types (under path key.Input) input) (filter_types path predicate) t (Runs (filter id predicate input) t) e
        (λ below h g.
        let ih = node_agrees (under path key.Input) input below m w h in
        typed_then_ok (form_type below.columns (under path key.Predicate) predicate) (boolean_rows (under path key.Predicate) below.columns) t (Runs (filter id predicate input) t) g
        (λ kind h2 g2. record {
          same = ih.same ∙ boolean_same (is_boolean kind) (under path key.Predicate) below.columns t g2;
          plain_is = boolean_plain (is_boolean kind) (under path key.Predicate) below.columns t g2;
          fits = (
            record { path = under path key.Predicate; kind = kind; is = subst (λ cs. form_type cs (under path key.Predicate) predicate ≡ Ok kind) (sym ih.same) h2 },
            ih.fits,
          );
        }))
    node_agrees path (project id columns input) t m w e =
        typed_then_ok (node_types first types (under path key.Input) input) (project_types path columns) t (Runs (project id columns input) t) e
        (λ below h g.
        let ih = node_agrees (under path key.Input) input below m w.1 h in
        typed_then_ok (column_types below.columns (under path key.Columns) 0 columns) (λ ts. Ok (plain ts)) t (Runs (project id columns input) t) g
        (λ kinds h2 g2.
        let typed = are_typed (tree.types_of (tree_of_run (node_run first parts input))) (under path key.Columns) 0 columns kinds
        (subst (λ cs. column_types cs (under path key.Columns) 0 columns ≡ Ok kinds) (sym ih.same) h2) in
        let same : plain kinds ≡ t = cc g2 in
        record { same = typed.same ∙ ap (λ (u : RowTypes). u.columns) same; plain_is = plainly kinds t same; fits = ((w.0, typed.typed), ih.fits) }))
    node_agrees path (join id kind on filters left right) t m w e =
        typed_then_ok (node_types first types (under path key.Left) left) (λ l. typed_then (node_types first types (under path key.Right) right) (join_types path on l)) t
        (Runs (join id kind on filters left right) t) e
        (λ l h g. typed_then_ok (node_types first types (under path key.Right) right) (join_types path on l) t (Runs (join id kind on filters left right) t) g
        (λ r h2 g2.
        let lefts = node_agrees (under path key.Left) left l m.0 w.0 h in
        let rights = node_agrees (under path key.Right) right r m.1 w.1 h2 in
        let wide = nat_lt 256 (length l.columns + length r.columns) in
        let fault = entry_fault path key.On (position_from (is_unequal l.columns r.columns) 0 on) in
        let both : tree.types_of (tree_of_run (node_run first parts left)) ++ tree.types_of (tree_of_run (node_run first parts right)) ≡ l.columns ++ r.columns =
        ap (λ (ts : List SqlType). ts ++ tree.types_of (tree_of_run (node_run first parts right))) lefts.same ∙ ap (λ (ts : List SqlType). l.columns ++ ts) rights.same in
        record {
          same = both ∙ joined_columns wide fault path (l.columns ++ r.columns) t g2;
          plain_is = joined_plain wide fault path (l.columns ++ r.columns) t g2;
          fits = (lefts.fits, rights.fits);
        }))
    node_agrees path (aggregate id step keys calls input) t m w e =
        typed_then_ok (node_types first types (under path key.Input) input) (aggregate_types path step keys calls) t (Runs (aggregate id step keys calls input) t) e
        (λ below h g.
        let ih = node_agrees (under path key.Input) input below m.1 w.1 h in
        let found = grouped path step keys calls below t g in
        let single : plain (whole_types below.columns keys calls) ≡ t = subst (λ (s : NodeStep). step_types s below.columns keys calls ≡ t) m.0 found.is in
        record {
          same = ap (λ (ts : List SqlType). whole_types ts keys calls) ih.same ∙ ap (λ (u : RowTypes). u.columns) single;
          plain_is = plainly (whole_types below.columns keys calls) t single;
          fits = ((w.0, subst (λ (ts : List SqlType). IsTrue (are_allowed ts calls)) (sym ih.same) found.allowed), ih.fits);
        })
    node_agrees path (aggregate_final id input) t m w e = final_agrees id path input t (over_half first later aggregates input m) e
    node_agrees path (sort id keys input) t m w e =
        typed_then_ok (node_types first types (under path key.Input) input) (sort_types path keys) t (Runs (sort id keys input) t) e
        (λ below h g. passed (node_run first parts input) below t (node_agrees (under path key.Input) input below m w h) (sorted path keys below t g)
        (node_run first parts (sort id keys input)) refl (λ f. (tt, f)))
    node_agrees path (top_n id step count keys input) t m w e =
        typed_then_ok (node_types first types (under path key.Input) input) (sort_types path keys) t (Runs (top_n id step count keys input) t) e
        (λ below h g. passed (node_run first parts input) below t (node_agrees (under path key.Input) input below m.1 w h) (sorted path keys below t g)
        (node_run first parts (top_n id step count keys input)) refl (λ f. (tt, f)))
    node_agrees path (top_n_final id input) t m w e = other_agrees id top_ns path input t (λ h. cc h) (over_half first later top_ns input m) e
    node_agrees path (limit id step count input) t m w e =
        typed_then_ok (node_types first types (under path key.Input) input) same_rows t (Runs (limit id step count input) t) e
        (λ below h g. passed (node_run first parts input) below t (node_agrees (under path key.Input) input below m.1 w h) g
        (node_run first parts (limit id step count input)) refl (λ f. (tt, f)))
    node_agrees path (limit_final id input) t m w e = other_agrees id limits path input t (λ h. cc h) (over_half first later limits input m) e
    node_agrees path (union id left right) t m w e =
        typed_then_ok (node_types first types (under path key.Left) left) (λ l. typed_then (node_types first types (under path key.Right) right) (union_types path l)) t
        (Runs (union id left right) t) e
        (λ l h g. typed_then_ok (node_types first types (under path key.Right) right) (union_types path l) t (Runs (union id left right) t) g
        (λ r h2 g2.
        let lefts = node_agrees (under path key.Left) left l m.0 w.0 h in
        let rights = node_agrees (under path key.Right) right r m.1 w.1 h2 in
        let both = all_same l.columns r.columns (when_same (pointwise same_type l.columns r.columns) (plain l.columns) path t g2).0 in
        let same = (when_same (pointwise same_type l.columns r.columns) (plain l.columns) path t g2).1 in
        record {
          same = lefts.same ∙ ap (λ (u : RowTypes). u.columns) same;
          plain_is = plainly l.columns t same;
          fits = (lefts.same ∙ both ∙ sym rights.same, lefts.fits, rights.fits);
        }))

    -- a root may be the first half of an operator
    root_known : (path : Path) (f : FragmentForm) (t : RowTypes) → RootMeets first later f.root → IsWellMade docs f.root → Told path f.root t → Known f t (node_run first parts f.root)
    root_known path f t m w e = by f.root refl m w e
      where
        plain_known : (node : NodeForm) → f.root ≡ node → Runs node t → Known f t (node_run first parts node)
        plain_known node is h = record { same = h.same ∙ sym (whole_is t h.plain_is); plain_is = λ other. h.plain_is; fits = h.fits }

        by : (node : NodeForm) → f.root ≡ node → RootMeets first later node → IsWellMade docs node → Told path node t → Known f t (node_run first parts node)
        by (aggregate id Single keys calls input) is m w e = plain_known (aggregate id Single keys calls input) is (node_agrees path (aggregate id Single keys calls input) t (refl, m) w e)
        by (aggregate id Partial keys calls input) is m w e =
            typed_then_ok (node_types first types (under path key.Input) input) (aggregate_types path Partial keys calls) t (Known f t (node_run first parts (aggregate id Partial keys calls input))) e
            (λ below h g.
            let ih = node_agrees (under path key.Input) input below m w.1 h in
            let found = grouped path Partial keys calls below t g in
            record {
              same = ap (λ (ts : List SqlType). whole_types ts keys calls) ih.same ∙ ap whole_of found.is;
              plain_is = λ other. absurd (other (ap half is));
              fits = ((w.0, subst (λ (ts : List SqlType). IsTrue (are_allowed ts calls)) (sym ih.same) found.allowed), ih.fits);
            })
        by (top_n id step count keys input) is m w e =
            typed_then_ok (node_types first types (under path key.Input) input) (sort_types path keys) t (Known f t (node_run first parts (top_n id step count keys input))) e
            (λ below h g. plain_known (top_n id step count keys input) is
            (passed (node_run first parts input) below t (node_agrees (under path key.Input) input below m w h) (sorted path keys below t g)
            (node_run first parts (top_n id step count keys input)) refl (λ k. (tt, k))))
        by (limit id step count input) is m w e =
            typed_then_ok (node_types first types (under path key.Input) input) same_rows t (Known f t (node_run first parts (limit id step count input))) e
            (λ below h g. plain_known (limit id step count input) is
            (passed (node_run first parts input) below t (node_agrees (under path key.Input) input below m w h) g
            (node_run first parts (limit id step count input)) refl (λ k. (tt, k))))
        by (scan id table columns kinds) is m w e = plain_known (scan id table columns kinds) is (node_agrees path (scan id table columns kinds) t m w e)
        by (values id kinds rows) is m w e = plain_known (values id kinds rows) is (node_agrees path (values id kinds rows) t m w e)
        by (remote id fragment) is m w e = plain_known (remote id fragment) is (node_agrees path (remote id fragment) t m w e)
        by (filter id predicate input) is m w e = plain_known (filter id predicate input) is (node_agrees path (filter id predicate input) t m w e)
        by (project id columns input) is m w e = plain_known (project id columns input) is (node_agrees path (project id columns input) t m w e)
        by (join id kind on filters left right) is m w e =
            plain_known (join id kind on filters left right) is (node_agrees path (join id kind on filters left right) t m w e)
        by (aggregate_final id input) is m w e = plain_known (aggregate_final id input) is (node_agrees path (aggregate_final id input) t m w e)
        by (sort id keys input) is m w e = plain_known (sort id keys input) is (node_agrees path (sort id keys input) t m w e)
        by (top_n_final id input) is m w e = plain_known (top_n_final id input) is (node_agrees path (top_n_final id input) t m w e)
        by (limit_final id input) is m w e = plain_known (limit_final id input) is (node_agrees path (limit_final id input) t m w e)
        by (union id left right) is m w e = plain_known (union id left right) is (node_agrees path (union id left right) t m w e)

    fragment_known : (i : ℕ) (f : FragmentForm) (t : RowTypes) → first ≡ i + 1 → RootMeets first later f.root → IsWellMade docs f.root → fragment_types types i f ≡ Ok t
        → Known f t (node_run first parts f.root)
    fragment_known i f t is m w e =
        typed_then_ok (node_types (i + 1) types (root_path i) f.root) (λ ts. or_fault (output_fault i ts.columns f.output) (Ok ts)) t (Known f t (node_run first parts f.root)) e
        (λ ts typed g.
        let same : ts ≡ t = cc ((unless_fault (output_fault i ts.columns f.output) (Ok ts) t g).1) in
        subst (λ u. Known f u (node_run first parts f.root)) same
        (root_known (root_path i) f ts m w (ap (λ n. node_types n types (root_path i) f.root) is ∙ typed)))

  all_known : (docs : List TableDoc) → HaveColumns docs tables → TablesFit tables → (tasks i : ℕ) (fs : List FragmentForm) (ts : List RowTypes) → AllMeet i fs → AllWellMade docs fs
      → all_types i fs ≡ Ok ts → AllKnown fs ts (fragment_parts tasks i fs)
  all_known docs own fit tasks i [] ts m w e k f is = absurd cc
  all_known docs own fit tasks i (g ∷ fs) ts m w e k f is =
      let parts = fragment_parts tasks (i + 1) fs in
      typed_then_ok (all_types (i + 1) fs) (λ later. typed_then (fragment_types later i g) (λ types. Ok (types ∷ later))) ts _ e
      (λ later h1 k1. typed_then_ok (fragment_types later i g) (λ types. Ok (types ∷ later)) ts _ k1
      (λ t h2 k2.
      let rest = all_known docs own fit tasks (i + 1) fs later m.1 w.1 h1 in
      let same : t ∷ later ≡ ts = cc k2 in
      subst (λ (us : List RowTypes). Known f (unwrap_or (slice_get us k) (plain [])) (unwrap_or (slice_get (fragment_parts tasks i (g ∷ fs)) k) no_part).root) same
      (at_place k f is later t (fragment_known docs own fit (i + 1) fs later parts rest i g t refl m.0 w.0 h2) rest)))
    where
      at_place : (k : ℕ) (f : FragmentForm) → slice_get (g ∷ fs) k ≡ Some f → (later : List RowTypes) (t : RowTypes)
          → Known g t (node_run (i + 1) (fragment_parts tasks (i + 1) fs) g.root) → AllKnown fs later (fragment_parts tasks (i + 1) fs)
          → Known f (unwrap_or (slice_get (t ∷ later) k) (plain [])) (unwrap_or (slice_get (fragment_parts tasks i (g ∷ fs)) k) no_part).root
      at_place zero f is later t first rest = let same : g ≡ f = cc is in subst (λ x. Known x t (node_run (i + 1) (fragment_parts tasks (i + 1) fs) g.root)) same first
      at_place (suc j) f is later t first rest = rest j f is

  pub parts_fit : (docs : List TableDoc) → HaveColumns docs tables → TablesFit tables → (plan : PlanForm) (types : List RowTypes) → plan_types plan ≡ Ok types → HalvesMeet plan.fragments
      → AllWellMade docs plan.fragments → (tasks k : ℕ) (f : FragmentForm) → slice_get plan.fragments k ≡ Some f → Fits (part_read 0 (fragment_parts tasks 0 plan.fragments) k).root
  unfolding plan_types
  parts_fit docs own fit plan types h m w tasks k f is =
      typed_then_ok (all_types 0 plan.fragments) (λ ts. or_fault (result_fault (length plan.output) ts) (Ok ts)) types _ h
      (λ ts typed g.
      let all = all_known docs own fit tasks 0 plan.fragments ts (all_meet plan.fragments m) w typed in
      let same : k ≡ k - 0 = omega arith in
      subst (λ (j : ℕ). Fits (unwrap_or (slice_get (fragment_parts tasks 0 plan.fragments) j) no_part).root) same (all k f is).fits)
