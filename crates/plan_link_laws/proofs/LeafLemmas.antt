-- In the plan of a document that passes the checks, scans have a type for each column, and constant rows a value for
-- each type.
use Rattle.std.proofs.Common.{◌≡◌, ℕ, ◌+◌, zero, suc, List, [], ◌∷◌, ◌++◌, length, map, Option, Some, None, refl, ap, sym, ◌∙◌, subst}
use Rattle.std.specs.Prelude.{slice_get, ◌==◌}
use Rattle.std.specs.List.{list_all}
use Rattle.std.proofs.lemmas.Bool.{eqb-true}
use Rattle.std.proofs.lemmas.List.{length-map}
use Rattle.std.proofs.lemmas.List.Elements.{All-cons, All-nil}
use Rattle.serde_json.specs.Data.{Data, Items, no_items, item}
use Rattle.serde_json.specs.Events.{items_len}
use Rattle.serde_json.specs.Find.{as_array}
use Rattle.sql_values.specs.declared.types.SqlType.{SqlType}
use Rattle.sql_values.specs.declared.value.Value.{Value}
use Rattle.relation_laws.specs.Widths.{HaveWidth}
use Rattle.json_paths.specs.declared.key.Key.{Key}
use Rattle.json_paths.specs.declared.key.Key.TheVariants as key
use Rattle.json_paths.specs.declared.step.Step.{Step}
use Rattle.json_paths.specs.declared.step.Step.TheVariants as step
use Rattle.plan_grammar.specs.declared.kind.Kind.TheVariants as kind
use Rattle.plan_grammar.specs.declared.tables.Part.{Part}
use Rattle.plan_grammar.specs.declared.words.OpWord.{OpWord}
use Rattle.plan_grammar.specs.declared.words.OpWord.TheVariants as op
use Rattle.plan_grammar.specs.declared.words.StepWord.{StepWord}
use Rattle.plan_grammar.specs.declared.words.StepWord.TheVariants as word
use Rattle.plan_grammar.specs.Grammar.{join_parts, parts_of_node}
use Rattle.plan_grammar.specs.Json.{count_of, entries, entries_count, entries_in, entries_of, entries_under, has_entry, under}
use Rattle.plan_grammar.specs.Spots.{Spot, spot}
use Rattle.plan_grammar.specs.Tables.{part}
use Rattle.plan_grammar.specs.Tables as table
use Rattle.plan_grammar.specs.Words.{op_of, step_of}
use Rattle.plan_checks.specs.declared.shapes.Shape.TheVariants as shape
use Rattle.plan_checks.specs.Shapes.{has_shape, is_cell, is_list, is_wide, row_width}
use Rattle.plan_docs.specs.Cells.{cells_from, row_of_entries, rows_of_node}
use Rattle.plan_docs.specs.Documents.{fragment_of}
use Rattle.plan_docs.specs.Names.{column_place, column_type, scanned_columns}
use Rattle.plan_docs.specs.Nodes.{NodeForm}
use Rattle.plan_docs.specs.Parts.{kinds_of}
use Rattle.plan_docs.specs.ReadNodes.{inner_node, node_at, node_by, node_form}
use Rattle.plan_docs.specs.Words.{type_of}
use Rattle.plan_spreads.specs.Widths.{AllLeavesFit, LeavesFit}
use Rattle.plan_spreads.proofs.EachLemmas.{first_true, second_true}
use Rattle.plan_link_laws.proofs.InputLemmas.{input_at, join_left, join_right, step_node, step_parts}
use Rattle.plan_link_laws.proofs.PlaceLemmas.{PartAt, RootAt, Sound, entry_there, here, not_false, part_there, root_at, sound_under}

length-entries : (ds : Items) → length (entries_of ds) ≡ items_len ds
length-entries no_items = refl
length-entries (item d ds) = ap suc (length-entries ds)

count-entries : (o : Option Items) → length (entries o) ≡ count_of o
count-entries None = refl
count-entries (Some ds) = length-entries ds

cells_count : (types : List SqlType) (i : ℕ) (ds : List Data) → length (cells_from types i ds) ≡ length ds
cells_count types i [] = refl
cells_count types i (d ∷ ds) = ap suc (cells_count types (i + 1) ds)

rows_fit : (types : List SqlType) (width : ℕ) (ds : List Data) → ((j : ℕ) (e : Data) → slice_get ds j ≡ Some e → length (entries_in e) ≡ width) → HaveWidth width (rows_of_node types ds)
rows_fit types width [] each = All-nil (λ (row : List Value). length row ≡ width)
rows_fit types width (d ∷ ds) each =
    All-cons (λ (row : List Value). length row ≡ width) (row_of_entries types d) (rows_of_node types ds) (cells_count types 0 (entries_in d) ∙ each 0 d refl)
    (rows_fit types width ds (λ j e at. each (suc j) e at))

step_leaves : (w : OpWord) (s : StepWord) (d : Data) (input : NodeForm) → LeavesFit input → LeavesFit (step_node w s d input)
step_leaves op.Aggregate word.Final d input h = h
step_leaves w word.Final d input h = h
step_leaves w s d input h = h

no_rows : HaveWidth 0 []
no_rows = All-nil (λ (row : List Value). length row ≡ 0)

module _ (document : Data) (all : List Spot) where
  -- a row of a values node has an entry for each type
  row_wide : (d : Data) (path : List Step) (owner : Data) (level : ℕ) → Sound document all d path owner kind.Row level → length (entries_in d) ≡ row_width owner
  row_wide d path owner level sound =
      let good = not_false (has_shape shape.Row (spot d path owner kind.Row level)) (here document all d path owner kind.Row level sound).shaped in
      let wide = first_true (is_wide (row_width owner) d) (list_all is_cell (entries_in d)) good in
      let count = second_true (is_list d) (entries_count d == row_width owner) wide in
      count-entries (as_array d) ∙ eqb-true (entries_count d) (row_width owner) count

  values_fit : (d : Data) (path : List Step) (owner : Data) (level : ℕ) → Sound document all d path owner kind.Node level → op_of d ≡ op.Values
      → HaveWidth (length (kinds_of (entries_under key.Types d))) (rows_of_node (kinds_of (entries_under key.Types d)) (entries_under key.Rows d))
  values_fit d path owner level sound is =
      let own = ap (λ (w : OpWord). parts_of_node w d) is in
      let ts = entries_under key.Types d in
      let rows : PartAt document all d path key.Rows kind.Rows level = part_there document all d path owner kind.Node level table.values 3 key.Rows kind.Rows sound refl own refl in
      let below = path ++ step.Key key.Rows ∷ [] in
      rows_fit (kinds_of ts) (length (kinds_of ts)) (entries_under key.Rows d)
      (λ j e at. row_wide e (below ++ step.Index j ∷ []) d level (entry_there document all d path key.Rows kind.Rows level rows refl j e at) ∙ sym (length-map ts type_of))

  module _ (n : ℕ) (d : Data) (path : List Step) (owner : Data) (level : ℕ) (sound : Sound document all d path owner kind.Node level)
      (below : (e : Data) (inner : List Step) → Sound document all e inner d kind.Node (level + 1) → LeavesFit (node_at n document e)) where
    input_leaves : (parts : List Part) (j : ℕ) (k : Key) (o : Option Data) → under k d ≡ o → parts_of_node (op_of d) d ≡ parts → slice_get parts j ≡ Some (part k kind.Node)
        → LeavesFit (inner_node (node_at n document) o)
    input_leaves parts j k None is own there = no_rows
    input_leaves parts j k (Some e) is own there = below e (path ++ step.Key k ∷ []) (sound_under document all d path owner kind.Node level parts j k kind.Node e sound own there is)

    own_parts : (w : OpWord) → op_of d ≡ w → parts_of_node (op_of d) d ≡ parts_of_node w d
    own_parts w is = ap (λ (x : OpWord). parts_of_node x d) is

    by_word : (w : OpWord) → op_of d ≡ w → LeavesFit (node_by (node_at n document) document d w)
    by_word op.Scan is =
        let ns = entries_under key.Columns d in
        let cs = scanned_columns document d in
        length-map ns (column_place cs) ∙ sym (length-map ns (column_type cs))
    by_word op.Values is = values_fit d path owner level sound is
    by_word op.Remote is = tt
    by_word op.Filter is = input_leaves table.filter 3 key.Input (under key.Input d) refl (own_parts op.Filter is) refl
    by_word op.Project is = input_leaves table.project 3 key.Input (under key.Input d) refl (own_parts op.Project is) refl
    by_word op.Join is =
        let parts = join_parts (has_entry key.Filters d) in (
          input_leaves parts 4 key.Left (under key.Left d) refl (own_parts op.Join is) (join_left (has_entry key.Filters d)),
          input_leaves parts 5 key.Right (under key.Right d) refl (own_parts op.Join is) (join_right (has_entry key.Filters d)),
        )
    by_word op.Sort is = input_leaves table.sort 3 key.Input (under key.Input d) refl (own_parts op.Sort is) refl
    by_word op.Union is = (
      input_leaves table.union 2 key.Left (under key.Left d) refl (own_parts op.Union is) refl,
      input_leaves table.union 3 key.Right (under key.Right d) refl (own_parts op.Union is) refl,
    )
    by_word op.Unknown is = no_rows
    by_word w is =
        let at = input_at w (step_of d) in
        step_leaves w (step_of d) d (inner_node (node_at n document) (under key.Input d))
        (input_leaves (step_parts w (step_of d)) at.place key.Input (under key.Input d) refl (own_parts w is) at.is)

  node_leaves : (n : ℕ) (d : Data) (path : List Step) (owner : Data) (level : ℕ) → Sound document all d path owner kind.Node level → LeavesFit (node_at n document d)
  unfolding node_at
  node_leaves zero d path owner level sound = no_rows
  node_leaves (suc n) d path owner level sound =
      by_word n d path owner level sound (λ e inner h. node_leaves n e inner d (level + 1) h) (op_of d) refl

  root_leaves : (i : ℕ) (g : Data) → RootAt document all i g → LeavesFit (fragment_of document g).root
  unfolding node_form
  root_leaves i g r =
      subst (λ (o : Option Data). LeavesFit (inner_node (node_form document) o)) (sym r.is)
      (node_leaves 32 r.root (step.Key key.Fragments ∷ step.Index i ∷ step.Key key.Root ∷ []) g 1 r.sound)

  all_leaves : (ds : List Data) → ((j : ℕ) (d : Data) → slice_get ds j ≡ Some d → LeavesFit (fragment_of document d).root) → AllLeavesFit (map (fragment_of document) ds)
  all_leaves [] each = tt
  all_leaves (d ∷ ds) each = (each 0 d refl, all_leaves ds (λ j e at. each (suc j) e at))

  pub fragments_leaves : Sound document all document [] document kind.Document 0 → AllLeavesFit (map (fragment_of document) (entries_under key.Fragments document))
  fragments_leaves sound = all_leaves (entries_under key.Fragments document) (λ j d at. root_leaves j d (root_at document all j d sound at))
