-- Each node of a document of which no check fails is well made: a scan of declared columns, rows of constants as wide as
-- their types, and operators with something to do.
use Rattle.std.proofs.Common.{◌≡◌, ℕ, ◌+◌, ◌<◌, ◌≤◌, zero, suc, List, [], ◌∷◌, ◌++◌, length, map, true, false, Option, Some, None, refl, ap, sym, ◌∙◌, subst, arith}
use Rattle.std.specs.Prelude.{slice_get, not, ◌&&◌, ◌==◌, nat_le, nat_lt}
use Rattle.std.specs.List.{list_all}
use Rattle.std.specs.Option.{is_some}
use Rattle.std.proofs.lemmas.Bool.{eqb-true, leb-true, ltb-false}
use Rattle.std.proofs.lemmas.List.{length-map}
use Rattle.serde_json.specs.Data.{Data, Items, no_items, item}
use Rattle.serde_json.specs.Events.{items_len}
use Rattle.serde_json.specs.Find.{as_array}
use Rattle.json_paths.specs.declared.key.Key.{Key}
use Rattle.json_paths.specs.declared.key.Key.TheVariants as key
use Rattle.json_paths.specs.declared.step.Step.{Step}
use Rattle.json_paths.specs.declared.step.Step.TheVariants as step
use Rattle.plan_grammar.specs.declared.kind.Kind.{Kind}
use Rattle.plan_grammar.specs.declared.kind.Kind.TheVariants as kind
use Rattle.plan_grammar.specs.declared.tables.Part.{Part}
use Rattle.plan_grammar.specs.declared.words.OpWord.{OpWord}
use Rattle.plan_grammar.specs.declared.words.OpWord.TheVariants as op
use Rattle.plan_grammar.specs.declared.words.StepWord.{StepWord}
use Rattle.plan_grammar.specs.declared.words.StepWord.TheVariants as word
use Rattle.plan_grammar.specs.Grammar.{aggregate_parts, has_steps, is_unknown_op, is_unknown_step, join_parts, depth_of, limit_parts, parts_of_node, topn_parts}
use Rattle.plan_grammar.specs.Json.{count_of, entries, entries_count, entries_in, entries_of, entries_under, has_entry, text_of, text_under, under}
use Rattle.plan_grammar.specs.Spots.{Spot, spot}
use Rattle.plan_grammar.specs.Tables.{part}
use Rattle.plan_grammar.specs.Tables as table
use Rattle.plan_grammar.specs.Words.{op_named, op_of, step_named, step_of}
use Rattle.plan_checks.specs.declared.limits.Bound.TheVariants as bound
use Rattle.plan_checks.specs.declared.shapes.Shape.TheVariants as shape
use Rattle.plan_checks.specs.Limits.{bound_of, exceeds, is_within}
use Rattle.plan_checks.specs.Names.{scan_has, table_named}
use Rattle.plan_checks.specs.Shapes.{has_shape, is_cell, is_list, is_wide, row_width}
use Rattle.plan_docs.specs.declared.plan.TableDoc.{TableDoc}
use Rattle.plan_docs.specs.Cells.{rows_of_node}
use Rattle.plan_docs.specs.Documents.{fragment_of, table_of}
use Rattle.plan_docs.specs.Exprs.{expr_form}
use Rattle.plan_docs.specs.Names.{column_place, column_type, columns_in, place_named, places_of, types_named}
use Rattle.plan_docs.specs.Names as names
use Rattle.plan_docs.specs.Nodes.{NodeForm, scan, values, remote, filter, project, join, aggregate, aggregate_final, sort, top_n, top_n_final, limit, limit_final, union}
use Rattle.plan_docs.specs.Parts.{call_of, calls_of, kinds_of, numbers_of}
use Rattle.plan_docs.specs.Plans.{FragmentForm}
use Rattle.plan_docs.specs.ReadNodes.{aggregate_of, inner_node, limit_of, node_at, node_by, node_form, top_n_of}
use Rattle.plan_docs.specs.Words.{small, small_number, type_of}
use Rattle.plan_spreads.proofs.EachLemmas.{first_true, second_true}
use Rattle.plan_link_laws.proofs.InputLemmas.{aggregate_input, join_left, join_right, limit_input, step_third, topn_input, word_second}
use Rattle.plan_link_laws.proofs.PlaceLemmas.{PartAt, RootAt, Sound, entries_are, entry_there, here, not_false, part_there, root_at, some_is, text_is}
use Rattle.plan_fit_laws.proofs.CellLemmas.{AreWide, rows_wide}
use Rattle.plan_fit_laws.proofs.NumberLemmas.{small_same}
use Rattle.plan_fit_laws.proofs.ScanLemmas.{IsDeclared, IsNarrow, ScanFits, place_within, scan_fits, scan_found}

-- scans of declared columns of a declared table, rows as wide as their types, projects with a column, and aggregates with a key or a call
abbrev pub IsWellMade : List TableDoc → NodeForm → Type 0
IsWellMade docs (scan id table columns types) =
    (0 < length types) × (length types ≡ length columns) × ScanFits (slice_get docs table) columns types × IsDeclared docs table columns
IsWellMade docs (values id types rows) = (0 < length types) × (length types ≤ 256) × AreWide (length types) rows
IsWellMade docs (remote id fragment) = Unit {0}
IsWellMade docs (filter id predicate input) = IsWellMade docs input
IsWellMade docs (project id columns input) = (0 < length columns) × IsWellMade docs input
IsWellMade docs (join id kind on filters left right) = IsWellMade docs left × IsWellMade docs right
IsWellMade docs (aggregate id half keys calls input) = (0 < length keys + length calls) × IsWellMade docs input
IsWellMade docs (aggregate_final id input) = IsWellMade docs input
IsWellMade docs (sort id keys input) = IsWellMade docs input
IsWellMade docs (top_n id half count keys input) = IsWellMade docs input
IsWellMade docs (top_n_final id input) = IsWellMade docs input
IsWellMade docs (limit id half count input) = IsWellMade docs input
IsWellMade docs (limit_final id input) = IsWellMade docs input
IsWellMade docs (union id left right) = IsWellMade docs left × IsWellMade docs right

abbrev pub AllWellMade : List TableDoc → List FragmentForm → Type 0
AllWellMade docs [] = Unit {0}
AllWellMade docs (f ∷ fs) = IsWellMade docs f.root × AllWellMade docs fs

length-entries : (ds : Items) → length (entries_of ds) ≡ items_len ds
length-entries no_items = refl
length-entries (item d ds) = ap suc (length-entries ds)

count-entries : (o : Option Items) → length (entries o) ≡ count_of o
count-entries None = refl
count-entries (Some ds) = length-entries ds

some_of : (calls keys : ℕ) → (calls == 0) && (keys == 0) ≡ false → 0 < keys + calls
some_of zero zero h = cc
some_of zero (suc keys) h = omega arith
some_of (suc calls) keys h = omega arith

aggregate_made : (docs : List TableDoc) (s : StepWord) (d : Data) (input : NodeForm)
    → ((s ≡ word.Final → ⊥) → 0 < length (numbers_of (entries_under key.Keys d)) + length (calls_of (entries_under key.Calls d)))
    → IsWellMade docs input → IsWellMade docs (aggregate_of s d input)
aggregate_made docs word.Final d input some h = h
aggregate_made docs word.Single d input some h = (some (λ e. cc e), h)
aggregate_made docs word.Partial d input some h = (some (λ e. cc e), h)
aggregate_made docs word.Unknown d input some h = (some (λ e. cc e), h)

top_n_made : (docs : List TableDoc) (s : StepWord) (d : Data) (input : NodeForm) → IsWellMade docs input → IsWellMade docs (top_n_of s d input)
top_n_made docs word.Final d input h = h
top_n_made docs s d input h = h

limit_made : (docs : List TableDoc) (s : StepWord) (d : Data) (input : NodeForm) → IsWellMade docs input → IsWellMade docs (limit_of s d input)
limit_made docs word.Final d input h = h
limit_made docs s d input h = h

known_op : (w : OpWord) → not (is_unknown_op w) ≡ true → (w ≡ op.Unknown → ⊥)
known_op op.Unknown h is = absurd cc
known_op w h is = absurd cc

known_step : (w : StepWord) → not (is_unknown_step w) ≡ true → (w ≡ word.Unknown → ⊥)
known_step word.Unknown h is = absurd cc
known_step w h is = absurd cc

module _ (document : Data) (all : List Spot) where
  -- how many entries stand under a key
  pub counted : (d : Data) (path : List Step) (k : Key) (inner : Kind) (level least most : ℕ) → PartAt document all d path k inner level → bound_of inner ≡ bound.Entries least most
      → (least ≤ length (entries_under k d)) × (length (entries_under k d) ≤ most)
  counted d path k inner level least most at is =
      let s = spot at.value (path ++ step.Key k ∷ []) d inner (depth_of inner level) in
      let checked = here document all at.value (path ++ step.Key k ∷ []) d inner (depth_of inner level) at.sound in
      let outside = subst (λ b. exceeds b s ≡ false) is checked.within in
      let inside = not_false (is_within least most (entries_count at.value)) outside in
      let low = leb-true least (entries_count at.value) (first_true (nat_le least (entries_count at.value)) (nat_le (entries_count at.value) most) inside) in
      let high = leb-true (entries_count at.value) most (second_true (nat_le least (entries_count at.value)) (nat_le (entries_count at.value) most) inside) in
      let same : length (entries_under k d) ≡ entries_count at.value = ap (λ (es : List Data). length es) (entries_are k d at.value at.is) ∙ count-entries (as_array at.value) in
      (omega (arith, low, same), omega (arith, high, same))

  -- a row of a values node has an entry for each type
  row_wide : (d : Data) (path : List Step) (owner : Data) (level : ℕ) → Sound document all d path owner kind.Row level → length (entries_in d) ≡ row_width owner
  row_wide d path owner level sound =
      let good = not_false (has_shape shape.Row (spot d path owner kind.Row level)) (here document all d path owner kind.Row level sound).shaped in
      let wide = first_true (is_wide (row_width owner) d) (list_all is_cell (entries_in d)) good in
      let count = second_true (is_list d) (entries_count d == row_width owner) wide in
      count-entries (as_array d) ∙ eqb-true (entries_count d) (row_width owner) count

  module _ (docs : List TableDoc) (docs_are : docs ≡ map table_of (entries_under key.Tables document)) (narrow : IsNarrow document) where
    module _ (n : ℕ) (d : Data) (path : List Step) (owner : Data) (level : ℕ) (sound : Sound document all d path owner kind.Node level)
        (below : (e : Data) (inner : List Step) → Sound document all e inner d kind.Node (level + 1) → IsWellMade docs (node_at n document e)) where
      under_key : (parts : List Part) (i : ℕ) (k : Key) (inner : Kind) → parts_of_node (op_of d) d ≡ parts → slice_get parts i ≡ Some (part k inner) → PartAt document all d path k inner level
      under_key parts i k inner own at = part_there document all d path owner kind.Node level parts i k inner sound refl own at

      over_input : (parts : List Part) (i : ℕ) (k : Key) → parts_of_node (op_of d) d ≡ parts → slice_get parts i ≡ Some (part k kind.Node)
          → IsWellMade docs (inner_node (node_at n document) (under k d))
      over_input parts i k own is =
          let at = under_key parts i k kind.Node own is in
          subst (λ (o : Option Data). IsWellMade docs (inner_node (node_at n document) o)) (sym at.is) (below at.value (path ++ step.Key k ∷ []) at.sound)

      own_parts : (w : OpWord) → op_of d ≡ w → parts_of_node (op_of d) d ≡ parts_of_node w d
      own_parts w is = ap (λ (x : OpWord). parts_of_node x d) is

      -- the table that a scan names
      named_table : op_of d ≡ op.Scan → (t : Data) × (table_named (text_under key.Table d) document ≡ Some t)
      named_table is =
          let at = under_key table.scan 2 key.Table kind.ScanTable (own_parts op.Scan is) refl in
          let found : not (is_some (table_named (text_of at.value) document)) ≡ false = (here document all at.value (path ++ step.Key key.Table ∷ []) d kind.ScanTable level at.sound).named in
          let known = not_false (is_some (table_named (text_of at.value) document)) found in
          some_is (table_named (text_under key.Table d) document)
          (subst (λ (t : List ℕ). is_some (table_named t document) ≡ true) (sym (text_is key.Table d at.value at.is)) known)

      -- each column that a scan names is one of the table's
      named_columns : op_of d ≡ op.Scan → (j : ℕ) (n : Data) → slice_get (entries_under key.Columns d) j ≡ Some n → scan_has (text_of n) d document ≡ true
      named_columns is j n at =
          let list : PartAt document all d path key.Columns kind.ScanColumns level = under_key table.scan 3 key.Columns kind.ScanColumns (own_parts op.Scan is) refl in
          let one = entry_there document all d path key.Columns kind.ScanColumns level list refl j n at in
          let found : not (scan_has (text_of n) d document) ≡ false = (here document all n ((path ++ step.Key key.Columns ∷ []) ++ step.Index j ∷ []) d kind.ScanColumn level one).named in
          not_false (scan_has (text_of n) d document) found

      scan_declared : op_of d ≡ op.Scan → IsDeclared docs (small (names.table_of document d)) (places_of (names.scanned_columns document d) (entries_under key.Columns d))
      scan_declared is =
          let t = named_table is in
          subst (λ (ds : List TableDoc). IsDeclared ds (small (names.table_of document d)) (places_of (names.scanned_columns document d) (entries_under key.Columns d))) (sym docs_are)
          (scan_found document d t.0 narrow t.1 (named_columns is))

      scan_made : op_of d ≡ op.Scan → IsWellMade docs (node_by (node_at n document) document d op.Scan)
      scan_made is =
          let ts = entries_under key.Tables document in
          let ns = entries_under key.Columns d in
          let some = (counted d path key.Columns kind.ScanColumns level 1 256 (under_key table.scan 3 key.Columns kind.ScanColumns (own_parts op.Scan is) refl) refl).0 in
          let cs = names.scanned_columns document d in
          let within = place_within (text_under key.Table d) ts in
          let few = narrow.tables in
          let same : small (names.table_of document d) ≡ names.table_of document d = small_same (names.table_of document d) (omega (arith, within, few)) in
          let fits = scan_fits ts (names.table_of document d) ns narrow.columns in (
            omega (arith, length-map ns (column_type cs), some),
            length-map ns (column_type cs) ∙ sym (length-map ns (column_place cs)),
            subst (λ (all_docs : List TableDoc). ScanFits (slice_get all_docs (small (names.table_of document d))) (places_of cs ns) (types_named cs ns)) (sym docs_are)
                (subst (λ (t : ℕ). ScanFits (slice_get (map table_of ts) t) (places_of cs ns) (types_named cs ns)) (sym same) fits),
            scan_declared is,
          )

      values_made : op_of d ≡ op.Values → IsWellMade docs (node_by (node_at n document) document d op.Values)
      values_made is =
          let ts = entries_under key.Types d in
          let own = own_parts op.Values is in
          let count = counted d path key.Types kind.Types level 1 256 (under_key table.values 2 key.Types kind.Types own refl) refl in
          let long : length (kinds_of ts) ≡ length ts = length-map ts type_of in
          let rows : PartAt document all d path key.Rows kind.Rows level = under_key table.values 3 key.Rows kind.Rows own refl in
          let inside = path ++ step.Key key.Rows ∷ [] in (
            omega (arith, long, count.0),
            omega (arith, long, count.1),
            subst (λ (width : ℕ). AreWide width (rows_of_node (kinds_of ts) (entries_under key.Rows d))) (sym long)
                (rows_wide (kinds_of ts) (length ts) (entries_under key.Rows d)
                (λ j e at. row_wide e (inside ++ step.Index j ∷ []) d level (entry_there document all d path key.Rows kind.Rows level rows refl j e at))),
          )

      -- its word is one that there is, and so is its step, if it has one
      its_word : op_of d ≡ op.Unknown → ⊥
      its_word is =
          let at = under_key (parts_of_node (op_of d) d) 1 key.Op kind.Op refl (word_second (op_of d) d) in
          let good = not_false (has_shape shape.OpWord (spot at.value (path ++ step.Key key.Op ∷ []) d kind.Op level)) (here document all at.value (path ++ step.Key key.Op ∷ []) d kind.Op level at.sound).shaped in
          known_op (op_named (text_of at.value)) good (ap op_named (sym (text_is key.Op d at.value at.is)) ∙ is)

      its_step : has_steps (op_of d) ≡ true → step_of d ≡ word.Unknown → ⊥
      its_step has is =
          let at = under_key (parts_of_node (op_of d) d) 2 key.Step kind.Step refl (step_third (op_of d) d has) in
          let good = not_false (has_shape shape.StepWord (spot at.value (path ++ step.Key key.Step ∷ []) d kind.Step level)) (here document all at.value (path ++ step.Key key.Step ∷ []) d kind.Step level at.sound).shaped in
          known_step (step_named (text_of at.value)) good (ap step_named (sym (text_is key.Step d at.value at.is)) ∙ is)

      aggregates_work : op_of d ≡ op.Aggregate → (step_of d ≡ word.Final → ⊥) → 0 < length (numbers_of (entries_under key.Keys d)) + length (calls_of (entries_under key.Calls d))
      aggregates_work is other =
          let at = under_key (aggregate_parts (step_of d)) 4 key.Calls kind.AggregateCalls (own_parts op.Aggregate is) (calls_fifth (step_of d) other (its_step (ap has_steps is))) in
          let checked = here document all at.value (path ++ step.Key key.Calls ∷ []) d kind.AggregateCalls level at.sound in
          let some = some_of (entries_count at.value) (length (entries_under key.Keys d)) checked.works in
          let same : length (entries_under key.Calls d) ≡ entries_count at.value = ap (λ (es : List Data). length es) (entries_are key.Calls d at.value at.is) ∙ count-entries (as_array at.value) in
          omega (arith, some, same, length-map (entries_under key.Keys d) small_number, length-map (entries_under key.Calls d) call_of)
        where
          calls_fifth : (w : StepWord) → (w ≡ word.Final → ⊥) → (w ≡ word.Unknown → ⊥) → slice_get (aggregate_parts w) 4 ≡ Some (part key.Calls kind.AggregateCalls)
          calls_fifth word.Single not_final known = refl
          calls_fifth word.Partial not_final known = refl
          calls_fifth word.Final not_final known = absurd (not_final refl)
          calls_fifth word.Unknown not_final known = absurd (known refl)

      by_word : (w : OpWord) → op_of d ≡ w → IsWellMade docs (node_by (node_at n document) document d w)
      by_word op.Scan is = scan_made is
      by_word op.Values is = values_made is
      by_word op.Remote is = tt
      by_word op.Filter is = over_input table.filter 3 key.Input (own_parts op.Filter is) refl
      by_word op.Project is =
          let own = own_parts op.Project is in
          let es = entries_under key.Columns d in
          let some = (counted d path key.Columns kind.Expressions level 1 256 (under_key table.project 2 key.Columns kind.Expressions own refl) refl).0 in
          (omega (arith, length-map es expr_form, some), over_input table.project 3 key.Input own refl)
      by_word op.Join is =
          let parts = join_parts (has_entry key.Filters d) in
          let own = own_parts op.Join is in
          (over_input parts 4 key.Left own (join_left (has_entry key.Filters d)), over_input parts 5 key.Right own (join_right (has_entry key.Filters d)))
      by_word op.Aggregate is =
          let input = aggregate_input (step_of d) in
          aggregate_made docs (step_of d) d (inner_node (node_at n document) (under key.Input d)) (aggregates_work is)
          (over_input (aggregate_parts (step_of d)) input.place key.Input (own_parts op.Aggregate is) input.is)
      by_word op.Sort is = over_input table.sort 3 key.Input (own_parts op.Sort is) refl
      by_word op.TopN is =
          let input = topn_input (step_of d) in
          top_n_made docs (step_of d) d (inner_node (node_at n document) (under key.Input d)) (over_input (topn_parts (step_of d)) input.place key.Input (own_parts op.TopN is) input.is)
      by_word op.Limit is =
          let input = limit_input (step_of d) in
          limit_made docs (step_of d) d (inner_node (node_at n document) (under key.Input d)) (over_input (limit_parts (step_of d)) input.place key.Input (own_parts op.Limit is) input.is)
      by_word op.Union is =
          let own = own_parts op.Union is in
          (over_input table.union 2 key.Left own refl, over_input table.union 3 key.Right own refl)
      by_word op.Unknown is = absurd (its_word is)

    node_made : (n : ℕ) (d : Data) (path : List Step) (owner : Data) (level : ℕ) → n + level ≡ 33 → Sound document all d path owner kind.Node level → IsWellMade docs (node_at n document d)
    unfolding node_at
    node_made zero d path owner level deep sound =
        let within : nat_lt 32 level ≡ false = (here document all d path owner kind.Node level sound).within in
        let few : level ≤ 32 = ltb-false 32 level within in
        absurd (omega (arith, deep, few))
    node_made (suc n) d path owner level deep sound =
        let less : n + (level + 1) ≡ 33 = omega (arith, deep) in
        by_word n d path owner level sound (λ e inner h. node_made n e inner d (level + 1) less h) (op_of d) refl

    root_made : (i : ℕ) (g : Data) → RootAt document all i g → IsWellMade docs (fragment_of document g).root
    unfolding node_form
    root_made i g r =
        subst (λ (o : Option Data). IsWellMade docs (inner_node (node_form document) o)) (sym r.is)
        (node_made 32 r.root (step.Key key.Fragments ∷ step.Index i ∷ step.Key key.Root ∷ []) g 1 refl r.sound)

    all_made : (ds : List Data) → ((j : ℕ) (d : Data) → slice_get ds j ≡ Some d → IsWellMade docs (fragment_of document d).root) → AllWellMade docs (map (fragment_of document) ds)
    all_made [] each = tt
    all_made (d ∷ ds) each = (each 0 d refl, all_made ds (λ j e at. each (suc j) e at))

    pub fragments_made : Sound document all document [] document kind.Document 0 → AllWellMade docs (map (fragment_of document) (entries_under key.Fragments document))
    fragments_made sound = all_made (entries_under key.Fragments document) (λ j d at. root_made j d (root_at document all j d sound at))

  -- the tables of the document, and the columns of each, are within the limits
  pub is_narrow : Sound document all document [] document kind.Document 0 → IsNarrow document
  is_narrow sound =
      let tables : PartAt document all document [] key.Tables kind.Tables 0 = part_there document all document [] document kind.Document 0 table.document 2 key.Tables kind.Tables sound refl refl refl in
      let path = step.Key key.Tables ∷ [] in
      record {
        tables = (counted document [] key.Tables kind.Tables 0 0 64 tables refl).1;
        columns = λ i t at.
            let one = entry_there document all document [] key.Tables kind.Tables 0 tables refl i t at in
            let columns : PartAt document all t (path ++ step.Index i ∷ []) key.Columns kind.Columns 0 =
            part_there document all t (path ++ step.Index i ∷ []) document kind.Table 0 table.table 1 key.Columns kind.Columns one refl refl refl in
            (counted t (path ++ step.Index i ∷ []) key.Columns kind.Columns 0 1 256 columns refl).1;
      }
