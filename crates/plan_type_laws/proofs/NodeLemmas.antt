-- The trees of the fragments of a document over tables whose rows have the types of the declared columns.
use Rattle.std.proofs.Common.{ℕ, zero, suc, List, [], ◌∷◌, map, Option, Some, None, refl}
use Rattle.std.specs.Prelude.{slice_get}
use Rattle.serde_json.specs.Data.{Data}
use Rattle.sql_values.specs.declared.table.Table.{Table}
use Rattle.sql_values.specs.declared.value.Value.{Value}
use Rattle.json_paths.specs.declared.key.Key.TheVariants as key
use Rattle.plan_grammar.specs.declared.words.OpWord.{OpWord}
use Rattle.plan_grammar.specs.declared.words.OpWord.TheVariants as op
use Rattle.plan_grammar.specs.declared.words.StepWord.{StepWord}
use Rattle.plan_grammar.specs.declared.words.StepWord.TheVariants as word
use Rattle.plan_grammar.specs.Json.{entries_under, under}
use Rattle.plan_grammar.specs.Words.{op_of, step_of}
use Rattle.plan_docs.specs.declared.plan.TableDoc.{TableDoc}
use Rattle.plan_docs.specs.Documents.{fragment_of}
use Rattle.plan_docs.specs.Nodes.{NodeForm, scan, values, remote, filter, project, join, aggregate, aggregate_final, sort, top_n, top_n_final, limit, limit_final, union}
use Rattle.plan_docs.specs.ReadNodes.{aggregate_of, inner_node, limit_of, node_at, node_by, node_form, top_n_of}
use Rattle.plan_docs.specs.Plans.{FragmentForm}
use Rattle.plan_reader.specs.Trees.{fragment_tree, node_tree, root_tree, whole, whole_over}
use Rattle.plan_trees.specs.TreeForms.{TreeForm}
use Rattle.plan_trees.specs.TreeForms as tree
use Rattle.col_pages.specs.Fits.{AllFit}
use Rattle.tree_evaluator.specs.Fits.{FitsTables}
use Rattle.tree_evaluator.specs.Stops.{rows_of_table}
use Rattle.plan_fit_laws.specs.Tables.{HaveColumns}
use Rattle.plan_fit_laws.proofs.SoundLemmas.{AllWellMade, IsWellMade}
use Rattle.type_laws.specs.Keeps.{CastsToTypes}
use Rattle.tree_type_laws.specs.TypedTrees.{EachCastsToTypes, HaveTypes, TypedTables}
use Rattle.plan_type_laws.specs.Tables.{TablesTyped}
use Rattle.plan_type_laws.proofs.CellLemmas.{constants_typed}
use Rattle.plan_type_laws.proofs.FormLemmas.{expr_under_casts, exprs_cast}
use Rattle.plan_type_laws.proofs.ScanLemmas.{scan_typed}

-- constants that fit the types of their columns have them, and each cast names a type
abbrev pub NamesTypes : NodeForm → Type 0
NamesTypes (scan id table columns types) = Unit {0}
NamesTypes (values id types rows) = AllFit types rows → HaveTypes types rows
NamesTypes (remote id fragment) = Unit {0}
NamesTypes (filter id predicate input) = CastsToTypes predicate × NamesTypes input
NamesTypes (project id columns input) = EachCastsToTypes columns × NamesTypes input
NamesTypes (join id kind on filters left right) = NamesTypes left × NamesTypes right
NamesTypes (aggregate id half keys calls input) = NamesTypes input
NamesTypes (aggregate_final id input) = NamesTypes input
NamesTypes (sort id keys input) = NamesTypes input
NamesTypes (top_n id half count keys input) = NamesTypes input
NamesTypes (top_n_final id input) = NamesTypes input
NamesTypes (limit id half count input) = NamesTypes input
NamesTypes (limit_final id input) = NamesTypes input
NamesTypes (union id left right) = NamesTypes left × NamesTypes right

abbrev pub AllNameTypes : List FragmentForm → Type 0
AllNameTypes [] = Unit {0}
AllNameTypes (f ∷ fs) = NamesTypes f.root × AllNameTypes fs

inner_names : (inner : Data → NodeForm) → ((d : Data) → NamesTypes (inner d)) → (o : Option Data) → NamesTypes (inner_node inner o)
inner_names inner each None = λ fit. refl
inner_names inner each (Some d) = each d

aggregate_names : (w : StepWord) (d : Data) (input : NodeForm) → NamesTypes input → NamesTypes (aggregate_of w d input)
aggregate_names word.Single d input h = h
aggregate_names word.Partial d input h = h
aggregate_names word.Final d input h = h
aggregate_names word.Unknown d input h = h

top_n_names : (w : StepWord) (d : Data) (input : NodeForm) → NamesTypes input → NamesTypes (top_n_of w d input)
top_n_names word.Single d input h = h
top_n_names word.Partial d input h = h
top_n_names word.Final d input h = h
top_n_names word.Unknown d input h = h

limit_names : (w : StepWord) (d : Data) (input : NodeForm) → NamesTypes input → NamesTypes (limit_of w d input)
limit_names word.Single d input h = h
limit_names word.Partial d input h = h
limit_names word.Final d input h = h
limit_names word.Unknown d input h = h

by_word : (inner : Data → NodeForm) → ((d : Data) → NamesTypes (inner d)) → (document d : Data) (w : OpWord) → NamesTypes (node_by inner document d w)
by_word inner each document d op.Scan = tt
by_word inner each document d op.Values = constants_typed (entries_under key.Types d) (entries_under key.Rows d)
by_word inner each document d op.Remote = tt
by_word inner each document d op.Filter = (expr_under_casts (under key.Predicate d), inner_names inner each (under key.Input d))
by_word inner each document d op.Project = (exprs_cast (entries_under key.Columns d), inner_names inner each (under key.Input d))
by_word inner each document d op.Join = (inner_names inner each (under key.Left d), inner_names inner each (under key.Right d))
by_word inner each document d op.Aggregate = aggregate_names (step_of d) d (inner_node inner (under key.Input d)) (inner_names inner each (under key.Input d))
by_word inner each document d op.Sort = inner_names inner each (under key.Input d)
by_word inner each document d op.TopN = top_n_names (step_of d) d (inner_node inner (under key.Input d)) (inner_names inner each (under key.Input d))
by_word inner each document d op.Limit = limit_names (step_of d) d (inner_node inner (under key.Input d)) (inner_names inner each (under key.Input d))
by_word inner each document d op.Union = (inner_names inner each (under key.Left d), inner_names inner each (under key.Right d))
by_word inner each document d op.Unknown = λ fit. refl

node_names : (n : ℕ) (document d : Data) → NamesTypes (node_at n document d)
unfolding node_at
node_names zero document d = λ fit. refl
node_names (suc n) document d = by_word (node_at n document) (node_names n document) document d (op_of d)

pub fragments_name : (document : Data) (gs : List Data) → AllNameTypes (map (fragment_of document) gs)
unfolding node_form
fragments_name document [] = tt
fragments_name document (g ∷ gs) = (inner_names (node_form document) (node_names 32 document) (under key.Root g), fragments_name document gs)

-- a tree that fits the tables is typed over them
abbrev pub IsKept : List (List (List Value)) → TreeForm → Type 0
IsKept views t = FitsTables t views → TypedTables t views

over_kept : (views : List (List (List Value))) (id source : ℕ) (t : TreeForm) → IsKept views t → IsKept views (whole_over id source t)
over_kept views id source (tree.aggregate half keys calls input) h = h
over_kept views id source (tree.topn half count keys input) h = h
over_kept views id source (tree.limit half count input) h = h
over_kept views id source t h = h

whole_kept : (views : List (List (List Value))) (id : ℕ) (t : TreeForm) → IsKept views t → IsKept views (whole id t)
whole_kept views id (tree.remote source input) h = over_kept views id source input h
whole_kept views id t h = h

module _ (docs : List TableDoc) (tables : List Table) (own : HaveColumns docs tables) (typed : TablesTyped tables) where
  abbrev views : List (List (List Value))
  views = map rows_of_table tables

  node_kept : (reads : ℕ → TreeForm) → ((k : ℕ) → IsKept views (reads k)) → (form : NodeForm) → IsWellMade docs form → NamesTypes form → IsKept views (node_tree reads form)
  node_kept reads known (scan id table columns types) made names = λ fit. scan_typed docs tables table columns types own typed made.1 made.2
  node_kept reads known (values id types rows) made names = λ fit. names fit.1
  node_kept reads known (remote id fragment) made names = known fragment
  node_kept reads known (filter id predicate input) made names = λ fit. (names.0, node_kept reads known input made names.1 fit.1)
  node_kept reads known (project id columns input) made names = λ fit. (names.0, node_kept reads known input made.1 names.1 fit.1)
  node_kept reads known (join id kind on filters left right) made names =
      λ fit. (node_kept reads known left made.0 names.0 fit.0, node_kept reads known right made.1 names.1 fit.1)
  node_kept reads known (aggregate id half keys calls input) made names = λ fit. (tt, node_kept reads known input made.1 names fit.1)
  node_kept reads known (aggregate_final id input) made names = whole_kept views id (node_tree reads input) (node_kept reads known input made names)
  node_kept reads known (sort id keys input) made names = λ fit. (tt, node_kept reads known input made names fit.1)
  node_kept reads known (top_n id half count keys input) made names = λ fit. (tt, node_kept reads known input made names fit.1)
  node_kept reads known (top_n_final id input) made names = whole_kept views id (node_tree reads input) (node_kept reads known input made names)
  node_kept reads known (limit id half count input) made names = λ fit. (tt, node_kept reads known input made names fit.1)
  node_kept reads known (limit_final id input) made names = whole_kept views id (node_tree reads input) (node_kept reads known input made names)
  node_kept reads known (union id left right) made names =
      λ fit. (node_kept reads known left made.0 names.0 fit.1, node_kept reads known right made.1 names.1 fit.2)

  root_kept : (reads : ℕ → TreeForm) → ((k : ℕ) → IsKept views (reads k)) → (fs : List FragmentForm) → AllWellMade docs fs → AllNameTypes fs → (k : ℕ)
      → IsKept views (root_tree reads (slice_get fs k))
  root_kept reads known [] made names k = λ fit. refl
  root_kept reads known (f ∷ fs) made names zero = node_kept reads known f.root made.0 names.0
  root_kept reads known (f ∷ fs) made names (suc k) = root_kept reads known fs made.1 names.1 k

  pub fragment_kept : (more : ℕ) (fs : List FragmentForm) → AllWellMade docs fs → AllNameTypes fs → (k : ℕ) → IsKept views (fragment_tree more fs k)
  unfolding fragment_tree
  fragment_kept zero fs made names k = λ fit. refl
  fragment_kept (suc more) fs made names k = root_kept (fragment_tree more fs) (fragment_kept more fs made names) fs made names k
