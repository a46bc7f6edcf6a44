-- The tree of a consistent plan, over tables of the columns that it declares.
use Rattle.std.proofs.Common.{◌≡◌, ℕ, ◌≤◌, List, [], ◌∷◌, length, map, Some, refl, ap, sym, ◌∙◌, subst, arith}
use Rattle.std.specs.Prelude.{slice_get}
use Rattle.std.proofs.lemmas.List.{length-map}
use Rattle.serde_json.specs.Data.{Data}
use Rattle.sql_values.specs.declared.table.Table.{Table}
use Rattle.json_paths.specs.declared.key.Key.TheVariants as key
use Rattle.plan_grammar.specs.declared.kind.Kind.TheVariants as kind
use Rattle.plan_grammar.specs.Json.{entries_under}
use Rattle.plan_grammar.specs.Spots.{places_of}
use Rattle.plan_grammar.specs.Tables as table
use Rattle.plan_docs.specs.Documents.{fragment_of, table_of}
use Rattle.plan_docs.specs.Plans.{FragmentForm, PlanForm}
use Rattle.plan_trees.specs.TreeForms.{TreeForm}
use Rattle.plan_run_laws.specs.RunPlans.{tree_of_run}
use Rattle.plan_link_laws.specs.Trees.{tree_of}
use Rattle.plan_spreads.specs.Runs.{plan_run}
use Rattle.plan_link_laws.specs.Consistent.{IsConsistent}
use Rattle.plan_link_laws.proofs.DocumentLemmas.{document_checked, fragments_of, judged_plan, passes_first, plan_meets, plan_tree, tables_of}
use Rattle.plan_link_laws.proofs.PlaceLemmas.{PartAt, Sound, part_there}
use Rattle.tree_evaluator.specs.Fits.{FitsTables, TablesFit}
use Rattle.tree_evaluator.specs.Stops.{rows_of_table}
use Rattle.plan_fit_laws.specs.Reads.{ReadsTables}
use Rattle.plan_fit_laws.specs.Tables.{HaveColumns}
use Rattle.plan_fit_laws.proofs.ReadLemmas.{parts_read}
use Rattle.plan_fit_laws.proofs.RunFitLemmas.{parts_fit}
use Rattle.plan_fit_laws.proofs.SoundLemmas.{AllWellMade, counted, fragments_made, is_narrow}

-- the first of a list that has one
pub record First (fs : List FragmentForm) : Type 0 where
  pub f : FragmentForm
  pub is : slice_get fs 0 ≡ Some f

first_of : (fs : List FragmentForm) → 1 ≤ length fs → First fs
first_of [] h = absurd (omega (arith, h))
first_of (f ∷ fs) h = record { f = f; is = refl }

module _ (plan : PlanForm) (c : IsConsistent plan) where
  abbrev d : Data
  d = c.document

  sound : Sound d (places_of d) d [] d kind.Document 0
  sound = document_checked d (passes_first d c.passes)

  fragments_are : plan.fragments ≡ map (fragment_of d) (entries_under key.Fragments d)
  fragments_are = ap (λ (p : PlanForm). p.fragments) c.means ∙ fragments_of d

  tables_are : plan.tables ≡ map table_of (entries_under key.Tables d)
  tables_are = ap (λ (p : PlanForm). p.tables) c.means ∙ tables_of d

  pub made : AllWellMade plan.tables plan.fragments
  made =
      subst (AllWellMade plan.tables) (sym fragments_are)
      (fragments_made d (places_of d) plan.tables tables_are (is_narrow d (places_of d) sound) sound)

  -- there is a fragment
  pub some : First plan.fragments
  some =
      let list : PartAt d (places_of d) d [] key.Fragments kind.Fragments 0 = part_there d (places_of d) d [] d kind.Document 0 table.document 3 key.Fragments kind.Fragments sound refl refl refl in
      let count = (counted d (places_of d) d [] key.Fragments kind.Fragments 0 1 64 list refl).0 in
      first_of plan.fragments (omega (arith, count, ap (λ (fs : List FragmentForm). length fs) fragments_are, length-map (entries_under key.Fragments d) (fragment_of d)))

  pub consistent_fits : (tables : List Table) → HaveColumns plan.tables tables → TablesFit tables → FitsTables (tree_of plan) (map rows_of_table tables)
  consistent_fits tables own fit =
      let types = (judged_plan plan c).types in
      let fits = parts_fit tables plan.tables own fit plan types.has types.is (plan_meets plan c) made 1 0 some.f some.is in
      subst (λ (t : TreeForm). FitsTables t (map rows_of_table tables)) (sym (plan_tree plan c 1)) fits

  pub consistent_fits_run : (tables : List Table) → HaveColumns plan.tables tables → TablesFit tables → (tasks : ℕ)
      → FitsTables (tree_of_run (plan_run tasks plan)) (map rows_of_table tables) × ReadsTables tables (plan_run tasks plan)
  consistent_fits_run tables own fit tasks = (
    parts_fit tables plan.tables own fit plan (judged_plan plan c).types.has (judged_plan plan c).types.is (plan_meets plan c) made tasks 0 some.f some.is,
    parts_read tables plan.tables own plan.fragments (plan_meets plan c) made tasks 0,
  )
