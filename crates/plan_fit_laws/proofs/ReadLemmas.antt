-- The tables that a plan reads as it runs are there, with their columns.
use Rattle.std.proofs.Common.{◌≡◌, ℕ, ◌+◌, ◌-◌, ◌<◌, zero, suc, List, [], ◌∷◌, length, refl, sym, subst, arith, Some}
use Rattle.std.specs.Prelude.{All, slice_get, unwrap_or}
use Rattle.sql_values.specs.declared.types.Column.{Column}
use Rattle.sql_values.specs.declared.table.Table.{Table}
use Rattle.plan_docs.specs.declared.plan.TableDoc.{TableDoc}
use Rattle.plan_docs.specs.Nodes.{NodeForm, scan, values, remote, filter, project, join, aggregate, aggregate_final, sort, top_n, top_n_final, limit, limit_final, union}
use Rattle.plan_docs.specs.Plans.{FragmentForm}
use Rattle.plan_run_laws.specs.RunPlans.{RunPlan}
use Rattle.plan_run_laws.specs.RunPlans as run
use Rattle.plan_spreads.specs.Halves.{AllMeet, Halved, HalvesMeet, Meets, RootMeets, aggregates, top_ns, limits}
use Rattle.plan_spreads.specs.Runs.{Part, fragment_parts, no_part, node_run, one_over, one_with, part_read}
use Rattle.plan_spreads.proofs.PlanLemmas.{all_meet}
use Rattle.plan_spreads.proofs.ReadParts.{Over, over_half}
use Rattle.plan_fit_laws.specs.Reads.{ReadsTables}
use Rattle.plan_fit_laws.specs.Tables.{HaveColumns}
use Rattle.plan_fit_laws.proofs.SoundLemmas.{AllWellMade, IsWellMade}

-- there is a table for each one that is declared
table_at : (docs : List TableDoc) (tables : List Table) (n : ℕ) (doc : TableDoc) → HaveColumns docs tables → slice_get docs n ≡ Some doc
    → (t : Table) × (slice_get tables n ≡ Some t) × (t.columns ≡ doc.columns)
table_at [] tables n doc own is = absurd cc
table_at (d ∷ docs) [] n doc own is = absurd cc
table_at (d ∷ docs) (t ∷ tables) zero doc own is = (t, refl, cc)
table_at (d ∷ docs) (t ∷ tables) (suc n) doc own is =
    let rest : HaveColumns docs tables = cc own in
    table_at docs tables n doc rest is

module _ (tables : List Table) where
  abbrev Reads : RunPlan → Type 0
  Reads r = ReadsTables tables r

  over_reads : (id source : ℕ) (o : run.Output) (tasks : ℕ) (root : RunPlan) → Reads root → Reads (one_over id source o tasks root)
  over_reads id source o tasks (run.aggregate half keys calls input) h = h
  over_reads id source o tasks (run.topn half count keys input) h = h
  over_reads id source o tasks (run.limit half count input) h = h
  over_reads id source o tasks (run.aggregate_parts half below p n keys calls input) h = h
  over_reads id source o tasks (run.topn_parts half below p n count keys input) h = h
  over_reads id source o tasks (run.limit_parts half below p n count input) h = h
  over_reads id source o tasks root h = h

  with_reads : (id : ℕ) (r : RunPlan) → Reads r → Reads (one_with id r)
  with_reads id (run.remote source o tasks root) h = over_reads id source o tasks root h
  with_reads id r h = h

  abbrev AllRead : List Part → Type 0
  AllRead parts = (k : ℕ) → Reads (unwrap_or (slice_get parts k) no_part).root

  module _ (docs : List TableDoc) (own : HaveColumns docs tables) (first : ℕ) (later : List FragmentForm) (parts : List Part) (known : AllRead parts) where
    final_reads : (id : ℕ) (operator : Halved) (input : NodeForm) → Over first later operator input → Reads (one_with id (node_run first parts input))
    final_reads id operator input o =
        with_reads id (node_run first parts input) (subst (λ (n : NodeForm). Reads (node_run first parts n)) o.is (known (o.fragment - first)))

    node_reads : (node : NodeForm) → Meets first later node → IsWellMade docs node → Reads (node_run first parts node)
    node_reads (scan id place columns types) m w =
        let table = table_at docs tables place w.3.doc own w.3.is_doc in
        record {
          table = table.0;
          is_table = table.1;
          some = omega (arith, w.0, w.1);
          within = subst (λ (cs : List Column). All (λ column. column < length cs) columns) (sym table.2) w.3.within;
        }
    node_reads (values id types rows) m w = tt
    node_reads (remote id fragment) m w = known (fragment - first)
    node_reads (filter id predicate input) m w = node_reads input m w
    node_reads (project id columns input) m w = node_reads input m w.1
    node_reads (join id kind on filters left right) m w = (node_reads left m.0 w.0, node_reads right m.1 w.1)
    node_reads (aggregate id step keys calls input) m w = node_reads input m.1 w.1
    node_reads (aggregate_final id input) m w = final_reads id aggregates input (over_half first later aggregates input m)
    node_reads (sort id keys input) m w = node_reads input m w
    node_reads (top_n id step count keys input) m w = node_reads input m.1 w
    node_reads (top_n_final id input) m w = final_reads id top_ns input (over_half first later top_ns input m)
    node_reads (limit id step count input) m w = node_reads input m.1 w
    node_reads (limit_final id input) m w = final_reads id limits input (over_half first later limits input m)
    node_reads (union id left right) m w = (node_reads left m.0 w.0, node_reads right m.1 w.1)

    root_reads : (node : NodeForm) → RootMeets first later node → IsWellMade docs node → Reads (node_run first parts node)
    root_reads (aggregate id step keys calls input) m w = node_reads input m w.1
    root_reads (top_n id step count keys input) m w = node_reads input m w
    root_reads (limit id step count input) m w = node_reads input m w
    root_reads node m w = node_reads node m w

  all_read : (docs : List TableDoc) → HaveColumns docs tables → (tasks i : ℕ) (fs : List FragmentForm) → AllMeet i fs → AllWellMade docs fs → AllRead (fragment_parts tasks i fs)
  all_read docs own tasks i [] m w k = tt
  all_read docs own tasks i (f ∷ fs) m w zero =
      root_reads docs own (i + 1) fs (fragment_parts tasks (i + 1) fs) (all_read docs own tasks (i + 1) fs m.1 w.1) f.root m.0 w.0
  all_read docs own tasks i (f ∷ fs) m w (suc k) = all_read docs own tasks (i + 1) fs m.1 w.1 k

  pub parts_read : (docs : List TableDoc) → HaveColumns docs tables → (fs : List FragmentForm) → HalvesMeet fs → AllWellMade docs fs → (tasks k : ℕ)
      → Reads (part_read 0 (fragment_parts tasks 0 fs) k).root
  parts_read docs own fs m w tasks k = all_read docs own tasks 0 fs (all_meet fs m) w (k - 0)
