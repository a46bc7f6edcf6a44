use Rattle.std.proofs.Common.{◌∙◌, List, All, ap, false, map, refl, subst, sym}
use Rattle.join_index.specs.Keys.{IndexedRows}
use Rattle.operator_core.specs.Rows.{Row}
use Rattle.driver_loop.specs.BuildFilters.{IsFilterOf, build_filter_made}
use Rattle.driver_loop.specs.Builds.{BuildState, build_made}
use Rattle.plan_docs.specs.declared.node.DynamicFilter.{DynamicFilter}
use Rattle.plan_trees.specs.declared.tree.Pair.{Pair}
use Rattle.pipe_stages.specs.Nets.{ArePartsFor, right_columns}
use Rattle.net_parts.proofs.BuildLemmas.{build_new}
use Rattle.net_parts.proofs.builds.build_target.Goals as goal

pub new-requires : goal.new-requires
new-requires c =
    subst (λ (rows : List Row). All (IsFilterOf rows false) c.in_ok-filters.filters.items)
    (sym (ap (λ (s : IndexedRows). s.rows) c.in_ok-builder.ensures)) c.in_ok-filters.ensures.starts

pub returns-clause-fresh : goal.returns-clause-fresh
returns-clause-fresh c =
    let made = c.new.ensures in
    build_new c.new.result (ap (λ (b : BuildState). (build_made b).note) made ∙ sym (ap (λ (b : BuildState). b.note) made))
    (ap (λ (b : BuildState). b.source.rows) made ∙ ap (λ (s : IndexedRows). s.rows) c.in_ok-builder.ensures)
    (ap (λ (b : BuildState). map build_filter_made b.filters) made ∙ c.in_ok-filters.ensures.fresh ∙ sym (ap (λ (b : BuildState). b.filters) made))
    (ap (λ (b : BuildState). b.is_told) made) (ap (λ (b : BuildState). b.is_published) made) (ap (λ (b : BuildState). b.is_lost) made)

pub returns-clause-is : goal.returns-clause-is
returns-clause-is c = λ labels net for.
    let has = for.cells c.args.own c.args.task c.in-Some.cell.now c.in-Some.ensures in
    let made = c.new.ensures in
    let builder = c.in_ok-builder.ensures in
    let own = c.args.own in
    let task = c.args.task in
    let filters = c.in_ok-filters.filters.items in
    record {
      build = c.new.result;
      is = refl;
      rings = ap (λ (b : BuildState). b.bell) made ∙ sym has.0;
      cell = ap (λ (b : BuildState). b.note.cell) made ∙ has.1 ∙ ap net.links.names (sym has.0);
      by = ap (λ (b : BuildState). b.source.keys) made ∙ ap (λ (s : IndexedRows). s.keys) builder ∙ ap right_columns c.as_slice-on.ensures;
      of = ap (λ (b : BuildState). b.source.types) made ∙ ap (λ (s : IndexedRows). s.types) builder ∙ ap (λ types. (types c.args.own).given) (sym for.types);
      filters =
          subst (ArePartsFor net own task c.args.build.on.now 0 c.args.build.filters.now) (sym (ap (λ (b : BuildState). b.filters) made))
          (subst (λ (on : List Pair). ArePartsFor net own task on 0 c.args.build.filters.now filters) c.as_slice-on.ensures
          (subst (λ (fs : List DynamicFilter). ArePartsFor net own task c.as_slice-on.result.now 0 fs filters) c.as_slice-filters.ensures
          (c.in_ok-filters.ensures.are net for.filters)));
    }
