-- A target that builds, with a filter for each of its join.
use Rattle.std.proofs.Common.{◌≡◌, ℕ, zero, suc, ◌+◌, ◌<◌, ◌≤◌, List, [], ◌∷◌, ◌++◌, All, get_or, length, map, drop, false}
use Rattle.std.proofs.Common.{refl, ap, sym, subst, ◌∙◌, append_assoc, append-nil}
use Rattle.std.specs.Prelude.{Some, slice_get}
use Rattle.std.proofs.lemmas.List.{at_drop_all, at_drop_more, map-append}
use Rattle.std.proofs.lemmas.List.Elements.{All-nil, All-push}
use Rattle.dyn_filter.specs.Cells.{CellState}
use Rattle.driver_loop.specs.BuildFilters.{BuildFilterState, IsFilterOf, build_filter_made}
use Rattle.driver_loop.specs.Builds.{BuildState, build_made}
use Rattle.driver_loop.specs.Ends.{target_made}
use Rattle.driver_loop.specs.declared.target.Target.TheVariants.{Build}
use Rattle.plan_docs.specs.declared.node.DynamicFilter.{DynamicFilter}
use Rattle.plan_trees.specs.declared.tree.Pair.{Pair}
use Rattle.pipe_stages.specs.Nets.{ArePartsFor, IsPartFor, NetForm, right_columns}
use Rattle.pipe_stages.specs.Cells.{HasFilterCells}
use Rattle.net_parts.proofs.AnswerLemmas.{some_same}

-- the right column of the pair at a place
pub right_at : (on : List Pair) (n : ℕ) (pair : Pair) → slice_get on n ≡ Some pair → pair.right ≡ get_or (right_columns on) n 0
right_at [] n pair there = absurd cc
right_at (p ∷ on) zero pair there = ap (λ (q : Pair). q.right) (sym (some_same p pair there))
right_at (p ∷ on) (suc n) pair there = right_at on n pair there

-- a target with no rows, whose filters have none, stands as it was made
pub build_new : (b : BuildState) → (build_made b).note ≡ b.note → b.source.rows ≡ [] → map build_filter_made b.filters ≡ b.filters
    → b.is_told ≡ false → b.is_published ≡ false → b.is_lost ≡ false → target_made (Build b) ≡ Build b
build_new b note none filters told published lost = λ i. Build (record {
  bell = b.bell;
  note = note i;
  source = record b.source { rows = sym none i };
  filters = filters i;
  is_told = sym told i;
  is_published = sym published i;
  is_lost = sym lost i;
})

module _ (cells : List (List CellState)) (own task : ℕ) (on : List Pair) where
  -- the filter is that at a place of the join in each net that has these cells
  abbrev pub IsPart : ℕ → DynamicFilter → BuildFilterState → Type 0
  IsPart place f b = (net : NetForm) → HasFilterCells net.links cells → IsPartFor net own task on place f b

  -- the filters at the first places are made
  pub record PartsSoFar (all : List DynamicFilter) (place : ℕ) (made : List BuildFilterState) : Type 0 where
    pub starts : All (IsFilterOf [] false) made
    pub fresh : map build_filter_made made ≡ made
    pub are : (net : NetForm) → HasFilterCells net.links cells → (more : List BuildFilterState) → ArePartsFor net own task on place (drop place all) more
        → ArePartsFor net own task on 0 all (made ++ more)

  pub no_parts : (all : List DynamicFilter) → PartsSoFar all 0 []
  no_parts all = record { starts = All-nil (IsFilterOf [] false); fresh = refl; are = λ net has more stand. stand }

  pub one_part : (all : List DynamicFilter) (place : ℕ) (made : List BuildFilterState) (f : DynamicFilter) (b : BuildFilterState)
      → place < length all → f ≡ get_or all place f → PartsSoFar all place made → IsPart place f b → IsFilterOf [] false b
      → build_filter_made b ≡ b → PartsSoFar all (place + 1) (made ++ b ∷ [])
  one_part all place made f b there is before part start fresh = record {
    starts = All-push (IsFilterOf [] false) made b before.starts start;
    fresh = map-append build_filter_made made (b ∷ []) ∙ (λ i. before.fresh i ++ fresh i ∷ []);
    are = λ net has more stand.
        let left = at_drop_more (λ (fs : List DynamicFilter). fs) all place f there ∙ ap (λ (g : DynamicFilter). g ∷ drop (place + 1) all) (sym is) in
        let rest = subst (λ (fs : List DynamicFilter). ArePartsFor net own task on place fs (b ∷ more)) (sym left) (part net has, stand) in
        subst (ArePartsFor net own task on 0 all) (sym (append_assoc made (b ∷ []) more)) (before.are net has (b ∷ more) rest);
  }

  pub all_parts : (all : List DynamicFilter) (place : ℕ) (made : List BuildFilterState) → length all ≤ place → PartsSoFar all place made
      → (net : NetForm) → HasFilterCells net.links cells → ArePartsFor net own task on 0 all made
  all_parts all place made over so_far net has =
      let none = at_drop_all (λ (fs : List DynamicFilter). fs) all place over in
      subst (ArePartsFor net own task on 0 all) (append-nil made)
      (so_far.are net has [] (subst (λ (fs : List DynamicFilter). ArePartsFor net own task on place fs []) (sym none) tt))
