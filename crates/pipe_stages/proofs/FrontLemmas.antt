-- The stages of the filters of a scan, one more behind the others.
use Rattle.std.proofs.Common.{◌≡◌, List, [], ◌∷◌, ◌++◌, map, refl, ap, sym, subst, ◌∙◌, append_assoc, append-nil}
use Rattle.std.proofs.lemmas.List.{map-append}
use Rattle.sql_values.specs.declared.types.SqlType.{SqlType}
use Rattle.dyn_filter.specs.Cells.{CellState}
use Rattle.driver_loop.specs.declared.stage.Stage.{Stage}
use Rattle.driver_loop.specs.contracts.stage.StageOperator.TheImpl.{ghosts}
use Rattle.plan_layout.specs.declared.filters.PlacedFilter.{PlacedFilter}
use Rattle.driver_net_laws.specs.Nets.{AreInFront, IsFilterFor, NetForm}
use Rattle.pipe_stages.specs.Cells.{HasFilterCells}

module _ (cells : List (List CellState)) (types : List SqlType) where
  -- the stage drops rows by the filter in each net that has these cells
  abbrev pub IsFront : PlacedFilter → Stage → Type 0
  IsFront f s = (net : NetForm) → HasFilterCells net.links cells → IsFilterFor net types f s

  -- of all filters these are left
  pub record FrontSoFar (all left : List PlacedFilter) (stages : List Stage) : Type 0 where
    pub made : map ghosts.as_made stages ≡ stages
    pub are : (net : NetForm) → HasFilterCells net.links cells → (more : List Stage) → AreInFront net types left more
        → AreInFront net types all (stages ++ more)

  pub no_front : (all : List PlacedFilter) → FrontSoFar all all []
  no_front all = record { made = refl; are = λ net has more stand. stand }

  pub one_front : (all left : List PlacedFilter) (stages : List Stage) (f : PlacedFilter) (s : Stage) → FrontSoFar all (f ∷ left) stages
      → IsFront f s → ghosts.as_made s ≡ s → FrontSoFar all left (stages ++ s ∷ [])
  one_front all left stages f s before is made = record {
    made = map-append ghosts.as_made stages (s ∷ []) ∙ ap (λ ss. ss ++ ghosts.as_made s ∷ []) before.made ∙ ap (λ m. stages ++ m ∷ []) made;
    are = λ net has more stand.
        let own = subst (IsFilterFor net types f) (sym made) (is net has) in
        subst (AreInFront net types all) (sym (append_assoc stages (s ∷ []) more)) (before.are net has (s ∷ more) (own, stand));
  }

  pub all_fronts : (all left : List PlacedFilter) (stages : List Stage) → left ≡ [] → FrontSoFar all left stages
      → (net : NetForm) → HasFilterCells net.links cells → AreInFront net types all stages
  all_fronts all left stages none made net has =
      subst (AreInFront net types all) (append-nil stages)
      (made.are net has [] (subst (λ (fs : List PlacedFilter). AreInFront net types fs []) (sym none) refl))
