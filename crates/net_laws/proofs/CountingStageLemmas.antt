-- What one operator of a filter gave, once it is finished.
use Rattle.std.proofs.Common.{◌≡◌, List, ◌++◌, Bool, true, Option, Some, None, refl, ap, sym, ◌∙◌, subst, append-nil}
use Rattle.std.specs.Prelude.{IfSome, filter}
use Rattle.operator_core.specs.declared.operator.Operator.{Ghosts}
use Rattle.operator_core.specs.Rows.{Row}
use Rattle.operator_core.specs.Calls.{IsLawful}
use Rattle.operator_core.specs.Stages.{Steps}
use Rattle.operator_core.proofs.StageLemmas.{Steps-finished}
use Rattle.sql_values.specs.Cells.{cell}
use Rattle.dyn_filter.specs.declared.domain.Domain.{Domain}
use Rattle.dyn_filter.specs.Domains.{IsDomainOf}
use Rattle.dyn_filter.specs.Filters.{AreKept}
use Rattle.dyn_filter.specs.FilterLaws.{kept-all}
use Rattle.dyn_filter.specs.Rows.{row_passes}
use Rattle.net_laws.specs.ScanFilters.{ScanFilter, passes_filter}
use Rattle.net_laws.specs.FilterStages.{IsOperatorOf}
use Rattle.net_laws.proofs.KeyDomainLemmas.{passes_as_keys}

-- they are the rows that came, but for some that do not pass, and exactly those that pass where the filter is waited for
pub record GaveOf (f : ScanFilter) (X Y : List Row) : Type 0 where
  pub kept : AreKept (λ row. passes_filter row f) Y X
  pub exact : f.waits ≡ true → Y ≡ filter (λ row. passes_filter row f) X

module _ {S : Type 0} (g : Ghosts S) (laws : IsLawful g) (f : ScanFilter) (s : S) (o : IsOperatorOf g f s) (over : g.is_finished s ≡ true) (X Y : List Row) (steps : Steps g s X Y) where
  -- it knows the domain
  gave_known : (domain : Domain) → o.noted.known ≡ Some domain → GaveOf f X Y
  gave_known domain is = record {
    kept = subst (λ (test : Row → Bool). AreKept test Y X) same (o.drops.drops domain is X Y gives);
    exact = λ w. (o.exactly w).gives domain is X Y gives ∙ ap (λ (test : Row → Bool). filter test X) same;
  }
    where
      gives : g.may_give (g.as_made s) X Y
      gives = (Steps-finished g laws s X Y over steps).0

      of_keys : IsDomainOf f.keys domain
      of_keys = subst (λ (known : Option Domain). IfSome known (IsDomainOf f.keys)) is o.keys

      at_column : row_passes domain o.noted.column ≡ row_passes domain f.column
      at_column = ap (row_passes domain) o.column

      same : row_passes domain o.noted.column ≡ (λ row. passes_filter row f)
      same = at_column ∙ (λ i row. passes_as_keys domain f.keys (cell row f.column) of_keys i)

  -- it knows none, and let all rows through; one that waits took none
  gave_unknown : o.noted.known ≡ None → GaveOf f X Y
  gave_unknown is = record {
    kept = subst (λ (rows : List Row). AreKept pass rows X) (sym all) (kept-all pass X);
    exact = λ w. let none = laws.note.waiting_went s X Y (o.exactly w).waits went in none.1 ∙ ap (filter pass) (sym none.0);
  }
    where
      pass : Row → Bool
      pass row = passes_filter row f

      went : g.went s X Y
      went = steps.idle (o.drops.unknown is)

      all : Y ≡ X
      all = let h = o.drops.holds is X Y went in sym (append-nil Y) ∙ ap (λ (rows : List Row). Y ++ rows) (sym (h.2 over)) ∙ h.1

  gave_at : (known : Option Domain) → o.noted.known ≡ known → GaveOf f X Y
  gave_at (Some domain) is = gave_known domain is
  gave_at None is = gave_unknown is

  pub gave_of : GaveOf f X Y
  gave_of = gave_at o.noted.known refl
