-- The drivers of a net, once all were taken apart and what they shared was given back.
use Rattle.std.proofs.Common.{◌≡◌, ◌<◌, ◌++◌, ◌∙◌, ℕ, List, Some, ap, length, refl, subst, sym}
use Rattle.std.specs.Prelude.{slice_get}
use Rattle.driver_loop.specs.Drivers.{DriverState}
use Rattle.driver_loop.specs.declared.pieces.CellNote.{CellNote}
use Rattle.driver_loop.specs.declared.pieces.FilterCellNote.{FilterCellNote}
use Rattle.driver_net_laws.specs.Cells.{AllLearnedFrom, AreOfCells}
use Rattle.driver_net_laws.specs.FilterCells.{AllPartsLearnedFrom, AreOfFilterCells}
use Rattle.plan_layout.specs.Pipes.{PipeForm}
use Rattle.driver_net_laws.specs.Nets.{AreDriversOf, NetForm}
use Rattle.driver_net_laws.specs.Settled.{AreSettled, builds_of, filter_builds_of, filter_looks_of, looks_of}
use Rattle.net_closing.specs.Back.{CameBack, HasNet, IsOfNet}
use Rattle.net_closing.specs.Closing.{AreNone}
use Rattle.net_closing.specs.Covered.{IsCovered}
use Rattle.net_closing.specs.Left.{WereTaken}
use Rattle.net_closing.specs.declared.notes.Notes.{Notes}
use Rattle.net_closing.specs.declared.parts.Parts.{Parts}
use Rattle.net_closing.proofs.BackLemmas.{source_back}
use Rattle.net_closing.proofs.CellLemmas.{drivers_named}
use Rattle.net_closing.proofs.CellNoteLemmas.{kept_of_cells}
use Rattle.net_closing.proofs.FilterCellLemmas.{kept_of_filter_cells}
use Rattle.net_closing.proofs.LeftLemmas.{parts_of_all}

module _ (layout : List PipeForm) (drivers : List DriverState) (n : HasNet layout drivers) (old new : Notes) (parts : Parts) (none : AreNone old) (taken : WereTaken drivers old new parts) where
  module _ (covered : (number : ℕ) → number < length drivers → IsCovered layout number) where
    in_net : (number : ℕ) → number < length drivers → IsCovered n.net.layout number
    in_net number lt = subst (λ (l : List PipeForm). IsCovered l number) (sym n.laid) (covered number lt)

    -- notes of drivers that are all drivers of pipes are of their cells
    pub taken_of_cells : AreOfCells new.looks.items new.builds.items
    taken_of_cells = kept_of_cells drivers old new (drivers_named n.net drivers n.are in_net) none taken.kept

    pub taken_of_filter_cells : AreOfFilterCells new.filter_looks.items new.filter_builds.items
    taken_of_filter_cells = kept_of_filter_cells n.net drivers n.are in_net old new taken.each none taken.kept

  pub taken_of_net : IsOfNet layout parts
  taken_of_net = record { drivers = drivers; net = n; left = parts_of_all drivers parts taken.all }

  pub all_settled : AllLearnedFrom new.looks.items new.builds.items → AllPartsLearnedFrom new.filter_looks.items new.filter_builds.items
      → ((at : ℕ) (pipe : PipeForm) → slice_get layout at ≡ Some pipe → CameBack layout drivers at pipe pipe.source)
      → (net : NetForm) → net.layout ≡ layout → AreDriversOf net drivers → AreSettled net drivers
  all_settled follow learned back net laid are =
      let looks : new.looks.items ≡ looks_of drivers = taken.kept.looks ∙ ap (λ (ns : List CellNote). ns ++ looks_of drivers) none.looks in
      let builds : new.builds.items ≡ builds_of drivers = taken.kept.builds ∙ ap (λ (ns : List CellNote). ns ++ builds_of drivers) none.builds in
      let filter_looks : new.filter_looks.items ≡ filter_looks_of drivers = taken.kept.filter_looks ∙ ap (λ (ns : List FilterCellNote). ns ++ filter_looks_of drivers) none.filter_looks in
      let filter_builds : new.filter_builds.items ≡ filter_builds_of drivers = taken.kept.filter_builds ∙ ap (λ (ns : List FilterCellNote). ns ++ filter_builds_of drivers) none.filter_builds in
      record {
        each = taken.each;
        back = λ at pipe there. source_back net drivers are at pipe there pipe.source refl
            (subst (λ (l : List PipeForm). CameBack l drivers at pipe pipe.source) (sym laid) (back at pipe (subst (λ (l : List PipeForm). slice_get l at ≡ Some pipe) laid there)));
        follow = subst (λ (ls : List CellNote). AllLearnedFrom ls (builds_of drivers)) looks (subst (AllLearnedFrom new.looks.items) builds follow);
        parts = subst (λ (ls : List FilterCellNote). AllPartsLearnedFrom ls (filter_builds_of drivers)) filter_looks (subst (AllPartsLearnedFrom new.filter_looks.items) filter_builds learned);
      }
