use Rattle.std.proofs.Common.{◌++◌, ◌∷◌, [], ◌∙◌, List, ap, filter, not, subst, sym}
use Rattle.driver_loop.specs.declared.pieces.FilterCellNote.{FilterCellNote}
use Rattle.driver_net_laws.specs.Settled.{builds_of, looks_of}
use Rattle.net_closing.specs.Closing.{IsOneIf, publishes}
use Rattle.net_closing.proofs.CellNoteLemmas.{notes_apart, target_is_one}
use Rattle.net_closing.proofs.FilterNoteLemmas.{driver_looks, driver_publishes}
use Rattle.net_closing.proofs.parts.take_apart.Goals as goal

pub returns-clause-kept : goal.returns-clause-kept
returns-clause-kept g c =
    let d = c.args.driver in
    let notes = c.args.notes.now in
    let apart = c.stop-claim.ensures.lookups c.requires ∙ notes_apart d in
    let one = subst (λ b. IsOneIf b (builds_of (d ∷ []))) (sym c.is_build-is_build.ensures) (target_is_one d.target) in
    let filters = c.stop-claim.ensures.filters c.requires in
    record {
      looks = c.in_ok-keep_notes.ensures.looks (looks_of (d ∷ [])) (builds_of (d ∷ [])) apart one;
      builds = c.in_ok-keep_notes.ensures.builds (looks_of (d ∷ [])) (builds_of (d ∷ [])) apart one;
      filter_looks = c.in_ok-keep_filters.ensures.looks
          ∙ ap (λ (own : List FilterCellNote). notes.filter_looks.items ++ own) (ap (filter (λ (n : FilterCellNote). not (publishes n))) filters ∙ driver_looks d);
      filter_builds = c.in_ok-keep_filters.ensures.builds ∙ ap (λ (own : List FilterCellNote). notes.filter_builds.items ++ own) (ap (filter publishes) filters ∙ driver_publishes d);
    }
