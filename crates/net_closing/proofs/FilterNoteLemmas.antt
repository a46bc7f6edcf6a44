-- The notes of the dynamic filters of a driver are told apart by their parts.
use Rattle.std.proofs.Common.{◌≡◌, List, [], ◌∷◌, ◌++◌, filter, map, not, refl, ap, append-nil, sym, ◌∙◌}
use Rattle.std.specs.Prelude.{flat_map}
use Rattle.std.proofs.lemmas.List.Elements.{filter-append}
use Rattle.driver_loop.specs.BuildFilters.{BuildFilterState}
use Rattle.driver_loop.specs.Drivers.{DriverState}
use Rattle.driver_loop.specs.Turns.{filter_note_of_stage, filter_notes_of, filters_of, note_of_build_filter}
use Rattle.driver_loop.specs.declared.pieces.FilterCellNote.{FilterCellNote}
use Rattle.driver_loop.specs.declared.stage.Stage.{Stage}
use Rattle.driver_loop.specs.declared.stage.Stage.TheVariants.{Dynamic}
use Rattle.driver_net_laws.specs.Settled.{filter_builds_of, filter_looks_of}
use Rattle.net_closing.specs.Closing.{publishes}

abbrev only_looks : List FilterCellNote → List FilterCellNote
only_looks notes = filter (λ n. not (publishes n)) notes

stage_looks : (s : Stage) → only_looks (filter_note_of_stage s) ≡ filter_note_of_stage s
stage_looks (Dynamic op types) = refl
stage_looks s = refl

stage_publishes : (s : Stage) → filter publishes (filter_note_of_stage s) ≡ []
stage_publishes (Dynamic op types) = refl
stage_publishes s = refl

stages_look : (ss : List Stage) → only_looks (flat_map filter_note_of_stage ss) ≡ flat_map filter_note_of_stage ss
stages_look [] = refl
stages_look (s ∷ ss) =
    filter-append (λ (n : FilterCellNote). not (publishes n)) (filter_note_of_stage s) (flat_map filter_note_of_stage ss) ∙ (λ i. stage_looks s i ++ stages_look ss i)

stages_publish : (ss : List Stage) → filter publishes (flat_map filter_note_of_stage ss) ≡ []
stages_publish [] = refl
stages_publish (s ∷ ss) = filter-append publishes (filter_note_of_stage s) (flat_map filter_note_of_stage ss) ∙ (λ i. stage_publishes s i ++ stages_publish ss i)

builds_look : (fs : List BuildFilterState) → only_looks (map note_of_build_filter fs) ≡ []
builds_look [] = refl
builds_look (f ∷ fs) = builds_look fs

builds_publish : (fs : List BuildFilterState) → filter publishes (map note_of_build_filter fs) ≡ map note_of_build_filter fs
builds_publish [] = refl
builds_publish (f ∷ fs) = ap (λ (ns : List FilterCellNote). note_of_build_filter f ∷ ns) (builds_publish fs)

-- those without a part are those of its stages
pub driver_looks : (d : DriverState) → only_looks (filter_notes_of d) ≡ filter_looks_of (d ∷ [])
driver_looks d =
    filter-append (λ (n : FilterCellNote). not (publishes n)) (flat_map filter_note_of_stage d.stages) (map note_of_build_filter (filters_of d.target))
    ∙ (λ i. stages_look d.stages i ++ builds_look (filters_of d.target) i)

-- and those with one are those of its target
pub driver_publishes : (d : DriverState) → filter publishes (filter_notes_of d) ≡ filter_builds_of (d ∷ [])
driver_publishes d =
    filter-append publishes (flat_map filter_note_of_stage d.stages) (map note_of_build_filter (filters_of d.target))
    ∙ (λ i. stages_publish d.stages i ++ builds_publish (filters_of d.target) i) ∙ sym (append-nil (map note_of_build_filter (filters_of d.target)))
