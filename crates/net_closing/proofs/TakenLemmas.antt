-- Drivers that were taken apart one by one.
use Rattle.std.proofs.Common.{◌≡◌, ◌++◌, ◌∙◌, List, [], ◌∷◌, sym, ap, append-nil, append_assoc}
use Rattle.std.specs.Prelude.{flat_map, map}
use Rattle.std.proofs.lemmas.Grind.{flat_map-append}
use Rattle.std.proofs.lemmas.List.Elements.{All-append, All-cons, All-nil}
use Rattle.driver_loop.specs.Drivers.{DriverState}
use Rattle.driver_loop.specs.Turns.{filter_note_of_stage, filters_of, note_of_build_filter, note_of_stage, note_of_target}
use Rattle.driver_net_laws.specs.Settled.{WasTakenApart}
use Rattle.net_closing.specs.Closing.{HaveKept}
use Rattle.net_closing.specs.Held.{lists_of}
use Rattle.net_closing.specs.Left.{HasGained, WereTaken, counts_held}
use Rattle.net_closing.specs.declared.notes.Notes.{Notes}
use Rattle.net_closing.specs.declared.parts.Parts.{Parts}
use Rattle.net_closing.proofs.LeftLemmas.{parts_more}

pub none_taken : (notes : Notes) (parts : Parts) → parts.claims.items ≡ [] → parts.gather_takes.items ≡ [] → parts.spread_takes.items ≡ [] → parts.puts.items ≡ [] → parts.deals.items ≡ []
    → parts.rows.items ≡ [] → parts.passed.items ≡ [] → WereTaken [] notes notes parts
none_taken notes parts claims gather_takes spread_takes puts deals rows passed = record {
  each = All-nil WasTakenApart;
  kept = record {
    looks = sym (append-nil notes.looks.items);
    builds = sym (append-nil notes.builds.items);
    filter_looks = sym (append-nil notes.filter_looks.items);
    filter_builds = sym (append-nil notes.filter_builds.items);
  };
  all = record {
    claims = ap lists_of claims;
    gather_takes = ap lists_of gather_takes;
    spread_takes = ap lists_of spread_takes;
    puts = ap lists_of puts;
    deals = ap lists_of deals;
    rows = ap lists_of rows;
    passed = ap counts_held passed;
  };
}

kept_more : {X : Type 0} (of : DriverState → List X) (done : List DriverState) (d : DriverState) (old mid new : List X) → mid ≡ old ++ flat_map of done → new ≡ mid ++ flat_map of (d ∷ [])
    → new ≡ old ++ flat_map of (done ++ d ∷ [])
kept_more of done d old mid new before came =
    came ∙ ap (λ (l : List _). l ++ flat_map of (d ∷ [])) before ∙ append_assoc old (flat_map of done) (flat_map of (d ∷ []))
    ∙ ap (λ (l : List _). old ++ l) (sym (flat_map-append of done (d ∷ [])))

pub taken_more : (done : List DriverState) (d : DriverState) (old mid new : Notes) (parts next : Parts) → WereTaken done old mid parts → WasTakenApart d → HaveKept mid new (d ∷ []) → HasGained parts d next
    → WereTaken (done ++ d ∷ []) old new next
taken_more done d old mid new parts next taken still kept gained = record {
  each = All-append WasTakenApart done (d ∷ []) taken.each (All-cons WasTakenApart d [] still (All-nil WasTakenApart));
  kept = record {
    looks = kept_more (λ (x : DriverState). flat_map note_of_stage x.stages) done d old.looks.items mid.looks.items new.looks.items taken.kept.looks kept.looks;
    builds = kept_more (λ (x : DriverState). note_of_target x.target) done d old.builds.items mid.builds.items new.builds.items taken.kept.builds kept.builds;
    filter_looks = kept_more (λ (x : DriverState). flat_map filter_note_of_stage x.stages) done d old.filter_looks.items mid.filter_looks.items new.filter_looks.items
        taken.kept.filter_looks kept.filter_looks;
    filter_builds = kept_more (λ (x : DriverState). map note_of_build_filter (filters_of x.target)) done d old.filter_builds.items mid.filter_builds.items new.filter_builds.items
        taken.kept.filter_builds kept.filter_builds;
  };
  all = parts_more done d parts next taken.all gained;
}
