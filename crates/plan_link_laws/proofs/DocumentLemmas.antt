-- What follows of a consistent document.
use Rattle.std.proofs.Common.{◌≡◌, ℕ, ◌<◌, List, [], map, Option, Some, None, option_map, refl, sym, subst, arith}
use Rattle.std.specs.Prelude.{Result, Ok, Err, slice_get, ◌||◌}
use Rattle.std.specs.Option.{option_or}
use Rattle.std.specs.List.{count_by, find}
use Rattle.std.proofs.lemmas.List.{length-map}
use Rattle.serde_json.specs.Data.{Data}
use Rattle.json_paths.specs.declared.key.Key.TheVariants as key
use Rattle.json_paths.specs.declared.step.Step.{Step}
use Rattle.plan_grammar.specs.declared.kind.Kind.TheVariants as kind
use Rattle.plan_grammar.specs.Json.{entries_under}
use Rattle.plan_grammar.specs.Spots.{Spot, places_of}
use Rattle.plan_checks.specs.Documents.{at, first_refused, refusal, refusal_of}
use Rattle.plan_checks.specs.Fragments.{first_mislinked, first_unlinked, fragments_count, is_unread}
use Rattle.plan_checks.specs.Halves.{first_alone, is_alone}
use Rattle.plan_checks.specs.Limits.{bound_of, exceeds, first_beyond, is_beyond, is_crowded, is_filter, is_node, lacks_work}
use Rattle.plan_checks.specs.Names.{first_misnamed}
use Rattle.plan_checks.specs.Shapes.{is_misshapen}
use Rattle.plan_docs.specs.Documents.{fragment_of, plan_of, table_of}
use Rattle.plan_docs.specs.Plans.{FragmentForm, PlanForm}
use Rattle.plan_reader.specs.Filters.{first_misdirected}
use Rattle.plan_reader.specs.Judgement.{IsPlan, judgement_of, misdirected, misplaced, plan_refusal, untyped}
use Rattle.plan_reader.specs.Reaches.{FiltersReach}
use Rattle.plan_reader.specs.Trees.{tree_of}
use Rattle.plan_reader.proofs.ReachLemmas.{all_reach, first_option, second_option}
use Rattle.plan_run_laws.specs.Placements.{Placed}
use Rattle.plan_run_laws.specs.RunPlans.{tree_of_run}
use Rattle.plan_run_laws.specs.Spreads.{whole}
use Rattle.plan_trees.specs.Widths.{FitsWidths}
use Rattle.plan_types.specs.Plans.{plan_types}
use Rattle.plan_spreads.specs.declared.spread.RowSpread.{RowSpread}
use Rattle.plan_spreads.specs.Halves.{HalvesMeet, half}
use Rattle.plan_spreads.specs.Plans.{plan_spreads}
use Rattle.plan_spreads.specs.Reading.{AllReadOn, AreReadOnce}
use Rattle.plan_spreads.specs.Runs.{fragment_parts, part_read, plan_run, row_spread_view, tasks_of}
use Rattle.plan_spreads.specs.Widths.{AllLeavesFit}
use Rattle.plan_spreads.proofs.FitLemmas.{parts_fit, plan_fits}
use Rattle.plan_spreads.proofs.PlanLemmas.{plan_placed, roots_placed}
use Rattle.plan_spreads.proofs.ReadingLemmas.{halves_read}
use Rattle.plan_link_laws.specs.Consistent.{IsConsistent}
use Rattle.plan_spreads.proofs.EachLemmas.{Each, each_by, neither, none_passes, nor_second}
use Rattle.plan_link_laws.proofs.LeafLemmas.{fragments_leaves}
use Rattle.plan_link_laws.proofs.MissingLemmas.{is_missing, none_missing}
use Rattle.plan_link_laws.proofs.MeetLemmas.{fragments_meet}
use Rattle.plan_link_laws.proofs.PlaceLemmas.{Checked}
use Rattle.plan_link_laws.proofs.ReadLemmas.{document_found, read_some}
use Rattle.plan_link_laws.proofs.RunLemmas.{plan_runs_as}
use Rattle.plan_link_laws.proofs.SourceLemmas.{found_once, none_back, read_by_one}
use Rattle.plan_link_laws.proofs.StepLemmas.{all_known}

unmapped : {A B : Type 0} (f : A → B) (o : Option A) → option_map f o ≡ None → o ≡ None
unmapped f None h = refl
unmapped f (Some x) h = absurd cc

-- the places of a document that passes the checks
pub all_checked : (d : Data) (all : List Spot) → find is_misshapen all ≡ None → first_beyond all ≡ None → first_misnamed d [] all ≡ None → first_mislinked d [] all ≡ None → first_alone d all ≡ None
    → Each (Checked d all) all
all_checked d all shaped within named linked joined = each_by (Checked d all) all (λ i s is. record {
  shaped = none_passes is_misshapen all i s shaped is;
  within =
      let beyond = none_passes (is_beyond (count_by is_node all) (count_by is_filter all)) all i s within is in
      neither (exceeds (bound_of s.kind) s) (is_crowded (count_by is_node all) (count_by is_filter all) s.kind)
      (neither (exceeds (bound_of s.kind) s || is_crowded (count_by is_node all) (count_by is_filter all) s.kind) (lacks_work s) beyond);
  works =
      let beyond = none_passes (is_beyond (count_by is_node all) (count_by is_filter all)) all i s within is in
      nor_second (exceeds (bound_of s.kind) s || is_crowded (count_by is_node all) (count_by is_filter all) s.kind) (lacks_work s) beyond;
  named = none_passes (is_missing d) all i s (none_missing d [] all named) is;
  ahead = none_back d [] all i s linked is;
  joined = none_passes (is_alone d all) all i s joined is;
  place = i;
  there = is;
})

-- the groups of checks of which none fails
record NoneFails (d : Data) (all : List Spot) : Type 0 where
  shaped : find is_misshapen all ≡ None
  within : first_beyond all ≡ None
  named : first_misnamed d [] all ≡ None
  linked : first_unlinked d all ≡ None
  joined : first_alone d all ≡ None

none_fails : (d : Data) (all : List Spot) → first_refused d all ≡ None → NoneFails d all
none_fails d all e =
    let shapes = at 2 (find is_misshapen all) in
    let limits = at 3 (first_beyond all) in
    let names = at 4 (first_misnamed d [] all) in
    let links = at 6 (first_unlinked d all) in
    let halves = at 7 (first_alone d all) in
    let malformed = first_option (option_or shapes (option_or limits names)) (option_or links halves) e in
    let unjoined = second_option (option_or shapes (option_or limits names)) (option_or links halves) e in
    let later = second_option shapes (option_or limits names) malformed in
    record {
      shaped = unmapped (λ (s : Spot). (2, s)) (find is_misshapen all) (first_option shapes (option_or limits names) malformed);
      within = unmapped (λ (s : Spot). (3, s)) (first_beyond all) (first_option limits names later);
      named = unmapped (λ (s : Spot). (4, s)) (first_misnamed d [] all) (second_option limits names later);
      linked = unmapped (λ (s : Spot). (6, s)) (first_unlinked d all) (first_option links halves unjoined);
      joined = unmapped (λ (s : Spot). (7, s)) (first_alone d all) (second_option links halves unjoined);
    }

pub document_checked : (d : Data) → refusal_of d ≡ None → Each (Checked d (places_of d)) (places_of d)
document_checked d e =
    let all = places_of d in
    let none = none_fails d all (unmapped refusal (first_refused d all) e) in
    all_checked d all none.shaped none.within none.named (first_option (first_mislinked d [] all) (find (is_unread all) all) none.linked) none.joined

document_meets : (d : Data) → refusal_of d ≡ None → HalvesMeet (map (fragment_of d) (entries_under key.Fragments d))
document_meets d e =
    let all = places_of d in
    let none = none_fails d all (unmapped refusal (first_refused d all) e) in
    let linked = first_option (first_mislinked d [] all) (find (is_unread all) all) none.linked in
    let checked = document_checked d e in
    let known = all_known (Checked d all) d d [] d kind.Document 0 (record { value = refl; step = λ h. absurd cc }) checked in
    fragments_meet d all checked known (λ n i j s t at there is so. read_by_one d n [] all i j s t linked at there is so)

document_reads : (d : Data) → refusal_of d ≡ None → AreReadOnce (map (fragment_of d) (entries_under key.Fragments d))
document_reads d e n some lt =
    let all = places_of d in
    let none = none_fails d all (unmapped refusal (first_refused d all) e) in
    let linked = first_option (first_mislinked d [] all) (find (is_unread all) all) none.linked in
    let unread = second_option (first_mislinked d [] all) (find (is_unread all) all) none.linked in
    let checked = document_checked d e in
    let few : n < fragments_count d = omega (arith, lt, length-map (entries_under key.Fragments d) (fragment_of d)) in
    let least = read_some n d all checked unread some few in
    let most = found_once d n [] all linked in
    let found = document_found n d all checked in
    omega (arith, least, most, found)

pub fragments_of : (d : Data) → (plan_of d).fragments ≡ map (fragment_of d) (entries_under key.Fragments d)
unfolding plan_of
fragments_of d = refl

pub tables_of : (d : Data) → (plan_of d).tables ≡ map table_of (entries_under key.Tables d)
unfolding plan_of
tables_of d = refl

pub passes_first : (d : Data) → judgement_of d ≡ None → refusal_of d ≡ None
passes_first d h = first_option (refusal_of d) (plan_refusal (plan_of d)) h

pub plan_meets : (plan : PlanForm) → IsConsistent plan → HalvesMeet plan.fragments
plan_meets plan c =
    subst (λ (p : PlanForm). HalvesMeet p.fragments) (sym c.means) (subst HalvesMeet (sym (fragments_of c.document)) (document_meets c.document (passes_first c.document c.passes)))

plan_leaves : (plan : PlanForm) → IsConsistent plan → AllLeavesFit plan.fragments
plan_leaves plan c =
    let d = c.document in
    let fit = fragments_leaves d (places_of d) (document_checked d (passes_first d c.passes)) in
    subst (λ (p : PlanForm). AllLeavesFit p.fragments) (sym c.means) (subst AllLeavesFit (sym (fragments_of d)) fit)

pub plan_reads : (plan : PlanForm) → IsConsistent plan → AllReadOn 0 plan.fragments
plan_reads plan c = halves_read plan.fragments (plan_meets plan c)

pub plan_read_once : (plan : PlanForm) → IsConsistent plan → AreReadOnce plan.fragments
plan_read_once plan c =
    subst (λ (p : PlanForm). AreReadOnce p.fragments) (sym c.means) (subst AreReadOnce (sym (fragments_of c.document)) (document_reads c.document (passes_first c.document c.passes)))

pub plan_tree : (plan : PlanForm) → IsConsistent plan → (tasks : ℕ) → tree_of plan ≡ tree_of_run (plan_run tasks plan)
plan_tree plan c tasks = plan_runs_as plan tasks (plan_reads plan c)

-- what was wanted and is not refused is there
pub record Had {A : Type 0} (r : Result A (List Step)) : Type 0 where
  pub has : A
  pub is : r ≡ Ok has

typed_had : {A : Type 0} (r : Result A (List Step)) → untyped r ≡ None → Had r
typed_had (Ok x) h = record { has = x; is = refl }
typed_had (Err path) h = absurd cc

placed_had : {A : Type 0} (r : Result A (List Step)) → misplaced r ≡ None → Had r
placed_had (Ok x) h = record { has = x; is = refl }
placed_had (Err path) h = absurd cc

none_misdirected : (r : Option (List Step)) → misdirected r ≡ None → r ≡ None
none_misdirected None h = refl
none_misdirected (Some path) h = absurd cc

-- its types and its spreads, and that no filter is misdirected
pub record Judged (plan : PlanForm) : Type 0 where
  pub types : Had (plan_types plan)
  pub spreads : Had (plan_spreads plan)
  pub directed : first_misdirected plan ≡ None

pub judged_plan : (plan : PlanForm) → IsConsistent plan → Judged plan
judged_plan plan c =
    let judged = subst (λ (p : PlanForm). plan_refusal p ≡ None) (sym c.means) (second_option (refusal_of c.document) (plan_refusal (plan_of c.document)) c.passes) in
    let types = untyped (plan_types plan) in
    let spreads = misplaced (plan_spreads plan) in
    let filters = misdirected (first_misdirected plan) in
    let later = second_option types (option_or spreads filters) judged in
    record {
      types = typed_had (plan_types plan) (first_option types (option_or spreads filters) judged);
      spreads = placed_had (plan_spreads plan) (first_option spreads filters later);
      directed = none_misdirected (first_misdirected plan) (second_option spreads filters later);
    }

pub filters_reach : (plan : PlanForm) → IsConsistent plan → FiltersReach plan
filters_reach plan c = all_reach plan (judged_plan plan c).directed

pub plan_is_placed : (plan : PlanForm) → IsConsistent plan → (tasks : ℕ) → 0 < tasks → Placed 1 (plan_run tasks plan) whole
plan_is_placed plan c tasks some =
    let j = judged_plan plan c in
    plan_placed plan j.types.has j.spreads.has j.types.is j.spreads.is (plan_meets plan c) tasks some

pub roots_are_placed : (plan : PlanForm) → IsConsistent plan → (spreads : List RowSpread) → plan_spreads plan ≡ Ok spreads → (tasks : ℕ) → 0 < tasks
    → (i : ℕ) (f : FragmentForm) (s : RowSpread) → slice_get plan.fragments i ≡ Some f → slice_get spreads i ≡ Some s → half f.root ≡ None
    → Placed (tasks_of tasks f.placement) (part_read 0 (fragment_parts tasks 0 plan.fragments) i).root (row_spread_view s)
roots_are_placed plan c spreads is tasks some =
    let j = judged_plan plan c in
    roots_placed plan j.types.has spreads j.types.is is (plan_meets plan c) tasks some

pub plan_fits_widths : (plan : PlanForm) → IsConsistent plan → (tasks : ℕ) → 0 < tasks → FitsWidths (tree_of_run (plan_run tasks plan))
plan_fits_widths plan c tasks some =
    let j = judged_plan plan c in
    plan_fits plan j.types.has j.spreads.has j.types.is j.spreads.is (plan_meets plan c) (plan_leaves plan c) tasks some

pub parts_fit_widths : (plan : PlanForm) → IsConsistent plan → (tasks : ℕ) → 0 < tasks → (i : ℕ)
    → FitsWidths (tree_of_run (part_read 0 (fragment_parts tasks 0 plan.fragments) i).root)
parts_fit_widths plan c tasks some =
    let j = judged_plan plan c in
    parts_fit plan j.types.has j.spreads.has j.types.is j.spreads.is (plan_meets plan c) (plan_leaves plan c) tasks some

pub read_consistent : (plan : PlanForm) (bytes : List ℕ) → IsPlan bytes plan → IsConsistent plan
read_consistent plan bytes p = record { document = p.document; passes = p.passes; means = p.means }
