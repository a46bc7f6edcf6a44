-- What follows of a consistent document.
use Rattle.std.proofs.Common.{◌≡◌, ℕ, ◌≤◌, [], map, Option, Some, None, option_map, refl, ap, ◌∙◌, arith}
use Rattle.std.specs.List.{find}
use Rattle.std.specs.Option.{option_or}
use Rattle.serde_json.specs.Data.{Data}
use Rattle.json_paths.specs.declared.key.Key.TheVariants as key
use Rattle.plan_grammar.specs.Json.{entries_under}
use Rattle.plan_grammar.specs.Spots.{Spot, places_of}
use Rattle.plan_checks.specs.Documents.{at, first_malformed, first_refused, first_unjoined, refusal, refusal_of}
use Rattle.plan_checks.specs.Limits.{first_beyond}
use Rattle.plan_checks.specs.Names.{first_misnamed, numbers_node}
use Rattle.plan_checks.specs.Shapes.{is_misshapen}
use Rattle.plan_docs.specs.Documents.{fragment_of}
use Rattle.plan_docs.specs.Plans.{PlanForm}
use Rattle.plan_link_laws.proofs.ReachLemmas.{first_option, second_option}
use Rattle.plan_spreads.specs.Runs.{plan_run}
use Rattle.plan_link_laws.specs.Consistent.{IsConsistent}
use Rattle.plan_link_laws.proofs.DocumentLemmas.{document_checked, fragments_of, passes_first, plan_read_once, plan_reads}
use Rattle.sieve_laws.specs.ComingDown.{ScansApart}
use Rattle.net_laws.specs.JoinIds.{JoinsApart}
use Rattle.net_laws.proofs.JoinCountLemmas.{AreNamedOnce, joins_apart, scans_apart}
use Rattle.net_laws.proofs.DocumentCountLemmas.{document_given}
use Rattle.net_laws.proofs.ReadCountLemmas.{run_held, ids_among}
use Rattle.net_laws.proofs.SpotLemmas.{fresh_nodes, given_once}

unmapped : {A B : Type 0} (f : A → B) (o : Option A) → option_map f o ≡ None → o ≡ None
unmapped f None h = refl
unmapped f (Some x) h = absurd cc

-- no name of a document is wrong that passes the checks
pub named : (d : Data) → refusal_of d ≡ None → first_misnamed d [] (places_of d) ≡ None
named d e =
    let all = places_of d in
    let shapes = at 2 (find is_misshapen all) in
    let limits = at 3 (first_beyond all) in
    let names = at 4 (first_misnamed d [] all) in
    let malformed = first_option (first_malformed d all) (first_unjoined d all) (unmapped refusal (first_refused d all) e) in
    let later = second_option shapes (option_or limits names) malformed in
    unmapped (λ (s : Spot). (4, s)) (first_misnamed d [] all) (second_option limits names later)

document_once : (n : ℕ) (d : Data) → refusal_of d ≡ None → ids_among n (map (fragment_of d) (entries_under key.Fragments d)) ≤ 1
document_once n d e = omega (arith, document_given n d (places_of d) (document_checked d e), given_once (numbers_node n) (fresh_nodes n) d [] (places_of d) (named d e))

pub plan_once : (n : ℕ) (plan : PlanForm) → IsConsistent plan → ids_among n plan.fragments ≤ 1
plan_once n plan c =
    let d = c.document in
    let same = ap (λ (p : PlanForm). ids_among n p.fragments) c.means ∙ ap (ids_among n) (fragments_of d) in
    omega (arith, same, document_once n d (passes_first d c.passes))

named_once : (plan : PlanForm) → IsConsistent plan → (tasks : ℕ) → AreNamedOnce (plan_run tasks plan)
named_once plan c tasks n = omega (arith, run_held tasks n plan (plan_reads plan c) (plan_read_once plan c), plan_once n plan c)

pub plan_scans : (plan : PlanForm) → IsConsistent plan → (tasks : ℕ) → ScansApart (plan_run tasks plan)
plan_scans plan c tasks = scans_apart (plan_run tasks plan) (named_once plan c tasks)

pub plan_joins : (plan : PlanForm) → IsConsistent plan → (tasks : ℕ) → JoinsApart (plan_run tasks plan)
plan_joins plan c tasks = joins_apart (plan_run tasks plan) (named_once plan c tasks)
