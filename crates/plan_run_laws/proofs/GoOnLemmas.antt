-- How `StagesCanGoOn` comes stage by stage: from what each stage took, what it gave of that, and whether its
-- giver, and the stage behind it, were told to finish.
use Rattle.std.proofs.Common.{◌≡◌, ℕ, List, [], ◌∷◌, ◌++◌, Bool, true, false, refl, ap, sym, ◌∙◌, subst, append_assoc}
use Rattle.std.specs.Prelude.{flat_map}
use Rattle.std.proofs.lemmas.Bool.{true≢false}
use Rattle.std.proofs.lemmas.Grind.{flat_map-append}
use Rattle.std.proofs.lemmas.List.{append-nil, append_cancel_left}
use Rattle.std.proofs.lemmas.List.Sorted.{IsPermutation-refl}
use Rattle.sql_values.specs.declared.types.SqlType.{SqlType}
use Rattle.sql_values.specs.declared.value.Value.{Value}
use Rattle.sql_values.specs.declared.relational.JoinKind.{JoinKind}
use Rattle.sql_exprs.specs.Forms.{Form}
use Rattle.relation_laws.specs.Joins.{join_of}
use Rattle.relation_laws.specs.Sorts.{IsBeginning}
use Rattle.relation_laws.specs.Verdicts.{Verdict, kept, kept_rows}
use Rattle.bag_laws.specs.Pieces.{finals_of, partials_of}
use Rattle.bag_laws.specs.Weights.{SameWeights}
use Rattle.bag_laws.proofs.BagLemmas.{same-append, same-from_equal, same-refl, same-trans}
use Rattle.bag_laws.proofs.JoinLemmas.{join-append_left}
use Rattle.plan_trees.specs.Allowed.{skipping}
use Rattle.plan_trees.specs.Judges.{filter_judge, project_judge}
use Rattle.plan_trees.proofs.StepLemmas.{some_step}
use Rattle.plan_run_laws.specs.Stages.{Makes, Stage, StagesMake, does, filter, final, partial, probe, project}
use Rattle.plan_run_laws.specs.Stops.{StagesCanGoOn, StageGoesOn, MayCome}

nothing_behind : (rows rest : List (List Value)) → rows ++ rest ≡ rows → rest ≡ []
nothing_behind rows rest is = append_cancel_left rows rest [] (is ∙ sym (append-nil rows))

-- a driver without stages gives what it takes
pub goes_on-nil : (rows : List (List Value)) (ended done : Bool) → (done ≡ true → ended ≡ true) → StagesCanGoOn [] rows rows ended done
goes_on-nil rows ended done over more may = record { rest = more; chain = refl; none = λ e. may (over e) }

chain-append : (first second : List Stage) (took between gave : List (List Value)) → StagesMake skipping first took between → StagesMake skipping second between gave
    → StagesMake skipping (first ++ second) took gave
chain-append [] second took between gave is chain = subst (λ rows. StagesMake skipping second rows gave) (sym is) chain
chain-append (stage ∷ first) second took between gave (next, makes, rest) chain = (next, makes, chain-append first second next between gave rest chain)

-- stages one behind the other: the later ones took what the earlier ones gave, and `told` is whether they
-- were told that no more comes
pub goes_on-append : (first second : List Stage) (took between gave : List (List Value)) (ended told done : Bool)
    → StagesCanGoOn first took between ended told → StagesCanGoOn second between gave told done → StagesCanGoOn (first ++ second) took gave ended done
goes_on-append first second took between gave ended told done one two more may =
    let a = one more may in
    let b = two a.rest a.none in
    record { rest = b.rest; chain = chain-append first second (took ++ more) (between ++ a.rest) (gave ++ b.rest) a.chain b.chain; none = b.none }

-- a stage, and what it still gives for all that may come
pub goes_on-one : (stage : Stage) (took gave : List (List Value)) (ended done : Bool)
    → ((more : List (List Value)) → MayCome ended more → (rest : List (List Value)) × Makes skipping stage (took ++ more) (gave ++ rest) × MayCome done rest)
    → StagesCanGoOn (stage ∷ []) took gave ended done
goes_on-one stage took gave ended done each more may =
    let s = each more may in
    record { rest = s.0; chain = (gave ++ s.0, s.1, refl); none = s.2 }

-- a stage that makes one list of rows in order: what it gave is a beginning of what it makes, whatever
-- comes, and it is done only where that is all
pub record BeginsWith (make : List (List Value) → List (List Value)) (took gave : List (List Value)) (ended done : Bool) : Type 0 where
  pub begins : (more : List (List Value)) → MayCome ended more → IsBeginning gave (make (took ++ more))
  pub whole : done ≡ true → (more : List (List Value)) → MayCome ended more → gave ≡ make (took ++ more)

pub goes_on-made : (stage : Stage) (make : List (List Value) → List (List Value)) → ((rows : List (List Value)) → Makes skipping stage rows (make rows))
    → (took gave : List (List Value)) (ended done : Bool) → BeginsWith make took gave ended done → StagesCanGoOn (stage ∷ []) took gave ended done
goes_on-made stage make makes took gave ended done b =
    goes_on-one stage took gave ended done (λ more may.
    let begun = b.begins more may in (
      begun.0,
      subst (Makes skipping stage (took ++ more)) (sym begun.1) (makes (took ++ more)),
      λ e. nothing_behind gave begun.0 (begun.1 ∙ sym (b.whole e more may)),
    ))

-- a filter or a project gave the rows before its first failing row, say, or some of these
pub goes_on-filter : (types : List SqlType) (predicate : Form) (took gave : List (List Value)) (ended done : Bool)
    → BeginsWith (kept_rows (filter_judge types predicate)) took gave ended done → StagesCanGoOn (filter types predicate ∷ []) took gave ended done
goes_on-filter types predicate =
    goes_on-made (filter types predicate) (kept_rows (filter_judge types predicate)) (λ rows. record { calm = tt; are_kept = refl })

pub goes_on-project : (types : List SqlType) (columns : List Form) (took gave : List (List Value)) (ended done : Bool)
    → BeginsWith (kept_rows (project_judge types columns)) took gave ended done → StagesCanGoOn (project types columns ∷ []) took gave ended done
goes_on-project types columns =
    goes_on-made (project types columns) (kept_rows (project_judge types columns)) (λ rows. record { calm = tt; are_kept = refl })

-- one operator that filters and projects
pub goes_on-filter_project : (types others : List SqlType) (predicate : Form) (columns : List Form) (took gave : List (List Value)) (ended done : Bool)
    → BeginsWith (λ rows. kept_rows (project_judge others columns) (kept_rows (filter_judge types predicate) rows)) took gave ended done
    → StagesCanGoOn (filter types predicate ∷ project others columns ∷ []) took gave ended done
goes_on-filter_project types others predicate columns took gave ended done b more may =
    let begun = b.begins more may in
    record {
      rest = begun.0;
      chain = (
        kept_rows (filter_judge types predicate) (took ++ more),
        record { calm = tt; are_kept = refl },
        (gave ++ begun.0, record { calm = tt; are_kept = begun.1 }, refl),
      );
      none = λ e. nothing_behind gave begun.0 (begun.1 ∙ sym (b.whole e more may));
    }

-- the rows that are kept of the rows before a failing one are a beginning of those that are kept of all
pub kept-beginning : (judge : List Value → Verdict) (before rows : List (List Value)) → IsBeginning before rows → IsBeginning (kept_rows judge before) (kept_rows judge rows)
kept-beginning judge before rows (after, is) =
    (kept_rows judge after, sym (flat_map-append (λ row. kept (judge row)) before after) ∙ ap (kept_rows judge) is)

pub beginning-trans : (xs ys zs : List (List Value)) → IsBeginning xs ys → IsBeginning ys zs → IsBeginning xs zs
beginning-trans xs ys zs (first, is) (second, also) =
    (first ++ second, sym (append_assoc xs first second) ∙ ap (λ rows. rows ++ second) is ∙ also)

-- an operator that stops at its first failing row, whatever comes: what it gave is a beginning of what is
-- kept of the rows before that one
pub begins_before : (judge : List Value → Verdict) (took gave : List (List Value)) (ended done : Bool)
    → ((more : List (List Value)) → MayCome ended more
    → (before : List (List Value)) × IsBeginning before (took ++ more) × IsBeginning gave (kept_rows judge before))
    → (done ≡ true → (more : List (List Value)) → MayCome ended more → gave ≡ kept_rows judge (took ++ more))
    → BeginsWith (kept_rows judge) took gave ended done
begins_before judge took gave ended done each whole = record {
  begins = λ more may.
      let e = each more may in
      beginning-trans gave (kept_rows judge e.0) (kept_rows judge (took ++ more)) e.2 (kept-beginning judge e.0 (took ++ more) e.1);
  whole = whole;
}

-- a probe gave some of the rows that it makes of what it took
pub goes_on-probe : (kind : JoinKind) (on : List (ℕ × ℕ)) (l r : ℕ) (built took gave left : List (List Value)) (ended done : Bool)
    → SameWeights (join_of kind on l r took built) (gave ++ left) → (done ≡ true → (ended ≡ true) × (left ≡ []))
    → StagesCanGoOn (probe kind on l r built ∷ []) took gave ended done
goes_on-probe kind on l r built took gave left ended done some over =
    goes_on-one (probe kind on l r built) took gave ended done (λ more may.
    let later = join_of kind on l r more built in (
      left ++ later,
      same-trans (same-from_equal (join-append_left kind on l r took more built))
          (same-trans (same-append some (same-refl later)) (same-from_equal (append_assoc gave left later))),
      λ e. λ i. (over e).1 i ++ join_of kind on l r (may (over e).0 i) built,
    ))

-- each stage makes something of any rows
pub makes_some : (stage : Stage) (rows : List (List Value)) → (given : List (List Value)) × Makes skipping stage rows given
makes_some (does types s) rows = some_step types s rows
makes_some (probe kind on l r built) rows = (join_of kind on l r rows built, same-refl (join_of kind on l r rows built))
makes_some (partial keys calls) rows = (partials_of keys calls rows, same-refl (partials_of keys calls rows))
makes_some (final types width calls) rows =
    let given = flat_map kept (finals_of types width calls rows) in
    (given, record { calm = tt; are_kept = IsPermutation-refl given })

-- a stage that gave nothing so far, as one that waits for all of its rows
pub goes_on-waits : (stage : Stage) (took : List (List Value)) (ended : Bool) → StagesCanGoOn (stage ∷ []) took [] ended false
goes_on-waits stage took ended =
    goes_on-one stage took [] ended false (λ more may.
    let some = makes_some stage (took ++ more) in
    (some.0, some.1, λ e. absurd (true≢false (sym e))))

-- a stage that has all of its rows, and gives of what it made of them
pub goes_on-ended : (stage : Stage) (took gave left : List (List Value)) (done : Bool) → Makes skipping stage took (gave ++ left) → MayCome done left
    → StagesCanGoOn (stage ∷ []) took gave true done
goes_on-ended stage took gave left done makes over =
    goes_on-one stage took gave true done (λ more may.
    (left, subst (λ rows. Makes skipping stage rows (gave ++ left)) (sym (append-nil took) ∙ ap (λ rows. took ++ rows) (sym (may refl))) makes, over))

-- stages that have all of their rows, and gave all that they make of them
pub goes_on-over : (stages : List Stage) (took gave : List (List Value)) → StagesMake skipping stages took gave → StagesCanGoOn stages took gave true true
goes_on-over stages took gave chain more may =
    subst (StageGoesOn stages took gave true) (sym (may refl)) (
    record {
      rest = [];
      chain = subst (λ rows. StagesMake skipping stages rows (gave ++ [])) (sym (append-nil took))
          (subst (StagesMake skipping stages took) (sym (append-nil gave)) chain);
      none = λ e. refl;
    }
    )
