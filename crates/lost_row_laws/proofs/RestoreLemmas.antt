-- The lost rows are put back, from a scan up to the join at which they give nothing.
use Rattle.std.proofs.Common.{◌≡◌, ℕ, ◌<◌, List, [], ◌∷◌, ◌++◌, Bool, true, false, refl, ap, sym, ◌∙◌, arith, subst, inl, inr, ◌⊎◌, length, map}
use Rattle.std.specs.Prelude.{◌&&◌, ◌||◌, if◌then◌else◌, Ok, Err, Result, Some, None, filter}
use Rattle.std.proofs.lemmas.List.{append-nil}
use Rattle.sql_values.specs.declared.types.SqlType.{SqlType}
use Rattle.sql_values.specs.declared.value.Value.{Value}
use Rattle.sql_values.specs.declared.fail.Fail.{Fail}
use Rattle.sql_values.specs.declared.relational.JoinKind.{JoinKind}
use Rattle.sql_values.specs.declared.relational.JoinKind.TheVariants.{Inner}
use Rattle.sql_values.specs.Cells.{cell}
use Rattle.sql_functions.specs.Outcomes.{Outcome}
use Rattle.sql_functions.specs.Truth.{is_true}
use Rattle.sql_exprs.specs.Calm.{are_calm, is_calm}
use Rattle.sql_exprs.specs.Forms.{Form, forms_of}
use Rattle.sql_exprs.specs.Meaning.{kind_of, value_of}
use Rattle.relation_laws.specs.Aggregates.{all_values}
use Rattle.relation_laws.specs.Joins.{are_partners, beside_each, join_of, nulls, partnered}
use Rattle.relation_laws.specs.Verdicts.{drops, keeps, kept, kept_rows, verdict_of}
use Rattle.bag_laws.specs.Buckets.{Sits}
use Rattle.bag_laws.specs.Gather.{gather}
use Rattle.bag_laws.specs.Laws.{TaskRows}
use Rattle.bag_laws.specs.Weights.{SameWeights}
use Rattle.bag_laws.proofs.BagLemmas.{same-append, same-from_equal, same-refl, same-trans}
use Rattle.bag_laws.proofs.BucketLemmas.{sits-cons, sits-filter, sits-flat_map, sits-map, sits-nil}
use Rattle.bag_laws.proofs.GatherLemmas.{gather-filter, length-gather-le}
use Rattle.bag_laws.proofs.JoinLemmas.{join-append_left}
use Rattle.bag_laws.proofs.VerdictLemmas.{sits-kept_rows}
use Rattle.page_processor.specs.Typed.{AllTyped, IsTyped}
use Rattle.plan_trees.specs.Allowed.{Judged, Mode, StepGives, width_of}
use Rattle.plan_trees.specs.Steps.{StepForm}
use Rattle.plan_trees.specs.Steps as steps
use Rattle.plan_trees.specs.Judges.{filter_judge, filtered, project_judge}
use Rattle.plan_trees.specs.TreeTypes.{types_of}
use Rattle.column_origins.specs.Origins.{left_column, passed_column}
use Rattle.plan_run_laws.specs.RunPlans.{Output, RunPlan, tree_of_run}
use Rattle.plan_run_laws.specs.RunPlans as plan
use Rattle.plan_run_laws.specs.Runs.{EdgePassed, Ran, sent}
use Rattle.plan_run_laws.proofs.ReadLemmas.{sits-gather}
use Rattle.lost_row_laws.specs.Runs.{AreAlone, AreTyped, IsTypedStep, RanLosing}
use Rattle.lost_row_laws.specs.Sieves.{Sieve, fits_in, is_held, is_lost, over_input, under}
use Rattle.lost_row_laws.proofs.CalmLemmas.{fit_project, quiet_filter, quiet_project}
use Rattle.lost_row_laws.proofs.SameLemmas.{judged_more, passed_more, ran_same, sent_sits, sits_none}
use Rattle.lost_row_laws.proofs.SieveLemmas.{and_first, and_second, both, calm_if_held, column_kept, fit_beside, held_above, held_by_either, held_if_calm, if_calm, held_somewhere, left_cell, left_place, over_both, passed}

-- with some rows that may be lost, each task has what a run of all rows gave
pub record Restored (mode : Mode) (tables : List (List (List Value))) (sieves : List Sieve) (n : ℕ) (p : RunPlan) (out : TaskRows) : Type 0 where
  pub lost : TaskRows
  pub ran : Ran mode tables n p (λ k. out k ++ lost k)
  pub held : (k : ℕ) → k < n → Sits (is_lost mode sieves (types_of (tree_of_run p))) (lost k)

none_is_lost : (mode : Mode) (types : List SqlType) (row : List Value) → is_lost mode [] types row ≡ false
none_is_lost mode types row = with_false (fits_in mode types row)
  where
    with_false : (b : Bool) → b && false ≡ false
    with_false true = refl
    with_false false = refl

-- what hands down no column hands down no sieve
over_nothing : (sieves : List Sieve) → over_input (λ place. None) sieves ≡ []
over_nothing [] = refl
over_nothing (s ∷ sieves) = over_nothing sieves

over_calm : (calm : Bool) (sieves : List Sieve) → over_input (λ place. if calm then Some place else None) sieves ≡ if_calm calm sieves
over_calm true [] = refl
over_calm true (s ∷ sieves) = ap (λ (all : List Sieve). s ∷ all) (over_calm true sieves)
over_calm false sieves = over_nothing sieves

module _ (mode : Mode) (tables : List (List (List Value))) where
  -- where no sieve holds anything back, nothing was lost
  pub plain : (n : ℕ) (p : RunPlan) (out : TaskRows) → Restored mode tables [] n p out → Ran mode tables n p out
  plain n p out r =
      let types = types_of (tree_of_run p) in
      ran_same mode tables n p (λ k. out k ++ r.lost k) out
      (λ k lt. ap (λ (rows : List (List Value)). out k ++ rows) (sits_none (is_lost mode [] types) (none_is_lost mode types) (r.lost k) (r.held k lt)) ∙ append-nil (out k))
      r.ran

  unlost : (sieves : List Sieve) (n : ℕ) (p : RunPlan) (out : TaskRows) → Ran mode tables n p out → Restored mode tables sieves n p out
  unlost sieves n p out ran = record {
    lost = λ k. [];
    ran = ran_same mode tables n p out (λ k. out k ++ []) (λ k lt. sym (append-nil (out k))) ran;
    held = λ k lt. sits-nil (is_lost mode sieves (types_of (tree_of_run p)));
  }

  module _ (sieves : List Sieve) (n : ℕ) where
    at_remote : (id : ℕ) (output : Output) (m : ℕ) (input : RunPlan) (ins out : TaskRows) → EdgePassed output m n ins out
        → Restored mode tables sieves m input ins → Restored mode tables sieves n (plan.remote id output m input) out
    at_remote id output m input ins out passed r = record {
      lost = λ k. sent output n k (gather m r.lost);
      ran = ((λ j. ins j ++ r.lost j), r.ran, passed_more output m n ins r.lost out passed);
      held = λ k lt. sent_sits (is_lost mode sieves (types_of (tree_of_run input))) output n k (gather m r.lost)
          (sits-gather (is_lost mode sieves (types_of (tree_of_run input))) m r.lost r.held);
    }

    -- a filter keeps a lost row as it is, or leaves it out
    module _ (types : List SqlType) (predicate : Form) where
      abbrev below : List Sieve
      below = if_calm (is_calm types predicate) sieves

      still_lost : (row : List Value) → is_lost mode below types row ≡ true → is_lost mode sieves types row ≡ true
      still_lost row h =
          both (fits_in mode types row) (is_held sieves row) (and_first (fits_in mode types row) (is_held below row) h)
          (held_if_calm (is_calm types predicate) sieves row (and_second (fits_in mode types row) (is_held below row) h))

      kept_row : (row : List Value) (o : Outcome) → is_lost mode sieves types row ≡ true → Sits (is_lost mode sieves types) (kept (filtered row o))
      kept_row row (Err kind) h = sits-nil (is_lost mode sieves types)
      kept_row row (Ok v) h = if_kept (is_true v)
        where
          if_kept : (b : Bool) → Sits (is_lost mode sieves types) (kept (if b then keeps row else drops))
          if_kept true = sits-cons (is_lost mode sieves types) row [] h (sits-nil (is_lost mode sieves types))
          if_kept false = sits-nil (is_lost mode sieves types)

    at_filter : (id : ℕ) (predicate : Form) (input : RunPlan) (ins out : TaskRows) → IsTyped (types_of (tree_of_run input)) predicate
        → ((k : ℕ) → k < n → Judged mode (filter_judge (types_of (tree_of_run input)) predicate) (ins k) (out k))
        → Restored mode tables (if_calm (is_calm (types_of (tree_of_run input)) predicate) sieves) n input ins
        → Restored mode tables sieves n (plan.filter id predicate input) out
    at_filter id predicate input ins out typed judged r =
        let types = types_of (tree_of_run input) in
        let judge = filter_judge types predicate in
        let test = is_lost mode (below types predicate) types in
        record {
          lost = λ k. kept_rows judge (r.lost k);
          ran = (
            (λ k. ins k ++ r.lost k),
            r.ran,
            λ k lt. judged_more judge test mode
                (λ row h. quiet_filter types row mode predicate typed (and_first (fits_in mode types row) (is_held (below types predicate) row) h)
                (calm_if_held (is_calm types predicate) sieves row (and_second (fits_in mode types row) (is_held (below types predicate) row) h)))
                (ins k) (out k) (r.lost k) (r.held k lt) (judged k lt),
          );
          held = λ k lt. sits-kept_rows test (is_lost mode sieves types) judge
              (λ row h. kept_row types predicate row (value_of types predicate row) (still_lost types predicate row h)) (r.lost k) (r.held k lt);
        }

    -- a project gives another row for a lost one, with its column at another place
    module _ (types : List SqlType) (columns : List Form) where
      abbrev over : List Sieve
      over = over_input (passed_column types columns) sieves

      some_calm : (row : List Value) → is_held over row ≡ true → are_calm types (forms_of columns) ≡ true
      some_calm row h =
          held_somewhere (passed_column types columns) row (are_calm types (forms_of columns) ≡ true)
          (λ place c is. (passed types columns place c is).0) sieves h

      kept_values : (row : List Value) → is_held over row ≡ true → (r : Result (List Value) Fail) → all_values (map (λ form. value_of types form row) columns) ≡ r
          → ((vs : List Value) → all_values (map (λ form. value_of types form row) columns) ≡ Ok vs → fits_in mode (map (kind_of types) columns) vs ≡ true)
          → Sits (is_lost mode sieves (map (kind_of types) columns)) (kept (verdict_of r))
      kept_values row h (Err kind) all fit = sits-nil (is_lost mode sieves (map (kind_of types) columns))
      kept_values row h (Ok vs) all fit =
          let kinds = map (kind_of types) columns in
          sits-cons (is_lost mode sieves kinds) vs []
          (both (fits_in mode kinds vs) (is_held sieves vs) (fit vs all)
          (held_above (passed_column types columns) row vs
          (λ place c is lt. column_kept types row columns vs all place c (passed types columns place c is).1) sieves h))
          (sits-nil (is_lost mode sieves kinds))

    at_project : (id : ℕ) (columns : List Form) (input : RunPlan) (ins out : TaskRows) → AllTyped (types_of (tree_of_run input)) columns
        → ((k : ℕ) → k < n → Judged mode (project_judge (types_of (tree_of_run input)) columns) (ins k) (out k))
        → Restored mode tables (over_input (passed_column (types_of (tree_of_run input)) columns) sieves) n input ins
        → Restored mode tables sieves n (plan.project id columns input) out
    at_project id columns input ins out typed judged r =
        let types = types_of (tree_of_run input) in
        let kinds = types_of (tree_of_run (plan.project id columns input)) in
        let judge = project_judge types columns in
        let test = is_lost mode (over types columns) types in
        let fit : (row : List Value) → test row ≡ true → fits_in mode types row ≡ true = λ row h. and_first (fits_in mode types row) (is_held (over types columns) row) h in
        let back : (row : List Value) → test row ≡ true → is_held (over types columns) row ≡ true = λ row h. and_second (fits_in mode types row) (is_held (over types columns) row) h in
        let calm : (row : List Value) → test row ≡ true → are_calm types (forms_of columns) ≡ true = λ row h. some_calm types columns row (back row h) in
        record {
          lost = λ k. kept_rows judge (r.lost k);
          ran = (
            (λ k. ins k ++ r.lost k),
            r.ran,
            λ k lt. judged_more judge test mode (λ row h. quiet_project types row mode columns typed (fit row h) (calm row h))
                (ins k) (out k) (r.lost k) (r.held k lt) (judged k lt),
          );
          held = λ k lt. sits-kept_rows test (is_lost mode sieves kinds) judge
              (λ row h. kept_values types columns row (back row h) (all_values (map (λ form. value_of types form row) columns)) refl
              (fit_project types row mode columns typed (fit row h) (calm row h))) (r.lost k) (r.held k lt);
        }

    at_step : (id : ℕ) (s : StepForm) (input : RunPlan) (ins out : TaskRows) → IsTypedStep (types_of (tree_of_run input)) s
        → ((k : ℕ) → k < n → StepGives mode (types_of (tree_of_run input)) s (ins k) (out k))
        → Restored mode tables (under (types_of (tree_of_run input)) s sieves) n input ins → Restored mode tables sieves n (plan.step id s input) out
    at_step id (steps.filter predicate) input ins out typed judged r =
        at_filter id predicate input ins out typed judged
        (subst (λ (all : List Sieve). Restored mode tables all n input ins) (over_calm (is_calm (types_of (tree_of_run input)) predicate) sieves) r)
    at_step id (steps.project columns) input ins out typed judged r = at_project id columns input ins out typed judged r
    at_step id s input ins out typed gives r =
        unlost sieves n (plan.step id s input) out
        (ins, plain n input ins (subst (λ (all : List Sieve). Restored mode tables all n input ins) (over_nothing sieves) r), gives)

    -- a join gives nothing for what its own sieves hold back, and passes on what those from above do
    module _ (kind : JoinKind) (on : List (ℕ × ℕ)) (lefts rights : List SqlType) (own : List Sieve) (rs : TaskRows)
        (alone : AreAlone on (gather n rs) own) (fit : (k : ℕ) → k < n → Sits (fits_in mode rights) (rs k)) where
      abbrev handed : List Sieve
      handed = over_input (left_column kind (length lefts)) (own ++ sieves)

      no_partner : (k : ℕ) → k < n → (a : List Value) → is_held own a ≡ true → filter (are_partners on a) (rs k) ≡ []
      no_partner k lt a h =
          none_of (filter (are_partners on a) (rs k))
          (omega (
            arith,
            length-gather-le n (λ j. filter (are_partners on a) (rs j)) k lt,
            ap length (sym (gather-filter n (are_partners on a) rs) ∙ alone a h),
          ))
        where
          none_of : (rows : List (List Value)) → length rows ≡ 0 → rows ≡ []
          none_of [] h = refl
          none_of (row ∷ rows) h = absurd (omega (arith, h))

      own_or_above : (a : List Value) → is_held handed a ≡ true → (is_held own a ≡ true) ⊎ (is_held (over_input (left_column kind (length lefts)) sieves) a ≡ true)
      own_or_above a h =
          let comes = left_column kind (length lefts) in
          either (is_held (over_input comes own) a) (is_held (over_input comes sieves) a)
          (held_above comes a a (λ place c is lt.
          let same = (left_place kind (length lefts) place c is).2 in
          (omega (arith, same, lt), ap (cell a) same)) own)
          (sym (held_by_either (over_input comes own) (over_input comes sieves) a)
          ∙ ap (λ (all : List Sieve). is_held all a) (sym (over_both comes own sieves)) ∙ h)
        where
          either : (b c : Bool) → (b ≡ true → is_held own a ≡ true) → b || c ≡ true
              → (is_held own a ≡ true) ⊎ (c ≡ true)
          either true c gives h = inl (gives refl)
          either false c gives h = inr h

      beside : (k : ℕ) → k < n → (a : List Value) → is_lost mode handed lefts a ≡ true
          → Sits (is_lost mode sieves (lefts ++ rights)) (beside_each a (filter (are_partners on a) (rs k)))
      beside k lt a h =
          let fit_a = and_first (fits_in mode lefts a) (is_held handed a) h in
          at (own_or_above a (and_second (fits_in mode lefts a) (is_held handed a) h)) fit_a
        where
          at : (is_held own a ≡ true) ⊎ (is_held (over_input (left_column kind (length lefts)) sieves) a ≡ true) → fits_in mode lefts a ≡ true
              → Sits (is_lost mode sieves (lefts ++ rights)) (beside_each a (filter (are_partners on a) (rs k)))
          at (inl mine) fit_a =
              subst (λ (rows : List (List Value)). Sits (is_lost mode sieves (lefts ++ rights)) (beside_each a rows)) (sym (no_partner k lt a mine))
              (sits-nil (is_lost mode sieves (lefts ++ rights)))
          at (inr above) fit_a =
              sits-map (fits_in mode rights) (is_lost mode sieves (lefts ++ rights)) (λ b. a ++ b)
              (λ x fits_x. both (fits_in mode (lefts ++ rights) (a ++ x)) (is_held sieves (a ++ x)) (fit_beside mode lefts rights a x fit_a fits_x)
              (held_above (left_column kind (length lefts)) a (a ++ x) (left_cell kind (length lefts) a x) sieves above))
              (filter (are_partners on a) (rs k)) (sits-filter (fits_in mode rights) (are_partners on a) (rs k) (fit k lt))

      is_inner : (a : List Value) → is_held handed a ≡ true → kind ≡ Inner
      is_inner a h = held_somewhere (left_column kind (length lefts)) a (kind ≡ Inner) (λ place c is. (left_place kind (length lefts) place c is).0) (own ++ sieves) h

      joined_row : (k : ℕ) → k < n → (width : ℕ) (a : List Value) → is_lost mode handed lefts a ≡ true
          → Sits (is_lost mode sieves (lefts ++ rights)) (partnered kind (nulls width) a (filter (are_partners on a) (rs k)))
      joined_row k lt width a h =
          subst (λ (j : JoinKind). Sits (is_lost mode sieves (lefts ++ rights)) (partnered j (nulls width) a (filter (are_partners on a) (rs k))))
          (sym (is_inner a (and_second (fits_in mode lefts a) (is_held handed a) h))) (beside k lt a h)

    at_join : (id : ℕ) (kind : JoinKind) (on : List (ℕ × ℕ)) (left right : RunPlan) (own : List Sieve) (ls rs out : TaskRows)
        → ((k : ℕ) → k < n → Sits (fits_in mode (types_of (tree_of_run right))) (rs k)) → Ran mode tables n right rs → AreAlone on (gather n rs) own
        → ((k : ℕ) → k < n → SameWeights (join_of kind on (width_of (tree_of_run left)) (width_of (tree_of_run right)) (ls k) (rs k)) (out k))
        → Restored mode tables (over_input (left_column kind (width_of (tree_of_run left))) (own ++ sieves)) n left ls
        → Restored mode tables sieves n (plan.join id kind on left right) out
    at_join id kind on left right own ls rs out fit ran alone joined r =
        let lefts = types_of (tree_of_run left) in
        let rights = types_of (tree_of_run right) in
        let width = width_of (tree_of_run right) in
        record {
          lost = λ k. join_of kind on (width_of (tree_of_run left)) width (r.lost k) (rs k);
          ran = (
            (λ k. ls k ++ r.lost k),
            rs,
            r.ran,
            ran,
            λ k lt. same-trans
                (same-from_equal (join-append_left kind on (width_of (tree_of_run left)) width (ls k) (r.lost k) (rs k)))
                (same-append (joined k lt) (same-refl (join_of kind on (width_of (tree_of_run left)) width (r.lost k) (rs k)))),
          );
          held = λ k lt. sits-flat_map (is_lost mode (handed kind on lefts rights own rs alone fit) lefts) (is_lost mode sieves (lefts ++ rights))
              (λ a. partnered kind (nulls width) a (filter (are_partners on a) (rs k)))
              (joined_row kind on lefts rights own rs alone fit k lt width) (r.lost k) (r.held k lt);
        }

  pub restored : (n : ℕ) (p : RunPlan) (sieves : List Sieve) → AreTyped p → (out : TaskRows) → RanLosing mode tables sieves n p out
      → Restored mode tables sieves n p out
  restored n (plan.scan id table columns types) sieves typed out (lost, all, held) = record { lost = lost; ran = all; held = held }
  restored n (plan.values id types rows) sieves typed out ran = unlost sieves n (plan.values id types rows) out ran
  restored n (plan.remote id output m input) sieves typed out (ins, ran, sent_on) =
      at_remote sieves n id output m input ins out sent_on (restored m input sieves typed ins ran)
  restored n (plan.step id s input) sieves (own, typed) out (ins, ran, gives) =
      at_step sieves n id s input ins out own gives (restored n input (under (types_of (tree_of_run input)) s sieves) typed ins ran)
  restored n (plan.halves id source output m h input) sieves typed out (ins, parts, got, ran, pieces, sent_on, makes) =
      unlost sieves n (plan.halves id source output m h input) out
      (ins, parts, got, plain m input ins (restored m input [] typed ins ran), pieces, sent_on, makes)
  restored n (plan.join id kind on left right) sieves (typed, also) out (own, ls, rs, ran, others, alone, fit, joined) =
      let whole = plain n right rs (restored n right [] also rs others) in
      at_join sieves n id kind on left right own ls rs out fit whole alone joined
      (restored n left (over_input (left_column kind (width_of (tree_of_run left))) (own ++ sieves)) typed ls ran)
  restored n (plan.union id left right) sieves (typed, also) out (ls, rs, ran, others, put) =
      unlost sieves n (plan.union id left right) out
      (ls, rs, plain n left ls (restored n left [] typed ls ran), plain n right rs (restored n right [] also rs others), put)

  pub put_back : (n : ℕ) (p : RunPlan) → AreTyped p → (out : TaskRows) → RanLosing mode tables [] n p out → Ran mode tables n p out
  put_back n p typed out ran = plain n p out (restored n p [] typed out ran)
