-- What an operator that judges row by row means.
use Rattle.std.proofs.Common.{◌≡◌, ◌⊎◌, inl, inr, ℕ, zero, suc, ◌+◌, ◌<◌, List, [], ◌∷◌, ◌++◌, Bool, true, length, map, take, drop, refl, sym, ap, subst, ◌∙◌, arith, append_assoc, append-nil, length-append, Option, Some, None}
use Rattle.std.specs.Prelude.{Ok, slice_get}
use Rattle.std.specs.Option.{ok_or}
use Rattle.std.specs.List.{range_with_len}
use Rattle.std.proofs.lemmas.List.{take-append-drop}
use Rattle.std.proofs.lemmas.List.FromFn.{length-map-range_with_len}
use Rattle.std.proofs.lemmas.List.Elements.{Contains-append_left}
use Rattle.sql_values.specs.declared.types.SqlType.{SqlType}
use Rattle.sql_values.specs.declared.fail.Fail.{Fail}
use Rattle.sql_exprs.specs.Forms.{Form, column}
use Rattle.sql_exprs.specs.Meaning.{kind_of}
use Rattle.relation_laws.specs.Sorts.{IsBeginning}
use Rattle.relation_laws.specs.Verdicts.{Verdict, kept_rows}
use Rattle.plan_trees.specs.Allowed.{Judged, strict}
use Rattle.plan_trees.specs.Judges.{filter_judge, project_judge}
use Rattle.page_processor.specs.Judged.{first_failure, rows_before}
use Rattle.col_pages.specs.Fits.{AllFit}
use Rattle.page_processor.specs.Typed.{AllTyped, IsTyped}
use Rattle.page_processor.proofs.FilterLemmas.{Agree, same_failure, same_rows}
use Rattle.page_processor.proofs.FitLemmas.{filter_fits, project_fits}
use Rattle.page_processor.proofs.JudgedLemmas.{is_judged}
use Rattle.tree_evaluator.proofs.JudgeLemmas.{all_judged, failing_row}
use Rattle.row_ops.specs.RowJudges.{AreTyped, columns_in, row_judge}
use Rattle.row_ops.proofs.OwnLemmas.{filters-agree}
use Rattle.operator_core.specs.declared.operator.Operator.{Ghosts}
use Rattle.operator_core.specs.Rows.{Row}
use Rattle.operator_core.specs.Stages.{NothingFails}
use Rattle.plan_run_laws.specs.Faults.{FailsOnOneOf}
use Rattle.plan_run_laws.specs.Stages.{Stage, filter, project}
use Rattle.plan_run_laws.specs.Stops.{MayCome}
use Rattle.plan_run_laws.proofs.GoOnLemmas.{BeginsWith, begins_before, goes_on-filter, goes_on-project}
use Rattle.stage_meanings.specs.Pipelines.{FailsIn, FailsOn, at_node}
use Rattle.stage_meanings.specs.Meanings.{CanGive, Means}
use Rattle.stage_meanings.specs.RowMeanings.{JudgesRows}

projects-agree : (types : List SqlType) (columns : List Form) (rows : List Row) → Agree (row_judge types None columns) (project_judge types columns) rows
projects-agree types columns [] = tt
projects-agree types columns (row ∷ rows) = (refl, projects-agree types columns rows)

front : (n : ℕ) (rows more : List Row) → IsBeginning (take n rows) (rows ++ more)
front n rows more = (drop n rows ++ more, sym (append_assoc (take n rows) (drop n rows) more) ∙ ap (λ (x : List Row). x ++ more) (take-append-drop n rows))

-- an operator whose judge says the same as that of its stage, of rows of these types
module _ {S : Type 0} (g : Ghosts S) (m : S) (own : ℕ) (types : List SqlType) (theirs judge : Row → Verdict)
    (judges : JudgesRows g m own theirs) (agree : (X : List Row) → AllFit types X → Agree theirs judge X) where
  gives-before : (X Y : List Row) → AllFit types X → g.may_give m X Y → Y ≡ rows_before judge X
  gives-before X Y fit gives = judges.gives X Y gives ∙ same_rows theirs judge X (agree X fit)

  calm_first : (X : List Row) (told : Option Fail) → first_failure theirs X ≡ told → NothingFails g m X → told ≡ None
  calm_first X None e none = refl
  calm_first X (Some kind) e none = absurd (none own kind ((judges.fails X own kind).1 (refl, e)))

  calm-none : (X : List Row) → AllFit types X → NothingFails g m X → first_failure judge X ≡ None
  calm-none X fit none = sym (same_failure theirs judge X (agree X fit)) ∙ calm_first X (first_failure theirs X) refl none

  all-judged : (X Y : List Row) → AllFit types X → g.may_give m X Y → NothingFails g m X → Judged strict judge X Y
  all-judged X Y fit gives none =
      subst (Judged strict judge X) (sym (gives-before X Y fit gives)) (all_judged judge X (calm-none X fit none))

  calm_here : (X : List Row) → NothingFails g m X ⊎ ((s : S) × g.may_learn s m) → NothingFails g m X
  calm_here X (inl none) = none
  calm_here X (inr (s, learned)) = absurd (judges.learned s learned)

  now : (X Y : List Row) (ended done : Bool) → AllFit types X → CanGive g m X Y ended done → IsBeginning Y (rows_before judge X)
  now X Y ended done fit can =
      let c = can.could [] (λ e. refl) in
      (c.0, gives-before X (Y ++ c.0) fit (subst (λ (x : List Row). g.may_give m x (Y ++ c.0)) (append-nil X) c.1))

  over : (X Y : List Row) (ended done : Bool) → AllFit types X → CanGive g m X Y ended done → done ≡ true → (more : List Row) → MayCome ended more → Y ≡ kept_rows judge (X ++ more)
  over X Y ended done fit can e more may =
      let c = can.could [] (λ e. refl) in
      let whole : Y ++ c.0 ≡ Y = ap (λ (b : List Row). Y ++ b) (c.2 e) ∙ append-nil Y in
      let gives : g.may_give m X Y = subst (λ (x : List Row). g.may_give m x Y) (append-nil X) (subst (g.may_give m (X ++ [])) whole c.1) in
      let all = all-judged X Y fit gives (calm_here X (can.calm e)) in
      all.are_kept ∙ ap (kept_rows judge) (sym (ap (λ (z : List Row). X ++ z) (may (can.over e)) ∙ append-nil X))

  begins : (X Y : List Row) (ended done : Bool) → AllFit types X → CanGive g m X Y ended done → BeginsWith (kept_rows judge) X Y ended done
  begins X Y ended done fit can =
      let j = is_judged judge X in
      begins_before judge X Y ended done
      (λ more may. (take j.count X, front j.count X more, subst (IsBeginning Y) j.are_kept (now X Y ended done fit can)))
      (over X Y ended done fit can)

  fails_on : (X : List Row) (ended : Bool) (node : ℕ) (kind : Fail) → AllFit types X → ((Z : List Row) → MayCome ended Z → g.may_still_fail m (X ++ Z) node kind)
      → (node ≡ own) × ((more : List Row) → FailsOnOneOf judge kind (X ++ more))
  fails_on X ended node kind fit fails =
      let f = (judges.fails X node kind).0 (subst (λ (x : List Row). g.may_still_fail m x node kind) (append-nil X) (fails [] (λ e. refl))) in
      let row = failing_row judge X kind (sym (same_failure theirs judge X (agree X fit)) ∙ f.1) in
      (f.0, λ more. (row.row, Contains-append_left X more row.row row.among, row.so))

  fails_here : (stage : Stage) → ((kind : Fail) (rows : List Row) → FailsOnOneOf judge kind rows → FailsOn stage kind rows) → (X : List Row) (ended : Bool) (node : ℕ) (kind : Fail)
      → AllFit types X → ((Z : List Row) → MayCome ended Z → g.may_still_fail m (X ++ Z) node kind) → FailsIn (at_node own stage ∷ []) X ended node kind
  fails_here stage on X ended node kind fit fails =
      let f = fails_on X ended node kind fit fails in
      record {
        before = [];
        stage = stage;
        after = [];
        at = ap (λ (n : ℕ). at_node n stage ∷ []) (sym f.0);
        came = X;
        told = ended;
        goes_on = λ more may. record { rest = more; chain = refl; none = may };
        fails = λ more may. on kind (X ++ more) (f.1 more);
      }

pub filter_means : {S : Type 0} (g : Ghosts S) (m : S) (node : ℕ) (types : List SqlType) (predicate : Form)
    → JudgesRows g m node (row_judge types (Some predicate) (columns_in types)) → Means g m types (at_node node (filter types predicate) ∷ []) types
filter_means g m node types predicate judges =
    let theirs = row_judge types (Some predicate) (columns_in types) in
    let judge = filter_judge types predicate in
    let agree = filters-agree types predicate in
    record {
      fits = λ X Y fit gives. subst (AllFit types) (sym (gives-before g m node types theirs judge judges agree X Y fit gives)) (filter_fits types predicate X fit);
      makes = λ X Y fit gives none. (Y, all-judged g m node types theirs judge judges agree X Y fit gives none, refl);
      goes_on = λ X Y ended done fit can. goes_on-filter types predicate X Y ended done (begins g m node types theirs judge judges agree X Y ended done fit can);
      fails = λ X ended at kind fit fails. fails_here g m node types theirs judge judges agree (filter types predicate) (λ kind rows f. f) X ended at kind fit fails;
    }

pub project_means : {S : Type 0} (g : Ghosts S) (m : S) (node : ℕ) (types : List SqlType) (columns : List Form) → AllTyped types columns
    → JudgesRows g m node (row_judge types None columns) → Means g m types (at_node node (project types columns) ∷ []) (map (kind_of types) columns)
project_means g m node types columns typed judges =
    let theirs = row_judge types None columns in
    let judge = project_judge types columns in
    let agree = λ (X : List Row) (fit : AllFit types X). projects-agree types columns X in
    record {
      fits = λ X Y fit gives. subst (AllFit (map (kind_of types) columns)) (sym (gives-before g m node types theirs judge judges agree X Y fit gives)) (project_fits types columns X typed fit);
      makes = λ X Y fit gives none. (Y, all-judged g m node types theirs judge judges agree X Y fit gives none, refl);
      goes_on = λ X Y ended done fit can. goes_on-project types columns X Y ended done (begins g m node types theirs judge judges agree X Y ended done fit can);
      fails = λ X ended at kind fit fails. fails_here g m node types theirs judge judges agree (project types columns) (λ kind rows f. f) X ended at kind fit fails;
    }

-- the columns of rows of some types are typed
slice-seam : (done types : List SqlType) (kind : SqlType) (n : ℕ) → n ≡ length done → slice_get (done ++ kind ∷ types) n ≡ Some kind
slice-seam [] types kind zero e = refl
slice-seam [] types kind (suc n) e = cc
slice-seam (k ∷ done) types kind zero e = cc
slice-seam (k ∷ done) types kind (suc n) e = slice-seam done types kind n (omega (arith, e))

typed-from : (done types : List SqlType) (n : ℕ) → n ≡ length done → AllTyped (done ++ types) (map column (range_with_len n (length types)))
typed-from done [] n e = tt
typed-from done (kind ∷ types) n e =
    let here : ok_or (slice_get (done ++ kind ∷ types) n) [] ≡ Ok kind = ap (λ (o : Option SqlType). ok_or o []) (slice-seam done types kind n e) in
    let same : (done ++ kind ∷ []) ++ types ≡ done ++ kind ∷ types = append_assoc done (kind ∷ []) types in (
      record { path = []; kind = kind; is = here },
      subst (λ (ts : List SqlType). AllTyped ts (map column (range_with_len (n + 1) (length types)))) same
          (typed-from (done ++ kind ∷ []) types (n + 1) (omega (arith, e, length-append done (kind ∷ [])))),
    )

pub columns-typed : (types : List SqlType) → AllTyped types (columns_in types)
columns-typed types = typed-from [] types 0 refl

pub columns-length : (types : List SqlType) → length (columns_in types) ≡ length types
columns-length types = length-map-range_with_len (λ (n : ℕ). column n) 0 (length types)

pub columns-are : (types : List SqlType) (columns : List Form) (n : ℕ) → columns ≡ map column (range_with_len 0 n) → n ≡ length types → columns ≡ columns_in types
columns-are types columns n same count = same ∙ ap (λ (k : ℕ). map column (range_with_len 0 k)) count

-- what `FilterProject` asks of a predicate and all columns
pub filter_typed : (types : List SqlType) (predicate : Form) (columns : List Form) → 0 < length types → IsTyped types predicate → columns ≡ columns_in types
    → AreTyped types (Some predicate) columns
filter_typed types predicate columns some typed same = record {
  some = omega (arith, some, ap length same, columns-length types);
  typed_if = typed;
  all_typed = subst (AllTyped types) (sym same) (columns-typed types);
}

pub made_filter : {S : Type 0} (g : Ghosts S) (m : S) (node : ℕ) (types : List SqlType) (predicate : Form) (columns : List Form) → columns ≡ columns_in types
    → JudgesRows g m node (row_judge types (Some predicate) columns) → Means g m types (at_node node (filter types predicate) ∷ []) types
made_filter g m node types predicate columns same judges =
    filter_means g m node types predicate (subst (λ (cs : List Form). JudgesRows g m node (row_judge types (Some predicate) cs)) same judges)
