-- Rows that are judged a page at a time.
use Rattle.std.proofs.Common.{◌≡◌, ℕ, zero, suc, List, [], ◌∷◌, ◌++◌, refl, ap, sym, ◌∙◌, append_assoc, arith, Option, Some, None}
use Rattle.std.specs.Prelude.{Contains}
use Rattle.std.proofs.lemmas.List.{append-nil}
use Rattle.sql_values.specs.declared.types.SqlType.{SqlType}
use Rattle.sql_values.specs.declared.value.Value.{Value}
use Rattle.sql_values.specs.declared.fail.Fail.{Fail}
use Rattle.col_pages.specs.Pages.{TypedPage}
use Rattle.relation_laws.specs.Verdicts.{Verdict, keeps, drops, fails}
use Rattle.plan_trees.specs.Allowed.{Judged, strict}
use Rattle.tree_evaluator.specs.declared.stop.EvalStop.{EvalStop}
use Rattle.tree_evaluator.specs.declared.stop.EvalStop.TheVariants as stop
use Rattle.tree_evaluator.specs.Stops.{StopsHere}
use Rattle.page_processor.specs.Judged.{failed_first, first_failure, given_first, judged, rows_before}
use Rattle.page_processor.specs.declared.judged.Judged.{Judged as Answer}

-- the rows of the first pages are judged, those of `left` are not
pub record Judging (judge : List Value → Verdict) (types kinds : List SqlType) (whole : List (List Value)) (left kept : TypedPage) : Type 0 where
  pub left_types : left.types ≡ types
  pub kept_types : kept.types ≡ kinds
  pub rows : rows_before judge whole ≡ kept.rows ++ rows_before judge left.rows
  pub told : first_failure judge whole ≡ first_failure judge left.rows

some_same : (k l : Fail) → Some k ≡ Some l → k ≡ l
some_same k l e = cc

module _ (judge : List Value → Verdict) where
  -- where no row of the first list fails
  one_before : (verdict : Verdict) (ys : List (List Value)) (xs all : List (List Value)) (told : Option Fail) → failed_first verdict told ≡ None
      → (told ≡ None → all ≡ xs ++ ys) → given_first verdict all ≡ given_first verdict xs ++ ys
  one_before (keeps row) ys xs all told e further = ap (λ zs. row ∷ zs) (further e)
  one_before drops ys xs all told e further = further e
  one_before (fails kind) ys xs all told e further = cc

  pub before_append : (xs ys : List (List Value)) → first_failure judge xs ≡ None → rows_before judge (xs ++ ys) ≡ rows_before judge xs ++ rows_before judge ys
  before_append [] ys e = refl
  before_append (x ∷ xs) ys e =
      one_before (judge x) (rows_before judge ys) (rows_before judge xs) (rows_before judge (xs ++ ys)) (first_failure judge xs) e (before_append xs ys)

  one_failure : (verdict : Verdict) (told all later : Option Fail) → failed_first verdict told ≡ None → (told ≡ None → all ≡ later) → failed_first verdict all ≡ later
  one_failure (keeps row) told all later e further = further e
  one_failure drops told all later e further = further e
  one_failure (fails kind) told all later e further = cc

  pub failure_append : (xs ys : List (List Value)) → first_failure judge xs ≡ None → first_failure judge (xs ++ ys) ≡ first_failure judge ys
  failure_append [] ys e = refl
  failure_append (x ∷ xs) ys e =
      one_failure (judge x) (first_failure judge xs) (first_failure judge (xs ++ ys)) (first_failure judge ys) e (failure_append xs ys)

  one_first : (verdict : Verdict) (told all : Option Fail) (kind : Fail) → failed_first verdict told ≡ Some kind → (told ≡ Some kind → all ≡ Some kind) → failed_first verdict all ≡ Some kind
  one_first (keeps row) told all kind e further = further e
  one_first drops told all kind e further = further e
  one_first (fails k) told all kind e further = e

  pub failure_first : (xs ys : List (List Value)) (kind : Fail) → first_failure judge xs ≡ Some kind → first_failure judge (xs ++ ys) ≡ Some kind
  failure_first [] ys kind e = cc
  failure_first (x ∷ xs) ys kind e = one_first (judge x) (first_failure judge xs) (first_failure judge (xs ++ ys)) kind e (failure_first xs ys kind)

  pub judging_starts : (types kinds : List SqlType) (left kept : TypedPage) → left.types ≡ types → kept ≡ record { types = kinds; rows = [] } → Judging judge types kinds left.rows left kept
  judging_starts types kinds left kept t e = record {
    left_types = t;
    kept_types = ap (λ (p : TypedPage). p.types) e;
    rows = ap (λ (p : TypedPage). p.rows ++ rows_before judge left.rows) (sym e);
    told = refl;
  }

  pub judging_goes_on : (types kinds : List SqlType) (whole : List (List Value)) (left next kept more page : TypedPage) (answer : Answer) → Judging judge types kinds whole left kept
      → left.rows ≡ page.rows ++ next.rows → next.types ≡ left.types → answer ≡ judged judge kinds page.rows → answer.failure ≡ None
      → more ≡ record { types = kept.types; rows = kept.rows ++ answer.page.rows } → Judging judge types kinds whole next more
  judging_goes_on types kinds whole left next kept more page answer so l t a n m =
      let calm : first_failure judge page.rows ≡ None = ap (λ (x : Answer). x.failure) (sym a) ∙ n in
      let given : answer.page.rows ≡ rows_before judge page.rows = ap (λ (x : Answer). x.page.rows) a in
      record {
        left_types = t ∙ so.left_types;
        kept_types = ap (λ (p : TypedPage). p.types) m ∙ so.kept_types;
        rows = so.rows ∙ ap (λ rs. kept.rows ++ rows_before judge rs) l ∙ ap (λ rs. kept.rows ++ rs) (before_append page.rows next.rows calm)
            ∙ sym (append_assoc kept.rows (rows_before judge page.rows) (rows_before judge next.rows))
            ∙ ap (λ rs. (kept.rows ++ rs) ++ rows_before judge next.rows) (sym given) ∙ ap (λ (p : TypedPage). p.rows ++ rows_before judge next.rows) (sym m);
        told = so.told ∙ ap (first_failure judge) l ∙ failure_append page.rows next.rows calm;
      }

  pub judging_stops : (types kinds : List SqlType) (whole : List (List Value)) (left kept page : TypedPage) (rest : List (List Value)) (answer : Answer) (kind : Fail) → Judging judge types kinds whole left kept
      → left.rows ≡ page.rows ++ rest → answer ≡ judged judge kinds page.rows → answer.failure ≡ Some kind → first_failure judge whole ≡ Some kind
  judging_stops types kinds whole left kept page rest answer kind so l a f =
      let here : first_failure judge page.rows ≡ Some kind = ap (λ (x : Answer). x.failure) (sym a) ∙ f in
      so.told ∙ ap (first_failure judge) l ∙ failure_first page.rows rest kind here

  pub judging_told : (types kinds : List SqlType) (whole : List (List Value)) (left kept : TypedPage) → Judging judge types kinds whole left kept → left.rows ≡ [] → first_failure judge whole ≡ None
  judging_told types kinds whole left kept so e = so.told ∙ ap (first_failure judge) e

  pub judging_ends : (types kinds : List SqlType) (whole : List (List Value)) (left kept : TypedPage) → Judging judge types kinds whole left kept → left.rows ≡ []
      → kept ≡ record { types = kinds; rows = rows_before judge whole }
  judging_ends types kinds whole left kept so e =
      let all : kept.rows ≡ rows_before judge whole = sym (so.rows ∙ ap (λ rs. kept.rows ++ rows_before judge rs) e ∙ append-nil kept.rows) in
      (λ i. record { types = so.kept_types i; rows = all i })

  -- where nothing fails, all rows are judged
  one_strict : (row : List Value) (rows : List (List Value)) (verdict : Verdict) → judge row ≡ verdict → failed_first verdict (first_failure judge rows) ≡ None
      → (first_failure judge rows ≡ None → Judged strict judge rows (rows_before judge rows)) → Judged strict judge (row ∷ rows) (rows_before judge (row ∷ rows))
  one_strict row rows (keeps r) h e further =
      let rest = further e in record { calm = rw h rest.calm; are_kept = rw h (ap (λ xs. r ∷ xs) rest.are_kept) }
  one_strict row rows drops h e further = let rest = further e in record { calm = rw h rest.calm; are_kept = rw h rest.are_kept }
  one_strict row rows (fails kind) h e further = cc

  pub all_judged : (rows : List (List Value)) → first_failure judge rows ≡ None → Judged strict judge rows (rows_before judge rows)
  all_judged [] e = record { calm = refl; are_kept = refl }
  all_judged (row ∷ rows) e = one_strict row rows (judge row) refl e (all_judged rows)

-- the row that fails
pub record FailingRow (judge : List Value → Verdict) (rows : List (List Value)) (kind : Fail) : Type 0 where
  pub row : List Value
  pub among : Contains rows row
  pub so : judge row ≡ fails kind

module _ (judge : List Value → Verdict) where
  behind : (first : List Value) (rows : List (List Value)) (kind : Fail) → FailingRow judge rows kind → FailingRow judge (first ∷ rows) kind
  behind first rows kind f = record { row = f.row; among = (suc f.among.0, omega (arith, f.among.1), f.among.2); so = f.so }

  one_failing : (row : List Value) (rows : List (List Value)) (kind : Fail) (verdict : Verdict) → judge row ≡ verdict → failed_first verdict (first_failure judge rows) ≡ Some kind
      → (first_failure judge rows ≡ Some kind → FailingRow judge rows kind) → FailingRow judge (row ∷ rows) kind
  one_failing row rows kind (keeps r) h e further = behind row rows kind (further e)
  one_failing row rows kind drops h e further = behind row rows kind (further e)
  one_failing row rows kind (fails k) h e further = let same : k ≡ kind = some_same k kind e in record { row = row; among = (zero, omega arith, refl); so = h ∙ ap (λ (x : Fail). fails x) same }

  pub failing_row : (rows : List (List Value)) (kind : Fail) → first_failure judge rows ≡ Some kind → FailingRow judge rows kind
  failing_row [] kind e = cc
  failing_row (row ∷ rows) kind e = one_failing row rows kind (judge row) refl e (failing_row rows kind)

-- the node's failure on a page is its failure on all rows
pub stops_whole : (id : ℕ) (part whole : Option Fail) (reason : EvalStop) → StopsHere id part reason → ((kind : Fail) → part ≡ Some kind → whole ≡ Some kind) → StopsHere id whole reason
stops_whole id part whole (stop.ExprFailed node kind) h further = (h.0, further kind h.1)
stops_whole id part whole stop.Memory h further = tt
