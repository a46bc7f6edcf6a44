-- Judges one after the other, and rows after rows.
use Rattle.std.proofs.Common.{◌≡◌, List, [], ◌∷◌, ◌++◌, map, refl, ap, ◌∙◌, Option, Some, None}
use Rattle.std.specs.Option.{option_or}
use Rattle.sql_values.specs.declared.types.SqlType.{SqlType}
use Rattle.sql_values.specs.declared.value.Value.{Value}
use Rattle.sql_values.specs.declared.fail.Fail.{Fail}
use Rattle.sql_exprs.specs.Forms.{Form}
use Rattle.sql_exprs.specs.Meaning.{kind_of}
use Rattle.plan_trees.specs.Judges.{filter_judge, project_judge}
use Rattle.relation_laws.specs.Verdicts.{Verdict, keeps, drops, fails}
use Rattle.page_processor.specs.declared.judged.Judged.{Judged}
use Rattle.page_processor.specs.Judged.{judged, failed_first, first_failure, given_first, rows_before}
use Rattle.row_ops.specs.RowJudges.{and_then, kinds_of_forms, row_judge}
use Rattle.row_ops.specs.RowsHeld.{unless_failed}

module _ (f g : List Value → Verdict) where
  rows-at : (rows : List (List Value)) (v : Verdict) → rows_before g (rows_before f rows) ≡ rows_before (λ row. and_then (f row) g) rows
      → rows_before g (given_first v (rows_before f rows)) ≡ given_first (and_then v g) (rows_before (λ row. and_then (f row) g) rows)
  rows-at rows (keeps r) rest = ap (given_first (g r)) rest
  rows-at rows drops rest = rest
  rows-at rows (fails kind) rest = refl

  -- what the second keeps of what the first keeps is what both keep
  rows-both : (rows : List (List Value)) → rows_before g (rows_before f rows) ≡ rows_before (λ row. and_then (f row) g) rows
  rows-both [] = refl
  rows-both (row ∷ rows) = rows-at rows (f row) (rows-both rows)

  failure-kept : (w : Verdict) (x ff both : Option Fail) → option_or x ff ≡ both → option_or (failed_first w x) ff ≡ failed_first w both
  failure-kept (keeps r) x ff both rest = rest
  failure-kept drops x ff both rest = rest
  failure-kept (fails kind) x ff both rest = refl

  failure-at : (rows : List (List Value)) (v : Verdict)
      → option_or (first_failure g (rows_before f rows)) (first_failure f rows) ≡ first_failure (λ row. and_then (f row) g) rows
      → option_or (first_failure g (given_first v (rows_before f rows))) (failed_first v (first_failure f rows)) ≡ failed_first (and_then v g) (first_failure (λ row. and_then (f row) g) rows)
  failure-at rows (keeps r) rest = failure-kept (g r) (first_failure g (rows_before f rows)) (first_failure f rows) _ rest
  failure-at rows drops rest = rest
  failure-at rows (fails kind) rest = refl

  -- a failure of the second on what the first keeps comes before the first's own
  failure-both : (rows : List (List Value))
      → option_or (first_failure g (rows_before f rows)) (first_failure f rows) ≡ first_failure (λ row. and_then (f row) g) rows
  failure-both [] = refl
  failure-both (row ∷ rows) = failure-at rows (f row) (failure-both rows)

  pub judged-both : (types out : List SqlType) (rows : List (List Value)) (kept mapped : Judged)
      → kept ≡ judged f types rows → mapped ≡ judged g out kept.page.rows
      → (whole : Judged) → whole.page ≡ mapped.page → whole.failure ≡ option_or mapped.failure kept.failure
      → whole ≡ judged (λ row. and_then (f row) g) out rows
  judged-both types out rows kept mapped k m whole p e =
      let page : whole.page ≡ record { types = out; rows = rows_before (λ row. and_then (f row) g) rows } =
      p ∙ ap (λ (j : Judged). j.page) m ∙ ap (λ rs. record { types = out; rows = rs }) (ap (λ (j : Judged). rows_before g j.page.rows) k ∙ rows-both rows) in
      let first : mapped.failure ≡ first_failure g (rows_before f rows) = ap (λ (j : Judged). j.failure) m ∙ ap (λ (j : Judged). first_failure g j.page.rows) k in
      let second : kept.failure ≡ first_failure f rows = ap (λ (j : Judged). j.failure) k in
      let failure : whole.failure ≡ first_failure (λ row. and_then (f row) g) rows =
      e ∙ ap (λ x. option_or x kept.failure) first ∙ ap (λ x. option_or (first_failure g (rows_before f rows)) x) second ∙ failure-both rows in
      rw (page, failure) refl

-- a predicate's judge and then the columns'
pub then-project : (types : List SqlType) (predicate : Form) (columns : List Form) (rows : List (List Value)) (kept mapped whole : Judged)
    → kept ≡ judged (filter_judge types predicate) types rows
    → mapped ≡ judged (project_judge kept.page.types columns) (map (kind_of kept.page.types) columns) kept.page.rows
    → whole.page ≡ mapped.page → whole.failure ≡ option_or mapped.failure kept.failure
    → whole ≡ judged (row_judge types (Some predicate) columns) (kinds_of_forms types columns) rows
then-project types predicate columns rows kept mapped whole k m page failure =
    let same : kept.page.types ≡ types = ap (λ (j : Judged). j.page.types) k in
    let m' : mapped ≡ judged (project_judge types columns) (map (kind_of types) columns) kept.page.rows =
    m ∙ ap (λ ts. judged (project_judge ts columns) (map (kind_of ts) columns) kept.page.rows) same in
    judged-both (filter_judge types predicate) (project_judge types columns) types (map (kind_of types) columns) rows kept mapped k m' whole page failure

module _ (judge : List Value → Verdict) where
  one-before : (failure : Option Fail) (row : List Value) (rows later : List (List Value)) → row ∷ unless_failed failure rows later ≡ unless_failed failure (row ∷ rows) later
  one-before None row rows later = refl
  one-before (Some kind) row rows later = refl

  more-at : (v : Verdict) (all rows later : List (List Value)) (failure : Option Fail) → all ≡ unless_failed failure rows later
      → given_first v all ≡ unless_failed (failed_first v failure) (given_first v rows) later
  more-at (keeps row) all rows later failure rest = ap (λ xs. row ∷ xs) rest ∙ one-before failure row rows later
  more-at drops all rows later failure rest = rest
  more-at (fails kind) all rows later failure rest = refl

  -- what is kept of rows and later ones
  pub rows-later : (rows X : List (List Value)) → rows_before judge (rows ++ X) ≡ unless_failed (first_failure judge rows) (rows_before judge rows) (rows_before judge X)
  rows-later [] X = refl
  rows-later (row ∷ rows) X = more-at (judge row) _ _ _ _ (rows-later rows X)

  later-at : (v : Verdict) (all failure later : Option Fail) → all ≡ option_or failure later → failed_first v all ≡ option_or (failed_first v failure) later
  later-at (keeps row) all failure later rest = rest
  later-at drops all failure later rest = rest
  later-at (fails kind) all failure later rest = refl

  pub failure-later : (rows X : List (List Value)) → first_failure judge (rows ++ X) ≡ option_or (first_failure judge rows) (first_failure judge X)
  failure-later [] X = refl
  failure-later (row ∷ rows) X = later-at (judge row) _ _ _ (failure-later rows X)
