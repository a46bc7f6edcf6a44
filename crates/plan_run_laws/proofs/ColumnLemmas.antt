-- The columns by which rows sit: they are columns of the node, and filters and projects keep them.
use Rattle.std.proofs.Common.{◌≡◌, ℕ, ◌<◌, zero, suc, List, [], ◌∷◌, Bool, true, false, ap, arith, refl, ◌∙◌, length, map, get_or}
use Rattle.std.specs.Prelude.{◌==◌, if◌then◌else◌, Ok, Err, Result}
use Rattle.std.proofs.lemmas.List.{get_or-map, length-map}
use Rattle.std.proofs.lemmas.List.Elements.{All-head, All-tail}
use Rattle.sql_values.specs.declared.types.SqlType.{SqlType}
use Rattle.sql_values.specs.declared.value.Value.{Value}
use Rattle.sql_values.specs.declared.value.Value.TheVariants.{Null}
use Rattle.sql_values.specs.declared.fail.Fail.{Fail}
use Rattle.sql_values.specs.Buckets.{bucket_of}
use Rattle.sql_values.specs.Cells.{cell, cut}
use Rattle.sql_functions.specs.Outcomes.{Outcome}
use Rattle.sql_functions.specs.Truth.{is_true}
use Rattle.sql_exprs.specs.Forms.{Form, column}
use Rattle.sql_exprs.specs.Meaning.{value_of}
use Rattle.relation_laws.specs.Aggregates.{all_values, with_first}
use Rattle.relation_laws.specs.Verdicts.{drops, keeps, kept, verdict_of}
use Rattle.bag_laws.specs.Buckets.{AllBelow, Sits, key_bucket}
use Rattle.bag_laws.proofs.BucketLemmas.{sits-cons, sits-nil}
use Rattle.plan_trees.specs.Judges.{filter_judge, filtered, project_judge}
use Rattle.plan_run_laws.specs.Placements.{AreColumnsAt}

-- a filter keeps rows as they are
kept_if : (q : List Value → Bool) (row : List Value) (b : Bool) → q row ≡ true → Sits q (kept (if b then keeps row else drops))
kept_if q row true e = sits-cons q row [] e (sits-nil q)
kept_if q row false e = sits-nil q

sits_filtered : (q : List Value → Bool) (row : List Value) (outcome : Outcome) → q row ≡ true → Sits q (kept (filtered row outcome))
sits_filtered q row (Ok v) e = kept_if q row (is_true v) e
sits_filtered q row (Err kind) e = sits-nil q

pub sits-filter_judge : (types : List SqlType) (predicate : Form) (q : List Value → Bool) (row : List Value) → q row ≡ true
    → Sits q (kept (filter_judge types predicate row))
sits-filter_judge types predicate q row e = sits_filtered q row (value_of types predicate row) e

-- the values of a row that a project keeps
first_value : (v : Value) (os : List Outcome) (vs : List Value) (r : Result (List Value) Fail) → with_first v r ≡ Ok vs → (place : ℕ)
    → ((ws : List Value) → r ≡ Ok ws → (p : ℕ) → p < length os → get_or os p (Ok Null) ≡ Ok (cell ws p))
    → place < length (Ok v ∷ os) → get_or (Ok v ∷ os) place (Ok Null) ≡ Ok (cell vs place)
first_value v os vs (Err kind) e place rest lt = cc
first_value v os vs (Ok ws) e zero rest lt =
    let same : v ∷ ws ≡ vs = cc in
    ap (λ xs. Ok (cell xs 0)) same
first_value v os vs (Ok ws) e (suc place) rest lt =
    let same : v ∷ ws ≡ vs = cc in
    rest ws refl place (omega (arith, lt)) ∙ ap (λ xs. Ok (cell xs (suc place))) same

all_values-cell : (os : List Outcome) (vs : List Value) → all_values os ≡ Ok vs → (place : ℕ) → place < length os → get_or os place (Ok Null) ≡ Ok (cell vs place)
all_values-cell [] vs e place lt = absurd (omega (arith, lt))
all_values-cell (Err kind ∷ os) vs e place lt = cc
all_values-cell (Ok v ∷ os) vs e place lt = first_value v os vs (all_values os) e place (λ ws same p less. all_values-cell os ws same p less) lt

module _ (types : List SqlType) (forms : List Form) (row : List Value) where
  abbrev value : Form → Outcome
  value form = value_of types form row

  plain_cell : (vs : List Value) → all_values (map value forms) ≡ Ok vs → (place taken : ℕ) → place < length forms
      → get_or forms place (column 0) ≡ column taken → cell vs place ≡ cell row taken
  plain_cell vs e place taken lt plain =
      let there : get_or (map value forms) place (Ok Null) ≡ Ok (cell vs place)
      = all_values-cell (map value forms) vs e place (omega (arith, lt, length-map forms value)) in
      let here : get_or (map value forms) place (Ok Null) ≡ value (get_or forms place (column 0)) = get_or-map value forms place (column 0) (Ok Null) lt in
      let is : value (get_or forms place (column 0)) ≡ Ok (cell row taken) = ap value plain in
      cc

  plain_cut : (vs : List Value) → all_values (map value forms) ≡ Ok vs → (places taken : List ℕ) → AllBelow (length forms) places
      → map (λ place. get_or forms place (column 0)) places ≡ map column taken → cut places vs ≡ cut taken row
  plain_cut vs e [] [] below plain = refl
  plain_cut vs e [] (c ∷ taken) below plain = cc
  plain_cut vs e (place ∷ places) [] below plain = cc
  plain_cut vs e (place ∷ places) (c ∷ taken) below plain =
      let first : get_or forms place (column 0) ≡ column c = cc in
      let rest : map (λ (p : ℕ). get_or forms p (column 0)) places ≡ map column taken = cc in
      λ i. plain_cell vs e place c (All-head (λ p. p < length forms) place places below) first i
      ∷ plain_cut vs e places taken (All-tail (λ p. p < length forms) place places below) rest i

  sits_projected : (n k : ℕ) (places taken : List ℕ) → AreColumnsAt forms places taken → (key_bucket n taken row == k) ≡ true
      → (r : Result (List Value) Fail) → all_values (map value forms) ≡ r → Sits (λ out. key_bucket n places out == k) (kept (verdict_of r))
  sits_projected n k places taken plain e (Ok vs) is =
      sits-cons (λ out. key_bucket n places out == k) vs []
      (ap (λ values. bucket_of values n == k) (plain_cut vs is places taken plain.0 plain.1) ∙ e) (sits-nil (λ out. key_bucket n places out == k))
  sits_projected n k places taken plain e (Err kind) is = sits-nil (λ out. key_bucket n places out == k)

  pub sits-project_judge : (n k : ℕ) (places taken : List ℕ) → AreColumnsAt forms places taken → (key_bucket n taken row == k) ≡ true
      → Sits (λ out. key_bucket n places out == k) (kept (project_judge types forms row))
  sits-project_judge n k places taken plain e = sits_projected n k places taken plain e (all_values (map value forms)) refl
