-- AND and OR in one pass: a truth value so far stands for the values that came before.
use Rattle.std.proofs.Common.{◌≡◌, List, [], ◌∷◌, true, false, if◌then◌else◌, refl, ap, sym, ◌∙◌}
use Rattle.std.specs.Prelude.{fold, Result, Ok, Err}
use Rattle.sql_values.specs.declared.fail.Fail.{Fail}
use Rattle.sql_values.specs.declared.value.Value.{Value}
use Rattle.sql_values.specs.declared.value.Value.TheVariants.{Null, Boolean, Bigint, Decimal, Varchar, Date}
use Rattle.sql_functions.specs.Outcomes.{Outcome, and_then}
use Rattle.sql_functions.specs.Truth.{is_false, is_true, truth_and, truth_or}
use Rattle.sql_exprs.specs.Rows.{all_of, and_of, any_of, evaluated, or_of, over, with_value}
use Rattle.sql_exprs.specs.Laws.{found}

-- the truth value so far, and then the outcomes up to the first FALSE
abbrev pub and_from : Value → List Outcome → Outcome
and_from so_far [] = Ok so_far
and_from so_far (o ∷ os) = and_then (and_then o (λ v. Ok (truth_and so_far v))) (λ next. if is_false next then Ok next else and_from next os)

-- the truth value so far, and then the outcomes up to the first TRUE
abbrev pub or_from : Value → List Outcome → Outcome
or_from so_far [] = Ok so_far
or_from so_far (o ∷ os) = and_then (and_then o (λ v. Ok (truth_or so_far v))) (λ next. if is_true next then Ok next else or_from next os)

over_with : (table : List Value → Value) (v : Value) (r : Result (List Value) Fail) → over table (with_value v r) ≡ over (λ vs. table (v ∷ vs)) r
over_with table v (Ok vs) = refl
over_with table v (Err kind) = refl

mutual
  and_from_true : (os : List Outcome) → and_from (Boolean true) os ≡ over all_of (evaluated is_false os)
  and_from_true [] = refl
  and_from_true (Err kind ∷ os) = refl
  and_from_true (Ok Null ∷ os) = and_from_null os ∙ sym (over_with all_of Null (evaluated is_false os))
  and_from_true (Ok (Boolean true) ∷ os) = and_from_true os ∙ sym (over_with all_of (Boolean true) (evaluated is_false os))
  and_from_true (Ok (Boolean false) ∷ os) = refl
  and_from_true (Ok (Bigint n) ∷ os) = and_from_true os ∙ sym (over_with all_of (Bigint n) (evaluated is_false os))
  and_from_true (Ok (Decimal n) ∷ os) = and_from_true os ∙ sym (over_with all_of (Decimal n) (evaluated is_false os))
  and_from_true (Ok (Varchar t) ∷ os) = and_from_true os ∙ sym (over_with all_of (Varchar t) (evaluated is_false os))
  and_from_true (Ok (Date d) ∷ os) = and_from_true os ∙ sym (over_with all_of (Date d) (evaluated is_false os))

  and_from_null : (os : List Outcome) → and_from Null os ≡ over (λ vs. all_of (Null ∷ vs)) (evaluated is_false os)
  and_from_null [] = refl
  and_from_null (Err kind ∷ os) = refl
  and_from_null (Ok Null ∷ os) = and_from_null os ∙ sym (over_with (λ vs. all_of (Null ∷ vs)) Null (evaluated is_false os))
  and_from_null (Ok (Boolean true) ∷ os) = and_from_null os ∙ sym (over_with (λ vs. all_of (Null ∷ vs)) (Boolean true) (evaluated is_false os))
  and_from_null (Ok (Boolean false) ∷ os) = refl
  and_from_null (Ok (Bigint n) ∷ os) = and_from_null os ∙ sym (over_with (λ vs. all_of (Null ∷ vs)) (Bigint n) (evaluated is_false os))
  and_from_null (Ok (Decimal n) ∷ os) = and_from_null os ∙ sym (over_with (λ vs. all_of (Null ∷ vs)) (Decimal n) (evaluated is_false os))
  and_from_null (Ok (Varchar t) ∷ os) = and_from_null os ∙ sym (over_with (λ vs. all_of (Null ∷ vs)) (Varchar t) (evaluated is_false os))
  and_from_null (Ok (Date d) ∷ os) = and_from_null os ∙ sym (over_with (λ vs. all_of (Null ∷ vs)) (Date d) (evaluated is_false os))

pub and_of_from : (os : List Outcome) → and_of os ≡ and_from (Boolean true) os
and_of_from os = sym (and_from_true os)

mutual
  or_from_false : (os : List Outcome) → or_from (Boolean false) os ≡ over any_of (evaluated is_true os)
  or_from_false [] = refl
  or_from_false (Err kind ∷ os) = refl
  or_from_false (Ok Null ∷ os) = or_from_null os ∙ sym (over_with any_of Null (evaluated is_true os))
  or_from_false (Ok (Boolean true) ∷ os) = refl
  or_from_false (Ok (Boolean false) ∷ os) = or_from_false os ∙ sym (over_with any_of (Boolean false) (evaluated is_true os))
  or_from_false (Ok (Bigint n) ∷ os) = or_from_false os ∙ sym (over_with any_of (Bigint n) (evaluated is_true os))
  or_from_false (Ok (Decimal n) ∷ os) = or_from_false os ∙ sym (over_with any_of (Decimal n) (evaluated is_true os))
  or_from_false (Ok (Varchar t) ∷ os) = or_from_false os ∙ sym (over_with any_of (Varchar t) (evaluated is_true os))
  or_from_false (Ok (Date d) ∷ os) = or_from_false os ∙ sym (over_with any_of (Date d) (evaluated is_true os))

  or_from_null : (os : List Outcome) → or_from Null os ≡ over (λ vs. any_of (Null ∷ vs)) (evaluated is_true os)
  or_from_null [] = refl
  or_from_null (Err kind ∷ os) = refl
  or_from_null (Ok Null ∷ os) = or_from_null os ∙ sym (over_with (λ vs. any_of (Null ∷ vs)) Null (evaluated is_true os))
  or_from_null (Ok (Boolean true) ∷ os) = refl
  or_from_null (Ok (Boolean false) ∷ os) = or_from_null os ∙ sym (over_with (λ vs. any_of (Null ∷ vs)) (Boolean false) (evaluated is_true os))
  or_from_null (Ok (Bigint n) ∷ os) = or_from_null os ∙ sym (over_with (λ vs. any_of (Null ∷ vs)) (Bigint n) (evaluated is_true os))
  or_from_null (Ok (Decimal n) ∷ os) = or_from_null os ∙ sym (over_with (λ vs. any_of (Null ∷ vs)) (Decimal n) (evaluated is_true os))
  or_from_null (Ok (Varchar t) ∷ os) = or_from_null os ∙ sym (over_with (λ vs. any_of (Null ∷ vs)) (Varchar t) (evaluated is_true os))
  or_from_null (Ok (Date d) ∷ os) = or_from_null os ∙ sym (over_with (λ vs. any_of (Null ∷ vs)) (Date d) (evaluated is_true os))

pub or_of_from : (os : List Outcome) → or_of os ≡ or_from (Boolean false) os
or_of_from os = sym (or_from_false os)

-- on arguments that all have values the truth tables give the same
false_stays : (vs : List Value) → fold truth_and (Boolean false) vs ≡ Boolean false
false_stays [] = refl
false_stays (v ∷ vs) = false_stays vs

and_goes_from : (next : Value) (vs : List Value) → and_from next (found vs) ≡ Ok (fold truth_and next vs) → (if is_false next then Ok next else and_from next (found vs)) ≡ Ok (fold truth_and next vs)
and_goes_from (Boolean false) vs h = sym (ap Ok (false_stays vs))
and_goes_from (Boolean true) vs h = h
and_goes_from next vs h = h

and_goes_on : (so_far : Value) (vs : List Value) → and_from so_far (found vs) ≡ Ok (fold truth_and so_far vs)
and_goes_on so_far [] = refl
and_goes_on so_far (v ∷ vs) = and_goes_from (truth_and so_far v) vs (and_goes_on (truth_and so_far v) vs)

pub and_of_found : (vs : List Value) → and_of (found vs) ≡ Ok (fold truth_and (Boolean true) vs)
and_of_found vs = and_of_from (found vs) ∙ and_goes_on (Boolean true) vs

true_stays : (vs : List Value) → fold truth_or (Boolean true) vs ≡ Boolean true
true_stays [] = refl
true_stays (v ∷ vs) = true_stays vs

or_goes_from : (next : Value) (vs : List Value) → or_from next (found vs) ≡ Ok (fold truth_or next vs) → (if is_true next then Ok next else or_from next (found vs)) ≡ Ok (fold truth_or next vs)
or_goes_from (Boolean true) vs h = sym (ap Ok (true_stays vs))
or_goes_from (Boolean false) vs h = h
or_goes_from next vs h = h

or_goes_on : (so_far : Value) (vs : List Value) → or_from so_far (found vs) ≡ Ok (fold truth_or so_far vs)
or_goes_on so_far [] = refl
or_goes_on so_far (v ∷ vs) = or_goes_from (truth_or so_far v) vs (or_goes_on (truth_or so_far v) vs)

pub or_of_found : (vs : List Value) → or_of (found vs) ≡ Ok (fold truth_or (Boolean false) vs)
or_of_found vs = or_of_from (found vs) ∙ or_goes_on (Boolean false) vs
