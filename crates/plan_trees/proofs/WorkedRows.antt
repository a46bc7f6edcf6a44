-- What trees allow, on rows that were worked out by hand.
use Rattle.std.proofs.Common.{◌≡◌, ℕ, List, [], ◌∷◌, refl, ap, ◌∙◌, arith, inl, inr, length, length-take, map, take}
use Rattle.std.specs.Prelude.{pos, negsuc}
use Rattle.std.proofs.lemmas.List.Sorted.{IsPermutation-cons, IsPermutation-middle, IsPermutation-refl, IsPermutation-trans}
use Rattle.sql_values.specs.declared.types.SqlType.TheVariants as type
use Rattle.sql_values.specs.declared.value.Value.{Value}
use Rattle.sql_values.specs.declared.value.Value.TheVariants.{Null, Bigint, Decimal, Varchar}
use Rattle.sql_values.specs.declared.fail.Fail.{Fail}
use Rattle.sql_values.specs.declared.fail.Fail.TheVariants.{OutOfRange, DivisionByZero}
use Rattle.sql_values.specs.declared.order.Order.TheVariants.{Ascending, Descending}
use Rattle.sql_values.specs.declared.order.KeySpec.{KeySpec}
use Rattle.sql_values.specs.declared.relational.Call.TheVariants.{CountAll, Sum}
use Rattle.sql_functions.specs.declared.name.CallName.TheVariants as name
use Rattle.sql_exprs.specs.Forms.{Form, column, literal, call, cast, none, more}
use Rattle.relation_laws.specs.Verdicts.{failures, keeps, drops, fails}
use Rattle.relation_laws.proofs.VerdictLemmas.{failures-same}
use Rattle.relation_laws.proofs.SortLemmas.{sorted_by_test, test_before, test_ordered}
use Rattle.plan_trees.specs.TreeForms.{TreeForm, scan, filter, aggregate, sort, topn, limit}
use Rattle.plan_trees.specs.Judges.{filter_judge, project_judge}
use Rattle.plan_trees.specs.Allowed.{Allows}
use Rattle.plan_trees.specs.Stopped.{MayFail, MayHaveGiven}

abbrev whole : ℕ → Form
whole n = literal type.Bigint (Bigint (pos n))

-- b <> 0, and 10 / b > 1
abbrev differs : Form
differs = call name.Unequal (more (column 0) (more (whole 0) none))

abbrev divides : Form
divides = call name.Greater (more (call name.Divide (more (whole 10) (more (column 0) none))) (more (whole 1) none))

-- AND stops at FALSE, before the division; turned round it fails
the_test_comes_first : filter_judge (type.Bigint ∷ []) (call name.And (more differs (more divides none))) (Bigint (pos 0) ∷ []) ≡ drops
the_test_comes_first = refl

the_division_comes_first : filter_judge (type.Bigint ∷ []) (call name.And (more divides (more differs none))) (Bigint (pos 0) ∷ []) ≡ fails DivisionByZero
the_division_comes_first = refl

-- nothing is allowed where a row fails
abbrev ones : TreeForm
ones = scan 9 0 (0 ∷ []) (type.Bigint ∷ [])

abbrev one_zero : List (List Value)
one_zero = (Bigint (pos 0) ∷ []) ∷ []

nothing_is_allowed : (rows : List (List Value)) → ¬ Allows (filter 1 divides ones) (one_zero ∷ []) rows
nothing_is_allowed rows (a, same, judged) =
    let one : failures (map (filter_judge (type.Bigint ∷ []) divides) one_zero) ≡ 1 = refl in
    absurd (omega (arith, one, failures-same (filter_judge (type.Bigint ∷ []) divides) one_zero a same, judged.calm))

-- the filter may fail with this kind on that row, and in no other way on no row
the_filter_may_fail : MayFail (filter 1 divides ones) (one_zero ∷ []) 1 DivisionByZero
the_filter_may_fail =
    inl (refl, record { given = one_zero; may = ([], IsPermutation-refl one_zero); so = (Bigint (pos 0) ∷ [], (0, omega arith, refl), refl) })

nothing_may_fail_elsewhere : (kind : Fail) → ¬ MayFail (filter 1 divides ones) (one_zero ∷ []) 2 kind
nothing_may_fail_elsewhere kind (inl (is, on)) = absurd (omega (arith, is))
nothing_may_fail_elsewhere kind (inr h) = h

-- a > 1 keeps neither 1 nor NULL
abbrev above_one : Form
above_one = call name.Greater (more (column 0) (more (whole 1) none))

one_is_dropped : filter_judge (type.Bigint ∷ []) above_one (Bigint (pos 1) ∷ []) ≡ drops
one_is_dropped = refl

null_is_dropped : filter_judge (type.Bigint ∷ []) above_one (Null ∷ []) ≡ drops
null_is_dropped = refl

two_is_kept : filter_judge (type.Bigint ∷ []) above_one (Bigint (pos 2) ∷ []) ≡ keeps (Bigint (pos 2) ∷ [])
two_is_kept = refl

-- a + 1 past 64 bits
a_sum_fails : project_judge (type.Bigint ∷ []) (call name.Add (more (column 0) (more (whole 1) none)) ∷ []) (Bigint (pos 9223372036854775807) ∷ []) ≡ fails OutOfRange
a_sum_fails = refl

-- 0.5 and -0.5 as whole numbers
halves_go_up : project_judge (type.Decimal 2 1 ∷ []) (cast (column 0) (type.Decimal 1 0) ∷ []) (Decimal (pos 5) ∷ []) ≡ keeps (Decimal (pos 1) ∷ [])
halves_go_up = refl

halves_go_down : project_judge (type.Decimal 2 1 ∷ []) (cast (column 0) (type.Decimal 1 0) ∷ []) (Decimal (negsuc 4) ∷ []) ≡ keeps (Decimal (negsuc 0) ∷ [])
halves_go_down = refl

-- the first failure of a row from the left is its failure
the_left_failure : project_judge (type.Bigint ∷ []) (call name.Divide (more (whole 1) (more (column 0) none)) ∷ call name.Neg (more (column 0) none) ∷ []) (Bigint (pos 0) ∷ []) ≡ fails DivisionByZero
the_left_failure = refl

-- the aggregates of an empty table
no_row_globally : Allows (aggregate 1 [] (CountAll ∷ Sum 0 ∷ []) ones) ([] ∷ []) ((Bigint (pos 0) ∷ Null ∷ []) ∷ [])
no_row_globally = ([], IsPermutation-refl [], record { calm = refl; are_kept = IsPermutation-refl _ })

no_row_by_key : Allows (aggregate 1 (0 ∷ []) (CountAll ∷ Sum 0 ∷ []) ones) ([] ∷ []) []
no_row_by_key = ([], IsPermutation-refl [], record { calm = refl; are_kept = IsPermutation-refl _ })

-- descending, with NULL last
abbrev down : List KeySpec
down = record { column = 0; order = Descending } ∷ []

abbrev one_null_three : List (List Value)
one_null_three = (Bigint (pos 1) ∷ []) ∷ (Null ∷ []) ∷ (Bigint (pos 3) ∷ []) ∷ []

abbrev three_one_null : List (List Value)
three_one_null = (Bigint (pos 3) ∷ []) ∷ (Bigint (pos 1) ∷ []) ∷ (Null ∷ []) ∷ []

descending_with_null_last : Allows (sort 1 down ones) (one_null_three ∷ []) three_one_null
unfolding test_ordered test_before
descending_with_null_last = (
  one_null_three,
  IsPermutation-refl one_null_three,
  record {
    same = IsPermutation-middle ((Bigint (pos 1) ∷ []) ∷ (Null ∷ []) ∷ []) (Bigint (pos 3) ∷ []) [];
    ordered = sorted_by_test down three_one_null refl;
  },
)

-- the first two by the first column: of two rows that the key does not tell apart either one may be left out
abbrev up : List KeySpec
up = record { column = 0; order = Ascending } ∷ []

abbrev marked : ℕ → ℕ → List Value
marked n letter = Bigint (pos n) ∷ Varchar (letter ∷ []) ∷ []

abbrev in_table : List (List Value)
in_table = marked 2 121 ∷ marked 1 120 ∷ marked 2 122 ∷ []

abbrev first_two : TreeForm
first_two = topn 1 2 up (scan 9 0 (0 ∷ 1 ∷ []) (type.Bigint ∷ type.Varchar ∷ []))

one_with_y : Allows first_two (in_table ∷ []) (marked 1 120 ∷ marked 2 121 ∷ [])
unfolding test_ordered test_before
one_with_y = (
  in_table,
  IsPermutation-refl in_table,
  record {
    order = marked 1 120 ∷ marked 2 121 ∷ marked 2 122 ∷ [];
    sorted = record {
      same = IsPermutation-middle (marked 2 121 ∷ []) (marked 1 120) (marked 2 122 ∷ []);
      ordered = sorted_by_test up (marked 1 120 ∷ marked 2 121 ∷ marked 2 122 ∷ []) refl;
    };
    is = refl;
  },
)

one_with_z : Allows first_two (in_table ∷ []) (marked 1 120 ∷ marked 2 122 ∷ [])
unfolding test_ordered test_before
one_with_z = (
  in_table,
  IsPermutation-refl in_table,
  record {
    order = marked 1 120 ∷ marked 2 122 ∷ marked 2 121 ∷ [];
    sorted = record {
      same = IsPermutation-trans in_table (marked 1 120 ∷ marked 2 121 ∷ marked 2 122 ∷ []) (marked 1 120 ∷ marked 2 122 ∷ marked 2 121 ∷ [])
          (IsPermutation-middle (marked 2 121 ∷ []) (marked 1 120) (marked 2 122 ∷ []))
          (IsPermutation-cons (marked 1 120) (marked 2 121 ∷ marked 2 122 ∷ []) (marked 2 122 ∷ marked 2 121 ∷ []) (IsPermutation-middle (marked 2 121 ∷ []) (marked 2 122) []));
      ordered = sorted_by_test up (marked 1 120 ∷ marked 2 122 ∷ marked 2 121 ∷ []) refl;
    };
    is = refl;
  },
)

-- a limit that was stopped gave no more rows than its count
abbrev one_and_two : List (List Value)
one_and_two = (Bigint (pos 1) ∷ []) ∷ (Bigint (pos 2) ∷ []) ∷ []

a_stopped_limit_gives_no_more : ¬ MayHaveGiven (limit 1 1 ones) (one_and_two ∷ []) one_and_two
a_stopped_limit_gives_no_more (a, b, may, first, same) =
    let two : 2 ≡ length (take 1 a) = ap length (same ∙ first) in absurd (omega (arith, two, length-take 1 a))
