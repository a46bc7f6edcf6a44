-- How many verdicts are failures, whatever the order of the rows.
use Rattle.std.proofs.Common.{◌≡◌, List, sym, map}
use Rattle.std.specs.Prelude.{IsPermutation, if◌then◌else◌}
use Rattle.std.proofs.lemmas.List.Sorted.{IsPermutation-map, sum_by-IsPermutation}
use Rattle.sql_values.specs.declared.value.Value.{Value}
use Rattle.relation_laws.specs.Verdicts.{Verdict, failures, is_failure}

pub failures-same : (judge : List Value → Verdict) (rows others : List (List Value)) → IsPermutation rows others → failures (map judge rows) ≡ failures (map judge others)
failures-same judge rows others same =
    sym (sum_by-IsPermutation (λ verdict. if is_failure verdict then 1 else 0) (map judge rows) (map judge others) (IsPermutation-map judge rows others same))
