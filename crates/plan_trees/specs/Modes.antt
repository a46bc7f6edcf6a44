-- What a node makes of verdicts, where a failure is not allowed and where it is left out.
use Rattle.std.specs.Prelude.{◌≡◌, List, map, flat_map}
use Rattle.sql_values.specs.declared.value.Value.{Value}
use Rattle.sql_values.specs.Bags.{SameBag}
use Rattle.relation_laws.specs.Verdicts.{Verdict, failures, kept, kept_rows}

-- strict: no row and no group fails. Skipping: those that fail are left out
pub data Mode : Type 0 where
  strict : Mode
  skipping : Mode

abbrev pub IsCalm : Mode → List Verdict → Type 0
IsCalm strict verdicts = failures verdicts ≡ 0
IsCalm skipping verdicts = Unit {0}

-- the rows that are kept of the input, in order
pub record Judged (mode : Mode) (judge : List Value → Verdict) (input rows : List (List Value)) : Type 0 where
  pub calm : IsCalm mode (map judge input)
  pub are_kept : rows ≡ kept_rows judge input

-- the rows that the verdicts keep, in any order
pub record Taken (mode : Mode) (verdicts : List Verdict) (rows : List (List Value)) : Type 0 where
  pub calm : IsCalm mode verdicts
  pub are_kept : SameBag (flat_map kept verdicts) rows
