use Rattle.std.proofs.Common.{rules}
use Rattle.sql_values.proofs.value_texts.parse_value.Goals as goal

pub returns-then-text-gt-LONGEST_TEXT : goal.returns-then-text-gt-LONGEST_TEXT
returns-then-text-gt-LONGEST_TEXT c = search rules
