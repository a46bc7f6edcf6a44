use Rattle.std.proofs.Common.{rules}
use Rattle.sql_values.proofs.value_texts.print_value.Goals as goal

pub returns-in_err-print_decimal-in-Decimal-clause-err : goal.returns-in_err-print_decimal-in-Decimal-clause-err
returns-in_err-print_decimal-in-Decimal-clause-err c = search rules

pub returns-in_ok-print_decimal-in-Decimal-clause-ok : goal.returns-in_ok-print_decimal-in-Decimal-clause-ok
returns-in_ok-print_decimal-in-Decimal-clause-ok c = search rules
