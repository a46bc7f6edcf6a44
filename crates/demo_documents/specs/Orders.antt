-- The table `orders`: 100 000 orders, each of a customer and an amount.
use Rattle.std.specs.Prelude.{ℕ, ◌+◌, ◌%◌, List, ◌++◌, pos, codes}
use Rattle.sql_values.specs.Texts.{text_of_value}
use Rattle.sql_values.specs.declared.types.SqlType.TheVariants.{Bigint, Decimal}
use Rattle.sql_values.specs.declared.value.Value.{Value}
use Rattle.sql_values.specs.declared.value.Value.TheVariants as value
use Rattle.demo_documents.specs.Lines.{lines, two_fields}

abbrev pub order_count : ℕ
order_count = 100000

-- the customers of a demo begin at its number, and go round
abbrev pub order_customer : ℕ → ℕ → Value
order_customer number i = value.Bigint (pos ((i + number % 1000) % 1000))

-- in hundredths
abbrev pub order_amount : ℕ → Value
order_amount i = value.Decimal (pos (i % 1000))

abbrev pub order_text : ℕ → ℕ → List ℕ
order_text number i =
    two_fields (text_of_value Bigint (order_customer number i)) (text_of_value (Decimal 12 2) (order_amount i))

abbrev pub orders_text : ℕ → List ℕ
orders_text number = codes "customer,amount\n" ++ lines (order_text number) order_count
