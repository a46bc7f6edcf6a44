-- The table `customers`: 900 customers, each with a region.
use Rattle.std.specs.Prelude.{ℕ, ◌%◌, ◌==◌, List, ◌++◌, pos, codes, if◌then◌else◌}
use Rattle.sql_values.specs.Texts.{text_of_value}
use Rattle.sql_values.specs.declared.types.SqlType.TheVariants.{Bigint, Varchar}
use Rattle.sql_values.specs.declared.value.Value.{Value}
use Rattle.sql_values.specs.declared.value.Value.TheVariants as value
use Rattle.demo_documents.specs.Lines.{lines, two_fields}

abbrev pub customer_count : ℕ
customer_count = 900

abbrev pub customer_id : ℕ → Value
customer_id k = value.Bigint (pos k)

-- the region of what a number leaves when it is divided by four
abbrev pub region_name : ℕ → List ℕ
region_name rest =
    if rest == 0 then codes "north"
    else if rest == 1 then codes "east"
    else if rest == 2 then codes "south"
    else codes "west"

abbrev pub customer_region : ℕ → Value
customer_region k = value.Varchar (region_name (k % 4))

abbrev pub customer_text : ℕ → List ℕ
customer_text k = two_fields (text_of_value Bigint (customer_id k)) (text_of_value Varchar (customer_region k))

abbrev pub customers_text : List ℕ
customers_text = codes "id,region\n" ++ lines customer_text customer_count
