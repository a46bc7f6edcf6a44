use Rattle.std.proofs.Common.{rules, ◌≡◌, ℕ, List, Some, sym}
use Rattle.sql_values.specs.Cells.{lent_value}
use Rattle.sql_values.specs.Texts.{value_of_text}
use Rattle.sql_values.specs.declared.types.SqlType.{SqlType}
use Rattle.sql_values.specs.declared.value.Value.{Value}
use Rattle.csv_tables.specs.Fields.{text_in}
use Rattle.csv_tables.proofs.ValueLemmas.{value_parsed}
use Rattle.csv_tables.proofs.field.read_any.Goals as goal

parsed : (kind : SqlType) (field text lent : List ℕ) (v : Value) → text ≡ field → lent ≡ text_in kind text → Some v ≡ value_of_text kind lent → value_of_text kind (text_in kind field) ≡ Some v
parsed kind field text lent v a b e = sym (rw (b, a) at e)

pub returns-in-Some : goal.returns-in-Some
returns-in-Some c =
    let whole : c.in-Ok.text.now ≡ c.args.field.now = search rules in
    let v = lent_value c.in-Some.value in
    value_parsed c.args.kind c.args.field.now v (search rules) (search rules) (parsed c.args.kind c.args.field.now c.in-Ok.text.now c.field_value_text.result.now v whole c.field_value_text.ensures c.in-Some.ensures)
