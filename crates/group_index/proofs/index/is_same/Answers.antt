use Rattle.std.proofs.Common.{rules, ◌≡◌, ◌∙◌}
use Rattle.sql_values.specs.Cells.{lent_value}
use Rattle.sql_values.specs.declared.value.Value.TheVariants as value
use Rattle.group_index.proofs.KeyLemmas.{texts-same}
use Rattle.group_index.proofs.index.is_same.Goals as goal

pub returns-in-Varchar-Varchar : goal.returns-in-Varchar-Varchar
returns-in-Varchar-Varchar c =
    let text : lent_value c.args.a ≡ value.Varchar c.as_bytes.result.now = search rules in
    let other : lent_value c.args.b ≡ value.Varchar c.as_bytes-in-Varchar-Varchar.result.now = search rules in
    c.are_same_bytes.ensures ∙ texts-same c.as_bytes.result.now c.as_bytes-in-Varchar-Varchar.result.now (lent_value c.args.a) (lent_value c.args.b) text other
