use Rattle.std.proofs.Common.{map}
use Rattle.sql_exprs.specs.Forms.{form_view, forms_of}
use Rattle.type_laws.proofs.NullLemmas.{call_in_form_gives}
use Rattle.type_laws.proofs.laws.typed_calls_of_values_give_values.Goals as goal

pub returns : goal.returns
returns c =
    call_in_form_gives c.args.columns.now c.args.row.now c.requires.row c.args.path.now c.args.name (forms_of (map form_view c.args.args.now)) c.args.kind
    c.requires.casts c.requires.typed c.requires.none
