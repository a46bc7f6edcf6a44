use Rattle.sql_exprs.specs.Forms.{form_view}
use Rattle.type_laws.proofs.NullLemmas.{cast_in_form_gives}
use Rattle.type_laws.proofs.laws.typed_casts_of_values_give_values.Goals as goal

pub returns : goal.returns
returns c =
    cast_in_form_gives c.args.columns.now c.args.row.now c.requires.row c.args.path.now (form_view c.args.arg.now) c.args.to c.args.kind
    c.requires.casts c.requires.typed c.requires.none
