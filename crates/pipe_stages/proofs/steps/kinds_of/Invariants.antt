use Rattle.std.proofs.Common.{◌≡◌, map, take}
use Rattle.sql_exprs.specs.Forms.{form_view}
use Rattle.sql_exprs.specs.Meaning.{kind_of}
use Rattle.pipe_stages.proofs.steps.kinds_of.Given as goal

abbrev pub invariant-loop-column : goal.invariant-loop-column
invariant-loop-column l = l.given ≡ map (kind_of l.types) (map form_view (take l.column-index l.columns))
