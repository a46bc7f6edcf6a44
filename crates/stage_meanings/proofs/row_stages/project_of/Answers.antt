use Rattle.std.proofs.Common.{map}
use Rattle.sql_exprs.specs.Forms.{form_view}
use Rattle.row_ops.specs.contracts.filter_project.FilterProjectOperator.TheImpl.{ghosts}
use Rattle.stage_meanings.proofs.RowLemmas.{project_means}
use Rattle.stage_meanings.proofs.row_stages.project_of.Goals as goal

pub returns-clause-means : goal.returns-clause-means
returns-clause-means c =
    project_means ghosts c.new.result c.args.node c.args.types.items (map form_view c.args.columns.items) c.requires.typed
    (record { gives = λ X Y gives. (c.new.ensures.gives X Y).0 gives; fails = λ X node kind. c.new.ensures.fails X node kind; learned = λ s learned. learned })
