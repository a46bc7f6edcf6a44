use Rattle.std.proofs.Common.{◌≡◌, ◌<◌, arith, length, map}
use Rattle.sql_exprs.specs.Forms.{form_view}
use Rattle.row_ops.specs.contracts.filter_project.FilterProjectOperator.TheImpl.{ghosts}
use Rattle.stage_meanings.proofs.RowLemmas.{columns-are, filter_typed, made_filter}
use Rattle.stage_meanings.proofs.row_stages.filter_of.Goals as goal

pub new-requires : goal.new-requires
new-requires c =
    let some : 0 < length c.args.types.items = omega arith in
    let count : c.len.result ≡ length c.args.types.items = omega arith in
    filter_typed c.args.types.items (form_view c.args.predicate) (map form_view c.in_ok-columns.columns.items) some c.requires.typed
    (columns-are c.args.types.items (map form_view c.in_ok-columns.columns.items) c.len.result c.in_ok-columns.ensures count)

pub returns-clause-means : goal.returns-clause-means
returns-clause-means c =
    let count : c.len.result ≡ length c.args.types.items = omega arith in
    made_filter ghosts c.new.result c.args.node c.args.types.items (form_view c.args.predicate) (map form_view c.in_ok-columns.columns.items)
    (columns-are c.args.types.items (map form_view c.in_ok-columns.columns.items) c.len.result c.in_ok-columns.ensures count)
    (record { gives = λ X Y gives. (c.new.ensures.gives X Y).0 gives; fails = λ X node kind. c.new.ensures.fails X node kind; learned = λ s learned. learned })
