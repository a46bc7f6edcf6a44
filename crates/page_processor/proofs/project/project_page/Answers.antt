use Rattle.std.proofs.Common.{◌<◌, ◌∙◌, List, ap, length, map, arith}
use Rattle.sql_values.specs.declared.types.SqlType.{SqlType}
use Rattle.sql_values.specs.ColumnRows.{common_length, kinds_of, rows_of}
use Rattle.std.proofs.lemmas.List.{length-map}
use Rattle.page_processor.proofs.FitLemmas.{along, project_fits}
use Rattle.plan_trees.specs.Judges.{project_judge}
use Rattle.sql_exprs.specs.Meaning.{kind_of}
use Rattle.sql_exprs.specs.Forms.{form_view}
use Rattle.page_processor.proofs.ProjectLemmas.{evaluated_few, evaluated_level, evaluated_some, is_projected}
use Rattle.page_processor.proofs.project.project_page.Goals as goal

some : (c : goal.In_ok-types) → 0 < length (map form_view c.args.columns.now)
some c = omega (arith, c.requires.some, length-map c.args.columns.now form_view)

pub of_blocks-requires-clause-some : goal.of_blocks-requires-clause-some
of_blocks-requires-clause-some c =
    evaluated_some c.args.page.now.types c.args.page.now.rows (map form_view c.args.columns.now) c.in_ok-evaluated.evaluated.blocks.items c.in_ok-evaluated.evaluated.failure
    c.in_ok-evaluated.ensures.evaluated (some c)

pub of_blocks-requires-clause-level : goal.of_blocks-requires-clause-level
of_blocks-requires-clause-level c =
    evaluated_level c.args.page.now.types c.args.page.now.rows (map form_view c.args.columns.now) c.in_ok-evaluated.evaluated.blocks.items c.in_ok-evaluated.evaluated.failure
    c.in_ok-evaluated.ensures.evaluated (some c)

pub of_blocks-requires-clause-few : goal.of_blocks-requires-clause-few
of_blocks-requires-clause-few c =
    let within = evaluated_few c.args.page.now.types c.args.page.now.rows (map form_view c.args.columns.now) c.in_ok-evaluated.evaluated.blocks.items c.in_ok-evaluated.evaluated.failure
    c.in_ok-evaluated.ensures.evaluated (some c) in
    omega (arith, within, c.in_ok-evaluated.ensures.few)

pub returns-clause-judged : goal.returns-clause-judged
returns-clause-judged c =
    is_projected c.args.page.now.types c.args.page.now.rows (map form_view c.args.columns.now) c.in_ok-evaluated.evaluated.blocks.items c.in_ok-evaluated.evaluated.failure
    c.of_blocks.result (omega (arith, c.requires.some, length-map c.args.columns.now form_view)) c.requires.typed c.requires.fits c.in_ok-evaluated.ensures.evaluated
    (c.of_blocks.ensures ∙ ap (λ (ks : List SqlType). record { types = ks; rows = rows_of (common_length c.in_ok-evaluated.evaluated.blocks.items) c.in_ok-evaluated.evaluated.blocks.items }) (c.in_ok-types.ensures ∙ ap kinds_of c.as_slice.ensures.value))

pub returns-clause-fits : goal.returns-clause-fits
returns-clause-fits c =
    along (map (kind_of c.args.page.now.types) (map form_view c.args.columns.now)) (project_judge c.args.page.now.types (map form_view c.args.columns.now)) c.args.page.now.rows (record { page = c.of_blocks.result; failure = c.in_ok-evaluated.evaluated.failure }) (returns-clause-judged c)
    (project_fits c.args.page.now.types (map form_view c.args.columns.now) c.args.page.now.rows c.requires.typed c.requires.fits)
