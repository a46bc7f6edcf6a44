use Rattle.std.proofs.Common.{◌∙◌, List, ap, length, map, refl, subst, sym}
use Rattle.sql_values.specs.declared.types.SqlType.{SqlType}
use Rattle.sql_exprs.specs.Forms.{form_view}
use Rattle.page_processor.specs.declared.judged.Judged.{Judged}
use Rattle.col_pages.specs.Fits.{AllFit}
use Rattle.row_ops.proofs.JudgeLemmas.{then-project}
use Rattle.row_ops.proofs.OwnLemmas.{filter-alone, own-kinds}
use Rattle.row_ops.proofs.judge_page.filter_and_project.Goals as goal

pub returns-then-are_all_columns-clause-fits : goal.returns-then-are_all_columns-clause-fits
returns-then-are_all_columns-clause-fits c =
    let count = ap length (c.types.ensures.types ∙ ap (λ (j : Judged). j.page.types) c.in_ok-kept.ensures.judged) in
    let own = c.are_all_columns.ensures c.if-are_all_columns.true in
    subst (λ (types : List SqlType). AllFit types c.in_ok-kept.kept.page.rows)
    (sym (own-kinds c.args.page.types (map form_view c.args.columns.now) (length c.types.result.now) own count)) c.in_ok-kept.ensures.fits

pub returns-then-are_all_columns-clause-judged : goal.returns-then-are_all_columns-clause-judged
returns-then-are_all_columns-clause-judged c =
    let count = ap length (c.types.ensures.types ∙ ap (λ (j : Judged). j.page.types) c.in_ok-kept.ensures.judged) in
    let own = c.are_all_columns.ensures c.if-are_all_columns.true in
    filter-alone c.args.page.types (form_view c.args.predicate.now) (map form_view c.args.columns.now) (length c.types.result.now) c.args.page.rows
    c.in_ok-kept.kept c.requires.fits own count c.in_ok-kept.ensures.judged

pub returns-clause-judged : goal.returns-clause-judged
returns-clause-judged c =
    then-project c.args.page.types (form_view c.args.predicate.now) (map form_view c.args.columns.now) c.args.page.rows
    c.in_ok-kept.kept c.in_ok-mapped.mapped _ c.in_ok-kept.ensures.judged c.in_ok-mapped.ensures.judged refl c.or.ensures
