use Rattle.std.proofs.Common.{refl, sym, subst, ◌∙◌, ap, Option}
use Rattle.sql_values.specs.declared.fail.Fail.{Fail}
use Rattle.sql_exprs.specs.Pages.{cell_at}
use Rattle.std.specs.List.{range_with_len}
use Rattle.page_processor.proofs.FitLemmas.{along, filter_fits}
use Rattle.plan_trees.specs.Judges.{filter_judge}
use Rattle.sql_exprs.specs.Forms.{form_view}
use Rattle.page_processor.specs.Positions.{calm_positions, values_at}
use Rattle.page_processor.proofs.FilterLemmas.{IsFiltered, filter_gives, is_filtered}
use Rattle.page_processor.proofs.filter.filter_page.Goals as goal

filtered : (c : goal.After-as_slice) → IsFiltered c.args.page.types (form_view c.args.predicate.now) c.args.page.rows c.in_ok-failure.failure c.as_slice.result.now
filtered c =
    let types = c.args.page.types in
    let form = form_view c.args.predicate.now in
    let rows = c.args.page.rows in
    let all = c.in_ok-positions.positions.items in
    subst (λ (f : Option Fail). IsFiltered types form rows f c.as_slice.result.now) (sym c.in_ok-failure.ensures.failure)
    (is_filtered types form rows (values_at types rows all form) all (calm_positions (cell_at types form rows) all) c.as_slice.result.now
    c.requires.typed c.requires.fits (c.in_ok-positions.ensures ∙ ap (range_with_len 0) c.len.ensures.len) refl refl
    (c.as_slice.ensures.value ∙ c.in_ok-failure.ensures.kept))

pub keep_rows-requires-clause-within : goal.keep_rows-requires-clause-within
keep_rows-requires-clause-within c = (filtered c).within

pub keep_rows-requires-clause-few : goal.keep_rows-requires-clause-few
keep_rows-requires-clause-few c = (filtered c).few

pub keep_rows-requires-clause-all : goal.keep_rows-requires-clause-all
keep_rows-requires-clause-all c = (filtered c).all

pub returns-clause-judged : goal.returns-clause-judged
returns-clause-judged c =
    let types = c.args.page.types in
    let form = form_view c.args.predicate.now in
    let rows = c.args.page.rows in
    let all = c.in_ok-positions.positions.items in
    let is : IsFiltered types form rows c.in_ok-failure.failure c.as_slice.result.now =
    subst (λ (f : Option Fail). IsFiltered types form rows f c.as_slice.result.now) (sym c.in_ok-failure.ensures.failure)
    (is_filtered types form rows (values_at types rows all form) all (calm_positions (cell_at types form rows) all) c.as_slice.result.now
    c.requires.typed c.requires.fits (c.in_ok-positions.ensures ∙ ap (range_with_len 0) c.len.ensures.len) refl refl
    (c.as_slice.ensures.value ∙ c.in_ok-failure.ensures.kept)) in
    filter_gives types form rows c.in_ok-failure.failure c.as_slice.result.now
    c.args.page c.in_ok-keep_rows.field-0 is refl refl c.in_ok-keep_rows.ensures

pub returns-clause-fits : goal.returns-clause-fits
returns-clause-fits c =
    along c.args.page.types (filter_judge c.args.page.types (form_view c.args.predicate.now)) c.args.page.rows (record { page = c.in_ok-keep_rows.field-0; failure = c.in_ok-failure.failure }) (returns-clause-judged c)
    (filter_fits c.args.page.types (form_view c.args.predicate.now) c.args.page.rows c.requires.fits)
