use Rattle.std.proofs.Common.{◌∙◌, ap, subst, sym}
use Rattle.plan_layout.specs.Pipes.{SourceForm, rows, source_view, table}
use Rattle.pipe_stages.specs.Nets.{IsSourceFor}
use Rattle.net_parts.specs.Makings.{HasSource, layout_in}
use Rattle.net_parts.proofs.AnswerLemmas.{if_so}
use Rattle.net_parts.proofs.source.source_of.Goals as goal

pub scan_source-requires-clause-splits : goal.scan_source-requires-clause-splits
scan_source-requires-clause-splits g c =
    c.requires.stocked.splits c.args.own c.in-Table.place c.in-Table.columns.now c.in-Table.field-2.now (subst (HasSource (layout_in c.args.making.now) c.args.own) (ap source_view c.in-Table.is) c.requires.has)

pub returns-in-Table-clause-is : goal.returns-in-Table-clause-is
returns-in-Table-clause-is g c =
    let is = ap source_view c.in-Table.is ∙ ap (λ cs. table c.in-Table.place cs c.in-Table.field-2.now) (sym c.as_slice.ensures) in
    if_so c.scan_source.result (λ made holds labels labelled net for. subst (λ (form : SourceForm). IsSourceFor net c.args.own c.args.task form made) (sym is)
    (holds c.args.task c.in-Table.field-2.now labels labelled net for)) c.scan_source.ensures.is

pub returns-in-Rows-clause-is : goal.returns-in-Rows-clause-is
returns-in-Rows-clause-is g c =
    let is = ap source_view c.in-Rows.is ∙ ap (λ ts. rows ts c.in-Rows.list.now) (sym c.as_slice-in-Rows.ensures) in
    if_so c.rows_source.result (λ made holds labels labelled net for. subst (λ (form : SourceForm). IsSourceFor net c.args.own c.args.task form made) (sym is)
    (holds net c.args.own c.args.task)) c.rows_source.ensures.is

pub returns-in-Fragment-clause-is : goal.returns-in-Fragment-clause-is
returns-in-Fragment-clause-is g c =
    if_so c.remote_source.result (λ made holds labels labelled net for. subst (λ (form : SourceForm). IsSourceFor net c.args.own c.args.task form made) (sym (ap source_view c.in-Fragment.is))
    (holds c.in-Fragment.field-0 labels labelled net for)) c.remote_source.ensures.is

pub returns-in-Edge-clause-is : goal.returns-in-Edge-clause-is
returns-in-Edge-clause-is g c =
    if_so c.fetch_source.result (λ made holds labels labelled net for. subst (λ (form : SourceForm). IsSourceFor net c.args.own c.args.task form made) (sym (ap source_view c.in-Edge.is))
    (holds c.args.own labels labelled net for)) c.fetch_source.ensures.is
