use Rattle.std.proofs.Common.{◌∙◌, ap, sym}
use Rattle.plan_layout.specs.Pipes.{partial, probe, step_view}
use Rattle.pipe_stages.proofs.StepLemmas.{partial_answer, probe_answer}
use Rattle.pipe_stages.proofs.step.stage_of.Goals as goal

pub returns-in-Some-clause-is : goal.returns-in-Some-clause-is
returns-in-Some-clause-is c =
    let on = c.as_slice-in-Some.result.now in
    let step = ap step_view c.in-Probe.is ∙ ap (λ ps. probe c.in-Probe.field-0 c.in-Probe.kind ps c.in-Probe.at) (sym c.as_slice-in-Some.ensures) in
    probe_answer c.args.table.now c.args.cells.now c.args.task c.args.halved.now c.probe_stage.result c.args.between.now (step_view c.args.step) c.in-Probe.field-0 c.in-Probe.kind on c.in-Probe.at
    c.in-Some.cell.now step c.in-Some.ensures c.probe_stage.ensures.is

pub returns-in-Partial-clause-is : goal.returns-in-Partial-clause-is
returns-in-Partial-clause-is c =
    let keys = c.as_slice-in-Partial.result.now in
    let calls = c.as_slice-in-Partial-2.result.now in
    let step = ap step_view c.in-Partial.is ∙ ap (λ ks. partial c.in-Partial.field-0 ks c.in-Partial.calls.now) (sym c.as_slice-in-Partial.ensures)
    ∙ ap (partial c.in-Partial.field-0 keys) (sym c.as_slice-in-Partial-2.ensures) in
    partial_answer c.args.table.now c.args.cells.now c.args.task c.args.halved.now c.partial_stage.result c.args.between.now (step_view c.args.step) c.in-Partial.field-0 keys calls
    step c.partial_stage.ensures.is
