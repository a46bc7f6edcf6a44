use Rattle.std.proofs.Common.{◌∙◌, ap, refl}
use Rattle.hash_join.specs.Probing.{ProbeState}
use Rattle.pipe_stages.proofs.StageLemmas.{left_keys}
use Rattle.pipe_stages.proofs.probes.probe_stage.Goals as goal

pub returns-clause-is : goal.returns-clause-is
returns-clause-is c = λ names named.
    let op = c.new-probe.result in
    let made = c.new-probe.ensures.made in
    record {
      op = op;
      types = c.of-types.result;
      is = refl;
      of_kind = ap (λ (s : ProbeState). s.kind) made;
      columns = ap (λ (s : ProbeState). s.on) made ∙ c.in_ok-left_columns.ensures ∙ left_keys c.args.on.now;
      rings = ap (λ (s : ProbeState). s.bell) made;
      cell = ap (λ (s : ProbeState). s.note.cell) made ∙ named;
    }
