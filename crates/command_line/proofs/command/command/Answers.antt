use Rattle.std.proofs.Common.{◌∙◌, [], ap, ap₂, map, sym, take}
use Rattle.clap.specs.Words.{with_rule}
use Rattle.command_line.specs.Found.{app_with}
use Rattle.command_line.proofs.WordLemmas.{app_more, taken_more}
use Rattle.command_line.proofs.command.command.Goals as goal

pub loop-name-preserved : goal.loop-name-preserved
loop-name-preserved c =
    let i = c.loop-name.name-index in
    let more = taken_more c.args.names.now i (record { ref_ptr = (0, 0); now = [] }) c.loop-name-test.true in
    c.in_ok-command-2.ensures.shape c.option.ensures.local ∙ ap₂ with_rule c.loop-name.invariant c.option.ensures.rule
    ∙ app_more (map (λ name. name.now) (take i c.args.names.now)) _ ∙ ap app_with (sym more)
