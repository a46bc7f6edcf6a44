use Rattle.std.proofs.Common.{◌≡◌, map, drop}
use Rattle.command_line.specs.Words.{names_differ}
use Rattle.command_line.proofs.words.names_differ.Given as goal

abbrev pub invariant-loop-at : goal.invariant-loop-at
invariant-loop-at l = names_differ (map (λ word. word.now) l.words) ≡ names_differ (map (λ word. word.now) (drop l.at l.words))
