use Rattle.std.proofs.Common.{◌≡◌, map, drop}
use Rattle.std.specs.List.{list_any}
use Rattle.command_line.specs.Words.{names}
use Rattle.command_line.proofs.words.gives.Given as goal

abbrev pub invariant-loop-word : goal.invariant-loop-word
invariant-loop-word l = list_any (names l.name) (map (λ word. word.now) l.words) ≡ list_any (names l.name) (map (λ word. word.now) (drop l.word-index l.words))
