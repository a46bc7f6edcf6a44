use Rattle.std.proofs.Common.{map, take}
use Rattle.command_line.specs.Found.{AllTexts}
use Rattle.command_line.proofs.command.words_are_texts.Given as goal

abbrev pub invariant-loop-word : goal.invariant-loop-word
invariant-loop-word l = AllTexts (map (λ word. word.now) (take l.word-index l.words))
