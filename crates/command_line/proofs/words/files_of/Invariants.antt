use Rattle.std.proofs.Common.{◌≡◌, map, take}
use Rattle.command_line.specs.Words.{named_file, told_file}
use Rattle.command_line.proofs.words.files_of.Given as goal

abbrev pub invariant-loop-word : goal.invariant-loop-word
invariant-loop-word l = map told_file l.files.items ≡ map named_file (map (λ word. word.now) (take l.word-index l.words))
