use Rattle.std.proofs.Common.{◌≡◌, map, drop}
use Rattle.std.specs.List.{list_all}
use Rattle.command_line.specs.Words.{is_named_file}
use Rattle.command_line.proofs.words.all_name_files.Given as goal

abbrev pub invariant-loop-word : goal.invariant-loop-word
invariant-loop-word l = list_all is_named_file (map (λ word. word.now) l.words) ≡ list_all is_named_file (map (λ word. word.now) (drop l.word-index l.words))
