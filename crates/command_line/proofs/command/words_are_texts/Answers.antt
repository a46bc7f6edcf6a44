use Rattle.std.proofs.Common.{[], map, subst, sym, take}
use Rattle.command_line.specs.Found.{AllTexts}
use Rattle.command_line.proofs.WordLemmas.{taken_more, texts_more}
use Rattle.command_line.proofs.command.words_are_texts.Goals as goal

pub loop-word-preserved : goal.loop-word-preserved
loop-word-preserved c =
    let i = c.loop-word.word-index in
    let more = taken_more c.args.words.now i (record { ref_ptr = (0, 0); now = [] }) c.loop-word-test.true in
    subst AllTexts (sym more) (texts_more (map (λ word. word.now) (take i c.args.words.now)) _ c.loop-word.invariant c.word_is_text.ensures)
