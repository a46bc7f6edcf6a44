use Rattle.std.proofs.Common.{◌∙◌}
use Rattle.page_processor.proofs.FilterLemmas.{all_kept}
use Rattle.page_processor.proofs.filter.keep_rows.Goals as goal

pub returns-then-positions-len : goal.returns-then-positions-len
returns-then-positions-len c = all_kept c.args.page c.args.positions.now (c.requires.all (c.if-positions-len.true ∙ c.len.ensures.len))
