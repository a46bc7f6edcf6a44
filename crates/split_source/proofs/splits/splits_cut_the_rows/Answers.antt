use Rattle.split_source.proofs.SplitLemmas.{all_splits, all_splits_once}
use Rattle.split_source.proofs.splits.splits_cut_the_rows.Goals as goal

pub returns-clause-in_order : goal.returns-clause-in_order
returns-clause-in_order g c = all_splits c.args.size c.args.rows.now c.requires

pub returns-clause-in_any_order : goal.returns-clause-in_any_order
returns-clause-in_any_order g c numbers same = all_splits_once c.args.size c.args.rows.now numbers c.requires same
