use Rattle.relation_laws.proofs.SortLemmas.{sorted_rows, is_sort}
use Rattle.relation_laws.proofs.laws.each_list_can_be_sorted.Goals as goal

pub returns : goal.returns
returns c = (sorted_rows c.args.keys.now c.args.rows.now, is_sort c.args.keys.now c.args.rows.now)
