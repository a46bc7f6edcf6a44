use Rattle.std.proofs.Common.{List, subst, rules}
use Rattle.std.specs.Prelude.{IsPermutation}
use Rattle.sql_values.specs.declared.value.Value.{Value}
use Rattle.tree_evaluator.proofs.SortLemmas.{sort_answer, sorted_rows}
use Rattle.tree_evaluator.proofs.sorts.sorted_list.Goals as goal

pub returns : goal.returns
returns c =
    let same = subst (λ (rows : List (List Value)). IsPermutation rows c.sort_by.new.self.items) c.in_ok-rows.ensures c.in_ok-sort_by.ensures.permutation in
    sort_answer c.listed_rows.result c.args.keys.now c.args.list.now c.sort_by.new.self.items c.listed_rows.ensures
    (sorted_rows c.args.keys.now c.args.list.now c.sort_by.new.self.items same c.in_ok-sort_by.ensures.sorted (λ a r f' k. search rules))
