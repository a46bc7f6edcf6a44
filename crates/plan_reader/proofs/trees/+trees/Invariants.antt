use Rattle.std.proofs.Common.{◌+◌, ◌*◌}
use Rattle.plan_docs.specs.Nodes.{node_view}
use Rattle.plan_reader.proofs.SizeLemmas.{all_size, node_size}
use Rattle.plan_reader.proofs.trees.+trees.Given as goal

abbrev pub decreases-fragment_tree : goal.decreases-fragment_tree
decreases-fragment_tree l = l.most * (3 + 2 * all_size l.fragments.now)

abbrev pub decreases-inner : goal.decreases-inner
decreases-inner l = l.most * (3 + 2 * all_size l.fragments.now) + (2 + 2 * node_size (node_view l.node.now))

abbrev pub decreases-node_tree : goal.decreases-node_tree
decreases-node_tree l = l.most * (3 + 2 * all_size l.fragments.now) + (1 + 2 * node_size (node_view l.node.now))
