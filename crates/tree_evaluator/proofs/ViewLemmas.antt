-- The forms of trees.
use Rattle.std.proofs.Common.{◌≡◌, ◌∙◌, ℕ, List, Box, Global, ap, map, sym}
use Rattle.sql_values.specs.declared.relational.JoinKind.{JoinKind}
use Rattle.plan_trees.specs.declared.tree.Tree.{Tree}
use Rattle.plan_trees.specs.declared.tree.Tree.TheFolds.{fold-roll-Tree}
use Rattle.plan_trees.specs.declared.tree.Pair.{Pair}
use Rattle.plan_trees.specs.declared.tree.Tree.TheVariants.{Join, Step, rolls-Join, rolls-Step}
use Rattle.plan_trees.specs.declared.tree.TreeStep.{TreeStep}
use Rattle.plan_trees.specs.TreeForms.{TreeForm, join, pair_view, step, step_view, tree_step, tree_view}

pub view_step : (id : ℕ) (s : TreeStep) (input : Box Tree Global) → tree_view (Step id s input) ≡ step id (step_view s) (tree_view input.value)
view_step id s input = ap tree_view (sym (rolls-Step id s input)) ∙ fold-roll-Tree TreeForm tree_step _

pub view_join : (id : ℕ) (kind : JoinKind) (on : List Pair) (left right : Box Tree Global)
    → tree_view (Join id kind on left right) ≡ join id kind (map pair_view on) (tree_view left.value) (tree_view right.value)
view_join id kind on left right = ap tree_view (sym (rolls-Join id kind on left right)) ∙ fold-roll-Tree TreeForm tree_step _
