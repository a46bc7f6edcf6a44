use Rattle.std.proofs.Common.{◌≡◌, IfOk, sym, subst}
use Rattle.plan_docs.specs.Nodes.{NodeForm, node_view}
use Rattle.plan_docs.proofs.LevelLemmas.{node_at-more}
use Rattle.plan_docs.proofs.read_nodes.+nodes.Goals as goal

pub read_levels-returns : goal.read_levels-returns
read_levels-returns t c =
    subst (λ (form : NodeForm). IfOk c.read_op.result (λ n. node_view n ≡ form)) (sym (node_at-more _ _ _ c.if-levels-eq0.false)) c.read_op.ensures
