use Rattle.std.proofs.Common.{ap, map, refl, subst, sym}
use Rattle.std.proofs.lemmas.Result.{IfOk-weaker}
use Rattle.plan_layout.specs.Pipes.{pipe_view, source_view}
use Rattle.plan_layout.specs.declared.pipe.PipeSource.{PipeSource}
use Rattle.net_closing.specs.Back.{CameBack, IsFrom}
use Rattle.net_closing.proofs.BackLemmas.{came_to}
use Rattle.net_closing.proofs.PipeLemmas.{view_at}
use Rattle.net_closing.proofs.settle.settle_source.Goals as goal

pub settle_claims-requires : goal.settle_claims-requires
settle_claims-requires c = record {
  layout = map pipe_view c.args.layout.now;
  net = c.requires.net;
  at = c.args.at;
  there = view_at c.args.layout.now c.args.at c.index-layout-at.result c.requires.there c.index-layout-at.is;
  place = c.in-Table.field-0;
  columns = c.in-Table.field-1.now;
  kinds = c.in-Table.field-2.now;
  is = ap source_view c.in-Table.is;
}

pub settle_gathers-requires : goal.settle_gathers-requires
settle_gathers-requires c = record {
  net = c.requires.net;
  at = c.args.at;
  there = view_at c.args.layout.now c.args.at c.index-layout-at.result c.requires.there c.index-layout-at.is;
  from = subst (λ (s : PipeSource). IsFrom c.args.at c.args.at (source_view s)) (sym c.in-Sides.is) refl;
}

pub settle_spreads-requires : goal.settle_spreads-requires
settle_spreads-requires c = record {
  net = c.requires.net;
  there = view_at c.args.layout.now c.args.at c.index-layout-at.result c.requires.there c.index-layout-at.is;
  number = c.in-Fragment.field-0;
  is = ap source_view c.in-Fragment.is;
}

pub settle_gathers-requires-in-Edge : goal.settle_gathers-requires-in-Edge
settle_gathers-requires-in-Edge c = record {
  net = c.requires.net;
  at = c.args.at;
  there = view_at c.args.layout.now c.args.at c.index-layout-at.result c.requires.there c.index-layout-at.is;
  from = subst (λ (s : PipeSource). IsFrom c.args.at c.in-Edge.of (source_view s)) (sym c.in-Edge.is) refl;
}

pub returns-in-Table-clause-back : goal.returns-in-Table-clause-back
returns-in-Table-clause-back c =
    let r = c.index-layout-at.result in
    let layout = map pipe_view c.args.layout.now in
    IfOk-weaker c.settle_claims.result _ _ (λ _ back. λ drivers left.
    came_to layout drivers c.args.at (pipe_view r) (view_at c.args.layout.now c.args.at r c.requires.there c.index-layout-at.is)
    (subst (λ (s : PipeSource). CameBack layout drivers c.args.at (pipe_view r) (source_view s)) (sym c.in-Table.is) (back drivers left))) c.settle_claims.ensures.back

pub returns-in-Sides-clause-back : goal.returns-in-Sides-clause-back
returns-in-Sides-clause-back c =
    let r = c.index-layout-at.result in
    let layout = map pipe_view c.args.layout.now in
    IfOk-weaker c.settle_gathers.result _ _ (λ _ back. λ drivers left.
    came_to layout drivers c.args.at (pipe_view r) (view_at c.args.layout.now c.args.at r c.requires.there c.index-layout-at.is)
    (subst (λ (s : PipeSource). CameBack layout drivers c.args.at (pipe_view r) (source_view s)) (sym c.in-Sides.is) (back drivers left))) c.settle_gathers.ensures.back

pub returns-in-Fragment-clause-back : goal.returns-in-Fragment-clause-back
returns-in-Fragment-clause-back c =
    let r = c.index-layout-at.result in
    let layout = map pipe_view c.args.layout.now in
    IfOk-weaker c.settle_spreads.result _ _ (λ _ back. λ drivers left.
    came_to layout drivers c.args.at (pipe_view r) (view_at c.args.layout.now c.args.at r c.requires.there c.index-layout-at.is)
    (subst (λ (s : PipeSource). CameBack layout drivers c.args.at (pipe_view r) (source_view s)) (sym c.in-Fragment.is) (back drivers left))) c.settle_spreads.ensures.back

pub returns-in-Edge-clause-back : goal.returns-in-Edge-clause-back
returns-in-Edge-clause-back c =
    let r = c.index-layout-at.result in
    let layout = map pipe_view c.args.layout.now in
    IfOk-weaker c.settle_gathers-in-Edge.result _ _ (λ _ back. λ drivers left.
    came_to layout drivers c.args.at (pipe_view r) (view_at c.args.layout.now c.args.at r c.requires.there c.index-layout-at.is)
    (subst (λ (s : PipeSource). CameBack layout drivers c.args.at (pipe_view r) (source_view s)) (sym c.in-Edge.is) (back drivers left))) c.settle_gathers-in-Edge.ensures.back

pub returns-in-Rows-clause-back : goal.returns-in-Rows-clause-back
returns-in-Rows-clause-back c = λ drivers left.
    let r = c.index-layout-at.result in
    let layout = map pipe_view c.args.layout.now in
    came_to layout drivers c.args.at (pipe_view r) (view_at c.args.layout.now c.args.at r c.requires.there c.index-layout-at.is)
    (subst (λ (s : PipeSource). CameBack layout drivers c.args.at (pipe_view r) (source_view s)) (sym c.in-Rows.is) tt)
