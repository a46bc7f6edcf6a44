use Rattle.std.proofs.Common.{◌∙◌, arith, map, sym}
use Rattle.plan_layout.specs.Pipes.{pipe_view}
use Rattle.std.proofs.lemmas.List.{length-map}
use Rattle.std.proofs.lemmas.Option.{slice_get_within}
use Rattle.net_closing.proofs.PipeLemmas.{view_at}
use Rattle.net_closing.proofs.ResultLemmas.{none_more}
use Rattle.net_closing.proofs.result.result_from.Goals as goal

pub loop-place-preserved : goal.loop-place-preserved
loop-place-preserved c =
    let inv = c.loop-place.invariant in
    let pipes = c.args.layout.now in
    let r = c.index-layout-place.result in
    record {
      none = none_more (map pipe_view pipes) c.args.from c.loop-place.place (pipe_view r) inv.none
          (view_at pipes c.loop-place.place r c.loop-place-test.true c.index-layout-place.is) (sym c.gives_result.ensures ∙ c.if-gives_result.false);
      low = omega arith;
      high = omega (arith, c.loop-place-test.true);
    }

pub returns-clause-gives : goal.returns-clause-gives
returns-clause-gives c = λ pipe is.
    absurd (omega (arith, c.loop-place-test.false, slice_get_within (map pipe_view c.args.layout.now) c.loop-place.place pipe is, length-map c.args.layout.now pipe_view))
