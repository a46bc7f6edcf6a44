use Rattle.std.proofs.Common.{◌∙◌, ap, sym}
use Rattle.dyn_filter.specs.Filters.{FilterState}
use Rattle.driver_loop.specs.declared.stage.Stage.TheVariants.{Dynamic}
use Rattle.pipe_stages.proofs.fronts.front_stage.Goals as goal

pub returns-clause-is : goal.returns-clause-is
returns-clause-is c = λ net has.
    let op = c.in_ok-op.op in
    let made = c.in_ok-op.ensures.made in
    let own = has c.args.filter.pipe c.args.filter.place c.in-Some.cell.now c.in-Some.ensures in
    let rings = ap (λ (s : FilterState). s.bell) made in
    record {
      op = op;
      is = ap (Dynamic op) (c.of-types.ensures ∙ c.in_ok-from_slice.ensures.items);
      column = ap (λ (s : FilterState). s.column) made;
      waits = ap (λ (s : FilterState). s.waits) made;
      bell = rings ∙ sym own.0;
      parts = ap (λ (s : FilterState). s.parts) made ∙ sym own.1 ∙ ap net.links.parts (sym rings);
    }
