use Rattle.std.proofs.Common.{◌≡◌, ◌<◌, ◌∙◌, ap, get_or, length, map, refl, rules, sym}
use Rattle.std.proofs.lemmas.Option.{slice_get_read}
use Rattle.dyn_filter.proofs.CellLemmas.{fresh_cells}
use Rattle.driver_loop.specs.BuildFilters.{BuildFilterState}
use Rattle.net_parts.proofs.BuildLemmas.{right_at}
use Rattle.net_parts.proofs.builds.build_filter.Goals as goal

pub returns-clause-is : goal.returns-clause-is
returns-clause-is c = λ net has.
    let on = c.args.on.now in
    let key = c.args.filter.key in
    let pair = c.in-Some-get.pair.now in
    let within : key < length on = search rules in
    let is : pair ≡ get_or on key pair = search rules in
    let there = slice_get_read on (length on) key pair refl within is in
    let made = c.in_ok-new.ensures.made in
    let rings = ap (λ (b : BuildFilterState). b.bell) made in
    let cell = c.in-Some.cell.now in
    let own = has c.args.own c.args.place cell c.in-Some.ensures in
    record {
      pair = within;
      column = ap (λ (b : BuildFilterState). b.column) made ∙ right_at on key pair there;
      part = ap (λ (b : BuildFilterState). b.part) made;
      bell = rings ∙ sym own.0;
      cell = ap (λ (b : BuildFilterState). map (λ n. n.cell) b.note.parts) made ∙ fresh_cells cell.parts ∙ sym own.1 ∙ ap net.links.parts (sym rings);
    }
