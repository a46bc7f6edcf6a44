use Rattle.std.proofs.Common.{◌<◌, ◌∙◌, ap, length, subst, sym}
use Rattle.split_source.specs.Scans.{ScanState}
use Rattle.split_source.specs.Seats.{ClaimsId, SeatState}
use Rattle.split_source.specs.Splits.{split_count}
use Rattle.plan_trees.specs.Allowed.{table_rows}
use Rattle.tree_evaluator.proofs.LeafLemmas.{table_there}
use Rattle.net_parts.proofs.ScanLemmas.{readable, rows_are, within}
use Rattle.net_parts.proofs.source.scan_source.Goals as goal

pub new-requires-clause-fits : goal.new-requires-clause-fits
new-requires-clause-fits g c =
    readable c.args.making.now.tables.now c.args.place c.index-tables-place.result c.in_ok-columns.columns.items
    (within c.args.making.now.tables.now c.args.place c.requires.reads.table c.requires.reads.is_table) c.index-tables-place.is c.requires.can.readable

pub returns-clause-is : goal.returns-clause-is
returns-clause-is g c = λ task kinds labels labelled net for.
    let m = c.args.making.now in
    let n = c.args.place in
    let tables = m.tables.now in
    let there = table_there tables n c.index-tables-place.result (within tables n c.requires.reads.table c.requires.reads.is_table) c.index-tables-place.is in
    let seat = labelled.claims c.args.own c.in_ok-seat.seat c.in_ok-seat.ensures.taken in
    let claims = ap (λ (s : SeatState). s.claims) seat ∙ sym (for.claims c.args.own) in
    record {
      scan = c.new.result;
      is = c.scan.ensures;
      of = record {
        of = ap (λ (s : ScanState). s.rows) c.new.ensures ∙ sym there ∙ ap (λ ts. table_rows ts n) (sym for.tables);
        cut_to = ap (λ (s : ScanState). s.columns) c.new.ensures ∙ c.in_ok-columns.ensures.items;
        sized = ap (λ (s : ScanState). s.size) c.new.ensures ∙ sym for.split;
      };
      seat = ap (λ (s : ScanState). s.seat.claims) c.new.ensures ∙ claims;
      some = subst (λ size. 0 < size) (sym for.split) c.requires.can.split;
      count = ap (λ (id : ClaimsId). id.of.count) (sym claims) ∙ c.requires.splits c.in_ok-seat.seat c.in_ok-seat.ensures.taken
          ∙ (λ i. split_count (length ((rows_are tables n ∙ ap (λ ts. table_rows ts n) (sym for.tables)) i)) (sym for.split i));
    }
