use Rattle.std.proofs.Common.{◌≡◌, map, take}
use Rattle.output_buffer.specs.Partitions.{rows_at}
use Rattle.output_buffer.proofs.partitioner.select_each.Given as goal

abbrev pub invariant-loop-part : goal.invariant-loop-part
invariant-loop-part l = l.pages.items ≡ map (λ p. record l.page { rows = rows_at l.page.rows p.items }) (take l.part-index l.places)
