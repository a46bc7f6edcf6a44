use Rattle.std.proofs.Common.{arith}
use Rattle.driver_loop.proofs.notes.room_for_notes.Goals as goal

pub returns-clause-room : goal.returns-clause-room
returns-clause-room c = record {
  lookups = omega (arith, (c.in_ok-lookups.ensures).exact);
  filters = omega (arith, (c.in_ok-filters.ensures).exact);
  passed = omega (arith, (c.in_ok-passed.ensures).exact);
}
