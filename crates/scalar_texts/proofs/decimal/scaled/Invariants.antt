use Rattle.std.proofs.Common.{◌≡◌, ◌*◌, ◌^◌, ◌<◌}
use Rattle.scalar_texts.proofs.decimal.scaled.Given as goal

abbrev pub invariant-loop-zero : goal.invariant-loop-zero
invariant-loop-zero l = record { whole : l.scaled ≡ l.number * 10 ^ l._zero; in_range : l.scaled < 2 ^ 128 }
