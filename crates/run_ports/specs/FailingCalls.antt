-- Calls that are to fail, by their numbers from 1.
use Rattle.std.specs.Prelude.{Bool, ◌==◌}
use Rattle.std.specs.List.{list_any}
use Rattle.count_laws.specs.Counts.{next_count}
use Rattle.run_ports.specs.declared.failing_calls.FailingCalls.{FailingCalls}

-- the next call is one that is to fail
abbrev pub fails_next : FailingCalls → Bool
fails_next calls = list_any (λ number. number == next_count calls.made) calls.numbers.items

-- one more call was made
abbrev pub counted : FailingCalls → FailingCalls
counted calls = record calls { made = next_count calls.made }
