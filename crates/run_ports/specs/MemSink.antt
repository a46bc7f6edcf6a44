-- A sink in memory, whose writes fail where they are told to.
use Rattle.std.specs.Prelude.{◌≡◌, ℕ, ◌-◌, ◌||◌, ◌&&◌, List, length, Option, Some, None, Result, is_ok, [], min, nat_lt, ◌==◌, vec_len, if◌then◌else◌}
use Rattle.std.specs.declared.alloc.Global.{Global}
use Rattle.std.specs.declared.vec.Vec.{Vec}
use Rattle.count_laws.specs.Counts.{next_count}
use Rattle.run_ports.specs.FailingCalls.{fails_next, counted}
use Rattle.run_ports.specs.declared.bounded_bytes.BoundedBytes.{BoundedBytes}
use Rattle.run_ports.specs.declared.mem_sink.MemSink.{MemSink}
use Rattle.run_ports.specs.declared.sink.SinkFailed.{SinkFailed}

-- how many more bytes find room
abbrev pub room_left : BoundedBytes → ℕ
room_left held = held.room - vec_len held.bytes

-- how many bytes of a piece are taken at once
abbrev pub fitting : BoundedBytes → List ℕ → ℕ
fitting held piece = min (length piece) (min held.most (room_left held))

-- how many bytes of a piece the next write takes: None where it fails
abbrev pub taken_of : MemSink → List ℕ → Option ℕ
taken_of sink piece =
    if fails_next sink.calls || (room_left sink.held == 0 && nat_lt 0 (length piece)) then None
    else Some (fitting sink.held piece)

-- what was written so far
abbrev pub written_to : MemSink → List ℕ
written_to sink = sink.held.bytes.items

-- how many writes failed
abbrev pub faults_of : MemSink → ℕ
faults_of sink = sink.faults

-- a sink to which nothing was written yet
pub record IsUnused (room most : ℕ) (failing : Vec ℕ Global) (sink : MemSink) : Type 0 where
  pub written : written_to sink ≡ []
  pub size : sink.held.room ≡ room
  pub limit : sink.held.most ≡ most
  pub calls : sink.calls ≡ record { numbers = failing; made = 0 }
  pub faults : faults_of sink ≡ 0

-- a sink after a write with this answer: what it was made with stays
pub record FollowsWrite (old new : MemSink) (answer : Result ℕ SinkFailed) : Type 0 where
  pub room : new.held.room ≡ old.held.room
  pub most : new.held.most ≡ old.held.most
  pub calls : new.calls ≡ counted old.calls
  pub faults : faults_of new ≡ (if is_ok answer then faults_of old else next_count (faults_of old))
