-- A generator of deliveries, each edge of a run with its own.
use Rattle.std.specs.Prelude.{ℕ, ◌+◌, ◌*◌, ◌/◌, ◌%◌, ◌^◌, ◌==◌, nat_lt, Option, Some, None, if◌then◌else◌}
use Rattle.count_laws.specs.Counts.{next_count}
use Rattle.run_ports.specs.declared.courier.Delivery.{Delivery}
use Rattle.run_ports.specs.declared.courier.Delivery.TheVariants.{Fresh, Again, Nothing}

-- the state from which an edge starts; number 0 has none
abbrev pub start_of : ℕ → ℕ → Option ℕ
start_of number edge = if number == 0 then None else Some ((number + edge) % 2 ^ 64)

-- the state after one
abbrev pub next_state : ℕ → ℕ
next_state state = (state * 6364136223846793005 + 1442695040888963407) % 2 ^ 64

-- what a state delivers: two bits say whether the fresh reply, an earlier one or none arrives, two others which one
abbrev pub delivery_of : ℕ → Delivery
delivery_of state =
    if nat_lt ((state / 2 ^ 33) % 4) 2 then Fresh
    else (if (state / 2 ^ 33) % 4 == 2 then Again ((state / 2 ^ 40) % 4) else Nothing)

-- the state after one more turn, and what that turn delivers
abbrev pub courier_after : Option ℕ → Option ℕ
courier_after None = None
courier_after (Some state) = Some (next_state state)

abbrev pub delivered_in : Option ℕ → Delivery
delivered_in None = Fresh
delivered_in (Some state) = delivery_of state

-- how many turns did not deliver the fresh reply, after one more
abbrev pub missed_after : ℕ → Delivery → ℕ
missed_after missed Fresh = missed
missed_after missed (Again k) = next_count missed
missed_after missed Nothing = next_count missed
