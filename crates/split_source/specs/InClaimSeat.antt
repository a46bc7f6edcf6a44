-- What a `ClaimSeat` keeps.
use Rattle.std.specs.Prelude.{◌≡◌, []}
use Rattle.split_source.specs.Seats.{SeatState, ends}
use Rattle.split_source.specs.declared.claim_seat.ClaimSeat.TheInside.{Inside}

abbrev pub seat_view : Inside → SeatState
seat_view s = record { claims = record { table = s.word.now.table_id; of = s.word.now.key }; numbers = s.pen.me.0.numbers; is_ended = s.is_ended }

pub record IsSeat (s : Inside) : Type 0 where
  pub place : s.pen.table_id ≡ s.word.now.table_id
  pub one_word : s.word.now.table_id.words ≡ 1
  pub count : s.count ≡ s.word.now.key.count
  pub of : s.pen.me.0.of ≡ s.word.now.key
  pub one : s.pen.me.0.seats ≡ 1
  pub ended : s.pen.me.0.ended ≡ ends s.is_ended
  pub empty : s.pen.me.1 ≡ []
