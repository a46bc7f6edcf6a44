-- What `Claims` keeps.
use Rattle.std.specs.Prelude.{◌≡◌, ◌<◌, [], IfSome, is_none}
use Rattle.split_source.specs.Claims.{unshared}
use Rattle.split_source.specs.Seats.{ClaimsState}
use Rattle.split_source.specs.declared.claims.Claims.TheInside.{Inside}

abbrev pub claims_view : Inside → ClaimsState
claims_view c = record { id = record { table = c.table.shared.table_id; of = c.table.shared.key }; is_handed_out = is_none c.pen }

pub record IsClaims (c : Inside) : Type 0 where
  pub one_word : c.table.shared.table_id.words ≡ 1
  pub count : c.count ≡ c.table.shared.key.count
  pub seats : c.seats ≡ c.table.shared.key.seats
  pub seated : 0 < c.seats
  pub pen : IfSome c.pen (λ p. (p.table_id ≡ c.table.shared.table_id) × (p.me ≡ (unshared c.table.shared.key, [])))
