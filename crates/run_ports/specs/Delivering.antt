-- What a courier delivers.
use Rattle.std.specs.Prelude.{⊤}
use Rattle.run_ports.specs.declared.courier.Delivery.{Delivery}
use Rattle.run_ports.specs.declared.courier.Delivery.TheVariants.{Fresh, Again, Nothing}

-- a fact for a turn that does not deliver the fresh reply
abbrev pub IfMissed : Delivery → Type 0 → Type 0
IfMissed Fresh P = ⊤
IfMissed (Again k) P = P
IfMissed Nothing P = P
