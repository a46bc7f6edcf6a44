use Rattle.std.proofs.Common.{rules}
use Rattle.driver_ends.proofs.remote_source.RemoteSourceEdgeEnd.advance.Goals as goal

pub take_piece-requires : goal.take_piece-requires
take_piece-requires g c = search rules

pub returns-clause-full : goal.returns-clause-full
returns-clause-full g c = search rules
