use Rattle.std.proofs.Common.{Bor, List, ℕ, Some, inl, inr}
use Rattle.csv.specs.Records.{fields_of}
use Rattle.csv_tables.proofs.RecordsLemmas.{read_gives, failed_gives}
use Rattle.csv_tables.proofs.records.Records.next.Goals as goal

pub returns : goal.returns
returns c = rw (← c.self.view_is) (elim c.self.invariant [
  | inl reads ↦ read_gives (λ (s : Bor (List ℕ)). Some s.now) c.self.inside.reader c.read_byte_record.new.self c.in-Ok.found (fields_of c.read_byte_record.new.row) reads (c.in-Ok.ensures.reads reads.plain reads.ready)
  | inr failed ↦ failed_gives (λ (s : Bor (List ℕ)). Some s.now) c.self.inside.reader c.read_byte_record.new.self c.in-Ok.found (fields_of c.read_byte_record.new.row) c.read_byte_record.result failed c.in-Ok.is (c.read_byte_record.ensures.failed failed)
])
