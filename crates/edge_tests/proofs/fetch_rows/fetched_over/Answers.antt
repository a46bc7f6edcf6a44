use Rattle.std.proofs.Common.{◌≡◌, ◌++◌, [], ℕ, zero, suc, refl, subst, sym}
use Rattle.std.specs.Prelude.{All}
use Rattle.std.proofs.lemmas.List.Elements.{All-nil, All-push}
use Rattle.output_buffer.specs.Seats.{EdgeId, GatherPutState, new_gather_put, new_gather_puts}
use Rattle.edge_tests.proofs.fetch_rows.fetched_over.Goals as goal

abbrev Fresh : GatherPutState → Type 0
Fresh s = s.put ≡ []

all_fresh : (edge : EdgeId) (n : ℕ) → All Fresh (new_gather_puts edge n)
all_fresh edge zero = All-nil Fresh
all_fresh edge (suc n) = All-push Fresh (new_gather_puts edge n) (new_gather_put edge n) (all_fresh edge n) refl

pub targets_of-requires : goal.targets_of-requires
targets_of-requires g c = subst (All Fresh) (sym c.in_ok-puts.ensures.puts) (all_fresh c.args.edge.now.edge c.args.edge.now.putters)
