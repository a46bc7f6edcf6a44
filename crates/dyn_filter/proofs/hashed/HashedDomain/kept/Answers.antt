use Rattle.std.proofs.Common.{◌≡◌, length, rules}
use Rattle.dyn_filter.specs.Rows.{row_passes}
use Rattle.dyn_filter.proofs.HashedLemmas.{same_page}
use Rattle.dyn_filter.proofs.hashed.HashedDomain.kept.Goals as goal

pub returns-then-len : goal.returns-then-len
returns-then-len c =
    let all : length c.in_ok-places.places.items ≡ length c.args.page.rows = search rules in
    same_page (row_passes c.args.self.now c.args.column) c.args.page c.in_ok-places.places.items c.in_ok-places.ensures.rows all
