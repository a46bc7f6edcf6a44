use Rattle.bag_laws.proofs.LawLemmas.{bag-buckets}
use Rattle.bag_laws.proofs.laws.buckets_hold_all_rows.Goals as goal

pub returns : goal.returns
returns c = bag-buckets c.args.buckets c.requires c.args.columns.now c.args.rows.now
