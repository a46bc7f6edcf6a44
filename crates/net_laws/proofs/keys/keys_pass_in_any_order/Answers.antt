use Rattle.net_laws.proofs.OrderLemmas.{keys_in_any_order}
use Rattle.net_laws.proofs.keys.keys_pass_in_any_order.Goals as goal

pub returns : goal.returns
returns c = λ keys others same. keys_in_any_order keys others c.args.value.now same
