use Rattle.net_laws.proofs.KeyDomainLemmas.{passes_as_keys}
use Rattle.net_laws.proofs.keys.domains_pass_as_keys.Goals as goal

pub returns : goal.returns
returns c = λ keys is. passes_as_keys c.args.domain.now keys c.args.value.now is
