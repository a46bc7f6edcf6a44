use Rattle.std.proofs.Common.{rules, sym, ◌∙◌}
use Rattle.decimals.proofs.RangeLemmas.{product_in_range}
use Rattle.decimals.proofs.exact.product.Goals as goal

pub returns-clause-number : goal.returns-clause-number
returns-clause-number c = search rules

pub returns-clause-digits : goal.returns-clause-digits
returns-clause-digits c = λ z e. product_in_range c.args.a c.args.b z (sym (returns-clause-number c) ∙ e)
