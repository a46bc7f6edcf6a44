use Rattle.std.proofs.Common.{refl}
use Rattle.driver_loop.proofs.run_fault.RunFault.of.Goals as goal

pub returns-in-Expr : goal.returns-in-Expr
returns-in-Expr c = rw c.in-Expr.is refl
