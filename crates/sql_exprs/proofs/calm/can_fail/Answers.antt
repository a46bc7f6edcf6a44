use Rattle.sql_exprs.proofs.calm.can_fail.Goals as goal
