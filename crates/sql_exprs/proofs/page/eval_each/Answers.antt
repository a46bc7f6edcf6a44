use Rattle.sql_exprs.proofs.page.eval_each.Goals as goal
