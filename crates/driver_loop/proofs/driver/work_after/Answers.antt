use Rattle.driver_loop.proofs.driver.work_after.Goals as goal

pub returns : goal.returns
returns c = c.saturating_add.ensures
