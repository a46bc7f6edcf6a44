use Rattle.worker_pool.proofs.run.run_on_workers.Given as goal

abbrev pub ghosts-run_listed : goal.ghosts-run_listed
ghosts-run_listed g a = record { came = a.items.items }
