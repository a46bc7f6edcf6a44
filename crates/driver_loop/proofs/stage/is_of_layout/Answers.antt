use Rattle.driver_loop.proofs.stage.is_of_layout.Goals as goal
