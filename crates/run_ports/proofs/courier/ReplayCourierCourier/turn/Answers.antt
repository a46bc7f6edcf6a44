use Rattle.run_ports.proofs.courier.ReplayCourierCourier.turn.Goals as goal
