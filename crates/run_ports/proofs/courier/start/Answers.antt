use Rattle.run_ports.proofs.courier.start.Goals as goal
