use Rattle.run_ports.proofs.courier.next.Goals as goal
