use Rattle.exchange_client.proofs.fetch.turn_of.Goals as goal
