use Rattle.exchange_client.proofs.fetch.Fetch.acknowledge.Goals as goal
