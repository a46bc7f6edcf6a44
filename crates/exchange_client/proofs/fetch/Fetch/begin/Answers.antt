use Rattle.exchange_client.proofs.fetch.Fetch.begin.Goals as goal
