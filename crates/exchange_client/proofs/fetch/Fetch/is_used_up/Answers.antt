use Rattle.exchange_client.proofs.fetch.Fetch.is_used_up.Goals as goal
