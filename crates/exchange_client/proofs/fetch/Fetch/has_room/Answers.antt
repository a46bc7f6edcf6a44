use Rattle.exchange_client.proofs.fetch.Fetch.has_room.Goals as goal
