use Rattle.exchange_client.proofs.client.PageClient.accept.Goals as goal
