use Rattle.exchange_client.proofs.kept_replies.KeptReplies.behind_latest.Goals as goal
