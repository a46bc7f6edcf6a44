use Rattle.exchange_client.proofs.kept_replies.KeptReplies.keep.Goals as goal
