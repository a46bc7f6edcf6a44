use Rattle.demo_documents.proofs.orders.append_orders.Goals as goal
