use Rattle.demo_documents.proofs.orders.customer_of.Goals as goal
