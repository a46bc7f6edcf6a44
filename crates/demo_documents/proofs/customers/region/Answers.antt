use Rattle.demo_documents.proofs.customers.region.Goals as goal
