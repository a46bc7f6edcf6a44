use Rattle.std.proofs.Common.{◌≡◌, ◌++◌}
use Rattle.std.specs.String.{string_bytes}
use Rattle.demo_documents.specs.Customers.{customer_text}
use Rattle.demo_documents.specs.Lines.{lines}
use Rattle.demo_documents.proofs.customers.append_customers.Given as goal

-- the lines so far stand there
abbrev pub invariant-loop-id : goal.invariant-loop-id
invariant-loop-id l = string_bytes l.to ≡ string_bytes l.fn.to ++ lines customer_text l.id
