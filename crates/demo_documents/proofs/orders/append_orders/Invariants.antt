use Rattle.std.proofs.Common.{◌≡◌, ◌++◌}
use Rattle.std.specs.String.{string_bytes}
use Rattle.demo_documents.specs.Lines.{lines}
use Rattle.demo_documents.specs.Orders.{order_text}
use Rattle.demo_documents.proofs.orders.append_orders.Given as goal

-- the lines so far stand there
abbrev pub invariant-loop-place : goal.invariant-loop-place
invariant-loop-place l = string_bytes l.to ≡ string_bytes l.fn.to ++ lines (order_text l.number) l.place
