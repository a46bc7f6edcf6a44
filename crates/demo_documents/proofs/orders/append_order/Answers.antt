use Rattle.std.proofs.Common.{◌≡◌, ◌++◌, ◌%◌, ap, ◌∙◌}
use Rattle.std.specs.Fmt.{styled_decimal}
use Rattle.std.specs.String.{string_bytes}
use Rattle.scalar_texts.specs.Numbers.{padded}
use Rattle.demo_documents.proofs.AmountLemmas.{order_line, two_wide}
use Rattle.demo_documents.proofs.orders.append_order.Goals as goal

pub returns : goal.returns
returns c =
    let units = c.args.amount in
    let hundredths : styled_decimal c.laid_out.result (units % 100) ≡ padded 2 (units % 100)
    = ap (λ s. styled_decimal s (units % 100)) c.laid_out.ensures ∙ two_wide (units % 100) in
    c.in_ok-write.ensures.bytes
    ∙ ap (λ x. string_bytes c.args.to.now ++ x) (order_line c.args.customer units (styled_decimal c.laid_out.result (units % 100)) hundredths)
