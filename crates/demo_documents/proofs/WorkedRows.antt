-- Some rows of the demo, worked out.
use Rattle.std.proofs.Common.{◌≡◌, refl}
use Rattle.std.specs.Prelude.{codes}
use Rattle.std.specs.Fmt.{digits}
use Rattle.demo_documents.specs.Customers.{customer_text}
use Rattle.demo_documents.specs.Orders.{order_text}

first_order : order_text 0 0 ≡ codes "0,0.00\n"
unfolding digits
first_order = refl

last_order : order_text 7 99999 ≡ codes "6,9.99\n"
unfolding digits
last_order = refl

order_in_between : order_text 18446744073709551615 50305 ≡ codes "920,3.05\n"
unfolding digits
order_in_between = refl

first_customers : customer_text 0 ≡ codes "0,north\n"
unfolding digits
first_customers = refl

last_customer : customer_text 899 ≡ codes "899,west\n"
unfolding digits
last_customer = refl
