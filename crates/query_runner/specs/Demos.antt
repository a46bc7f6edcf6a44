-- What a demo holds in the place of files.
use Rattle.std.specs.Prelude.{ℕ, List, Option, Some, codes, if◌then◌else◌}
use Rattle.command_line.specs.Items.{same_text}
use Rattle.demo_documents.specs.Customers.{customers_text}
use Rattle.demo_documents.specs.Orders.{orders_text}
use Rattle.demo_documents.specs.Plans.{plan_text}

-- the document of a name: a table's by its name, and the plan by any other
abbrev pub document_named : List ℕ → List ℕ → List ℕ → List ℕ → List ℕ
document_named plan orders customers name =
    if same_text name (codes "orders") then orders
    else if same_text name (codes "customers") then customers
    else plan

-- what each name stands for where these are the documents
unfoldable pub contents_with : List ℕ → List ℕ → List ℕ → List ℕ → Option (List ℕ)
contents_with plan orders customers name = Some (document_named plan orders customers name)

-- what each name stands for in the demo of a number
abbrev pub demo_contents : ℕ → List ℕ → Option (List ℕ)
demo_contents number = contents_with plan_text (orders_text number) customers_text
