use Rattle.std.proofs.Common.{rules}
use Rattle.table_parts.proofs.JoinLemmas.{under_header_of}
use Rattle.table_parts.proofs.table.under_header.Goals as goal

pub returns-clause-rest : goal.returns-clause-rest
returns-clause-rest c =
    under_header_of c.args.columns.now c.args.limit c.args.text.now c.in_ok-header.header.now c.in_ok-header.rest.now c.in-Ok.table.rows
    c.requires (search rules) (search rules) (search rules) c.in_ok-header.ensures.whole c.in_ok-header.ensures.cut (search rules) (search rules)
