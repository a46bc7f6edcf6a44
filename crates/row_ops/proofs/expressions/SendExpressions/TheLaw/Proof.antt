-- A `&` to the expressions holds one to each field, and nothing more. Assumes `Logic`.
use denote.SharingLaws.{nothing_shr_laws}
use denote.Struct.Lending.{of_Lends, Lends-nothing}
use Rattle.row_ops.specs.contracts.expressions.SendExpressions.TheInside as fields
use Rattle.row_ops.proofs.expressions.SendExpressions.TheInside.TheFields.TheLaws.{the_shared}
use Rattle.row_ops.proofs.expressions.SendExpressions.TheLaw.Statement.{statement}

pub shares : statement
shares =
    of_Lends fields.struct fields.the_codes fields.the_heap fields.the_lent (λ d p. nothing_shr_laws) the_shared
    (λ M 𝓤 𝓛 d p. Lends-nothing 𝓛 (fields.the_heap d) (fields.the_row).lives)
