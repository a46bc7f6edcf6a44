-- Expressions may go to another thread: a node may where the nodes below it may.
use denote.Exit.{Exit, unchanged, leaves, hidden, under}
use denote.RattleType.{RattleType}
use denote.Param.Send.{IsSend, AllSend, Quiet, owning_send, struct_send, enum_send, recorded_send, view_send, sendable}
use denote.Hole.FixSend.{Sends, fix_send}
use denote.Enum.Declared as enum
use denote.Struct.Declared as struct
use denote.Struct.Struct.{exits_of}
use denote.Struct.Owning.{shape, fields, to}
use Rattle.std.proofs.Crossing as own
use Rattle.std.proofs.CrossingOver.{crosses}
use Rattle.sql_values.specs.contracts.types.SqlType as kind
use Rattle.sql_values.specs.contracts.text.Text as text
use Rattle.sql_values.specs.contracts.value.Value as value
use Rattle.sql_functions.specs.contracts.name.CallName as name
use Rattle.sql_exprs.specs.contracts.expr.Branch as branch
use Rattle.sql_exprs.specs.contracts.expr.Expr as expr
use Rattle.sql_exprs.specs.declared.expr.Expr.TheBlock.{the_members, member-Expr, member-Branch}
use Rattle.row_ops.specs.contracts.expressions.Expressions as expressions
use Rattle.row_ops.specs.contracts.expressions.SendExpressions.{the_row}
use Rattle.row_ops.specs.contracts.expressions.SendExpressions.TheInside.{the_type}

kind_send : IsSend kind.the_row
kind_send = search (sendable, own.crosses, crosses) depth 40 fits 20000

text_send : IsSend text.the_row
text_send = search (sendable, own.crosses, crosses) depth 40 fits 20000

value_send : IsSend value.the_row
value_send = search (text_send, sendable, own.crosses, crosses) depth 40 fits 20000

name_send : IsSend name.the_row
name_send = search (sendable, own.crosses, crosses) depth 40 fits 20000

branch_layer : (h : the_members → RattleType) → ((j : the_members) → IsSend (h j)) → IsSend (struct.row (branch.the_layer h))
branch_layer h all = search (all, sendable, own.crosses, crosses) depth 40

expr_layer : (h : the_members → RattleType) → ((j : the_members) → IsSend (h j)) → IsSend (enum.row (expr.the_layer h))
expr_layer h all = search (all, kind_send, value_send, name_send, sendable, own.crosses, crosses) depth 40 fits 50000

layers : (i : the_members) → Sends expr.the_ring i
layers member-Expr = record { send = λ h all. let s = expr_layer h all in record { owned = s.owned; leaving = s.leaving } }
layers member-Branch = record { send = λ h all. let s = branch_layer h all in record { owned = s.owned; leaving = s.leaving } }

expr_hole : IsSend expr.the_hole
expr_hole = fix_send expr.the_ring layers member-Expr

branch_hole : IsSend branch.the_hole
branch_hole = fix_send expr.the_ring layers member-Branch

expr_send : IsSend expr.the_row
expr_send = recorded_send _ _ _ (expr.the_type).to_one (enum_send (enum.shape expr.the_type) (search (expr_hole, branch_hole, sendable, own.crosses, crosses) depth 40 fits 50000))

expressions_send : IsSend expressions.the_row
expressions_send = search (expr_send, sendable, own.crosses, crosses) depth 40 fits 50000

all : AllSend (fields the_type)
all = (expressions_send, tt)

quiet : {D X : Type 0} (to : D → X) (e : Exit X) → Quiet e → Quiet (hidden (under to e))
quiet to unchanged q = λ x w. tt
quiet to (leaves L l S s r₀) q = λ d. q (to d)

pub send : IsSend the_row
send = view_send _ _ _ _ _ (owning_send the_type all (λ d. tt) (λ k. quiet (to the_type) (exits_of k (fields the_type)) ((struct_send (shape the_type) all).leaving k)))
