use Rattle.std.proofs.Common.{◌≡◌, ◌<◌, ◌≤◌, Option, get_or, length, map, refl, rules, subst}
use Rattle.std.specs.Prelude.{IfSome}
use Rattle.sql_exprs.specs.Forms.{Form, branch_view, choice, choices_of, form_view, forms_of, more, none, null}
use Rattle.sql_exprs.specs.Meaning.{kind_of}
use Rattle.column_exprs.specs.declared.choice.Choice.{Choice}
use Rattle.column_exprs.specs.declared.operand.Operand.{Operand}
use Rattle.column_exprs.specs.Chains.{GoesOn}
use Rattle.column_exprs.specs.Choices.{TakesBranch}
use Rattle.column_exprs.specs.Operands.{IsOperand}
use Rattle.column_exprs.proofs.ChainLemmas.{chain_made, end_goes, next_goes, part_found}
use Rattle.column_exprs.proofs.ChoiceLemmas.{branch_found, branch_seen, next_branch, no_branch, other_found, result_found}
use Rattle.column_exprs.proofs.OperandLemmas.{second_made}
use Rattle.column_exprs.proofs.parts.+parts.Goals as goal

pub second_operand-returns-in-Some : goal.second_operand-returns-in-Some
second_operand-returns-in-Some t c =
    second_made c.binary_made.result c.args.name c.args.rows c.args.first.now c.in-Some.second (form_view c.args.right.now) c.binary_made.ensures
    (subst (λ (o : Option Operand). IfSome o (IsOperand (form_view c.args.right.now) c.args.rows)) c.in-Some.is c.in_ok-second.ensures)

pub part_joined-returns-in-Some : goal.part_joined-returns-in-Some
part_joined-returns-in-Some t c =
    part_found c.joined_made.result c.args.chain c.args.kind c.args.rows c.part_at-part.result c.args.so_far.now c.in-Some.later (form_view c.args.arg.now) c.joined_made.ensures
    (subst (λ (o : Option Operand). IfSome o (IsOperand (form_view c.args.arg.now) c.part_at-part.result)) c.in-Some.is c.in_ok-later.ensures)

pub chain_operand-loop-arg-init : goal.chain_operand-loop-arg-init
chain_operand-loop-arg-init t c = record {
  kind = refl;
  cells = tt;
  goes = λ o g. chain_made c.args.chain c.args.kind (forms_of (map form_view c.args.args.now)) c.args.rows _ o c.requires.kind (λ k. c.start.ensures) g;
}

pub chain_operand-loop-arg-preserved : goal.chain_operand-loop-arg-preserved
chain_operand-loop-arg-preserved t c =
    let inside : c.loop-arg.arg-index < length c.args.args.now = search rules in
    let at : c.arg-item.result ≡ get_or c.args.args.now c.loop-arg.arg-index c.arg-item.result = search rules in
    let one : GoesOn c.args.chain c.args.kind (more (form_view c.arg-item.result) none) c.args.rows c.loop-arg.so_far c.in-Some.next
    = subst (λ (o : Option Operand). IfSome o (GoesOn c.args.chain c.args.kind (more (form_view c.arg-item.result) none) c.args.rows c.loop-arg.so_far)) c.in-Some.is c.in_ok-next.ensures in
    record {
      kind = one.kind_is;
      cells = one.cells;
      goes = λ o g.
          c.loop-arg.invariant.goes o
          (next_goes c.args.chain c.args.kind c.args.args.now c.loop-arg.arg-index c.arg-item.result c.args.rows c.loop-arg.so_far c.in-Some.next o inside at one g);
    }

pub chain_operand-returns : goal.chain_operand-returns
chain_operand-returns t c =
    let all : length c.args.args.now ≤ c.loop-arg.arg-index = search rules in
    c.loop-arg.invariant.goes c.loop-arg.so_far
    (end_goes c.args.chain c.args.kind c.args.args.now c.loop-arg.arg-index c.args.rows c.loop-arg.so_far all c.loop-arg.invariant.kind c.loop-arg.invariant.cells)

pub result_taken-returns-in-Some : goal.result_taken-returns-in-Some
result_taken-returns-in-Some t c =
    result_found c.branch_made.result c.args.rows c.part_at-part.result c.args.tests.now c.in-Some.results c.args.settled (form_view c.args.«then».now) c.branch_made.ensures
    (subst (λ (o : Option Operand). IfSome o (IsOperand (form_view c.args.«then».now) c.part_at-part.result)) c.in-Some.is c.in_ok-results.ensures)

pub branch_taken-returns-in-Some : goal.branch_taken-returns-in-Some
branch_taken-returns-in-Some t c =
    branch_found c.result_taken.result c.rows-rows.result c.args.page.now c.args.so_far.unsettled.positions.items c.in-Some.tests c.args.so_far.settled
    (form_view c.args.branch.now.test) (form_view c.args.branch.now.result) c.rows-rows.ensures.page c.rows-rows.ensures.positions c.result_taken.ensures
    (subst (λ (o : Option Operand). IfSome o (IsOperand (form_view c.args.branch.now.test) c.rows-rows.result)) c.in-Some.is c.in_ok-tests.ensures)

pub other_taken-returns-in-Some : goal.other_taken-returns-in-Some
other_taken-returns-in-Some t c =
    other_found c.choice_made.result c.args.rows c.rows-left.result c.in-Some.others c.args.so_far (form_view c.args.other.now) c.rows-left.ensures.positions c.choice_made.ensures
    (subst (λ (o : Option Operand). IfSome o (IsOperand (form_view c.args.other.now) c.rows-left.result)) c.in-Some.is c.in_ok-others.ensures)

pub branches_taken-loop-branch-init : goal.branches_taken-loop-branch-init
branches_taken-loop-branch-init t c =
    let one = c.in_ok-so_far.ensures (null c.args.kind) refl in
    record {
      many = one.settled.values.len;
      left = one.unsettled;
      chosen = λ other e. c.in_ok-so_far.ensures (choice (choices_of (map branch_view c.args.branches.now)) other) e;
    }

pub branches_taken-loop-branch-preserved : goal.branches_taken-loop-branch-preserved
branches_taken-loop-branch-preserved t c =
    let inside : c.loop-branch.branch-index < length c.args.branches.now = search rules in
    let at : c.branch-item.result ≡ get_or c.args.branches.now c.loop-branch.branch-index c.branch-item.result = search rules in
    let b = c.branch-item.result in
    let so_far = c.loop-branch.so_far in
    let takes : TakesBranch (form_view b.test) (form_view b.result) c.args.rows.page.now so_far.settled so_far.unsettled.positions.items c.in-Some.next
    = subst (λ (o : Option Choice). IfSome o (TakesBranch (form_view b.test) (form_view b.result) c.args.rows.page.now so_far.settled so_far.unsettled.positions.items)) c.in-Some.is c.in_ok-next.ensures in
    let chosen = λ (other : Form) (e : c.args.kind ≡ kind_of c.args.rows.page.now.types other).
    next_branch (choice (choices_of (map branch_view c.args.branches.now)) other) other c.args.branches.now c.loop-branch.branch-index b (form_view b.test) (form_view b.result) c.args.rows.page.now
    so_far c.in-Some.next inside at (branch_seen b) (c.loop-branch.invariant.chosen other e) takes in
    let one = chosen (null c.args.kind) refl in
    record { many = one.settled.values.len; left = one.unsettled; chosen = chosen }

pub branches_taken-returns-clause-chosen : goal.branches_taken-returns-clause-chosen
branches_taken-returns-clause-chosen t c =
    let all : length c.args.branches.now ≤ c.loop-branch.branch-index = search rules in
    λ other e.
    no_branch (choice (choices_of (map branch_view c.args.branches.now)) other) other c.args.branches.now c.loop-branch.branch-index c.args.rows.page.now c.loop-branch.so_far all
    (c.loop-branch.invariant.chosen other e)
