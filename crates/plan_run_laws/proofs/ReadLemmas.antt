-- What a fragment that others read says, whatever its spread; and the width of rows, task by task.
use Rattle.std.proofs.Common.{◌≡◌, ℕ, ◌<◌, zero, suc, List, [], ◌∷◌, Bool, ap, arith, length}
use Rattle.std.specs.Prelude.{if◌then◌else◌}
use Rattle.std.proofs.lemmas.Bool.{eqb-true}
use Rattle.std.proofs.lemmas.List.Elements.{All-cons, All-nil}
use Rattle.std.proofs.lemmas.List.Sorted.{IsPermutation-refl}
use Rattle.sql_values.specs.declared.value.Value.{Value}
use Rattle.relation_laws.specs.Widths.{HaveWidth}
use Rattle.bag_laws.specs.Buckets.{Sits}
use Rattle.bag_laws.specs.Gather.{gather}
use Rattle.bag_laws.specs.Laws.{TaskRows}
use Rattle.bag_laws.proofs.BagLemmas.{same-from_equal, same-sym}
use Rattle.bag_laws.proofs.BucketLemmas.{sits-append, sits-head, sits-nil, sits-same, sits-tail}
use Rattle.bag_laws.proofs.GatherLemmas.{weight-gather-le}
use Rattle.bag_laws.proofs.PieceLemmas.{wide}
use Rattle.bag_laws.proofs.SpreadLemmas.{sits-width}
use Rattle.plan_trees.specs.TreeForms.{TreeForm, remote}
use Rattle.plan_trees.specs.Allowed.{Gives, Mode, width_of}
use Rattle.plan_trees.specs.Widths.{FitsWidths}
use Rattle.plan_trees.proofs.WidthLemmas.{rows_have_width}
use Rattle.plan_run_laws.specs.Placements.{IsRead}
use Rattle.plan_run_laws.specs.Spreads.{Says, Spread, Together, any, by, every, whole}

module _ {X : Type 0} (passes : X → Bool) where
  -- what sits in all tasks together sits in each
  pub sits-task : (n : ℕ) (lists : ℕ → List X) → Sits passes (gather n lists) → (k : ℕ) → k < n → Sits passes (lists k)
  sits-task n lists s k lt = record { none_fails = omega (arith, weight-gather-le (λ x. if passes x then 0 else 1) n lists k lt, s.none_fails) }

  pub sits-gather : (n : ℕ) (lists : ℕ → List X) → ((k : ℕ) → k < n → Sits passes (lists k)) → Sits passes (gather n lists)
  sits-gather zero lists each = sits-nil passes
  sits-gather (suc n) lists each = sits-append passes (gather n lists) (lists n) (sits-gather n lists (λ k lt. each k (omega arith))) (each n (omega arith))

width-sits : (width : ℕ) (rows : List (List Value)) → Sits (wide width) rows → HaveWidth width rows
width-sits width [] s = All-nil (λ row. length row ≡ width)
width-sits width (row ∷ rows) s =
    All-cons (λ r. length r ≡ width) row rows (eqb-true (length row) width (sits-head (wide width) row rows s)) (width-sits width rows (sits-tail (wide width) row rows s))

module _ (mode : Mode) (t : TreeForm) (tables : List (List (List Value))) where
  -- a fragment that is read gives each row once
  pub read : (m : ℕ) (s : Spread) (ins : TaskRows) → IsRead m s → Says s mode t tables m ins → Together mode t tables m ins
  read m whole ins one says = record { rows = ins 0; given = says; same = same-from_equal (ap (λ (j : ℕ). gather j ins) one) }
  read m any ins some says = says
  read m (by columns) ins some says = says.0
  read m every ins none says = absurd none

  -- a remote source gives what is below
  pub given_remote : (id : ℕ) (rows : List (List Value)) → Gives mode t tables rows → Gives mode (remote id t) tables rows
  given_remote id rows given = (rows, given, IsPermutation-refl rows)

  -- each task's rows are as wide as the tree
  pub width-tasks : (n : ℕ) (ins : TaskRows) → FitsWidths t → Together mode t tables n ins → (k : ℕ) → k < n → HaveWidth (width_of t) (ins k)
  width-tasks n ins fits together k lt =
      width-sits (width_of t) (ins k)
      (sits-task (wide (width_of t)) n ins
      (sits-same (wide (width_of t)) (same-sym together.same)
      (sits-width (width_of t) together.rows (rows_have_width mode tables t together.rows fits together.given))) k lt)
