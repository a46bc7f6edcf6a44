-- Which drivers put to the edge of the pipe that takes their rows.
use Rattle.std.proofs.Common.{◌≡◌, ℕ, ◌<◌, ◌≤◌, List, [], ◌++◌, ◌⊎◌, inl, inr, Bool, true, false, Some, refl, ap, ◌∙◌, arith}
use Rattle.std.specs.Prelude.{◌==◌, if◌then◌else◌, slice_get}
use Rattle.std.proofs.lemmas.Bool.{cases_lt, eq-eqb}
use Rattle.output_buffer.specs.Seats.{GatherPutState}
use Rattle.driver_loop.specs.Drivers.{DriverState}
use Rattle.plan_docs.specs.declared.plan.Output.{Output}
use Rattle.plan_layout.specs.Pipes.{PipeForm, TargetForm, result, cell, side, readers, takers}
use Rattle.driver_net_laws.specs.Settled.{in_pipe, in_task, put_to, puts_from, puts_into}
use Rattle.driver_net_laws.specs.Types.{gives_to}
use Rattle.net_laws.specs.Giving.{AreSides, IsRoot}
use Rattle.net_laws.proofs.ListLemmas.{one_flat, two_flat}

module _ (drivers : List DriverState) (at task : ℕ) where
  chosen : {X : Type 0} (n : ℕ) (items : List X) → n ≡ at → (if n == at then items else []) ≡ items
  chosen n items same = ap (λ (b : Bool). if b then items else []) (eq-eqb n at same)

  none_put : (pipe : PipeForm) (target : TargetForm) → gives_to at target ≡ false → puts_from drivers at task pipe target ≡ []
  none_put pipe result none = refl
  none_put pipe (cell on) none = refl
  none_put pipe (side other) none = ap (λ (b : Bool). if b then in_task (put_to 0) drivers pipe task else []) none
  none_put pipe (readers output other) none = ap (λ (b : Bool). if b then in_pipe (put_to task) drivers pipe else []) none
  none_put pipe (takers other) none = refl

  abbrev put_by_pipe : PipeForm → List GatherPutState
  put_by_pipe pipe = puts_from drivers at task pipe pipe.target

  none_by : (pipe : PipeForm) (b : Bool) → gives_to at pipe.target ≡ b → (b ≡ true → ⊥) → put_by_pipe pipe ≡ []
  none_by pipe true is never = absurd (never refl)
  none_by pipe false is never = none_put pipe pipe.target is

  side_puts : (pipe : PipeForm) → pipe.target ≡ side at → put_by_pipe pipe ≡ in_task (put_to 0) drivers pipe task
  side_puts pipe has = ap (puts_from drivers at task pipe) has ∙ chosen at (in_task (put_to 0) drivers pipe task) refl

  root_puts : (output : Output) (pipe : PipeForm) → pipe.target ≡ readers output at → put_by_pipe pipe ≡ in_pipe (put_to task) drivers pipe
  root_puts output pipe has = ap (puts_from drivers at task pipe) has ∙ chosen at (in_pipe (put_to task) drivers pipe) refl

  -- the seats that put for what reads the root of a fragment
  pub puts_of_root : (layout : List PipeForm) (output : Output) (m j : ℕ) (is : IsRoot layout output m at j)
      → puts_into layout drivers at task ≡ in_pipe (put_to task) drivers is.root.pipe
  puts_of_root layout output m j is =
      one_flat put_by_pipe layout j is.root.pipe is.root.is
      (λ place pipe there apart. none_by pipe (gives_to at pipe.target) refl (λ gives. apart (is.only place pipe there gives)))
      ∙ root_puts output is.root.pipe is.root.has

  module _ (layout : List PipeForm) (n i j : ℕ) (are : AreSides layout n at i j) where
    abbrev left_puts : List GatherPutState
    left_puts = in_task (put_to 0) drivers are.left.pipe task

    abbrev right_puts : List GatherPutState
    right_puts = in_task (put_to 0) drivers are.right.pipe task

    neither : (place : ℕ) → ¬ (place ≡ i) → ¬ (place ≡ j) → (place ≡ i) ⊎ (place ≡ j) → ⊥
    neither place first second (inl same) = first same
    neither place first second (inr same) = second same

    none_of : (place : ℕ) (pipe : PipeForm) → slice_get layout place ≡ Some pipe → ¬ (place ≡ i) → ¬ (place ≡ j) → put_by_pipe pipe ≡ []
    none_of place pipe there first second =
        none_by pipe (gives_to at pipe.target) refl (λ gives. neither place first second (are.only place pipe there gives))

    -- the seats that put for a union, in the order of the pipes of its sides
    pub puts_of_sides : (puts_into layout drivers at task ≡ left_puts ++ right_puts) ⊎ (puts_into layout drivers at task ≡ right_puts ++ left_puts)
    puts_of_sides = by_order (cases_lt i j)
      where
        left_is : put_by_pipe are.left.pipe ≡ left_puts
        left_is = side_puts are.left.pipe are.left.has

        right_is : put_by_pipe are.right.pipe ≡ right_puts
        right_is = side_puts are.right.pipe are.right.has

        by_order : (i < j) ⊎ (j ≤ i) → (puts_into layout drivers at task ≡ left_puts ++ right_puts) ⊎ (puts_into layout drivers at task ≡ right_puts ++ left_puts)
        by_order (inl less) =
            inl (two_flat put_by_pipe layout i j are.left.pipe are.right.pipe are.left.is are.right.is less none_of ∙ (λ k. left_is k ++ right_is k))
        by_order (inr not_less) =
            inr (two_flat put_by_pipe layout j i are.right.pipe are.left.pipe are.right.is are.left.is (omega (arith, are.apart, not_less))
            (λ place pipe there first second. none_of place pipe there second first) ∙ (λ k. right_is k ++ left_is k))
