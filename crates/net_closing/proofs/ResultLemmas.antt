-- The pipe that gives the result.
use Rattle.std.proofs.Common.{◌≡◌, ◌<◌, ◌≤◌, ◌+◌, ◌∙◌, ◌⊎◌, inl, inr, ℕ, List, true, false, Result, Ok, Err, Some, arith, length, refl, sym, subst, ap}
use Rattle.std.specs.Prelude.{IfOk, slice_get}
use Rattle.std.proofs.lemmas.Bool.{cases_lt, false≢true}
use Rattle.std.proofs.lemmas.Option.{same_Some, slice_get_within}
use Rattle.operator_core.specs.Rows.{Row}
use Rattle.driver_loop.specs.Drivers.{DriverState}
use Rattle.plan_layout.specs.Pipes.{PipeForm, TargetForm, driver_number, result, cell, side, readers, takers}
use Rattle.std.specs.declared.alloc.Global.{Global}
use Rattle.std.specs.declared.vec.Vec.{Vec}
use Rattle.std.proofs.Common.{Option}
use Rattle.net_closing.specs.Held.{seat_at}
use Rattle.net_closing.specs.Left.{AreLeft, handed_in}
use Rattle.net_closing.specs.Results.{IsOnlyResult, IsResultOf, NoneGives, gives_result}
use Rattle.net_closing.proofs.LeftLemmas.{one_taken}
use Rattle.net_closing.proofs.PipeLemmas.{some_at}

is_result : (target : TargetForm) → gives_result target ≡ true → target ≡ result
is_result result gives = refl
is_result (cell on) gives = absurd (false≢true gives)
is_result (side other) gives = absurd (false≢true gives)
is_result (readers output other) gives = absurd (false≢true gives)
is_result (takers other) gives = absurd (false≢true gives)

-- one more does not
pub none_more : (layout : List PipeForm) (low k : ℕ) (pipe : PipeForm) → NoneGives layout low k → slice_get layout k ≡ Some pipe → gives_result pipe.target ≡ false → NoneGives layout low (k + 1)
none_more layout low k pipe none is not_this = record { each = λ at p from below there. one at p from below there (cases_lt at k) }
  where
    one : (at : ℕ) (p : PipeForm) → low ≤ at → at < k + 1 → slice_get layout at ≡ Some p → (at < k) ⊎ (k ≤ at) → gives_result p.target ≡ false
    one at p from below there (inl lt) = none.each at p from lt there
    one at p from below there (inr le) =
        let same : at ≡ k = omega arith in
        let own : p ≡ pipe = same_Some p pipe (sym there ∙ ap (slice_get layout) same ∙ is) in
        ap (λ (q : PipeForm). gives_result q.target) own ∙ not_this

module _ (layout : List PipeForm) (first second : ℕ) (lt : first < length layout) (before : NoneGives layout 0 first) (here : (pipe : PipeForm) → slice_get layout first ≡ Some pipe → gives_result pipe.target ≡ true)
    (behind : NoneGives layout (first + 1) second) (all : length layout ≤ second) where
  once : (other : ℕ) (p : PipeForm) → slice_get layout other ≡ Some p → p.target ≡ result → (other < first) ⊎ (first ≤ other) → other ≡ first
  once other p there is (inl less) = absurd (false≢true (sym (before.each other p (omega arith) less there) ∙ ap gives_result is))
  once other p there is (inr le) = later (cases_lt first other)
    where
      later : (first < other) ⊎ (other ≤ first) → other ≡ first
      later (inr same) = omega arith
      later (inl less) = absurd (false≢true (sym (behind.each other p (omega arith) (omega (arith, slice_get_within layout other p there)) there) ∙ ap gives_result is))

  -- the one between two parts that do not is the only one that does
  pub only_one : IsOnlyResult layout first
  only_one =
      let (pipe, is) = some_at layout first lt in
      record { pipe = pipe; is = is; gives = is_result pipe.target (here pipe is); once = λ other p there same. once other p there same (cases_lt other first) }

result_taken : (layout : List PipeForm) (at : ℕ) (pipe : PipeForm) (number : ℕ) (rows : List (Vec (Option (List Row)) Global)) → IsOnlyResult layout at → slice_get layout at ≡ Some pipe
    → pipe.tasks ≡ 1 → pipe.drivers ≡ 1 → number ≡ driver_number pipe 0 0 → (given : List Row) → seat_at rows number 0 ≡ Some given
    → (drivers : List DriverState) → AreLeft handed_in drivers rows → IsResultOf layout drivers given
result_taken layout at pipe number rows only is task driver same given taken drivers left =
    let own : pipe ≡ only.pipe = same_Some pipe only.pipe (sym is ∙ only.is) in
    record {
      at = at;
      only = only;
      task = subst (λ (p : PipeForm). p.tasks ≡ 1) own task;
      driver = subst (λ (p : PipeForm). p.drivers ≡ 1) own driver;
      rows = one_taken handed_in drivers rows (driver_number only.pipe 0 0) 0 given left
          (subst (λ (n : ℕ). seat_at rows n 0 ≡ Some given) (same ∙ ap (λ (p : PipeForm). driver_number p 0 0) own) taken);
    }

pub result_given : {E : Type 0} (r : Result (List Row) E) (layout : List PipeForm) (at : ℕ) (pipe : PipeForm) (number : ℕ) (rows : List (Vec (Option (List Row)) Global)) → IsOnlyResult layout at
    → slice_get layout at ≡ Some pipe → pipe.tasks ≡ 1 → pipe.drivers ≡ 1 → number ≡ driver_number pipe 0 0 → IfOk r (λ given. seat_at rows number 0 ≡ Some given)
    → IfOk r (λ given. (drivers : List DriverState) → AreLeft handed_in drivers rows → IsResultOf layout drivers given)
result_given (Ok given) layout at pipe number rows only is task driver same taken = λ drivers left. result_taken layout at pipe number rows only is task driver same given taken drivers left
result_given (Err e) layout at pipe number rows only is task driver same taken = tt
