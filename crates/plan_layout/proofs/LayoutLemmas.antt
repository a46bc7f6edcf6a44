-- Each fragment of a plan is laid out.
use Rattle.std.proofs.Common.{◌≡◌, ℕ, ◌+◌, ◌<◌, ◌≤◌, suc, zero, List, [], ◌∷◌, ◌++◌, length, map, refl, ap, sym, ◌∙◌, subst, arith, Some}
use Rattle.std.specs.Prelude.{option_map, slice_get}
use Rattle.plan_docs.specs.Plans.{FragmentForm, PlanForm}
use Rattle.plan_layout.specs.declared.pipe.Parallelism.{Parallelism}
use Rattle.plan_layout.specs.declared.pipe.Series.{Series}
use Rattle.plan_layout.specs.Edges.{after, edge_numbers, fetches_of, target_of}
use Rattle.plan_layout.specs.Layouts.{driver_numbers, fragment_pipes, laid, layout_of, numbered, site_of}
use Rattle.plan_layout.specs.Pipes.{PipeForm}
use Rattle.plan_layout.specs.Runs.{IsLaid, bare}
use Rattle.plan_layout.specs.Sides.{pipe_of, pipes_of}
use Rattle.plan_spreads.proofs.EachLemmas.{Each, each_at, each_join, each_weaker}
use Rattle.plan_layout.proofs.PipeLemmas.{each_block}
use Rattle.plan_layout.proofs.SideLemmas.{Stand, get_left, get_right, length_append, pipes_run}

get_bare : (pipes : List PipeForm) (k : ℕ) → slice_get (map bare pipes) k ≡ option_map bare (slice_get pipes k)
get_bare [] k = refl
get_bare (pipe ∷ pipes) zero = refl
get_bare (pipe ∷ pipes) (suc k) = get_bare pipes k

get_numbered : (numbers : Series) (pipes : List PipeForm) (k : ℕ) → option_map bare (slice_get (numbered numbers pipes) k) ≡ option_map bare (slice_get pipes k)
get_numbered numbers [] k = refl
get_numbered numbers (pipe ∷ pipes) zero = refl
get_numbered numbers (pipe ∷ pipes) (suc k) = get_numbered (after pipe.drivers numbers) pipes k

length_numbered : (numbers : Series) (pipes : List PipeForm) → length (numbered numbers pipes) ≡ length pipes
length_numbered numbers [] = refl
length_numbered numbers (pipe ∷ pipes) = ap suc (length_numbered (after pipe.drivers numbers) pipes)

append_append : (xs ys zs : List PipeForm) → (xs ++ ys) ++ zs ≡ xs ++ (ys ++ zs)
append_append [] ys zs = refl
append_append (x ∷ xs) ys zs = ap (λ rest. x ∷ rest) (append_append xs ys zs)

append_none : (xs : List PipeForm) → xs ≡ xs ++ []
append_none [] = refl
append_none (x ∷ xs) = ap (λ rest. x ∷ rest) (append_none xs)

-- numbered pipes stand behind others
stands : (numbers : Series) (done own fetches more : List PipeForm)
    → Stand (map bare (done ++ (numbered numbers (own ++ fetches) ++ more))) (length done) own
stands numbers done own fetches more k lt =
    let all = numbered numbers (own ++ fetches) in
    let less : k < length all = omega (arith, lt, length_append own fetches, length_numbered numbers (own ++ fetches)) in
    get_bare (done ++ (all ++ more)) (length done + k)
    ∙ ap (option_map bare) (get_right done (all ++ more) k ∙ get_left all more k less)
    ∙ get_numbered numbers (own ++ fetches) k
    ∙ ap (option_map bare) (get_left own fetches k lt)

abbrev IsFrom : ℕ → PipeForm → Type 0
IsFrom number pipe = number ≤ pipe.fragment

module _ (p : Parallelism) (fragments : List FragmentForm) where
  abbrev own_of : ℕ → List PipeForm → FragmentForm → List PipeForm
  own_of number done f = fragment_pipes (site_of p fragments number f) done (target_of number f.output done) f.root

  -- those of the fragments from this number on
  record Behind (number : ℕ) (done layout : List PipeForm) : Type 0 where
    more : List PipeForm
    are : layout ≡ done ++ more
    later : Each (IsFrom number) more

  own_later : (number : ℕ) (done : List PipeForm) (f : FragmentForm) → Each (IsFrom number) (own_of number done f)
  own_later number done f =
      let s = site_of p fragments number f in
      let least : (pipe : PipeForm) → pipe.fragment ≡ number → IsFrom number pipe = λ pipe h. omega (arith, h) in
      each_block (IsFrom number) s (λ next target n. least (pipe_of s next target n) refl) (λ pipe at numbers h. h) (λ pipe numbers h. h) done (target_of number f.output done) f.root

  laid_behind : (fs : List FragmentForm) (number : ℕ) (done : List PipeForm) → Behind number done (laid p fragments number done fs)
  laid_behind [] number done = record { more = []; are = append_none done; later = tt }
  laid_behind (f ∷ fs) number done =
      let own = own_of number done f in
      let next = laid_behind fs (number + 1) (done ++ own) in
      record {
        more = own ++ next.more;
        are = next.are ∙ append_append done own next.more;
        later = each_join (IsFrom number) own next.more (own_later number done f)
            (each_weaker (IsFrom (number + 1)) (IsFrom number) (λ pipe h. omega (arith, h)) next.more next.later);
      }

  first_laid : (number : ℕ) (done : List PipeForm) (f : FragmentForm) (more : List PipeForm) → Each (IsFrom number) more
      → IsLaid (done ++ (own_of number done f ++ more)) p fragments number f
  first_laid number done f more after_it =
      let s = site_of p fragments number f in
      let target = target_of number f.output done in
      let own = pipes_of s (length done) target f.root in
      let fetches = fetches_of (edge_numbers done own) (length done) own in
      record {
        done = done;
        rest = own_of number done f ++ more;
        are = refl;
        later = λ k pipe is.
            each_at (IsFrom number) (own_of number done f ++ more) k pipe is
            (each_join (IsFrom number) (own_of number done f) more (own_later number done f) after_it);
        root = pipes_run (map bare (done ++ (own_of number done f ++ more))) s (length done) target f.root
            (stands (driver_numbers done (own ++ fetches)) done own fetches more);
      }

  all_laid : (fs : List FragmentForm) (number : ℕ) (done : List PipeForm) (k : ℕ) (f : FragmentForm) → slice_get fs k ≡ Some f
      → IsLaid (laid p fragments number done fs) p fragments (number + k) f
  all_laid [] number done k f is = absurd cc
  all_laid (g ∷ fs) number done zero f is =
      let own = own_of number done g in
      let next = laid_behind fs (number + 1) (done ++ own) in
      let same : g ≡ f = cc in
      let at : number ≡ number + 0 = omega arith in
      subst (λ (n : ℕ). IsLaid (laid p fragments number done (g ∷ fs)) p fragments n f) at
      (subst (IsLaid (laid p fragments number done (g ∷ fs)) p fragments number) same
      (subst (λ (layout : List PipeForm). IsLaid layout p fragments number g) (sym (next.are ∙ append_append done own next.more))
      (first_laid number done g next.more
      (each_weaker (IsFrom (number + 1)) (IsFrom number) (λ pipe h. omega (arith, h)) next.more next.later))))
  all_laid (g ∷ fs) number done (suc k) f is =
      let own = own_of number done g in
      let at : number + 1 + k ≡ number + suc k = omega arith in
      subst (λ (n : ℕ). IsLaid (laid p fragments number done (g ∷ fs)) p fragments n f) at
      (all_laid fs (number + 1) (done ++ own) k f is)

pub plan_laid : (p : Parallelism) (plan : PlanForm) (number : ℕ) (f : FragmentForm) → slice_get plan.fragments number ≡ Some f
    → IsLaid (layout_of p plan) p plan.fragments number f
plan_laid p plan number f is =
    let none : 0 + number ≡ number = omega arith in
    subst (λ (n : ℕ). IsLaid (layout_of p plan) p plan.fragments n f) none (all_laid p plan.fragments plan.fragments 0 [] number f is)
