-- Items put in the order in which they came.
use Rattle.std.proofs.Common.{◌≡◌, ℕ, ◌+◌, List, [], ◌∷◌, ◌++◌, length, take, slice_get, Some, arith, sym, ap, ◌∙◌, subst}
use Rattle.std.specs.List.{AllZip}
use Rattle.std.proofs.lemmas.List.{length_push, take_all, take_more}
use Rattle.std.proofs.lemmas.List.Elements.{AllZip-push}
use Rattle.std.proofs.lemmas.Option.{get_or_from_slice_get, slice_get_within}
use Rattle.worker_pool.specs.Gathered.{AreFirst}
use Rattle.worker_pool.specs.Items.{CameAs, PlacedItem}

-- the first of those that came, with the one behind them
taken_next : {T : Type 0} (came : List T) (place : ℕ) (first : T) → slice_get came place ≡ Some first → take (place + 1) came ≡ take place came ++ first ∷ []
taken_next came place first there =
    take_more came place first (slice_get_within came place first there) ∙ ap (λ x. take place came ++ x ∷ []) (get_or_from_slice_get came place first first there)

pub first_more : {T : Type 0} (follows : T → T → Type 0) (came items : List T) (x : PlacedItem T) → AreFirst follows came items → CameAs follows came x → x.place ≡ length items
    → AreFirst follows came (items ++ x.item ∷ [])
first_more follows came items x are same here =
    let there : slice_get came (length items) ≡ Some same.first = subst (λ n. slice_get came n ≡ Some same.first) here same.there in
    let taken : take (length (items ++ x.item ∷ [])) came ≡ take (length items) came ++ same.first ∷ [] =
    ap (λ n. take n came) (length_push items x.item) ∙ taken_next came (length items) same.first there in
    subst (λ firsts. AllZip follows firsts (items ++ x.item ∷ [])) (sym taken) (AllZip-push follows (take (length items) came) items same.first x.item are same.later)

-- as many as came
pub all_first : {T : Type 0} (follows : T → T → Type 0) (came items : List T) → AreFirst follows came items → length items ≡ length came → AllZip follows came items
all_first follows came items are whole =
    subst (λ firsts. AllZip follows firsts items) (take_all (length items) came (omega (arith, whole))) are
