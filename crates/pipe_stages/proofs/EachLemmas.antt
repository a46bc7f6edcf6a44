-- What holds of each item of a list, at its place.
use Rattle.std.proofs.Common.{◌≡◌, ℕ, ◌+◌, ◌<◌, ◌≤◌, ◌⊎◌, inl, inr, List, length, get_or, map, Option, Some, refl, sym, subst, ap, ◌∙◌, arith}
use Rattle.std.specs.Prelude.{option_map, slice_get, unwrap_or}
use Rattle.std.proofs.lemmas.Bool.{cases_order}
use Rattle.std.proofs.lemmas.Option.{slice_get-map, slice_get_read, slice_get_within}
use Rattle.pipe_stages.specs.Each.{EachBelow}

same_item : {X : Type 0} (x y : X) → Some x ≡ Some y → x ≡ y
same_item {X} x y same = ap (λ (o : Option X). unwrap_or o x) same

pub mapped_at : {X Y : Type 0} (f : X → Y) (list : List X) (n : ℕ) (x : X) → n < length list → x ≡ get_or list n x
    → slice_get (map f list) n ≡ Some (f x)
mapped_at f list n x there is = slice_get-map f list n ∙ ap (option_map f) (slice_get_read list (length list) n x refl there is)

module _ {X : Type 0} (P : ℕ → X → Type 0) (list : List X) where
  pub none_yet : EachBelow P list 0
  none_yet k x less is = absurd (omega (arith, less))

  pub one_more : (n : ℕ) (x : X) → slice_get list n ≡ Some x → P n x → EachBelow P list n → EachBelow P list (n + 1)
  one_more n x at holds below k y less is = by (cases_order k n)
    where
      by : (k ≡ n) ⊎ ((k < n) ⊎ (n < k)) → P k y
      by (inl same) = subst (λ m. P m y) (sym same) (subst (P n) (same_item x y (sym at ∙ ap (slice_get list) (sym same) ∙ is)) holds)
      by (inr (inl before)) = below k y before is
      by (inr (inr behind)) = absurd (omega (arith, less, behind))

  pub each : (n : ℕ) → length list ≤ n → EachBelow P list n → (k : ℕ) (x : X) → slice_get list k ≡ Some x → P k x
  each n all below k x is = below k x (let within = slice_get_within list k x is in omega (arith, within, all)) is
