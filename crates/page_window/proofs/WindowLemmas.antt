-- The pages of a window by their places.
use Rattle.std.proofs.Common.{◌≡◌, ℕ, ◌+◌, ◌-◌, ◌<◌, ◌≤◌, List, [], ◌∷◌, ◌++◌, length, get_or, take, drop, min, arith, ap, sym, ◌∙◌}
use Rattle.std.proofs.lemmas.List.{take_more, drop-append-le, drop-drop, drop-take, length-take-le, take_min, length-drop}
use Rattle.col_pages.specs.Pages.{TypedPage}
use Rattle.page_window.specs.Windows.{WindowState, IsWindowOf, from_token}

module _ {A : Type 0} (xs : List A) (from : ℕ) where
  -- the items between two places, and one more
  pub between_more : (place : ℕ) (x : A) → from ≤ place → place < length xs → x ≡ get_or xs place x → drop from (take (place + 1) xs) ≡ drop from (take place xs) ++ x ∷ []
  between_more place x low high read =
      let long : from ≤ length (take place xs) = omega (arith, length-take-le place xs (omega arith)) in
      ap (drop from) (take_more xs place x high ∙ ap (λ y. take place xs ++ y ∷ []) (sym read)) ∙ drop-append-le from (take place xs) (x ∷ []) long

  -- the items between two places, once the second is the end
  pub between_end : (most : ℕ) → drop from (take (from + min most (length xs - from)) xs) ≡ take most (drop from xs)
  between_end most = drop-take from (min most (length xs - from)) xs ∙ ap (λ n. take (min most n) (drop from xs)) (sym (length-drop from xs)) ∙ take_min most (drop from xs)

-- the held pages from a token on are those that were put from it on
pub held_from : (put : List TypedPage) (w : WindowState) (token : ℕ) → IsWindowOf put w → w.base ≤ token → from_token w token ≡ drop token put
held_from put w token is low =
    ap (drop (token - w.base)) is.held ∙ drop-drop (token - w.base) w.base put ∙ ap (λ n. drop n put) (omega arith)
