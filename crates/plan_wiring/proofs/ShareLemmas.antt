-- What the pipes have, one pipe more.
use Rattle.std.proofs.Common.{◌≡◌, ℕ, ◌+◌, ◌<◌, List, [], ◌∷◌, ◌++◌, drop, get_or, length, map, refl, ap, sym, ◌∙◌}
use Rattle.std.proofs.lemmas.List.{drop_more, map-append}
use Rattle.sql_values.specs.declared.table.Table.{Table}
use Rattle.plan_layout.specs.declared.pipe.Pipe.{Pipe}
use Rattle.plan_layout.specs.Pipes.{PipeForm, pipe_view}
use Rattle.plan_wiring.specs.declared.shared.Shared.{Shared}
use Rattle.plan_wiring.specs.Shares.{ShareForm, share_of, shares_of}
use Rattle.plan_wiring.specs.Wirings.{share_view}

behind : (xs : List ShareForm) (y : ShareForm) (zs : List ShareForm) → xs ++ (y ∷ zs) ≡ (xs ++ y ∷ []) ++ zs
behind [] y zs = refl
behind (x ∷ xs) y zs = ap (λ (ys : List ShareForm). x ∷ ys) (behind xs y zs)

module _ (layout : List PipeForm) (tables : List Table) (split : ℕ) where
  abbrev rest : ℕ → List Pipe → List ShareForm
  rest at pipes = shares_of layout tables split at (map pipe_view pipes)

  pub share_more : (whole : List ShareForm) (pipes : List Pipe) (own : ℕ) (pipe : Pipe) (done pushed : List Shared) (shared : Shared) → own < length pipes → pipe ≡ get_or pipes own pipe
      → whole ≡ map share_view done ++ rest own (drop own pipes) → pushed ≡ done ++ shared ∷ [] → share_view shared ≡ share_of layout tables split own (pipe_view pipe)
      → whole ≡ map share_view pushed ++ rest (own + 1) (drop (own + 1) pipes)
  share_more whole pipes own pipe done pushed shared less read before push is =
      before ∙ ap (λ (left : List Pipe). map share_view done ++ rest own left) (drop_more pipes own pipe less ∙ ap (λ (p : Pipe). p ∷ drop (own + 1) pipes) (sym read))
      ∙ ap (λ (s : ShareForm). map share_view done ++ (s ∷ rest (own + 1) (drop (own + 1) pipes))) (sym is)
      ∙ behind (map share_view done) (share_view shared) (rest (own + 1) (drop (own + 1) pipes))
      ∙ ap (λ (ss : List ShareForm). ss ++ rest (own + 1) (drop (own + 1) pipes)) (sym (ap (map share_view) push ∙ map-append share_view done (shared ∷ [])))
