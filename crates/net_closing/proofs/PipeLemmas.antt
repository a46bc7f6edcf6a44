-- Pipes of a layout, one by one.
use Rattle.std.proofs.Common.{◌≡◌, ◌<◌, ◌+◌, ◌++◌, ◌∙◌, ℕ, zero, suc, List, [], ◌∷◌, Some, arith, drop, get_or, length, map, refl, sym, subst, ap, append_assoc}
use Rattle.std.specs.Prelude.{All, flat_map, option_map, slice_get}
use Rattle.std.proofs.lemmas.List.{drop_more}
use Rattle.std.proofs.lemmas.List.Elements.{All-append, All-cons, All-nil}
use Rattle.std.proofs.lemmas.Option.{get_or_from_slice_get, slice_get-map, slice_get_read, slice_get_within}
use Rattle.plan_layout.specs.Pipes.{PipeForm, pipe_view}
use Rattle.plan_layout.specs.declared.pipe.Pipe.{Pipe}

-- the pipe at a place
pub view_at : (pipes : List Pipe) (k : ℕ) (pipe : Pipe) → k < length pipes → pipe ≡ get_or pipes k pipe → slice_get (map pipe_view pipes) k ≡ Some (pipe_view pipe)
view_at pipes k pipe lt at = slice_get-map pipe_view pipes k ∙ ap (option_map pipe_view) (slice_get_read pipes (length pipes) k pipe refl lt at)

pub some_at : {X : Type 0} (xs : List X) (k : ℕ) → k < length xs → (x : X) × (slice_get xs k ≡ Some x)
some_at [] k lt = absurd (omega (arith, lt))
some_at (x ∷ xs) zero lt = (x, refl)
some_at (x ∷ xs) (suc k) lt = some_at xs k (omega (arith, lt))

-- one more pipe
pub all_next : (P : PipeForm → Type 0) (pipes : List Pipe) (k : ℕ) (pipe : Pipe) → k < length pipes → pipe ≡ get_or pipes k pipe → P (pipe_view pipe)
    → All P (map pipe_view (drop (k + 1) pipes)) → All P (map pipe_view (drop k pipes))
all_next P pipes k pipe lt at own rest =
    let is : drop k pipes ≡ pipe ∷ drop (k + 1) pipes = drop_more pipes k pipe lt ∙ (λ i. sym at i ∷ drop (k + 1) pipes) in
    subst (λ (left : List Pipe). All P (map pipe_view left)) (sym is) (All-cons P (pipe_view pipe) (map pipe_view (drop (k + 1) pipes)) own rest)

pub flat_next : {X : Type 0} (of : PipeForm → List X) (pipes : List Pipe) (k : ℕ) (pipe : Pipe) (done next : List X) → k < length pipes → pipe ≡ get_or pipes k pipe → next ≡ done ++ of (pipe_view pipe)
    → done ++ flat_map of (map pipe_view (drop k pipes)) ≡ next ++ flat_map of (map pipe_view (drop (k + 1) pipes))
flat_next of pipes k pipe done next lt at came =
    let rest : List _ = flat_map of (map pipe_view (drop (k + 1) pipes)) in
    let is : drop k pipes ≡ pipe ∷ drop (k + 1) pipes = drop_more pipes k pipe lt ∙ (λ i. sym at i ∷ drop (k + 1) pipes) in
    ap (λ (left : List Pipe). done ++ flat_map of (map pipe_view left)) is ∙ sym (append_assoc done (of (pipe_view pipe)) rest) ∙ ap (λ (l : List _). l ++ rest) (sym came)

-- what holds of what each gives holds of all of it
pub all_flat : {X Y : Type 0} (P : X → Type 0) (of : Y → List X) (ys : List Y) → ((k : ℕ) (y : Y) → slice_get ys k ≡ Some y → All P (of y)) → All P (flat_map of ys)
all_flat P of [] each = All-nil P
all_flat P of (y ∷ ys) each = All-append P (of y) (flat_map of ys) (each 0 y refl) (all_flat P of ys (λ k z is. each (suc k) z is))

pub all_at : {X : Type 0} (P : X → Type 0) (xs : List X) (k : ℕ) (x : X) → All P xs → slice_get xs k ≡ Some x → P x
all_at P xs k x all is = subst P (get_or_from_slice_get xs k x x is) (all k x (slice_get_within xs k x is))
