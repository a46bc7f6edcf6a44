-- Where the pipes that begin below a node stand in a layout, the pipe of the node runs it.
use Rattle.std.proofs.Common.{◌≡◌, ℕ, ◌+◌, ◌<◌, suc, zero, List, [], ◌∷◌, ◌++◌, length, refl, ap, ◌∙◌, subst, arith, Some}
use Rattle.std.specs.Prelude.{option_map, slice_get}
use Rattle.plan_docs.specs.Nodes.{NodeForm}
use Rattle.plan_docs.specs.Nodes as node
use Rattle.plan_layout.specs.Pipes.{PipeForm, TargetForm, side}
use Rattle.plan_layout.specs.Runs.{HasScan, PipeAt, Runs, bare}
use Rattle.plan_layout.specs.Sides.{Site, built_for, pipe_of, pipes_of, sides_of}
use Rattle.plan_layout.specs.Steps.{scan_read, side_count, source_of, steps_of}

pub length_append : {A : Type 0} (xs ys : List A) → length (xs ++ ys) ≡ length xs + length ys
length_append [] ys = omega arith
length_append (x ∷ xs) ys = omega (arith, length_append xs ys)

pub side_length : (s : Site) (own next : ℕ) (n : NodeForm) → length (sides_of s own next n) ≡ side_count n
side_length s own next (node.scan id place columns types) = refl
side_length s own next (node.values id types list) = refl
side_length s own next (node.remote id number) = refl
side_length s own next (node.step id operator input) = side_length s own next input
side_length s own next (node.join id kind on filters left right) =
    let at = next + side_count left in
    omega (
      arith,
      length_append (sides_of s own next left) (pipes_of s at (built_for id on filters) right),
      side_length s own next left,
      side_length s at (at + 1) right,
    )
side_length s own next (node.union id left right) =
    let at = next + 1 + side_count left in
    omega (
      arith,
      length_append (pipes_of s next (side own) left) (pipes_of s at (side own) right),
      side_length s next (next + 1) left,
      side_length s at (at + 1) right,
    )

-- the pipes stand in the layout from a place on, but for the numbers of their drivers
abbrev pub Stand : List PipeForm → ℕ → List PipeForm → Type 0
Stand layout at pipes = (k : ℕ) → k < length pipes → slice_get layout (at + k) ≡ option_map bare (slice_get pipes k)

pub get_left : (xs ys : List PipeForm) (k : ℕ) → k < length xs → slice_get (xs ++ ys) k ≡ slice_get xs k
get_left [] ys k lt = absurd (omega (arith, lt))
get_left (x ∷ xs) ys zero lt = refl
get_left (x ∷ xs) ys (suc k) lt = let less : k < length xs = omega (arith, lt) in get_left xs ys k less

pub get_right : (xs ys : List PipeForm) (k : ℕ) → slice_get (xs ++ ys) (length xs + k) ≡ slice_get ys k
get_right [] ys k = let none : 0 + k ≡ k = omega arith in ap (slice_get ys) none
get_right (x ∷ xs) ys k =
    let next : length (x ∷ xs) + k ≡ suc (length xs + k) = omega arith in
    ap (slice_get (x ∷ (xs ++ ys))) next ∙ get_right xs ys k

stand_left : (layout : List PipeForm) (at : ℕ) (xs ys : List PipeForm) → Stand layout at (xs ++ ys) → Stand layout at xs
stand_left layout at xs ys stand k lt =
    let more : k < length (xs ++ ys) = omega (arith, lt, length_append xs ys) in
    stand k more ∙ ap (option_map bare) (get_left xs ys k lt)

stand_right : (layout : List PipeForm) (at : ℕ) (xs ys : List PipeForm) (n : ℕ) → length xs ≡ n → Stand layout at (xs ++ ys) → Stand layout (at + n) ys
stand_right layout at xs ys n long stand k lt =
    let place : at + n + k ≡ at + (length xs + k) = omega (arith, long) in
    let less : length xs + k < length (xs ++ ys) = omega (arith, lt, length_append xs ys) in
    ap (slice_get layout) place ∙ stand (length xs + k) less ∙ ap (option_map bare) (get_right xs ys k)

stand_next : (layout : List PipeForm) (at : ℕ) (x : PipeForm) (xs : List PipeForm) → Stand layout at (x ∷ xs) → Stand layout (at + 1) xs
stand_next layout at x xs stand k lt =
    let place : at + 1 + k ≡ at + suc k = omega arith in
    let less : suc k < length (x ∷ xs) = omega (arith, lt) in
    ap (slice_get layout) place ∙ stand (suc k) less

stand_first : (layout : List PipeForm) (at : ℕ) (x : PipeForm) (xs : List PipeForm) → Stand layout at (x ∷ xs) → slice_get layout at ≡ Some (bare x)
stand_first layout at x xs stand =
    let place : at ≡ at + 0 = omega arith in
    let some : 0 < length (x ∷ xs) = omega arith in
    ap (slice_get layout) place ∙ stand 0 some

module _ (layout : List PipeForm) (s : Site) where
  abbrev RunsNode : ℕ → ℕ → NodeForm → Type 0
  RunsNode own next n = Runs layout s own n (source_of n) (steps_of s.fragments next n)

  pipe_runs : (at : ℕ) (target : TargetForm) (n : NodeForm) → (Stand layout (at + 1) (sides_of s at (at + 1) n) → HasScan layout at (scan_read n) → RunsNode at (at + 1) n)
      → Stand layout at (pipes_of s at target n) → PipeAt layout s target at (Runs layout s at n)
  pipe_runs at target n runs stand = record {
    pipe = pipe_of s (at + 1) target n;
    is = stand_first layout at (pipe_of s (at + 1) target n) (sides_of s at (at + 1) n) stand;
    part = refl;
    tasks = refl;
    drivers = refl;
    has = refl;
    below = runs (stand_next layout at (pipe_of s (at + 1) target n) (sides_of s at (at + 1) n) stand)
        (record { pipe = pipe_of s (at + 1) target n; is = stand_first layout at (pipe_of s (at + 1) target n) (sides_of s at (at + 1) n) stand; scan = refl });
  }

  nodes_run : (own next : ℕ) (n : NodeForm) → Stand layout next (sides_of s own next n) → HasScan layout own (scan_read n) → RunsNode own next n
  nodes_run own next (node.scan id place columns types) stand reads = (refl, refl, reads)
  nodes_run own next (node.values id types list) stand reads = (refl, refl)
  nodes_run own next (node.remote id number) stand reads = (refl, refl)
  nodes_run own next (node.step id operator input) stand reads = (steps_of s.fragments next input, refl, nodes_run own next input stand reads)
  nodes_run own next (node.join id kind on filters left right) stand reads =
      let at = next + side_count left in
      let before = sides_of s own next left in
      let beside = pipes_of s at (built_for id on filters) right in (
        at,
        pipe_runs at (built_for id on filters) right (nodes_run at (at + 1) right) (stand_right layout next before beside (side_count left) (side_length s own next left) stand),
        (steps_of s.fragments next left, refl, nodes_run own next left (stand_left layout next before beside stand) reads),
      )
  nodes_run own next (node.union id left right) stand reads =
      let at = next + 1 + side_count left in
      let first = pipes_of s next (side own) left in
      let second = pipes_of s at (side own) right in
      let long : length first ≡ 1 + side_count left = omega (arith, side_length s next (next + 1) left) in
      let place : next + (1 + side_count left) ≡ at = omega arith in (
        refl,
        refl,
        (next, pipe_runs next (side own) left (nodes_run next (next + 1) left) (stand_left layout next first second stand)),
        (
          at,
          pipe_runs at (side own) right (nodes_run at (at + 1) right)
              (subst (λ (from : ℕ). Stand layout from second) place (stand_right layout next first second (1 + side_count left) long stand)),
        ),
        omega arith,
      )

  pub pipes_run : (at : ℕ) (target : TargetForm) (n : NodeForm) → Stand layout at (pipes_of s at target n)
      → PipeAt layout s target at (Runs layout s at n)
  pipes_run at target n stand = pipe_runs at target n (nodes_run at (at + 1) n) stand
