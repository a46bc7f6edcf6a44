-- The rule of an edge: what its queue holds, and what each of its seats put and took.
use Rattle.std.specs.Prelude.{◌≡◌, ℕ, suc, ◌+◌, ◌-◌, ◌^◌, List, [], ◌∷◌, ◌++◌, sum_by}
use mathlib.Core.Option.{some}
use lib.ListN.{get_elem?}
use Rattle.output_buffer.specs.declared.edge.EdgeView.{EdgeView}
use Rattle.output_buffer.specs.declared.piece.Piece.{Piece}
use Rattle.output_buffer.specs.declared.piece.Piece.TheVariants.{Rows, End}

abbrev pub ends_in : Piece → ℕ
ends_in (Rows page) = 0
ends_in (End number) = 1

abbrev pub pages_in : Piece → ℕ
pages_in (Rows page) = 1
pages_in (End number) = 0

abbrev pub end_count : List Piece → ℕ
end_count pieces = sum_by ends_in pieces

-- 1 where the last piece is a page
abbrev pub last_from : ℕ → List Piece → ℕ
last_from before [] = before
last_from before (x ∷ xs) = last_from (pages_in x) xs

abbrev pub page_at_end : List Piece → ℕ
page_at_end pieces = last_from 0 pieces

-- how often a page stands behind an End, where some Ends came before
abbrev pub late_from : ℕ → List Piece → ℕ
late_from before [] = 0
late_from before (Rows page ∷ xs) = before + late_from before xs
late_from before (End number ∷ xs) = late_from (suc before) xs

abbrev pub PagesThenEnds : List Piece → Type 0
PagesThenEnds pieces = late_from 0 pieces ≡ 0

-- the whole of an edge: a seat is one part, and the one that is left after the cut has the rest
abbrev pub all_parts : ℕ
all_parts = 2 ^ 32

abbrev pub edge_view : ℕ → ℕ → List Piece → List Piece → EdgeView
edge_view parts putting put took = record { parts = parts; putting = putting; put = put; took = took }

-- what is known before the seats are handed out
abbrev pub unshared : EdgeView
unshared = edge_view all_parts 1 [] []

-- a putter's seat is cut off a taker's, which puts no pages
abbrev pub fewer_done : EdgeView → EdgeView
fewer_done v = edge_view (v.parts - 1) 0 v.put v.took

abbrev pub new_putter : EdgeView
new_putter = edge_view 1 1 [] []

-- a taker's seat is cut off a putter's
abbrev pub fewer : EdgeView → EdgeView
fewer v = edge_view (v.parts - 1) v.putting v.put v.took

abbrev pub new_taker : EdgeView
new_taker = edge_view 1 0 [] []

abbrev pub together : EdgeView → EdgeView → EdgeView
together v w = edge_view (v.parts + w.parts) (v.putting + w.putting) (v.put ++ w.put) (v.took ++ w.took)

abbrev pub spent : EdgeView
spent = edge_view 0 0 [] []

-- with its first End a putter puts no more pages
abbrev pub with_put : EdgeView → Piece → EdgeView
with_put v x = edge_view v.parts (v.putting - ends_in x) (v.put ++ x ∷ []) v.took

abbrev pub with_took : EdgeView → Piece → EdgeView
with_took v x = edge_view v.parts v.putting v.put (v.took ++ x ∷ [])

-- a view of no seats knows nothing
pub record IsEdgeView (v : EdgeView) : Type 0 where
  pub idle : v.parts ≡ 0 → v.putting ≡ 0
  pub put : v.parts ≡ 0 → v.put ≡ []
  pub took : v.parts ≡ 0 → v.took ≡ []

-- The queue holds these pieces, and the seats know this.
pub record EdgeRule (items : List Piece) (views : List EdgeView) : Type 0 where
  pub whole : sum_by (λ v. v.parts) views ≡ all_parts
  -- what was put is what was taken and what is held: by whatever weights, they weigh the same
  pub balanced : (weight : Piece → ℕ) →
      sum_by (λ v. sum_by weight v.put) views ≡ sum_by (λ v. sum_by weight v.took) views + sum_by weight items
  -- where no seat may put more pages, the last piece that is held is an End
  pub ends_last : sum_by (λ v. v.putting) views ≡ 0 → page_at_end items ≡ 0
  pub each : (by : ℕ) (v : EdgeView) → get_elem? views by ≡ some v → IsEdgeView v

-- at one moment the queue held these pieces, and a seat knew this
pub record StoodBeside (v : EdgeView) (items : List Piece) : Type 0 where
  pub views : List EdgeView
  pub by : ℕ
  pub seat : get_elem? views by ≡ some v
  pub rule : EdgeRule items views

-- what all seats together know of the pieces that are held
pub record ShowsWhole (v : EdgeView) (items : List Piece) : Type 0 where
  pub balanced : (weight : Piece → ℕ) → sum_by weight v.put ≡ sum_by weight v.took + sum_by weight items
  pub ends_last : v.putting ≡ 0 → page_at_end items ≡ 0

abbrev pub Shows : EdgeView → List Piece → Type 0
Shows v items = v.parts ≡ all_parts → ShowsWhole v items
