-- How many rows passed a dynamic filter, driver by driver.
use Rattle.std.proofs.Common.{◌≡◌, ◌<◌, ◌+◌, ◌∙◌, ℕ, List, [], ◌∷◌, Option, Some, None, arith, get_or, length, min, refl, sym, ap}
use Rattle.std.specs.Prelude.{option_map, slice_get, sum, unwrap_or}
use Rattle.std.specs.declared.alloc.Global.{Global}
use Rattle.std.specs.declared.vec.Vec.{Vec}
use Rattle.std.proofs.lemmas.Option.{same_Some, slice_get-map, slice_get_read}
use Rattle.std.proofs.lemmas.List.Sums.{sum_by-append}
use Rattle.count_laws.specs.Counts.{most_count}
use Rattle.bag_laws.specs.Gather.{gather}
use Rattle.driver_loop.specs.Drivers.{DriverState}
use Rattle.driver_loop.specs.Turns.{passed_of}
use Rattle.driver_net_laws.specs.Settled.{listed, of_number}
use Rattle.net_closing.specs.Left.{HoldsPassed, at_place}
use Rattle.net_closing.proofs.CollectLemmas.{gather_more}

one_counted : (place rows : ℕ) (d : Option DriverState) (counts : List ℕ) → option_map passed_of d ≡ Some counts → slice_get counts place ≡ Some rows
    → unwrap_or (option_map (at_place passed_of place) d) [] ≡ rows ∷ []
one_counted place rows None counts is there = cc
one_counted place rows (Some d) counts is there = ap (λ (l : List ℕ). listed (slice_get l place)) (same_Some (passed_of d) counts is) ∙ ap listed there

-- a count that was found is that of its driver
pub counted : (drivers : List DriverState) (held : List (Vec ℕ Global)) (number place rows : ℕ) (row : Vec ℕ Global) → HoldsPassed drivers held → number < length held → row ≡ get_or held number row
    → slice_get row.items place ≡ Some rows → of_number (at_place passed_of place) drivers number ≡ rows ∷ []
counted drivers held number place rows row all lt at there =
    one_counted place rows (slice_get drivers number) row.items
    (sym (slice_get-map passed_of drivers number) ∙ ap (λ (l : List (List ℕ)). slice_get l number) (sym all) ∙ slice_get-map (λ (v : Vec ℕ Global). v.items) held number
    ∙ ap (option_map (λ (v : Vec ℕ Global). v.items)) (slice_get_read held (length held) number row refl lt at)) there

capped : (m a b rows next own : ℕ) → rows ≡ min a m → min own m ≡ min b m → next ≡ min (rows + own) m → next ≡ min (a + b) m
capped m a b rows next own before same came = omega (arith, before, same, came)

-- one more list was counted
pub sum_more : (lists : ℕ → List ℕ) (k rows next own : ℕ) → rows ≡ min (sum (gather k lists)) most_count → min own most_count ≡ min (sum (lists k)) most_count → next ≡ min (rows + own) most_count
    → next ≡ min (sum (gather (k + 1) lists)) most_count
sum_more lists k rows next own before same came =
    capped most_count (sum (gather k lists)) (sum (lists k)) rows next own before same came
    ∙ ap (λ (n : ℕ). min n most_count) (sym (ap sum (gather_more k lists) ∙ sum_by-append (λ (n : ℕ). n) (gather k lists) (lists k)))

-- the count of one driver
pub lane_counted : (list : List ℕ) (own : ℕ) → list ≡ own ∷ [] → min own most_count ≡ min (sum list) most_count
lane_counted list own is =
    let one : own ≡ sum (own ∷ []) = omega arith in
    ap (λ (n : ℕ). min n most_count) (one ∙ ap sum (sym is))

-- and that of one task
pub task_counted : (m b own : ℕ) → own ≡ min b m → min own m ≡ min b m
task_counted m b own is = omega (arith, is)
