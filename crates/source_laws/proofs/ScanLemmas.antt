-- What several scans of one table gave, and what they left.
use Rattle.std.proofs.Common.{◌≡◌, ◌-◌, ◌<◌, ℕ, List, [], ◌∷◌, ◌++◌, true, length, map, drop, refl, ap, sym, ◌∙◌, append_assoc, arith}
use Rattle.std.specs.Prelude.{All, flat_map}
use Rattle.std.specs.List.{range_with_len}
use Rattle.std.proofs.lemmas.List.{length-drop, map-append, nil_from_length, take-append-drop}
use Rattle.std.proofs.lemmas.List.Concat.{flat_map-append}
use Rattle.std.proofs.lemmas.List.Elements.{All-cons, All-nil, All-tail}
use Rattle.sql_values.specs.Bags.{SubBag}
use Rattle.sql_values.specs.Cells.{cut}
use Rattle.sql_values.specs.declared.value.Value.{Value}
use Rattle.bag_laws.specs.Weights.{SameWeights}
use Rattle.bag_laws.proofs.BagLemmas.{same-append, same-exchange, same-flat_map, same-from_equal, same-from_permutation, same-map, same-refl, same-trans}
use Rattle.split_source.specs.Gathered.{AreDistinct, AreWhole}
use Rattle.split_source.specs.Scans.{ScanState, claimed, given}
use Rattle.split_source.specs.Seats.{AllEnded, SeatState, numbers_of}
use Rattle.split_source.specs.Splits.{rows_of_splits, split_count, split_of}
use Rattle.split_source.proofs.SplitLemmas.{all_splits}
use Rattle.plan_run_laws.specs.Stops.{Hop}
use Rattle.source_laws.specs.Scans.{AreDrained, AreEnded, AreScansOf, IsScanOf, rows_scanned, seats_of}
use Rattle.source_laws.proofs.PutLemmas.{none_over}

abbrev left_of : ScanState → List (List Value)
left_of s = drop (length (claimed s) - s.left) (claimed s)

abbrev all_left : List ScanState → List (List Value)
all_left scans = flat_map left_of scans

given_and_left : (scans : List ScanState) → SameWeights (rows_scanned scans ++ all_left scans) (flat_map claimed scans)
given_and_left [] = same-refl []
given_and_left (s ∷ scans) =
    same-trans (same-exchange (given s) (rows_scanned scans) (left_of s) (all_left scans))
    (same-append (same-from_equal (take-append-drop (length (claimed s) - s.left) (claimed s))) (given_and_left scans))

module _ (rows : List (List Value)) (columns : List ℕ) (size : ℕ) where
  claimed_is : (s : ScanState) → IsScanOf rows columns size s → claimed s ≡ map (cut columns) (rows_of_splits size rows s.seat.numbers)
  claimed_is s is = λ i. map (cut (is.cut_to i)) (rows_of_splits (is.sized i) (is.of i) s.seat.numbers)

  claimed_all : (scans : List ScanState) → All (IsScanOf rows columns size) scans → flat_map claimed scans ≡ map (cut columns) (rows_of_splits size rows (numbers_of (seats_of scans)))
  claimed_all [] each = refl
  claimed_all (s ∷ scans) each =
      let more = numbers_of (seats_of scans) in
      (λ i. claimed_is s (each 0 s (omega arith)) i ++ claimed_all scans (All-tail (IsScanOf rows columns size) s scans each) i)
      ∙ sym (map-append (cut columns) (rows_of_splits size rows s.seat.numbers) (rows_of_splits size rows more))
      ∙ ap (map (cut columns)) (sym (flat_map-append (split_of size rows) s.seat.numbers more))

  -- the splits of all numbers, in any order, have the rows
  all_rows : (numbers : List ℕ) → 0 < size → SameWeights numbers (range_with_len 0 (split_count (length rows) size))
      → SameWeights (map (cut columns) (rows_of_splits size rows numbers)) (map (cut columns) rows)
  all_rows numbers some same = same-map (cut columns) (same-trans (same-flat_map (split_of size rows) same) (same-from_equal (all_splits size rows some)))

  none_left : (s : ScanState) → s.left ≡ 0 → left_of s ≡ []
  none_left s none = ap (λ (n : ℕ). drop (length (claimed s) - n) (claimed s)) none ∙ drop_all (claimed s)
    where
      drop_all : (xs : List (List Value)) → drop (length xs - 0) xs ≡ []
      drop_all xs = nil_from_length (drop (length xs - 0) xs) (omega (arith, length-drop (length xs - 0) xs))

  all_drained : (scans : List ScanState) → AreDrained scans → AreEnded scans → all_left scans ≡ []
  all_drained [] drained ended = refl
  all_drained (s ∷ scans) drained ended =
      let here : left_of s ≡ [] = none_left s (drained 0 s (omega arith) (ended 0 s (omega arith))) in
      let rest : all_left scans ≡ [] =
      all_drained scans (All-tail (λ (scan : ScanState). scan.seat.is_ended ≡ true → scan.left ≡ 0) s scans drained) (All-tail (λ (scan : ScanState). scan.seat.is_ended ≡ true) s scans ended) in
      λ i. here i ++ rest i

  seats_ended : (scans : List ScanState) → AreEnded scans → AllEnded (seats_of scans)
  seats_ended [] ended = All-nil (λ (seat : SeatState). seat.is_ended ≡ true)
  seats_ended (s ∷ scans) ended =
      All-cons (λ (seat : SeatState). seat.is_ended ≡ true) s.seat (seats_of scans) (ended 0 s (omega arith))
      (seats_ended scans (All-tail (λ (scan : ScanState). scan.seat.is_ended ≡ true) s scans ended))

  -- of a table that several scans read, what all of them gave
  pub scans_hop : (scans : List ScanState) → AreScansOf rows columns size scans → AreDistinct (seats_of scans) → AreWhole (seats_of scans) → AreDrained scans
      → Hop (map (cut columns) rows) (rows_scanned scans) (AreEnded scans) (Unit {0})
  scans_hop scans are distinct whole drained = record {
    left = all_left scans ++ map (cut columns) (rows_of_splits size rows others.0);
    some = same-trans (same-from_equal (sym (append_assoc (rows_scanned scans) (all_left scans) (map (cut columns) (rows_of_splits size rows others.0)))))
        (same-trans (same-append (same-trans (given_and_left scans) (same-from_equal (claimed_all scans are.each))) (same-refl (map (cut columns) (rows_of_splits size rows others.0))))
        (same-trans (same-from_equal (sym (map-append (cut columns) (rows_of_splits size rows numbers) (rows_of_splits size rows others.0)) ∙ ap (map (cut columns)) (sym (flat_map-append (split_of size rows) numbers others.0))))
        (all_rows (numbers ++ others.0) are.some counted)));
    all = λ ended.
        let drawn : SameWeights numbers all_numbers = same-trans (same-from_permutation (whole are.claims are.seats (seats_ended scans ended))) (same-from_equal (ap (range_with_len 0) are.count)) in
        let none : others.0 ≡ [] = none_over numbers others.0 all_numbers counted drawn in
        let first : all_left scans ≡ [] = all_drained scans drained ended in
        λ i. first i ++ map (cut columns) (rows_of_splits size rows (none i));
    closed = λ ended. tt;
  }
    where
      numbers : List ℕ
      numbers = numbers_of (seats_of scans)

      all_numbers : List ℕ
      all_numbers = range_with_len 0 (split_count (length rows) size)

      others : SubBag numbers (range_with_len 0 are.claims.of.count)
      others = distinct are.claims are.seats

      counted : SameWeights (numbers ++ others.0) all_numbers
      counted = same-trans (same-from_permutation others.1) (same-from_equal (ap (range_with_len 0) are.count))
