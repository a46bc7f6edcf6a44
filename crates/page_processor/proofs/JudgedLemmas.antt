-- What is given before the first failure, as the rows before a place.
use Rattle.std.proofs.Common.{◌≡◌, ◌++◌, ◌+◌, ℕ, zero, suc, List, [], ◌∷◌, refl, ap, sym, ◌∙◌, arith}
use Rattle.std.specs.List.{range_with_len}
use Rattle.sql_values.specs.declared.value.Value.{Value}
use Rattle.relation_laws.specs.Verdicts.{Verdict, keeps, drops, fails}
use Rattle.page_processor.specs.Judged.{IsJudged, first_failure, rows_before}

module _ (judge : List Value → Verdict) where
  one_more : (row : List Value) (rows : List (List Value)) (verdict : Verdict) → judge row ≡ verdict
      → IsJudged judge rows (rows_before judge rows) (first_failure judge rows) → IsJudged judge (row ∷ rows) (rows_before judge (row ∷ rows)) (first_failure judge (row ∷ rows))
  one_more row rows (keeps r) h rest = record {
    count = suc rest.count;
    calm = rw h rest.calm;
    are_kept = rw h (ap (λ xs. r ∷ xs) rest.are_kept);
    stops = rw h rest.stops;
  }
  one_more row rows drops h rest = record {
    count = suc rest.count;
    calm = rw h rest.calm;
    are_kept = rw h rest.are_kept;
    stops = rw h rest.stops;
  }
  one_more row rows (fails kind) h rest = record {
    count = 0;
    calm = refl;
    are_kept = rw h refl;
    stops = rw h (row, rows, refl, h);
  }

  pub is_judged : (rows : List (List Value)) → IsJudged judge rows (rows_before judge rows) (first_failure judge rows)
  is_judged [] = record { count = 0; calm = refl; are_kept = refl; stops = refl }
  is_judged (row ∷ rows) = one_more row rows (judge row) refl (is_judged rows)

ranged : (n m : ℕ) → range_with_len n (suc m) ≡ range_with_len n m ++ (n + m) ∷ []
ranged n zero = ap (λ k. k ∷ []) (omega arith)
ranged n (suc m) = ap (λ ks. n ∷ ks) (ranged (n + 1) m ∙ ap (λ k. range_with_len (n + 1) m ++ k ∷ []) (omega arith))

pub range_more : (items next : List ℕ) (n : ℕ) → items ≡ range_with_len 0 n → next ≡ items ++ n ∷ [] → next ≡ range_with_len 0 (n + 1)
range_more items next n h e =
    let more : range_with_len 0 (suc n) ≡ range_with_len 0 n ++ (0 + n) ∷ [] = ranged 0 n in
    let here : n ≡ 0 + n = omega arith in
    let count : suc n ≡ n + 1 = omega arith in
    e ∙ ap (λ xs. xs ++ n ∷ []) h ∙ ap (λ k. range_with_len 0 n ++ k ∷ []) here ∙ sym more ∙ ap (range_with_len 0) count
