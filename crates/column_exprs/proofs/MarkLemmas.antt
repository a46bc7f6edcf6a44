-- Marks of a comparison, as a loop writes them.
use Rattle.std.proofs.Common.{◌≡◌, ℕ, ◌+◌, ◌-◌, ◌<◌, ◌≤◌, zero, suc, Bool, true, false, List, [], ◌∷◌, ◌++◌, length, map, take, drop, set, get_or, refl, ap, sym, ◌∙◌, subst, arith, FitsSigned, w64}
use Rattle.std.specs.Prelude.{ℤ, pos, if◌then◌else◌}
use mir.Val.{of_z, to_z}
use lib.Lanes.{zip2, Each1, chunk, put_chunk}
use Rattle.std.specs.Ordering.{int_cmp}
use Rattle.std.proofs.Math.Seq.{take-add}
use Rattle.std.proofs.lemmas.Int.{to_z-of_z}
use Rattle.std.proofs.lemmas.List.{append_assoc, length-map, take-map, drop-map, take_all, take_more, take_more_set, length-set, get_or-map, get_or-replicate, take-replicate, drop-replicate, length-replicate}
use Rattle.std.proofs.lemmas.Simd.{length-zip2, length-chunk, length-put_chunk, take_more_put_chunk, get_or-zip2, pick_l-range_with_len}
use Rattle.column_exprs.specs.declared.compare.Compare.{Compare}
use Rattle.column_exprs.specs.declared.lanes.Numbers.{Numbers}
use Rattle.column_exprs.specs.declared.lanes.Numbers.TheVariants.{Column, Single}
use Rattle.column_exprs.specs.Comparisons.{holds}
use Rattle.column_exprs.specs.Lanes.{AreMarked, HasLanes, HasNumbers, HasPlace, is_marked, lane, lanes_from, mark, marked, number_at, numbers, truths}

-- lanes that go through a register are kept
pub kept : (xs : List ℤ) → Each1 (FitsSigned w64) xs → map (to_z w64) (map (of_z w64) xs) ≡ xs
kept [] fits = refl
kept (x ∷ xs) fits = λ i. to_z-of_z w64 x fits.0 i ∷ kept xs fits.1 i

pub kept_fits : (xs : List ℤ) → Each1 (FitsSigned w64) xs → Each1 (FitsSigned w64) (map (to_z w64) (map (of_z w64) xs))
kept_fits xs fits = subst (Each1 (FitsSigned w64)) (sym (kept xs fits)) fits

pub kept_lanes : (ts : List Bool) → map (to_z w64) (map (of_z w64) (map lane ts)) ≡ map lane ts
kept_lanes [] = refl
kept_lanes (true ∷ ts) = λ i. lane true ∷ kept_lanes ts i
kept_lanes (false ∷ ts) = λ i. lane false ∷ kept_lanes ts i

-- eight items from a place on
pub eight_items : (xs : List ℤ) (at : ℕ) → at + 8 ≤ length xs
    → get_or xs at (pos 0) ∷ get_or xs (at + 1) (pos 0) ∷ get_or xs (at + 2) (pos 0) ∷ get_or xs (at + 3) (pos 0) ∷ get_or xs (at + 4) (pos 0) ∷ get_or xs (at + 5) (pos 0) ∷ get_or xs (at + 6) (pos 0) ∷ get_or xs (at + 7) (pos 0) ∷ []
    ≡ chunk at 8 xs
eight_items xs at le =
    let item : ℕ → ℤ = λ k. get_or xs k (pos 0) in
    let b : at + 2 ≡ at + 1 + 1 = omega arith in
    let c : at + 3 ≡ at + 1 + 1 + 1 = omega arith in
    let d : at + 4 ≡ at + 1 + 1 + 1 + 1 = omega arith in
    let e : at + 5 ≡ at + 1 + 1 + 1 + 1 + 1 = omega arith in
    let f : at + 6 ≡ at + 1 + 1 + 1 + 1 + 1 + 1 = omega arith in
    let g : at + 7 ≡ at + 1 + 1 + 1 + 1 + 1 + 1 + 1 = omega arith in
    (λ i. item at ∷ item (at + 1) ∷ item (b i) ∷ item (c i) ∷ item (d i) ∷ item (e i) ∷ item (f i) ∷ item (g i) ∷ [])
    ∙ pick_l-range_with_len (pos 0) xs at 8 le

-- a part of what is made of two lists
take_zip : {A B C : Type 0} (f : A → B → C) (n : ℕ) (xs : List A) (ys : List B) → take n (zip2 f xs ys) ≡ zip2 f (take n xs) (take n ys)
take_zip f zero xs ys = refl
take_zip f (suc n) [] ys = refl
take_zip f (suc n) (x ∷ xs) [] = refl
take_zip f (suc n) (x ∷ xs) (y ∷ ys) = λ i. f x y ∷ take_zip f n xs ys i

drop_zip : {A B C : Type 0} (f : A → B → C) (n : ℕ) (xs : List A) (ys : List B) → length ys ≡ length xs → drop n (zip2 f xs ys) ≡ zip2 f (drop n xs) (drop n ys)
drop_zip f zero xs ys e = refl
drop_zip f (suc n) [] ys e = refl
drop_zip f (suc n) (x ∷ xs) [] e = cc
drop_zip f (suc n) (x ∷ xs) (y ∷ ys) e = drop_zip f n xs ys (omega (arith, e))

module _ (op : Compare) (xs ys : List ℤ) (same : length ys ≡ length xs) where
  abbrev all : List ℕ
  all = map mark (truths op xs ys)

  all_length : length all ≡ length xs
  all_length = length-map (truths op xs ys) mark ∙ length-zip2 (λ x y. holds op (int_cmp x y)) xs ys (sym same)

  all_chunk : (at n : ℕ) → chunk at n all ≡ map mark (truths op (chunk at n xs) (chunk at n ys))
  all_chunk at n =
      ap (take n) (drop-map mark at (truths op xs ys) ∙ ap (map mark) (drop_zip (λ x y. holds op (int_cmp x y)) at xs ys same))
      ∙ take-map mark n (truths op (drop at xs) (drop at ys)) ∙ ap (map mark) (take_zip (λ x y. holds op (int_cmp x y)) n (drop at xs) (drop at ys))

  all_at : (k : ℕ) → k < length xs → get_or all k 0 ≡ mark (holds op (int_cmp (get_or xs k (pos 0)) (get_or ys k (pos 0))))
  all_at k l =
      get_or-map mark (truths op xs ys) k false 0 (omega (arith, l, length-zip2 (λ x y. holds op (int_cmp x y)) xs ys (sym same)))
      ∙ ap mark (get_or-zip2 (λ x y. holds op (int_cmp x y)) xs ys k (pos 0) (pos 0) false l (omega (arith, l, same)))

  pub eight_marked : (at : ℕ) (out ms : List ℕ) → at + 8 ≤ length xs → AreMarked op xs ys at out → ms ≡ map mark (truths op (chunk at 8 xs) (chunk at 8 ys)) → AreMarked op xs ys (at + 8) (put_chunk at out ms)
  eight_marked at out ms le h e =
      let is : ms ≡ chunk at 8 all = e ∙ sym (all_chunk at 8) in
      let long : length ms ≡ 8 = ap length is ∙ length-chunk at 8 all (omega (arith, le, all_length)) in
      record {
        len = length-put_chunk at out ms ∙ h.len;
        front = take_more_put_chunk at out ms (at + 8) (omega (arith, long)) (omega (arith, le, h.len)) ∙ (λ i. h.front i ++ is i) ∙ sym (take-add at 8 all);
      }

  pub one_marked : (at : ℕ) (out : List ℕ) (m : ℕ) → at < length xs → AreMarked op xs ys at out → m ≡ mark (holds op (int_cmp (get_or xs at (pos 0)) (get_or ys at (pos 0)))) → AreMarked op xs ys (at + 1) (set out at m)
  one_marked at out m l h e = record {
    len = length-set out at m ∙ h.len;
    front =
        take_more_set out at m (omega (arith, l, h.len)) ∙ (λ i. h.front i ++ (e ∙ sym (all_at at l)) i ∷ [])
        ∙ sym (take_more all at 0 (omega (arith, l, all_length)));
  }

  pub none_marked : (out : List ℕ) → length out ≡ length xs → AreMarked op xs ys 0 out
  none_marked out e = record { len = e; front = refl }

  pub all_marked : (count : ℕ) (out : List ℕ) → length xs ≤ count → AreMarked op xs ys count out → out ≡ all
  all_marked count out le h =
      sym (take_all count out (omega (arith, le, h.len))) ∙ h.front ∙ take_all count all (omega (arith, le, all_length))

-- marks that are read back
pub marks_read : (ts : List Bool) → map is_marked (map mark ts) ≡ ts
marks_read [] = refl
marks_read (true ∷ ts) = λ i. true ∷ marks_read ts i
marks_read (false ∷ ts) = λ i. false ∷ marks_read ts i

-- the numbers of a column, or a single one
pub numbers_length : (b : Numbers) (n : ℕ) → HasNumbers b n → length (numbers b n) ≡ n
numbers_length (Column items) n h = h
numbers_length (Single z) n h = length-replicate n z

pub numbers_chunk : (b : Numbers) (n at : ℕ) → HasNumbers b n → at + 8 ≤ n → lanes_from b at ≡ chunk at 8 (numbers b n)
numbers_chunk (Column items) n at h le = refl
numbers_chunk (Single z) n at h le =
    let few : 8 ≤ n - at = omega (arith, le) in
    sym (ap (take 8) (drop-replicate at n z) ∙ take-replicate 8 (n - at) z few)

pub numbers_lanes : (b : Numbers) (n at : ℕ) → HasNumbers b n → at + 8 ≤ n → HasLanes b at
numbers_lanes (Column items) n at h le = omega (arith, h, le)
numbers_lanes (Single z) n at h le = tt

pub numbers_place : (b : Numbers) (n k : ℕ) → HasNumbers b n → k < n → HasPlace b k
numbers_place (Column items) n k h l = omega (arith, h, l)
numbers_place (Single z) n k h l = tt

pub numbers_at : (b : Numbers) (n k : ℕ) → k < n → number_at b k ≡ get_or (numbers b n) k (pos 0)
numbers_at (Column items) n k l = refl
numbers_at (Single z) n k l = sym (get_or-replicate n k z (pos 0) l)

-- the places of one mark more
pub marked_more : (ms ps : List ℕ) (k : ℕ) → k < length ms → k < length ps
    → marked (take (k + 1) ms) (take (k + 1) ps) ≡ marked (take k ms) (take k ps) ++ (if is_marked (get_or ms k 0) then get_or ps k 0 ∷ [] else [])
marked_more ms ps k l m = ap (λ n. marked (take n ms) (take n ps)) step ∙ more ms ps k l m
  where
    step : k + 1 ≡ suc k
    step = omega arith

    first : (b : Bool) (p : ℕ) → (if b then p ∷ [] else []) ≡ [] ++ (if b then p ∷ [] else [])
    first b p = refl

    behind : (b : Bool) (p : ℕ) (xs ys : List ℕ) → (if b then p ∷ (xs ++ ys) else xs ++ ys) ≡ (if b then p ∷ xs else xs) ++ ys
    behind true p xs ys = refl
    behind false p xs ys = refl

    more : (ms ps : List ℕ) (k : ℕ) → k < length ms → k < length ps
        → marked (take (suc k) ms) (take (suc k) ps) ≡ marked (take k ms) (take k ps) ++ (if is_marked (get_or ms k 0) then get_or ps k 0 ∷ [] else [])
    more [] ps k l m = grind arith
    more (x ∷ ms) [] k l m = grind arith
    more (x ∷ ms) (p ∷ ps) zero l m = refl
    more (x ∷ ms) (p ∷ ps) (suc k) l m =
        ap (λ qs. if is_marked x then p ∷ qs else qs) (more ms ps k (omega (arith, l)) (omega (arith, m)))
        ∙ behind (is_marked x) p (marked (take k ms) (take k ps)) (if is_marked (get_or ms k 0) then get_or ps k 0 ∷ [] else [])

pub places_more : (old now new ms ps : List ℕ) (k : ℕ) → length ms ≡ length ps → k < length ps → now ≡ old ++ marked (take k ms) (take k ps)
    → new ≡ now ++ (if is_marked (get_or ms k 0) then get_or ps k 0 ∷ [] else []) → new ≡ old ++ marked (take (k + 1) ms) (take (k + 1) ps)
places_more old now new ms ps k same l e f =
    let here = if is_marked (get_or ms k 0) then get_or ps k 0 ∷ [] else [] in
    f ∙ ap (λ qs. qs ++ here) e ∙ append_assoc old (marked (take k ms) (take k ps)) here ∙ ap (λ qs. old ++ qs) (sym (marked_more ms ps k (omega (arith, same, l)) l))
