-- Texts in one buffer with their ends and marks: what each step on the three lists makes of them.
use Rattle.std.proofs.Common.{◌≡◌, ℕ, ◌+◌, ◌-◌, ◌<◌, ◌≤◌, Bool, true, false, List, [], ◌∷◌, ◌++◌, Option, Some, None, length, get_or, take, drop, map, refl, ap, sym, ◌∙◌, subst, arith, zero, suc, length-drop, length-take, length-append}
use Rattle.std.proofs.lemmas.List.{length-map, take_all, get_or-take, drop-take, get_or_default}
use Rattle.std.specs.Prelude.{All}
use Rattle.std.specs.Str.{IsUtf8}
use Rattle.columns.specs.Pieces.{pieces, EndsRise, AreTexts}
use Rattle.columns.specs.Present.{unless, present}
use Rattle.columns.proofs.PieceLemmas.{rise-at, rise-between, length-pieces, get_or-pieces, rise-append, pieces-append, rise-take, pieces-take, rise-drop, pieces-drop, rise-from, pieces-from, EachUtf8-append, EachUtf8-take, EachUtf8-drop, EachUtf8-at}
use Rattle.columns.proofs.PresentLemmas.{length-present, present-append, present-take, present-drop, present-read_missing, present-read_item}

-- what the three lists show
abbrev pub texts_of : List ℕ → List ℕ → List Bool → List (Option (List ℕ))
texts_of bs es ns = present (pieces 0 es bs) ns

pub AreTexts-append : (bs es cs gs : List ℕ) (ns ms : List Bool) (k : ℕ) → k ≡ length bs → AreTexts bs es ns → AreTexts cs gs ms → AreTexts (bs ++ cs) (es ++ map (λ e. e + k) gs) (ns ++ ms)
AreTexts-append bs es cs gs ns ms k h t u = rw h (record {
  rise = rise-append 0 es (length bs) gs (length cs) (length (bs ++ cs)) (omega (arith, length-append bs cs)) t.rise u.rise;
  marked = let a = t.marked in let b = u.marked in omega (arith, length-append es (map (λ e. e + length bs) gs), length-map gs (λ e. e + length bs), length-append ns ms);
  utf8 = rw (pieces-append 0 es gs bs cs t.rise) (EachUtf8-append (pieces 0 es bs) (pieces 0 gs cs) t.utf8 u.utf8);
})

pub texts_of-append : (bs es cs gs : List ℕ) (ns ms : List Bool) (k : ℕ) → k ≡ length bs → AreTexts bs es ns → AreTexts cs gs ms → texts_of (bs ++ cs) (es ++ map (λ e. e + k) gs) (ns ++ ms) ≡ texts_of bs es ns ++ texts_of cs gs ms
texts_of-append bs es cs gs ns ms k h t u =
    ap (λ n. texts_of (bs ++ cs) (es ++ map (λ e. e + n) gs) (ns ++ ms)) h
    ∙ ap (λ ps. present ps (ns ++ ms)) (pieces-append 0 es gs bs cs t.rise)
    ∙ present-append (pieces 0 es bs) (pieces 0 gs cs) ns ms (length-pieces 0 es bs ∙ t.marked)

-- one text more
AreTexts-one : (c : List ℕ) (m : Bool) → IsUtf8 c → AreTexts c (length c ∷ []) (m ∷ [])
AreTexts-one c m u = record { rise = (omega arith, refl); marked = refl; utf8 = (subst IsUtf8 (sym (take_all (length c - 0) c (omega arith))) u, tt) }

pub AreTexts-push : (bs es c : List ℕ) (e : ℕ) (ns : List Bool) (m : Bool) → e ≡ length (bs ++ c) → IsUtf8 c → AreTexts bs es ns → AreTexts (bs ++ c) (es ++ e ∷ []) (ns ++ m ∷ [])
AreTexts-push bs es c e ns m h u t =
    let P : ℕ → Type 0 = λ n. AreTexts (bs ++ c) (es ++ n ∷ []) (ns ++ m ∷ []) in
    let same : length c + length bs ≡ e = omega (arith, length-append bs c) in
    subst P same (AreTexts-append bs es c (length c ∷ []) ns (m ∷ []) (length bs) refl t (AreTexts-one c m u))

pub texts_of-push : (bs es c : List ℕ) (e : ℕ) (ns : List Bool) (m : Bool) → e ≡ length (bs ++ c) → IsUtf8 c → AreTexts bs es ns → texts_of (bs ++ c) (es ++ e ∷ []) (ns ++ m ∷ []) ≡ texts_of bs es ns ++ unless m c ∷ []
texts_of-push bs es c e ns m h u t =
    let same : e ≡ length c + length bs = omega (arith, length-append bs c) in
    ap (λ n. texts_of (bs ++ c) (es ++ n ∷ []) (ns ++ m ∷ [])) same
    ∙ texts_of-append bs es c (length c ∷ []) ns (m ∷ []) (length bs) refl t (AreTexts-one c m u)
    ∙ ap (λ k. texts_of bs es ns ++ unless m k ∷ []) (take_all (length c - 0) c (omega arith))

pub AreTexts-take : (bs es : List ℕ) (ns : List Bool) (n : ℕ) → n ≤ length es → AreTexts bs es ns → AreTexts (take (get_or (0 ∷ es) n 0) bs) (take n es) (take n ns)
AreTexts-take bs es ns n l t = record {
  rise =
      let within = (rise-between 0 es (length bs) zero n t.rise (omega arith) l).1 in
      let full : length (take (get_or (0 ∷ es) n 0) bs) ≡ get_or (0 ∷ es) n 0 = omega (arith, length-take (get_or (0 ∷ es) n 0) bs) in
      rw full (rise-take 0 es (length bs) n t.rise l);
  marked = let a = t.marked in omega (arith, length-take n es, length-take n ns);
  utf8 = rw (pieces-take 0 es (length bs) n bs t.rise l) (EachUtf8-take n (pieces 0 es bs) t.utf8);
}

pub texts_of-take : (bs es : List ℕ) (ns : List Bool) (n : ℕ) → n ≤ length es → AreTexts bs es ns → texts_of (take (get_or (0 ∷ es) n 0) bs) (take n es) (take n ns) ≡ take n (texts_of bs es ns)
texts_of-take bs es ns n l t =
    ap (λ ps. present ps (take n ns)) (pieces-take 0 es (length bs) n bs t.rise l) ∙ present-take n (pieces 0 es bs) ns

-- from a place on, with the ends counted from where its text begins
pieces-dropped : (bs es : List ℕ) (n s : ℕ) → s ≡ get_or (0 ∷ es) n 0 → n ≤ length es → EndsRise 0 es (length bs) → pieces 0 (map (λ e. e - s) (drop n es)) (drop s bs) ≡ drop n (pieces 0 es bs)
pieces-dropped bs es n s h l r =
    let rest : EndsRise s (drop n es) (length bs) = subst (λ k. EndsRise k (drop n es) (length bs)) (sym h) (rise-drop 0 es (length bs) n r l) in
    let none : 0 ≡ s - s = omega arith in
    ap (λ k. pieces k (map (λ e. e - s) (drop n es)) (drop s bs)) none
    ∙ pieces-from s s (drop n es) (length bs) bs (omega arith) rest
    ∙ ap (λ k. pieces k (drop n es) bs) h
    ∙ pieces-drop 0 es n bs l

pub AreTexts-drop : (bs es : List ℕ) (ns : List Bool) (n s : ℕ) → s ≡ get_or (0 ∷ es) n 0 → n ≤ length es → AreTexts bs es ns → AreTexts (drop s bs) (map (λ e. e - s) (drop n es)) (drop n ns)
AreTexts-drop bs es ns n s h l t = record {
  rise =
      let rest : EndsRise s (drop n es) (length bs) = subst (λ k. EndsRise k (drop n es) (length bs)) (sym h) (rise-drop 0 es (length bs) n t.rise l) in
      let none : s - s ≡ 0 = omega arith in
      let full : length bs - s ≡ length (drop s bs) = sym (length-drop s bs) in
      rw (none, full) at (rise-from s s (drop n es) (length bs) (omega arith) rest);
  marked = let a = t.marked in omega (arith, length-map (drop n es) (λ e. e - s), length-drop n es, length-drop n ns);
  utf8 = rw (pieces-dropped bs es n s h l t.rise) (EachUtf8-drop n (pieces 0 es bs) t.utf8);
}

pub texts_of-drop : (bs es : List ℕ) (ns : List Bool) (n s : ℕ) → s ≡ get_or (0 ∷ es) n 0 → n ≤ length es → AreTexts bs es ns → texts_of (drop s bs) (map (λ e. e - s) (drop n es)) (drop n ns) ≡ drop n (texts_of bs es ns)
texts_of-drop bs es ns n s h l t =
    ap (λ ps. present ps (drop n ns)) (pieces-dropped bs es n s h l t.rise) ∙ present-drop n (pieces 0 es bs) ns

pub length-texts_of : (bs es : List ℕ) (ns : List Bool) → AreTexts bs es ns → length (texts_of bs es ns) ≡ length ns
length-texts_of bs es ns t = length-present (pieces 0 es bs) ns (length-pieces 0 es bs ∙ t.marked)

drop-take-between : {X : Type 0} (i j : ℕ) (xs : List X) → i ≤ j → drop i (take j xs) ≡ take (j - i) (drop i xs)
drop-take-between i j xs l = let split : j ≡ i + (j - i) = omega arith in ap (λ n. drop i (take n xs)) split ∙ drop-take i (j - i) xs

cut-bytes : (bs es : List ℕ) (i j s e : ℕ) → s ≡ get_or (0 ∷ es) i 0 → e ≡ get_or (0 ∷ es) j 0 → i ≤ j → j ≤ length es → EndsRise 0 es (length bs) → drop s (take (get_or (0 ∷ es) j 0) bs) ≡ take (e - s) (drop s bs)
cut-bytes bs es i j s e hs he l m r =
    let order = (rise-between 0 es (length bs) i j r l m).0 in
    ap (λ n. drop s (take n bs)) (sym he) ∙ drop-take-between s e bs (omega arith)

cut-start : (es : List ℕ) (i j : ℕ) → i ≤ j → get_or (0 ∷ es) i 0 ≡ get_or (0 ∷ take j es) i 0
cut-start es i j l = sym (get_or-take (suc j) (0 ∷ es) i 0 (omega arith))

-- the pieces from one place to another, with the ends counted from where the first begins
pub AreTexts-cut : (bs es : List ℕ) (ns : List Bool) (i j s e : ℕ) → s ≡ get_or (0 ∷ es) i 0 → e ≡ get_or (0 ∷ es) j 0 → i ≤ j → j ≤ length es → AreTexts bs es ns → AreTexts (take (e - s) (drop s bs)) (map (λ n. n - s) (take (j - i) (drop i es))) (take (j - i) (drop i ns))
AreTexts-cut bs es ns i j s e hs he l m t =
    let within : i ≤ length (take j es) = omega (arith, length-take j es) in
    let made = AreTexts-drop (take (get_or (0 ∷ es) j 0) bs) (take j es) (take j ns) i s (hs ∙ cut-start es i j l) within (AreTexts-take bs es ns j m t) in
    rw (cut-bytes bs es i j s e hs he l m t.rise, drop-take-between i j es l, drop-take-between i j ns l) at made

pub texts_of-cut : (bs es : List ℕ) (ns : List Bool) (i j s e : ℕ) → s ≡ get_or (0 ∷ es) i 0 → e ≡ get_or (0 ∷ es) j 0 → i ≤ j → j ≤ length es → AreTexts bs es ns → texts_of (take (e - s) (drop s bs)) (map (λ n. n - s) (take (j - i) (drop i es))) (take (j - i) (drop i ns)) ≡ take (j - i) (drop i (texts_of bs es ns))
texts_of-cut bs es ns i j s e hs he l m t =
    let within : i ≤ length (take j es) = omega (arith, length-take j es) in
    let made = texts_of-drop (take (get_or (0 ∷ es) j 0) bs) (take j es) (take j ns) i s (hs ∙ cut-start es i j l) within (AreTexts-take bs es ns j m t) in
    let same = rw (cut-bytes bs es i j s e hs he l m t.rise, drop-take-between i j es l, drop-take-between i j ns l) at made in
    same ∙ ap (drop i) (texts_of-take bs es ns j m t) ∙ drop-take-between i j (texts_of bs es ns) l

-- one text read
pub text-bounds : (bs es : List ℕ) (ns : List Bool) (i s e : ℕ) → s ≡ get_or (0 ∷ es) i 0 → e ≡ get_or es i e → i < length es → AreTexts bs es ns → (s ≤ e) × (e ≤ length bs)
text-bounds bs es ns i s e hs he l t =
    let at = rise-at 0 es (length bs) i t.rise l in
    let same : get_or es i e ≡ get_or es i 0 = get_or_default es i e 0 l in
    (omega (arith, at.0), omega (arith, at.1))

pub text-piece : (bs es : List ℕ) (i s e : ℕ) (d : List ℕ) → s ≡ get_or (0 ∷ es) i 0 → e ≡ get_or es i e → i < length es → get_or (pieces 0 es bs) i d ≡ take (e - s) (drop s bs)
text-piece bs es i s e d hs he l =
    let same : e ≡ get_or es i 0 = he ∙ get_or_default es i e 0 l in
    rw (same, hs) (get_or-pieces 0 es bs i d l)

pub text-utf8 : (bs es : List ℕ) (ns : List Bool) (i s e : ℕ) → s ≡ get_or (0 ∷ es) i 0 → e ≡ get_or es i e → i < length es → AreTexts bs es ns → IsUtf8 (take (e - s) (drop s bs))
text-utf8 bs es ns i s e hs he l t = subst IsUtf8 (text-piece bs es i s e [] hs he l) (EachUtf8-at (pieces 0 es bs) i [] t.utf8 (omega (arith, length-pieces 0 es bs)))

pub text-missing : (bs es : List ℕ) (ns : List Bool) (i : ℕ) (o : Option (List ℕ)) → i < length ns → true ≡ get_or ns i true → AreTexts bs es ns → get_or (texts_of bs es ns) i o ≡ None
text-missing bs es ns i o l r t = present-read_missing (pieces 0 es bs) ns i o l (length-pieces 0 es bs ∙ t.marked) r

pub text-item : (bs es : List ℕ) (ns : List Bool) (i s e : ℕ) (o : Option (List ℕ)) → i < length ns → false ≡ get_or ns i false → s ≡ get_or (0 ∷ es) i 0 → e ≡ get_or es i e → AreTexts bs es ns → get_or (texts_of bs es ns) i o ≡ Some (take (e - s) (drop s bs))
text-item bs es ns i s e o l r hs he t =
    let within : i < length es = let a = t.marked in omega arith in
    present-read_item (pieces 0 es bs) ns i (take (e - s) (drop s bs)) o l (length-pieces 0 es bs ∙ t.marked) r
    (sym (text-piece bs es i s e (take (e - s) (drop s bs)) hs he within))

pub ends-fit : (bs es : List ℕ) (ns : List Bool) (k n : ℕ) → AreTexts bs es ns → k + length bs < n → All (λ e. e + k < n) es
ends-fit bs es ns k n t h = λ i d l.
    let end = (rise-at 0 es (length bs) i t.rise l).1 in
    let same : get_or es i d ≡ get_or es i 0 = get_or_default es i d 0 l in
    omega arith

pub AreTexts-by : (bs es : List ℕ) (ns : List Bool) (cs gs : List ℕ) (ms : List Bool) → cs ≡ bs → gs ≡ es → ms ≡ ns → AreTexts bs es ns → AreTexts cs gs ms
AreTexts-by bs es ns cs gs ms h k l t = rw (h, k, l) t

pub start-le-start : (bs es : List ℕ) (ns : List Bool) (i j : ℕ) → i ≤ j → j ≤ length es → AreTexts bs es ns → get_or (0 ∷ es) i 0 ≤ get_or (0 ∷ es) j 0
start-le-start bs es ns i j l m t = (rise-between 0 es (length bs) i j t.rise l m).0

pub start-le-length : (bs es : List ℕ) (ns : List Bool) (j : ℕ) → j ≤ length es → AreTexts bs es ns → get_or (0 ∷ es) j 0 ≤ length bs
start-le-length bs es ns j m t = (rise-between 0 es (length bs) zero j t.rise (omega arith) m).1

pub ruleset texts = (length-texts_of)

pub ruleset pushes = (texts_of-push)

pub ruleset takes = (length-texts_of, texts_of-take)

pub ruleset cuts = (length-texts_of, start-le-start, start-le-length)

pub ruleset appends = (texts_of-append)

pub ruleset reads = (length-texts_of, text-bounds, text-missing, text-item)
