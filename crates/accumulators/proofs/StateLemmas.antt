-- Steps over the states of the calls, one by one.
use Rattle.std.proofs.Common.{◌≡◌, ℕ, ◌+◌, ◌<◌, zero, suc, List, [], ◌∷◌, ◌++◌, length, get_or, set, drop, take, map, refl, ap, sym, subst, ◌∙◌, arith, append_assoc, drop-cons}
use Rattle.std.specs.Prelude.{All, IsTrue, Result, Ok, Err, ◌&&◌}
use Rattle.std.proofs.lemmas.List.{append-nil, drop-drop, drop_all, length-map, take_all}
use Rattle.std.proofs.lemmas.List.Elements.{All-head, All-tail}
use Rattle.sql_values.specs.declared.value.Value.{Value}
use Rattle.sql_values.specs.declared.fail.Fail.{Fail}
use Rattle.relation_laws.specs.Aggregates.{with_first}
use Rattle.sql_values.specs.Cells.{cell}
use Rattle.accumulators.specs.Columns.{column_of}
use Rattle.accumulators.specs.Kept.{Kept, calls_of, kinds_of}
use Rattle.relation_laws.specs.Partials.{call_width}
use Rattle.accumulators.specs.KeptColumns.{CanMergeAt, CanMergeEachAt, KeptColumn, column_calls, column_kinds, merged_at, merged_each_at}
use Rattle.accumulators.specs.Limits.{takes_cell, takes_row}

-- values, and then those of a row that may have failed
abbrev pub after : List Value → Result (List Value) Fail → Result (List Value) Fail
after values (Ok more) = Ok (values ++ more)
after values (Err kind) = Err kind

pub after-first : (values : List Value) (v : Value) (r : Result (List Value) Fail) → after values (with_first v r) ≡ after (values ++ v ∷ []) r
after-first values v (Ok more) = ap Ok (sym (append_assoc values (v ∷ []) more))
after-first values v (Err kind) = refl

pub after-none : (r : Result (List Value) Fail) → r ≡ after [] r
after-none (Ok more) = refl
after-none (Err kind) = refl

-- of the items that are as they were, the next one
pub next-as_before : {X : Type 0} (P : X → Type 0) (now before : List X) (i : ℕ) (x : X) → drop i now ≡ drop i before → i < length now → All P (drop i before) → P (get_or now i x)
next-as_before P now before i x same lt all =
    All-head P (get_or now i x) (drop (suc i) now) (subst (λ ks. All P ks) (sym same ∙ drop-cons now i x lt) all)

-- one state that took a row: the first have, the others are as they were
pub set-stays : {X Y : Type 0} (f : X → Y) (items : List X) (i : ℕ) (x k : X) → f x ≡ f (get_or items i k) → map f (set items i x) ≡ map f items
set-stays f [] i x k e = refl
set-stays f (y ∷ ys) zero x k e = ap (λ v. v ∷ map f ys) e
set-stays f (y ∷ ys) (suc i) x k e = ap (λ vs. f y ∷ vs) (set-stays f ys i x k e)

take-set : {X : Type 0} (items : List X) (i : ℕ) (x : X) → i < length items → take (suc i) (set items i x) ≡ take i items ++ x ∷ []
take-set [] i x lt = absurd (omega (arith, lt))
take-set (y ∷ ys) zero x lt = refl
take-set (y ∷ ys) (suc i) x lt = ap (λ ks. y ∷ ks) (take-set ys i x (omega (arith, lt)))

drop-set : {X : Type 0} (items : List X) (i : ℕ) (x : X) → drop (suc i) (set items i x) ≡ drop (suc i) items
drop-set [] i x = refl
drop-set (y ∷ ys) zero x = refl
drop-set (y ∷ ys) (suc i) x = drop-set ys i x

module _ {X : Type 0} (items before : List X) (i : ℕ) (x d : X) (same : drop i items ≡ drop i before) (lt : i < length items) (level : length items ≡ length before) where
  one : suc i ≡ i + 1
  one = omega arith

  heads : (get_or items i d ∷ drop (suc i) items) ≡ (get_or before i d ∷ drop (suc i) before)
  heads = sym (drop-cons items i d lt) ∙ same ∙ drop-cons before i d (omega (arith, lt, level))

  pub next-same : get_or items i d ≡ get_or before i d
  next-same = ap (λ ks. get_or ks 0 d) heads

  pub next-head : drop i before ≡ get_or items i d ∷ drop (i + 1) before
  next-head = drop-cons before i d (omega (arith, lt, level)) ∙ (λ k. sym next-same k ∷ drop (one k) before)

  pub next-others : drop (i + 1) (set items i x) ≡ drop (i + 1) before
  next-others =
      ap (λ n. drop n (set items i x)) (sym one) ∙ drop-set items i x ∙ ap (λ ks. drop 1 ks) heads ∙ ap (λ n. drop n before) one

  -- what the next one made, in front of what the others make
  pub next-in_front : (made rest whole : List X) → made ≡ x ∷ rest → whole ≡ take i items ++ made → whole ≡ take (i + 1) (set items i x) ++ rest
  next-in_front made rest whole is e =
      e ∙ ap (λ ks. take i items ++ ks) is
      ∙ sym (append_assoc (take i items) (x ∷ []) rest)
      ∙ ap (λ ks. ks ++ rest) (sym (take-set items i x lt))
      ∙ ap (λ n. take n (set items i x) ++ rest) one

  pub next-added : (f : X → X) → x ≡ f (get_or items i d) → map f before ≡ take i items ++ map f (drop i before)
      → map f before ≡ take (i + 1) (set items i x) ++ map f (drop (i + 1) before)
  next-added f is e =
      let rest = map f (drop (i + 1) before) in
      next-in_front (map f (drop i before)) rest (map f before) (ap (map f) next-head ∙ ap (λ k. k ∷ rest) (sym is)) e

  pub next-can : (P : X → Type 0) → All P (drop i before) → All P (drop (i + 1) before)
  next-can P all =
      subst (λ n. All P (drop n before)) one
      (All-tail P (get_or before i d) (drop (suc i) before) (subst (λ ks. All P ks) (drop-cons before i d (omega (arith, lt, level))) all))

-- of a row that the next call can take
pub next-fits : (items before : List Kept) (i : ℕ) (x d : Kept) → drop i items ≡ drop i before → i < length items → length items ≡ length before → (row : List Value)
    → IsTrue (takes_cell (get_or items i d).kind (get_or items i d).call (cell row (column_of (get_or items i d).call)))
    → takes_row (calls_of (drop i before)) (kinds_of (drop i before)) row ≡ takes_row (calls_of (drop (i + 1) before)) (kinds_of (drop (i + 1) before)) row
next-fits items before i x d same lt level row fits =
    ap (λ ks. takes_row (calls_of ks) (kinds_of ks) row) (next-head items before i x d same lt level)
    ∙ ap (λ b. b && takes_row (calls_of (drop (i + 1) before)) (kinds_of (drop (i + 1) before)) row) fits

-- and of what is kept for all groups
pub next-fits_all : (items before : List KeptColumn) (i : ℕ) (x d : KeptColumn) → drop i items ≡ drop i before → i < length items → length items ≡ length before → (row : List Value)
    → IsTrue (takes_cell (get_or items i d).kind (get_or items i d).call (cell row (column_of (get_or items i d).call)))
    → takes_row (column_calls (drop i before)) (column_kinds (drop i before)) row ≡ takes_row (column_calls (drop (i + 1) before)) (column_kinds (drop (i + 1) before)) row
next-fits_all items before i x d same lt level row fits =
    ap (λ ks. takes_row (column_calls ks) (column_kinds ks) row) (next-head items before i x d same lt level)
    ∙ ap (λ b. b && takes_row (column_calls (drop (i + 1) before)) (column_kinds (drop (i + 1) before)) row) fits

-- columns one behind the other
pub next-merged : (place : ℕ) (items before : List KeptColumn) (i : ℕ) (x d : KeptColumn) → drop i items ≡ drop i before → i < length items → length items ≡ length before
    → (whole : List KeptColumn) (row : List Value) (from next : ℕ) → next ≡ from + call_width (get_or items i d).call → x ≡ merged_at place (drop from row) (get_or items i d)
    → whole ≡ take i items ++ merged_each_at place (drop i before) (drop from row)
    → whole ≡ take (i + 1) (set items i x) ++ merged_each_at place (drop (i + 1) before) (drop next row)
next-merged place items before i x d same lt level whole row from next to is e =
    let k = get_or items i d in
    let behind : drop (call_width k.call) (drop from row) ≡ drop next row = drop-drop (call_width k.call) from row ∙ ap (λ n. drop n row) (sym to) in
    next-in_front items before i x d same lt level (merged_each_at place (drop i before) (drop from row)) (merged_each_at place (drop (i + 1) before) (drop next row)) whole
    (ap (λ ks. merged_each_at place ks (drop from row)) (next-head items before i x d same lt level)
    ∙ (λ j. sym is j ∷ merged_each_at place (drop (i + 1) before) (behind j))) e

pub next-can_merge : (place : ℕ) (items before : List KeptColumn) (i : ℕ) (x d : KeptColumn) → drop i items ≡ drop i before → i < length items → length items ≡ length before
    → (row : List Value) (from next : ℕ) → next ≡ from + call_width (get_or items i d).call → CanMergeEachAt place (drop i before) (drop from row)
    → CanMergeAt place (drop from row) (get_or items i d) × CanMergeEachAt place (drop (i + 1) before) (drop next row)
next-can_merge place items before i x d same lt level row from next to can =
    let k = get_or items i d in
    let behind : drop (call_width k.call) (drop from row) ≡ drop next row = drop-drop (call_width k.call) from row ∙ ap (λ n. drop n row) (sym to) in
    let both = subst (λ (ks : List KeptColumn). CanMergeEachAt place ks (drop from row)) (next-head items before i x d same lt level) can in
    (both.0, subst (λ (cs : List Value). CanMergeEachAt place (drop (i + 1) before) cs) behind both.1)

-- written back in the midst of the walk
pub written-back : {X Y : Type 0} (f : X → Y) (whole now : List X) (len : ℕ) → len ≡ length whole → map f now ≡ map f whole → map f (take len (now ++ drop (length now) whole)) ≡ map f whole
written-back f whole now len e same =
    let level : length now ≡ length whole = omega (arith, ap length same, length-map now f, length-map whole f) in
    ap (λ ks. map f (take len (now ++ ks))) (drop_all (length now) whole (omega (arith, level)))
    ∙ ap (map f) (ap (take len) (append-nil now) ∙ take_all len now (omega (arith, e, level)))
    ∙ same
