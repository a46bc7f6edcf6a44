-- Laws of the operators that hold rows back or have a note.
use Rattle.std.proofs.Common.{◌≡◌, ℕ, ◌-◌, ◌+◌, List, [], ◌∷◌, ◌++◌, length, take, Bool, true, false, refl, sym, ap, ◌∙◌, append_assoc, append-nil, arith, zero, suc, Option, Some, None, inl, inr, not, ◌&&◌, ◌||◌}
use Rattle.std.proofs.lemmas.Bool.{leb-true}
use Rattle.std.specs.Prelude.{◌≤◌, ◌↔◌, is_some, min, unwrap_or, nat_le}
use Rattle.operator_core.specs.Rows.{Row, Coming}
use Rattle.operator_core.specs.Samples.{has_row}
use Rattle.operator_core.specs.SampleLaws.{has_row-none}
use Rattle.operator_core.specs.NoteLaws.{take-none}
use Rattle.operator_examples.specs.Samples.{IsPartOf, is_reached, LimitGives, WantedGives}

-- what `AtEnd` has left is what it holds
pub held-rest : (told : Bool) (held B : List Row) → told ≡ true → B ≡ held ++ [] → ((told && has_row held) ≡ false) ↔ (B ≡ [])
held-rest true held B t e = let h = has_row-none held in let same : B ≡ held = e ∙ append-nil held in ((λ f. same ∙ h.0 f), (λ f. h.1 (sym same ∙ f)))
held-rest false held B t e = cc

-- `NotedLimit`
pub limit-some : (known : Option ℕ) (passed : ℕ) (held X : List Row) → (B : List Row) × LimitGives known passed held X B
limit-some (Some n) passed held X = (_, (n, refl, refl))
limit-some None passed held X = (_, (0, tt, refl))

pub limit-rest : (known : Option ℕ) (passed : ℕ) (held B : List Row) → LimitGives known passed held [] B → (has_row held ≡ false) ↔ (B ≡ [])
limit-rest known passed held B g =
    let h = has_row-none held in
    let same : B ≡ held = g.2 ∙ ap (λ x. held ++ x) (take-none (g.0 - passed)) ∙ append-nil held in
    ((λ f. same ∙ h.0 f), (λ f. h.1 (sym same ∙ f)))

pub limit-needs_none : (known told held full : Bool) → (known && not ((told || held) || full)) ≡ true → told ≡ false
limit-needs_none false told held full e = cc
limit-needs_none true true held full e = cc
limit-needs_none true false held full e = refl

pub limit-needs : (known told held full : Bool) → told ≡ false → held ≡ false → known ≡ true → full ≡ false → (known && not ((told || held) || full)) ≡ true
limit-needs true told held full t h w f = rw (t, h, f) refl
limit-needs false told held full t h w f = cc

-- once its number is reached it needs no input, and gives what it holds
pub reached-needs_none : (known told held full : Bool) → full ≡ true → (known && not ((told || held) || full)) ≡ false
reached-needs_none false told held full e = refl
reached-needs_none true true held full e = refl
reached-needs_none true false true full e = refl
reached-needs_none true false false full e = rw e refl

none-left : (n passed : ℕ) → nat_le n passed ≡ true → n - passed ≡ 0
none-left n passed e = let fits : n ≤ passed = leb-true n passed e in omega arith

reached-same : (k passed n : ℕ) (held X Y : List Row) → k - passed ≡ 0 → n ≡ k → held ++ take (n - passed) X ≡ held ++ take (n - passed) Y
reached-same k passed n held X Y left e = let z : n - passed ≡ 0 = rw e left in rw z refl

pub reached-gives : (known : Option ℕ) (passed : ℕ) (held X B : List Row) → is_reached known passed ≡ true
    → LimitGives known passed held X B ↔ LimitGives known passed held [] B
reached-gives None passed held X B e = cc
reached-gives (Some k) passed held X B e =
    let left : k - passed ≡ 0 = none-left k passed e in
    ((λ g. (g.0, g.1, g.2 ∙ reached-same k passed g.0 held X [] left g.1)), (λ g. (g.0, g.1, g.2 ∙ reached-same k passed g.0 held [] X left g.1)))

over-none : (told : Bool) (held Z : List Row) → Coming told Z → (told && not (has_row held)) ≡ true → (held ++ Z) ≡ []
over-none true [] Z coming e = coming
over-none true (row ∷ rows) Z coming e = cc
over-none false held Z coming e = cc

over-told : (told : Bool) (held Z : List Row) → Coming told Z → (told && not (has_row held)) ≡ true → Z ≡ []
over-told true held Z coming e = coming
over-told false held Z coming e = cc

-- it goes on with any number that it may come to know
pub limit-goes_on : (n : ℕ) (told : Bool) (held T G Z : List Row) → (T ≡ []) × (G ≡ []) × (held ≡ []) → Coming told Z
    → (B : List Row) × LimitGives (Some n) 0 [] (T ++ Z) (G ++ B) × ((told && not (has_row held)) ≡ true → B ≡ [])
limit-goes_on n told held T G Z went coming =
    (take (n - 0) Z, (n, refl, rw (went.0, went.1) refl), λ over. rw (over-told told held Z coming over) (take-none (n - 0)))

take-both : (n : ℕ) (rows X : List Row) → take n (rows ++ X) ≡ take n rows ++ take (n - length rows) X
take-both zero rows X = let z : 0 - length rows ≡ 0 = omega arith in rw z refl
take-both (suc n) [] X = let z : suc n - 0 ≡ suc n = omega arith in rw z refl
take-both (suc n) (row ∷ rows) X = let z : suc n - suc (length rows) ≡ n - length rows = omega arith in rw z (ap (λ x. row ∷ x) (take-both n rows X))

take-least : (n : ℕ) (rows : List Row) → take (min n (length rows)) rows ≡ take n rows
take-least zero rows = let z : min 0 (length rows) ≡ 0 = omega arith in rw z refl
take-least (suc n) [] = take-none (min (suc n) 0)
take-least (suc n) (row ∷ rows) = let z : min (suc n) (suc (length rows)) ≡ suc (min n (length rows)) = omega arith in rw z (ap (λ x. row ∷ x) (take-least n rows))

limit-rows : (x passed taken : ℕ) (held new rows X B : List Row) → taken ≡ min (x - passed) (length rows) → new ≡ held ++ take (taken - 0) rows
    → B ≡ new ++ take (x - (passed + taken)) X → B ≡ held ++ take (x - passed) (rows ++ X)
limit-rows x passed taken held new rows X B t n b =
    let whole : taken - 0 ≡ taken = omega arith in
    let rest : x - (passed + taken) ≡ (x - passed) - length rows = omega arith in
    let first : take (taken - 0) rows ≡ take (x - passed) rows = ap (λ k. take k rows) (whole ∙ t) ∙ take-least (x - passed) rows in
    rw (take-both (x - passed) rows X, ← rest, ← first)
    (b ∙ ap (λ z. z ++ take (x - (passed + taken)) X) n ∙ append_assoc held (take (taken - 0) rows) (take (x - (passed + taken)) X))

-- a page was taken in as far as rows are still wanted
pub limit-took : (known : Option ℕ) (passed taken : ℕ) (held new rows X B : List Row) → is_some known ≡ true
    → taken ≡ min (unwrap_or known 0 - passed) (length rows) → new ≡ held ++ take (taken - 0) rows
    → LimitGives known (passed + taken) new X B → LimitGives known passed held (rows ++ X) B
limit-took None passed taken held new rows X B e t n g = cc
limit-took (Some k) passed taken held new rows X B e t n g =
    let t' : taken ≡ min (g.0 - passed) (length rows) = rw g.1 t in
    (g.0, g.1, limit-rows g.0 passed taken held new rows X B t' n g.2)

-- `WhileWanted`
pub part-whole : (X : List Row) → IsPartOf X X
part-whole [] = refl
part-whole (row ∷ rows) = inr (rows, refl, part-whole rows)

pub part-later : (Y A X : List Row) → IsPartOf Y X → IsPartOf Y (A ++ X)
part-later Y [] X part = part
part-later Y (row ∷ A) X part = inl (part-later Y A X part)

pub part-both : (Y A X : List Row) → IsPartOf Y X → IsPartOf (A ++ Y) (A ++ X)
part-both Y [] X part = part
part-both Y (row ∷ A) X part = inr (A ++ Y, refl, part-both Y A X part)

pub wanted-some : (known : Option ℕ) (held X : List Row) → (B : List Row) × WantedGives known held X B
wanted-some known held X = (held ++ X, (X, refl, part-whole X, λ _. refl))

pub wanted-rest : (known : Option ℕ) (held B : List Row) → WantedGives known held [] B → (has_row held ≡ false) ↔ (B ≡ [])
wanted-rest known held B g =
    let h = has_row-none held in
    let same : B ≡ held = g.1 ∙ ap (λ x. held ++ x) g.2 ∙ append-nil held in
    ((λ f. same ∙ h.0 f), (λ f. h.1 (sym same ∙ f)))

-- a page went by unread
pub wanted-dropped : (known : Option ℕ) (held rows X B : List Row) → known ≡ Some 0 → WantedGives known held X B → WantedGives known held (rows ++ X) B
wanted-dropped (Some zero) held rows X B e g = (g.0, g.1, part-later g.0 rows X g.2, λ wanted. absurd wanted)
wanted-dropped (Some (suc n)) held rows X B e g = cc
wanted-dropped None held rows X B e g = cc

-- a page was taken in
pub wanted-took : (known : Option ℕ) (held new rows X B : List Row) → new ≡ held ++ rows → WantedGives known new X B → WantedGives known held (rows ++ X) B
wanted-took known held new rows X B e g =
    (rows ++ g.0, g.1 ∙ ap (λ x. x ++ g.0) e ∙ append_assoc held rows g.0, part-both g.0 rows X g.2, λ wanted. ap (λ x. rows ++ x) (g.3 wanted))

-- it learned what is wanted
pub wanted-learns : (known : Option ℕ) (held T G X B : List Row) → G ++ held ≡ T → WantedGives known held X B → WantedGives known [] (T ++ X) (G ++ B)
wanted-learns known held T G X B went g =
    (T ++ g.0, ap (λ x. G ++ x) g.1 ∙ sym (append_assoc G held g.0) ∙ ap (λ x. x ++ g.0) went, part-both g.0 T X g.2, λ wanted. ap (λ x. T ++ x) (g.3 wanted))

pub wanted-goes_on : (known : Option ℕ) (told : Bool) (held T G Z : List Row) → G ++ held ≡ T → Coming told Z
    → (B : List Row) × WantedGives known [] (T ++ Z) (G ++ B) × ((told && not (has_row held)) ≡ true → B ≡ [])
wanted-goes_on known told held T G Z went coming =
    (held ++ Z, (T ++ Z, sym (append_assoc G held Z) ∙ ap (λ x. x ++ Z) went, part-whole (T ++ Z), λ _. refl), over-none told held Z coming)
