-- A date that was printed reads as that date.
use Rattle.std.proofs.Common.{◌≡◌, ℕ, ◌^◌, ◌<◌, ◌≤◌, List, [], ◌∷◌, ◌++◌, length, Some, option_and_then, true, cond, refl, ap, ◌∙◌, arith, ℤ, pos, neg_ℤ, ◌+ℤ◌, ◌≤ℤ◌, unsigned_abs}
use Rattle.jiff_core.specs.Calendar.{IsDate}
use Rattle.jiff_core.proofs.SignedLemmas.{signed_arith}
use Rattle.jiff_core.proofs.CalendarLemmas.{days_from_civil-day_count, days_in_month_bounds}
use Rattle.scalar_texts.specs.Numbers.{digits_after, number_of, padded}
use Rattle.scalar_texts.specs.Dates.{CalendarDay, day_of, day_number, date_of, nth_day, day_text, has_date, date_text}
use Rattle.scalar_texts.proofs.PrintedNumbers.{padded_length, padded_read}
use Rattle.scalar_texts.proofs.DateLemmas.{nth_is, year_bound, unsigned_abs-same, numbered}

four_by : (P : List ℕ → Type 0) → ((w x y z : ℕ) → P (w ∷ x ∷ y ∷ z ∷ [])) → (ds : List ℕ) → length ds ≡ 4 → P ds
four_by P h [] e = absurd (omega arith)
four_by P h (w ∷ []) e = absurd (omega arith)
four_by P h (w ∷ x ∷ []) e = absurd (omega arith)
four_by P h (w ∷ x ∷ y ∷ []) e = absurd (omega arith)
four_by P h (w ∷ x ∷ y ∷ z ∷ []) e = h w x y z
four_by P h (w ∷ x ∷ y ∷ z ∷ v ∷ vs) e = absurd (omega arith)

two_by : (P : List ℕ → Type 0) → ((w x : ℕ) → P (w ∷ x ∷ [])) → (ds : List ℕ) → length ds ≡ 2 → P ds
two_by P h [] e = absurd (omega arith)
two_by P h (w ∷ []) e = absurd (omega arith)
two_by P h (w ∷ x ∷ []) e = h w x
two_by P h (w ∷ x ∷ v ∷ vs) e = absurd (omega arith)

-- a text of three numbers with two dashes is read part by part
parts_read : (a b c : List ℕ) → length a ≡ 4 → length b ≡ 2 → length c ≡ 2 → date_of (a ++ 45 ∷ (b ++ 45 ∷ c)) ≡ option_and_then day_number (day_of (number_of a) (number_of b) (number_of c))
parts_read a b c e f g =
    four_by (λ a. date_of (a ++ 45 ∷ (b ++ 45 ∷ c)) ≡ option_and_then day_number (day_of (number_of a) (number_of b) (number_of c)))
    (λ w x y z. two_by (λ b. date_of (w ∷ x ∷ y ∷ z ∷ 45 ∷ (b ++ 45 ∷ c)) ≡ option_and_then day_number (day_of (number_of (w ∷ x ∷ y ∷ z ∷ [])) (number_of b) (number_of c)))
    (λ s t. two_by (λ c. date_of (w ∷ x ∷ y ∷ z ∷ 45 ∷ s ∷ t ∷ 45 ∷ c) ≡ option_and_then day_number (day_of (number_of (w ∷ x ∷ y ∷ z ∷ [])) (number_of (s ∷ t ∷ [])) (number_of c)))
    (λ p q. refl) c g) b f) a e

some_digits : (ds : List ℕ) → 0 < length ds → number_of ds ≡ digits_after 0 ds
some_digits [] h = absurd (omega arith)
some_digits (b ∷ bs) h = refl

number_read : (w n : ℕ) → 0 < w → n < 10 ^ w → n < 10 ^ 64 → number_of (padded w n) ≡ Some n
number_read w n some fits small =
    some_digits (padded w n) (omega (arith, padded_length w n some fits small)) ∙ padded_read 0 w n some fits small ∙ ap Some (omega arith)

day_back : (d : CalendarDay) → d.year ≤ 9999 → d.month ≤ 12 → d.day ≤ 31 → date_of (day_text d) ≡ day_number d
day_back d year month day =
    parts_read (padded 4 d.year) (padded 2 d.month) (padded 2 d.day) (padded_length 4 d.year (omega arith) (omega arith) (omega arith)) (padded_length 2 d.month (omega arith) (omega arith) (omega arith)) (padded_length 2 d.day (omega arith) (omega arith) (omega arith))
    ∙ (λ i. option_and_then day_number (day_of (number_read 4 d.year (omega arith) (omega arith) (omega arith) i) (number_read 2 d.month (omega arith) (omega arith) (omega arith) i) (number_read 2 d.day (omega arith) (omega arith) (omega arith) i)))

in_range : (z : ℤ) → has_date z ≡ true → (neg_ℤ (pos 719_162) ≤ℤ z) × (z ≤ℤ pos 2_932_896)
in_range z h = grind (arith, signed_arith)

nth_back : (n : ℕ) (z : ℤ) → n < 3_652_059 → pos n ≡ z +ℤ pos 719_162 → date_of (day_text (nth_day n)) ≡ Some z
nth_back n z small e =
    let is = nth_is n in
    let d = nth_day n in
    let year = year_bound n d is small in
    let month = days_in_month_bounds (pos d.year) d.month in
    let day : d.day ≤ 31 = omega (arith, is.last_day) in
    let date : IsDate (pos d.year) (pos d.month) (pos d.day) =
    ((omega (arith, signed_arith, is.year_in), omega (arith, signed_arith)), (omega (arith, signed_arith, is.first_month), omega (arith, signed_arith, is.last_month)), (omega (arith, signed_arith, is.first_day), omega (arith, signed_arith, is.last_day))) in
    day_back d year is.last_month day
    ∙ numbered d.year d.month d.day is.year_in date
    ∙ ap Some (omega (arith, signed_arith, is.count, days_from_civil-day_count (pos d.year) d.month d.day))

pub date_back : (z : ℤ) → has_date z ≡ true → date_of (date_text z) ≡ Some z
date_back z h =
    let range = in_range z h in
    let n = unsigned_abs (z +ℤ pos 719_162) in
    let whole : pos n ≡ z +ℤ pos 719_162 = unsigned_abs-same (z +ℤ pos 719_162) (omega (arith, signed_arith, range.0)) in
    ap (λ b. date_of (cond b (day_text (nth_day n)) [])) h ∙ nth_back n z (omega (arith, signed_arith, range.1)) whole
