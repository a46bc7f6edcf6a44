-- Where a text without quotes is cut.
use Rattle.std.proofs.Common.{◌≡◌, ◌≢◌, ◌<◌, ◌+◌, ◌++◌, ◌∷◌, ◌∙◌, ℕ, Bool, true, false, List, [], length, get_or, take, drop, refl, sym, ap, arith}
use Rattle.std.specs.Prelude.{All, Option, None, Some, if◌then◌else◌, ◌&&◌, ◌==◌, nat_eq}
use Rattle.std.specs.List.{starts_with}
use Rattle.std.proofs.lemmas.Bool.{eq-eqb, eqb-true, false≢true}
use Rattle.std.proofs.lemmas.List.{get_or_default, take-append-drop, take_more}
use Rattle.std.proofs.lemmas.List.Elements.{All-drop, All-take}
use Rattle.std.proofs.Math.Seq.{drop-append_seam, take-append_seam}
use Rattle.csv.specs.Machine.{line_feed}
use Rattle.csv.specs.Reading.{strip_bom}
use Rattle.csv_tables.specs.Parts.{IsCut, quote}
use Rattle.csv_tables.proofs.PartLemmas.{line_feed_cuts}
use Rattle.memchr.specs.Find.{IsFirstByte, is_byte}

-- a search that finds no quote
pub none_found : (text : List ℕ) (r : Option ℕ) → IsFirstByte (is_byte quote) text r → r ≡ None → All (λ b. b ≢ quote) text
none_found text None h e = λ k d lt same. h k (omega arith) lt (eq-eqb _ _ (get_or_default text k 0 d lt ∙ same))
none_found text (Some k) h e = absurd (no_place e)
  where
    no_place : Some k ≡ None → ⊥
    no_place e = absurd (cc e)

abbrev mark : List ℕ
mark = 0xEF ∷ 0xBB ∷ 0xBF ∷ []

-- a text that does not begin with a mark has none to strip
pub unmarked : (text : List ℕ) → starts_with nat_eq text mark ≡ false → strip_bom text ≡ text
unfolding strip_bom
unmarked [] h = refl
unmarked (a ∷ []) h = refl
unmarked (a ∷ b ∷ []) h = refl
unmarked (a ∷ b ∷ c ∷ rest) h = by_tests (a == 0xEF) (b == 0xBB) (c == 0xBF) refl refl refl
  where
    by_tests : (x y z : Bool) → (a == 0xEF) ≡ x → (b == 0xBB) ≡ y → (c == 0xBF) ≡ z → (if x && y && z then rest else a ∷ b ∷ c ∷ rest) ≡ a ∷ b ∷ c ∷ rest
    by_tests false y z e f g = refl
    by_tests true false z e f g = refl
    by_tests true true false e f g = refl
    by_tests true true true e f g = absurd (false≢true (sym (rw (eqb-true a 0xEF e, eqb-true b 0xBB f, eqb-true c 0xBF g) at h)))

-- the parts behind a line feed
pub cut_at : (text front back : List ℕ) (at : ℕ) → All (λ b. b ≢ quote) text → at < length text → get_or text at 0 ≡ line_feed → front ≡ take (at + 1) text → back ≡ drop (at + 1) text
    → strip_bom back ≡ back → IsCut front back
cut_at text front back at plain lt feed is_front is_back unmarked =
    let line : front ≡ take at text ++ line_feed ∷ [] = is_front ∙ take_more text at 0 lt ∙ ap (λ (b : ℕ). take at text ++ b ∷ []) feed in
    rw line (line_feed_cuts (take at text) back (All-take (λ b. b ≢ quote) at text plain) unmarked)

pub parts_whole : (text front back : List ℕ) (n : ℕ) → front ≡ take n text → back ≡ drop n text → front ++ back ≡ text
parts_whole text front back n f b = rw (f, b) (take-append-drop n text)

pub front_plain : (front back text : List ℕ) → front ++ back ≡ text → All (λ b. b ≢ quote) text → All (λ b. b ≢ quote) front
front_plain front back text whole plain =
    rw (← take-append_seam front back, whole) (All-take (λ b. b ≢ quote) (length front) text plain)

pub back_plain : (front back text : List ℕ) → front ++ back ≡ text → All (λ b. b ≢ quote) text → All (λ b. b ≢ quote) back
back_plain front back text whole plain =
    rw (← drop-append_seam front back, whole) (All-drop (λ b. b ≢ quote) (length front) text plain)
