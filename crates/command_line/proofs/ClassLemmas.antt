-- The command as it is built, and arguments by what they begin with.
use Rattle.std.proofs.Common.{◌≡◌, ◌∙◌, ◌||◌, ◌==◌, arith, ℕ, Bool, cond, true, false, not, refl, sym, ap, ap₂, subst, ◌+◌, suc, length, take, List, [], ◌∷◌, map, Option, Some, None, codes, true≢false, eqb-true, IsUtf8}
use lib.Seq.{take-length}
use Rattle.std.specs.List.{find, list_any, position_or_len}
use Rattle.std.specs.Str.{bytes_eq, chars, encode_utf8_all}
use Rattle.std.specs.Prelude.{slice_get}
use Rattle.std.proofs.lemmas.Str.{chars_from_encodes}
use Rattle.std.proofs.lemmas.Slice.Eq.{bytes_eq-Decides}
use Rattle.clap.specs.Lexer.{long_of, short_of}
use Rattle.clap.specs.Words.{Rule, Shape}
use Rattle.clap.specs.Simple.{filled, new_shape, with_index}
use Rattle.clap.specs.Walk.{Text, arg_by_long, arg_by_short}
use Rattle.command_line.specs.Items.{first_part, has_equals_sign, is_equals_sign, is_option, same_text}
use Rattle.command_line.specs.Found.{option_rule, tables_rule}

-- ---- the command as it is built

abbrev pub option_built : Text → Rule
option_built name = with_index 2 (filled (option_rule name))

abbrev pub tables_built : Rule
tables_built = with_index 1 (filled tables_rule)

abbrev pub rules : List Text → List Rule
rules names = tables_built ∷ map option_built names

abbrev pub shape : List Text → Shape
shape names = record (new_shape (codes "trinorun")) {
  no_binary_name = true;
  disable_help_flag = true;
  disable_help_subcommand = true;
  is_built = true;
  rules = rules names;
}

-- ---- arguments by what they begin with

pub text_is : (a b : Text) → same_text a b ≡ true → a ≡ b
text_is a b e = (bytes_eq-Decides a b).0 e

pub text_same : (a : Text) → same_text a a ≡ true
text_same a = (bytes_eq-Decides a a).1 refl

pub record IsPlain (word : Text) : Type 0 where
  pub ends : bytes_eq word (45 ∷ 45 ∷ []) ≡ false
  pub long : long_of word ≡ None
  pub short : short_of word ≡ None
  pub option : is_option word ≡ false

not_option : (c : ℕ) (t : Text) → (c == 45) ≡ false → is_option (c ∷ t) ≡ false
not_option c [] e = refl
not_option c (y ∷ ys) e = e

pub data Class (word : Text) : Type 0 where
  is_plain : IsPlain word → Class word
  is_end : word ≡ 45 ∷ 45 ∷ [] → Class word
  is_long : (x : ℕ) (xs : Text) → word ≡ 45 ∷ 45 ∷ x ∷ xs → Class word
  is_short : (y : ℕ) (ys : Text) → word ≡ 45 ∷ y ∷ ys → (y == 45) ≡ false → Class word

pub class_of : (word : Text) → Class word
class_of [] = is_plain (record { ends = refl; long = refl; short = refl; option = refl })
class_of (c ∷ t) = first (c == 45) t refl
  where
    third : (c y : ℕ) (ys : Text) → c ≡ 45 → y ≡ 45 → Class (c ∷ y ∷ ys)
    third c y [] e f = is_end (ap₂ (λ a b. a ∷ b ∷ []) e f)
    third c y (x ∷ xs) e f = is_long x xs (ap₂ (λ a b. a ∷ b ∷ x ∷ xs) e f)

    second : (b : Bool) (c y : ℕ) (ys : Text) → c ≡ 45 → (y == 45) ≡ b → Class (c ∷ y ∷ ys)
    second true c y ys e f = third c y ys e (eqb-true y 45 f)
    second false c y ys e f = is_short y ys (ap (λ a. a ∷ y ∷ ys) e) f

    dashed : (c : ℕ) (t : Text) → c ≡ 45 → Class (c ∷ t)
    dashed c [] e = is_plain (subst (λ (k : ℕ). IsPlain (k ∷ [])) (sym e) (record { ends = refl; long = refl; short = refl; option = refl }))
    dashed c (y ∷ ys) e = second (y == 45) c y ys e refl

    first : (b : Bool) (t : Text) → (c == 45) ≡ b → Class (c ∷ t)
    first true t e = dashed c t (eqb-true c 45 e)
    first false t e = is_plain (record { ends = rw e refl; long = rw e refl; short = rw e refl; option = not_option c t e })

-- behind one `-` of a text there is a character
pub first_char : (y : ℕ) (ys : Text) → IsUtf8 (45 ∷ y ∷ ys) → (c : ℕ) × (slice_get (chars (y ∷ ys)) 0 ≡ Some c)
unfolding chars lib.Utf8.encode
first_char y ys u = behind (chars (y ∷ ys)) (chars_from_encodes u.0 (45 ∷ y ∷ ys) u u.1.1)
  where
    behind : (cs : List ℕ) → u.0 ≡ 45 ∷ cs → (c : ℕ) × (slice_get cs 0 ≡ Some c)
    behind [] e = let short : 45 ∷ [] ≡ 45 ∷ y ∷ ys = ap encode_utf8_all (sym e) ∙ u.1.1 in absurd (omega (arith, ap length short))
    behind (c ∷ cs) e = (c, refl)

-- ---- finding an option

module _ (x : Text) where
  abbrev pub is_name : Text → Bool
  is_name other = same_text other x

  one_option : (names : List Text) (n : Text) (b : Bool) (found : Option Rule) → same_text n x ≡ b → found ≡ cond (list_any is_name names) (Some (option_built x)) None
      → cond b (Some (option_built n)) found ≡ cond (b || list_any is_name names) (Some (option_built x)) None
  one_option names n true found e rest = ap (λ (y : Text). Some (option_built y)) (text_is n x e)
  one_option names n false found e rest = rest

  one_long : (names : List Text) (n : Text) (b : Bool) (found : Option Rule) → same_text n x ≡ b → found ≡ cond (list_any is_name names) (Some (option_built x)) None
      → cond (b || false) (Some (option_built n)) found ≡ cond (b || list_any is_name names) (Some (option_built x)) None
  one_long names n true found e rest = ap (λ (y : Text). Some (option_built y)) (text_is n x e)
  one_long names n false found e rest = rest

  pub find_option : (names : List Text) → arg_by_long (rules names) x ≡ cond (list_any is_name names) (Some (option_built x)) None
  find_option [] = refl
  find_option (n ∷ names) = one_long names n (same_text n x) (arg_by_long (rules names) x) refl (find_option names)

  pub find_id : (names : List Text) → find (λ a. bytes_eq a.id x) (map option_built names) ≡ cond (list_any is_name names) (Some (option_built x)) None
  find_id [] = refl
  find_id (n ∷ names) = one_option names n (same_text n x) (find (λ a. bytes_eq a.id x) (map option_built names)) refl (find_id names)

pub no_short : (names : List Text) (x : ℕ) → arg_by_short (rules names) x ≡ None
no_short [] x = refl
no_short (n ∷ names) x = no_short names x

-- a text with no `=` is a name as a whole
one_more : (here any : Bool) (n len : ℕ) → (here || any) ≡ false → (any ≡ false → n ≡ len) → cond (not here) (1 + n) 0 ≡ suc len
one_more true any n len e behind = absurd (true≢false e)
one_more false any n len e behind = let is : n ≡ len = behind e in omega arith

name_length : (text : Text) → has_equals_sign text ≡ false → position_or_len is_equals_sign text ≡ length text
name_length [] e = refl
name_length (x ∷ xs) e = one_more (is_equals_sign x) (has_equals_sign xs) (position_or_len is_equals_sign xs) (length xs) e (name_length xs)

pub no_sign : (text : Text) → has_equals_sign text ≡ false → first_part text ≡ text
no_sign text e = ap (λ n. take n text) (name_length text e) ∙ take-length text
