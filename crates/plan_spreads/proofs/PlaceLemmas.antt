-- Columns by which rows sit, by the definitions of the placements of a run.
use Rattle.std.proofs.Common.{◌≡◌, ℕ, ◌+◌, ◌<◌, suc, List, [], ◌∷◌, length, map, get_or, Bool, true, false, cond, Option, Some, None, refl, ap, subst, arith}
use Rattle.std.specs.Prelude.{All, Contains, ◌&&◌, ◌||◌, ◌==◌, nat_lt}
use Rattle.std.specs.List.{list_all, list_any, position_from}
use Rattle.std.proofs.lemmas.Bool.{eqb-true, ltb-true}
use Rattle.std.proofs.lemmas.List.Elements.{All-cons, All-contains_itself, All-head, All-nil, Contains-append_right}
use Rattle.bag_laws.specs.Buckets.{AllBelow, lefts, rights}
use Rattle.sql_exprs.specs.Forms.{Form, column}
use Rattle.plan_trees.specs.declared.tree.Pair.{Pair}
use Rattle.plan_trees.specs.TreeForms.{pair_view}
use Rattle.plan_spreads.specs.Columns.{add_place, are_paired, is_column, is_key, is_pair, first_places}
use Rattle.plan_spreads.specs.Operators.{are_keys}

pub first_true : (a b : Bool) → a && b ≡ true → a ≡ true
first_true true b h = refl
first_true false b h = h

pub second_true : (a b : Bool) → a && b ≡ true → b ≡ true
second_true true b h = h
second_true false b h = absurd cc

-- the item that a search from an index found
record Found {A : Type 0} (test : A → Bool) (items : List A) (d : A) (from at : ℕ) : Type 0 where
  place : ℕ
  is : at ≡ from + place
  within : place < length items
  passes : test (get_or items place d) ≡ true

found_by : {A : Type 0} (test : A → Bool) (x : A) (xs : List A) (d : A) (from at : ℕ) (b : Bool) → test x ≡ b
    → cond b (Some from) (position_from test (from + 1) xs) ≡ Some at
    → (position_from test (from + 1) xs ≡ Some at → Found test xs d (from + 1) at) → Found test (x ∷ xs) d from at
found_by test x xs d from at true t e rest =
    let same : from ≡ at = cc e in record { place = 0; is = omega (arith, same); within = omega arith; passes = t }
found_by test x xs d from at false t e rest =
    let r = rest e in
    record { place = suc r.place; is = omega (arith, r.is); within = omega (arith, r.within); passes = r.passes }

found : {A : Type 0} (test : A → Bool) (items : List A) (d : A) (from at : ℕ) → position_from test from items ≡ Some at → Found test items d from at
found test [] d from at e = absurd cc
found test (x ∷ xs) d from at e = found_by test x xs d from at (test x) refl e (found test xs d (from + 1) at)

record FoundAt {A : Type 0} (test : A → Bool) (items : List A) (d : A) (at : ℕ) : Type 0 where
  within : at < length items
  passes : test (get_or items at d) ≡ true

found_first : {A : Type 0} (test : A → Bool) (items : List A) (d : A) (at : ℕ) → position_from test 0 items ≡ Some at → FoundAt test items d at
found_first test items d at e =
    let f = found test items d 0 at e in
    let same : f.place ≡ at = omega (arith, f.is) in
    subst (λ n. FoundAt test items d n) same (record { within = f.within; passes = f.passes })

-- what a place was put before
record Added (o : Option ℕ) (os : Option (List ℕ)) (places : List ℕ) : Type 0 where
  place : ℕ
  others : List ℕ
  first : o ≡ Some place
  rest : os ≡ Some others
  same : place ∷ others ≡ places

added : (o : Option ℕ) (os : Option (List ℕ)) (places : List ℕ) → add_place o os ≡ Some places → Added o os places
added (Some place) (Some others) places e = record { place = place; others = others; first = refl; rest = refl; same = cc e }
added (Some place) None places e = absurd cc
added None os places e = absurd cc

-- each column stands at its place
pub record AreAt {A : Type 0} (items : List A) (of : ℕ → A) (d : A) (columns places : List ℕ) : Type 0 where
  pub within : AllBelow (length items) places
  pub same : map (λ place. get_or items place d) places ≡ map of columns

pub places_at : {A : Type 0} (stands : ℕ → A → Bool) (of : ℕ → A) (d : A) → ((c : ℕ) (x : A) → stands c x ≡ true → x ≡ of c) → (items : List A)
    (columns places : List ℕ) → first_places stands items columns ≡ Some places → AreAt items of d columns places
places_at stands of d is items [] places e =
    let same : [] ≡ places = cc e in
    subst (λ ps. AreAt items of d [] ps) same (record { within = All-nil (λ c. c < length items); same = refl })
places_at stands of d is items (c ∷ cs) places e =
    let a = added (position_from (stands c) 0 items) (first_places stands items cs) places e in
    let f = found_first (stands c) items d a.place a.first in
    let rest = places_at stands of d is items cs a.others a.rest in
    subst (λ ps. AreAt items of d (c ∷ cs) ps) a.same (record {
      within = All-cons (λ p. p < length items) a.place a.others f.within rest.within;
      same = (λ i. is c (get_or items a.place d) f.passes i ∷ rest.same i);
    })

pub column_is : (c : ℕ) (x : Form) → is_column c x ≡ true → x ≡ column c
column_is c (column n) e = ap column (eqb-true n c e)
column_is c x e = absurd cc

pub key_is : (c x : ℕ) → is_key c x ≡ true → x ≡ c
key_is c x e = eqb-true x c e

pair_by : (pair : Pair) (on : List Pair) (c d : ℕ) (b : Bool) → is_pair c d pair ≡ b → b || list_any (is_pair c d) on ≡ true
    → (list_any (is_pair c d) on ≡ true → Contains (map pair_view on) (c, d)) → Contains (map pair_view (pair ∷ on)) (c, d)
pair_by pair on c d true t e rest =
    let left = eqb-true pair.left c (first_true (pair.left == c) (pair.right == d) t) in
    let right = eqb-true pair.right d (second_true (pair.left == c) (pair.right == d) t) in
    let all = pair_view pair ∷ map pair_view on in
    subst (λ (p : ℕ × ℕ). Contains all p) (λ i. (left i, right i)) (All-head (Contains all) (pair_view pair) (map pair_view on) (All-contains_itself all))
pair_by pair on c d false t e rest = Contains-append_right (pair_view pair ∷ []) (map pair_view on) (c, d) (rest e)

pair_in : (on : List Pair) (c d : ℕ) → list_any (is_pair c d) on ≡ true → Contains (map pair_view on) (c, d)
pair_in [] c d e = absurd cc
pair_in (pair ∷ on) c d e = pair_by pair on c d (is_pair c d pair) refl e (pair_in on c d)

-- the columns of both sides, as pairs of the join
pub record Paired (on : List (ℕ × ℕ)) (cs ds : List ℕ) : Type 0 where
  pub pairs : List (ℕ × ℕ)
  pub among : All (Contains on) pairs
  pub left : lefts pairs ≡ cs
  pub right : rights pairs ≡ ds

pub paired : (on : List Pair) (cs ds : List ℕ) → are_paired on cs ds ≡ true → Paired (map pair_view on) cs ds
paired on [] [] e = record { pairs = []; among = All-nil (Contains (map pair_view on)); left = refl; right = refl }
paired on [] (d ∷ ds) e = absurd cc
paired on (c ∷ cs) [] e = absurd cc
paired on (c ∷ cs) (d ∷ ds) e =
    let here = pair_in on c d (first_true (list_any (is_pair c d) on) (are_paired on cs ds) e) in
    let rest = paired on cs ds (second_true (list_any (is_pair c d) on) (are_paired on cs ds) e) in
    record {
      pairs = (c, d) ∷ rest.pairs;
      among = All-cons (Contains (map pair_view on)) (c, d) rest.pairs here rest.among;
      left = ap (λ l. c ∷ l) rest.left;
      right = ap (λ l. d ∷ l) rest.right;
    }

below : (bound : ℕ) (columns : List ℕ) → list_all (λ c. nat_lt c bound) columns ≡ true → AllBelow bound columns
below bound [] e = All-nil (λ c. c < bound)
below bound (c ∷ cs) e =
    All-cons (λ c. c < bound) c cs (ltb-true c bound (first_true (nat_lt c bound) (list_all (λ c. nat_lt c bound) cs) e))
    (below bound cs (second_true (nat_lt c bound) (list_all (λ c. nat_lt c bound) cs) e))

pub keys_are : (keys : ℕ) (columns : List ℕ) → are_keys keys columns ≡ true → (0 < keys) × AllBelow keys columns
keys_are keys columns e =
    let tests = list_all (λ c. nat_lt c keys) columns in
    (ltb-true 0 keys (first_true (nat_lt 0 keys) tests e), below keys columns (second_true (nat_lt 0 keys) tests e))
