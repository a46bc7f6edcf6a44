-- Domains of values: of one more value, and of more.
use Rattle.std.proofs.Common.{◌≡◌, ℕ, zero, suc, ◌+◌, ◌-◌, ◌<◌, List, [], ◌∷◌, ◌++◌, length, get_or, map, take, append_assoc, Result, Ok, Err, IfOk, Bool, true, false, ◌||◌, ◌&&◌, refl, ap, sym, ◌∙◌, subst, arith}
use Rattle.std.specs.declared.cmp.Ordering.{Ordering}
use Rattle.std.specs.declared.cmp.Ordering.TheVariants.{Less, Equal, Greater}
use Rattle.std.specs.Prelude.{filter}
use Rattle.std.specs.List.{insert, list_any}
use Rattle.std.specs.Ordering.{is_le, is_lt}
use Rattle.std.proofs.lemmas.Bool.{true≢false}
use Rattle.std.proofs.lemmas.List.{get_or_default, map_more, take_more}
use Rattle.sql_values.specs.declared.memory.Memory.{Memory}
use Rattle.sql_values.specs.declared.value.Value.{Value}
use Rattle.sql_values.specs.declared.value.Value.TheVariants.{Null}
use Rattle.sql_values.specs.Cells.{cell}
use Rattle.sql_values.specs.Order.{value_cmp}
use Rattle.relation_laws.specs.Joins.{are_equal, are_partners}
use Rattle.relation_laws.specs.Equality.{is_present, same_value}
use Rattle.dyn_filter.specs.declared.domain.Domain.{Domain}
use Rattle.dyn_filter.specs.declared.domain.Domain.TheVariants.{Nothing, Values, Range}
use Rattle.dyn_filter.specs.Lists.{AreAscending, IsValueList, is_in, most_values}
use Rattle.dyn_filter.specs.Domains.{AreEndsOf, AreMany, IsDomainOf, is_among, is_between, passes}
use Rattle.dyn_filter.specs.Spans.{first_of, greater, last_of, lesser}
use Rattle.dyn_filter.proofs.ListLemmas.{first_in, in_order, is_in-append, is_in-insert, is_same, last_in, le_from_not_lt, le_itself, le_trans, same_itself}

-- both lists have the same values
abbrev pub HaveSame : List Value → List Value → Type 0
HaveSame values others = (v : Value) → is_among values v ≡ is_among others v

split_and : (p a b : Bool) → (p && (a || b)) ≡ ((p && a) || (p && b))
split_and true a b = refl
split_and false a b = refl

or_false : (a : Bool) → (a || false) ≡ a
or_false true = refl
or_false false = refl

or_swap : (a b : Bool) → (a || b) ≡ (b || a)
or_swap true true = refl
or_swap true false = refl
or_swap false true = refl
or_swap false false = refl

or_left : (a b : Bool) → a ≡ true → (a || b) ≡ true
or_left true b e = refl
or_left false b e = cc

or_right : (a b : Bool) → b ≡ true → (a || b) ≡ true
or_right true b e = refl
or_right false b e = e

and_none : (a : Bool) → (a && false) ≡ false
and_none true = refl
and_none false = refl

or_none : (a b : Bool) → (a || b) ≡ false → (a ≡ false) × (b ≡ false)
or_none true b e = cc
or_none false b e = (refl, e)

and_first : (a b : Bool) → (a && b) ≡ true → a ≡ true
and_first true b e = refl
and_first false b e = cc

and_second : (a b : Bool) → (a && b) ≡ true → b ≡ true
and_second true b e = e
and_second false b e = cc

and_both : (a b : Bool) → a ≡ true → b ≡ true → (a && b) ≡ true
and_both true b p q = q
and_both false b p q = cc

pub among-append : (xs ys : List Value) (v : Value) → is_among (xs ++ ys) v ≡ (is_among xs v || is_among ys v)
among-append xs ys v = ap (λ b. is_present v && b) (is_in-append xs ys v) ∙ split_and (is_present v) (is_in xs v) (is_in ys v)

-- of one value that is not NULL
among-one : (v w : Value) → is_present v ≡ true → is_among (v ∷ []) w ≡ same_value w v
among-one v w p = go (same_value w v) refl
  where
    go : (b : Bool) → same_value w v ≡ b → is_among (v ∷ []) w ≡ same_value w v
    go true e =
        let there : is_present w ≡ true = ap is_present (is_same w v e) ∙ p in
        rw (there, e) refl
    go false e = rw e (nothing (is_present w))
      where
        nothing : (b : Bool) → (b && (false || false)) ≡ false
        nothing true = refl
        nothing false = refl

-- a domain is one of all lists that have the same values
pub of_same : (d : Domain) (values others : List Value) → HaveSame values others → IsDomainOf values d → IsDomainOf others d
of_same Nothing values others same is = λ v. sym (same v) ∙ is v
of_same (Values list) values others same is = record { is = is.is; same = λ v. is.same v ∙ same v }
of_same (Range least greatest) values others same is = (
  record {
    low = sym (same least) ∙ is.0.low;
    high = sym (same greatest) ∙ is.0.high;
    within = λ v e. is.0.within v (same v ∙ e);
  },
  record {
    some = is.1.some;
    ascending = is.1.ascending;
    many = is.1.many;
    among = λ v e. sym (same v) ∙ is.1.among v e;
  },
)

-- NULL changes nothing
pub with_null : (values : List Value) (v : Value) → is_present v ≡ false → HaveSame values (values ++ v ∷ [])
with_null values v p w = sym (among-append values (v ∷ []) w ∙ ap (λ b. is_among values w || b) (go (same_value w v) refl) ∙ or_false (is_among values w))
  where
    go : (b : Bool) → same_value w v ≡ b → is_among (v ∷ []) w ≡ false
    go true e =
        let there : is_present w ≡ false = ap is_present (is_same w v e) ∙ p in
        rw there refl
    go false e = rw e (nothing (is_present w))
      where
        nothing : (b : Bool) → (b && (false || false)) ≡ false
        nothing true = refl
        nothing false = refl

-- a value that was there changes nothing
with_old : (values : List Value) (v : Value) → is_among values v ≡ true → HaveSame values (values ++ v ∷ [])
with_old values v old w = sym (among-append values (v ∷ []) w ∙ go (same_value w v) refl)
  where
    go : (b : Bool) → same_value w v ≡ b → (is_among values w || is_among (v ∷ []) w) ≡ is_among values w
    go true e =
        let there : is_among values w ≡ true = ap (is_among values) (is_same w v e) ∙ old in
        rw there refl
    go false e = rw e (nothing (is_present w) (is_among values w))
      where
        nothing : (b a : Bool) → (a || (b && (false || false))) ≡ a
        nothing true a = or_false a
        nothing false a = or_false a

pub keeps_old : (list : List Value) (v : Value) → is_in list v ≡ true → (values : List Value) → IsDomainOf values (Values list) → IsDomainOf (values ++ v ∷ []) (Values list)
keeps_old list v old values is = of_same (Values list) values (values ++ v ∷ []) (with_old values v (sym (is.same v) ∙ old)) is

-- a value that is not NULL, behind others
pub has_new : (list : List Value) (place : ℕ) (v : Value) → is_present v ≡ true → (values : List Value) → IsDomainOf values (Values list)
    → (w : Value) → is_in (insert list place v) w ≡ is_among (values ++ v ∷ []) w
has_new list place v p values is w =
    is_in-insert list place v w ∙ or_swap (same_value w v) (is_in list w)
    ∙ (λ i. is.same w i || sym (among-one v w p) i) ∙ sym (among-append values (v ∷ []) w)

ends_of_list : (list values : List Value) → AreAscending list → 0 < length list → ((v : Value) → is_in list v ≡ is_among values v)
    → AreEndsOf values (first_of list) (last_of list)
ends_of_list list values up some same = record {
  low = sym (same (first_of list)) ∙ first_in list some;
  high = sym (same (last_of list)) ∙ last_in list some;
  within = λ v e.
      let order = in_order list up v (same v ∙ e) in
      and_both (is_le (value_cmp (first_of list) v)) (is_le (value_cmp v (last_of list))) order.0 order.1;
}

-- values in their order, too many to be kept
pub too_many : (list : List Value) → AreAscending list → most_values < length list → (values : List Value) → ((v : Value) → is_in list v ≡ is_among values v)
    → IsDomainOf values (Range (first_of list) (last_of list))
too_many list up many values same = (
  ends_of_list list values up (omega arith) same,
  record { some = list; ascending = up; many = many; among = λ v e. sym (same v) ∙ e },
)

lesser_first : (a b : Value) → is_le (value_cmp (lesser a b) a) ≡ true
lesser_first a b = go (value_cmp b a) refl
  where
    go : (o : Ordering) → value_cmp b a ≡ o → is_le (value_cmp (lesser a b) a) ≡ true
    go Less e = rw e (ap is_le e)
    go Equal e = rw e (le_itself a)
    go Greater e = rw e (le_itself a)

lesser_second : (a b : Value) → is_le (value_cmp (lesser a b) b) ≡ true
lesser_second a b = go (value_cmp b a) refl
  where
    go : (o : Ordering) → value_cmp b a ≡ o → is_le (value_cmp (lesser a b) b) ≡ true
    go Less e = rw e (le_itself b)
    go Equal e = rw e (le_from_not_lt a b (ap is_lt e))
    go Greater e = rw e (le_from_not_lt a b (ap is_lt e))

greater_first : (a b : Value) → is_le (value_cmp a (greater a b)) ≡ true
greater_first a b = go (value_cmp b a) refl
  where
    go : (o : Ordering) → value_cmp b a ≡ o → is_le (value_cmp a (greater a b)) ≡ true
    go Less e = rw e (le_itself a)
    go Equal e = rw e (le_itself a)
    go Greater e = rw e (le_from_not_lt a b (ap is_lt e))

greater_second : (a b : Value) → is_le (value_cmp b (greater a b)) ≡ true
greater_second a b = go (value_cmp b a) refl
  where
    go : (o : Ordering) → value_cmp b a ≡ o → is_le (value_cmp b (greater a b)) ≡ true
    go Less e = rw e (ap is_le e)
    go Equal e = rw e (ap is_le e)
    go Greater e = rw e (le_itself b)

-- the ends of both
module _ (xs ys zs : List Value) (first last least greatest : Value) (both : (v : Value) → is_among zs v ≡ (is_among xs v || is_among ys v))
    (own : AreEndsOf xs first last) (other : AreEndsOf ys least greatest) where
  low : is_among zs (lesser least first) ≡ true
  low = go (value_cmp first least) refl
    where
      go : (o : Ordering) → value_cmp first least ≡ o → is_among zs (lesser least first) ≡ true
      go Less e = rw e (both first ∙ or_left (is_among xs first) (is_among ys first) own.low)
      go Equal e = rw e (both least ∙ or_right (is_among xs least) (is_among ys least) other.low)
      go Greater e = rw e (both least ∙ or_right (is_among xs least) (is_among ys least) other.low)

  high : is_among zs (greater greatest last) ≡ true
  high = go (value_cmp last greatest) refl
    where
      go : (o : Ordering) → value_cmp last greatest ≡ o → is_among zs (greater greatest last) ≡ true
      go Less e = rw e (both greatest ∙ or_right (is_among xs greatest) (is_among ys greatest) other.high)
      go Equal e = rw e (both greatest ∙ or_right (is_among xs greatest) (is_among ys greatest) other.high)
      go Greater e = rw e (both last ∙ or_left (is_among xs last) (is_among ys last) own.high)

  wider : (v a b : Value) → is_le (value_cmp (lesser least first) a) ≡ true → is_le (value_cmp b (greater greatest last)) ≡ true
      → is_between a b v ≡ true → is_between (lesser least first) (greater greatest last) v ≡ true
  wider v a b l g between = and_both
      (is_le (value_cmp (lesser least first) v)) (is_le (value_cmp v (greater greatest last)))
      (le_trans (lesser least first) a v l (and_first (is_le (value_cmp a v)) (is_le (value_cmp v b)) between))
      (le_trans v b (greater greatest last) (and_second (is_le (value_cmp a v)) (is_le (value_cmp v b)) between) g)

  pub ends_of_both : AreEndsOf zs (lesser least first) (greater greatest last)
  ends_of_both = record { low = low; high = high; within = λ v e. go v (is_among xs v) refl e }
    where
      go : (v : Value) (b : Bool) → is_among xs v ≡ b → is_among zs v ≡ true → is_between (lesser least first) (greater greatest last) v ≡ true
      go v true x e = wider v first last (lesser_second least first) (greater_second greatest last) (own.within v x)
      go v false x e =
          let y : is_among ys v ≡ true = ap (λ b. b || is_among ys v) (sym x) ∙ sym (both v) ∙ e in
          wider v least greatest (lesser_first least first) (greater_first greatest last) (other.within v y)

many_more : (values others : List Value) → ((v : Value) → is_among values v ≡ true → is_among others v ≡ true) → AreMany values → AreMany others
many_more values others more many = record { some = many.some; ascending = many.ascending; many = many.many; among = λ v e. more v (many.among v e) }

ends_of_one : (v : Value) → is_present v ≡ true → AreEndsOf (v ∷ []) v v
ends_of_one v p = record {
  low = among-one v v p ∙ same_itself v;
  high = among-one v v p ∙ same_itself v;
  within = λ w e.
      let is : w ≡ v = is_same w v (sym (among-one v w p) ∙ e) in
      subst (λ x. is_between v v x ≡ true) (sym is) (and_both (is_le (value_cmp v v)) (is_le (value_cmp v v)) (le_itself v) (le_itself v));
}

-- a range that spans one more value
pub spans_one : (least greatest v : Value) → is_present v ≡ true → (values : List Value) → IsDomainOf values (Range least greatest)
    → IsDomainOf (values ++ v ∷ []) (Range (lesser least v) (greater greatest v))
spans_one least greatest v p values is = (
  ends_of_both (v ∷ []) values (values ++ v ∷ []) v v least greatest
      (λ w. among-append values (v ∷ []) w ∙ or_swap (is_among values w) (is_among (v ∷ []) w)) (ends_of_one v p) is.0,
  many_more values (values ++ v ∷ []) (λ w e. among-append values (v ∷ []) w ∙ or_left (is_among values w) (is_among (v ∷ []) w) e) is.1,
)

-- a range that spans what other values span
spans_ends : (least greatest first last : Value) (values others : List Value) → AreEndsOf values first last → AreEndsOf others least greatest → AreMany others
    → IsDomainOf (values ++ others) (Range (lesser least first) (greater greatest last))
spans_ends least greatest first last values others own ends many = (
  ends_of_both values others (values ++ others) first last least greatest (among-append values others) own ends,
  many_more others (values ++ others) (λ w e. among-append values others w ∙ or_right (is_among values w) (is_among others w) e) many,
)

pub spans_list : (list : List Value) (least greatest : Value) (values others : List Value) → IsDomainOf values (Values list) → AreEndsOf others least greatest → AreMany others
    → IsDomainOf (values ++ others) (Range (lesser least (first_of list)) (greater greatest (last_of list)))
spans_list list least greatest values others is ends many =
    spans_ends least greatest (first_of list) (last_of list) values others (ends_of_list list values is.is.ascending is.is.some is.same) ends many

pub spans_range : (first last least greatest : Value) (values others : List Value) → IsDomainOf values (Range first last) → AreEndsOf others least greatest → AreMany others
    → IsDomainOf (values ++ others) (Range (lesser least first) (greater greatest last))
spans_range first last least greatest values others is ends many = spans_ends least greatest first last values others is.0 ends many

pub none_behind : (d : Domain) (values others : List Value) → IsDomainOf values d → IsDomainOf others Nothing → IsDomainOf (values ++ others) d
none_behind d values others is none =
    of_same d values (values ++ others) (λ v. sym (among-append values others v ∙ ap (λ b. is_among values v || b) (none v) ∙ or_false (is_among values v))) is

-- a list in place of the values that it has
pub for_list : (d : Domain) (values list others : List Value) → IsDomainOf others (Values list) → IsDomainOf (values ++ list) d → IsDomainOf (values ++ others) d
for_list d values list others is all = of_same d (values ++ list) (values ++ others) same all
  where
    once : (p a : Bool) → (p && (p && a)) ≡ (p && a)
    once true a = refl
    once false a = refl

    same : HaveSame (values ++ list) (values ++ others)
    same v =
        among-append values list v
        ∙ ap (λ b. is_among values v || b) (ap (λ b. is_present v && b) (is.same v) ∙ once (is_present v) (is_in others v))
        ∙ sym (among-append values others v)

-- a value that was there passes
pub there_passes : (d : Domain) (values : List Value) (v : Value) → IsDomainOf values d → is_among values v ≡ true → passes d v ≡ true
there_passes Nothing values v is e = cc (is v)
there_passes (Values list) values v is e = and_both (is_present v) (is_in list v) (and_first (is_present v) (is_in values v) e) (is.same v ∙ e)
there_passes (Range least greatest) values v is e =
    and_both (is_present v) (is_between least greatest v) (and_first (is_present v) (is_in values v) e) (is.0.within v e)

-- what calls answer
of_answer : {T E : Type 0} (r : Result T E) (x : T) (P : T → Type 0) → IfOk r (λ y. y ≡ x) → P x → IfOk r P
of_answer (Ok y) x P e p = subst P (sym e) p
of_answer (Err e) x P same p = tt

pub range_with_list : (own : Domain) (list : List Value) (least greatest first last : Value) (r : Result Domain Memory) → own ≡ Values list
    → first ≡ first_of list → last ≡ last_of list → IfOk r (λ d. d ≡ Range (lesser least first) (greater greatest last))
    → IfOk r (λ d. (values others : List Value) → IsDomainOf values own → AreEndsOf others least greatest → AreMany others → IsDomainOf (values ++ others) d)
range_with_list own list least greatest first last r is f l e =
    of_answer r (Range (lesser least first) (greater greatest last)) _ e
    (λ values others own_is ends many. rw (f, l) (spans_list list least greatest values others (subst (IsDomainOf values) is own_is) ends many))

pub range_with_range : (own : Domain) (first last least greatest first' last' : Value) (r : Result Domain Memory) → own ≡ Range first last
    → first' ≡ first → last' ≡ last → IfOk r (λ d. d ≡ Range (lesser least first') (greater greatest last'))
    → IfOk r (λ d. (values others : List Value) → IsDomainOf values own → AreEndsOf others least greatest → AreMany others → IsDomainOf (values ++ others) d)
range_with_range own first last least greatest first' last' r is f l e =
    of_answer r (Range (lesser least first') (greater greatest last')) _ e
    (λ values others own_is ends many. rw (f, l) (spans_range first last least greatest values others (subst (IsDomainOf values) is own_is) ends many))

pub too_many_at : (list : List Value) (a b : Value) (place : ℕ) → AreAscending list → most_values < length list → a ≡ get_or list 0 a → b ≡ get_or list place b → place ≡ length list - 1
    → (all : List Value) → ((v : Value) → is_in list v ≡ is_among all v) → AreEndsOf all a b × AreMany all
too_many_at list a b place up many at at' last all same =
    let first : a ≡ first_of list = at ∙ get_or_default list 0 a Null (omega arith) in
    let end : b ≡ last_of list = at' ∙ ap (λ n. get_or list n b) last ∙ get_or_default list (length list - 1) b Null (omega arith) in
    let ends = too_many list up many all same in
    (rw (first, end) ends.0, ends.1)

pub one_list : (v : Value) → IsValueList (v ∷ [])
one_list v = record { ascending = (tt, tt); some = omega arith; few = omega arith }

pub new_answer : (list items : List Value) (place : ℕ) (v : Value) (r : Result Domain Memory) → is_present v ≡ true → items ≡ insert list place v
    → IfOk r (λ d. (all : List Value) → ((w : Value) → is_in items w ≡ is_among all w) → IsDomainOf all d)
    → IfOk r (λ d. (values : List Value) → IsDomainOf values (Values list) → IsDomainOf (values ++ v ∷ []) d)
new_answer list items place v (Ok d) p is made =
    λ values own. made (values ++ v ∷ []) (λ w. ap (λ xs. is_in xs w) is ∙ has_new list place v p values own w)
new_answer list items place v (Err e) p is made = tt

pub span_answer : (own : Domain) (least greatest v : Value) (r : Result Domain Memory) → own ≡ Range least greatest → is_present v ≡ true
    → IfOk r (λ d. d ≡ Range (lesser least v) (greater greatest v))
    → IfOk r (λ d. (values : List Value) → IsDomainOf values own → IsDomainOf (values ++ v ∷ []) d)
span_answer own least greatest v r is p e =
    of_answer r (Range (lesser least v) (greater greatest v)) _ e (λ values own_is. spans_one least greatest v p values (subst (IsDomainOf values) is own_is))

-- one more value of a list
pub one_more : (values list : List Value) (i : ℕ) (v : Value) (d : Domain) → i < length list → v ≡ get_or list i v
    → IsDomainOf ((values ++ take i list) ++ v ∷ []) d → IsDomainOf (values ++ take (i + 1) list) d
one_more values list i v d lt at is =
    subst (λ xs. IsDomainOf xs d)
    (append_assoc values (take i list) (v ∷ []) ∙ ap (λ xs. values ++ xs) (ap (λ w. take i list ++ w ∷ []) at ∙ sym (take_more list i v lt))) is

-- one more row of a column
pub one_row_more : (values : List Value) (rows : List (List Value)) (column i : ℕ) (v : Value) (d : Domain) → i < length rows → v ≡ cell (get_or rows i []) column
    → IsDomainOf ((values ++ map (λ row. cell row column) (take i rows)) ++ v ∷ []) d → IsDomainOf (values ++ map (λ row. cell row column) (take (i + 1) rows)) d
one_row_more values rows column i v d lt at is =
    let f : List Value → Value = λ row. cell row column in
    subst (λ xs. IsDomainOf xs d)
    (append_assoc values (map f (take i rows)) (v ∷ []) ∙ ap (λ xs. values ++ xs) (ap (λ w. map f (take i rows) ++ w ∷ []) at ∙ sym (map_more f rows i [] lt))) is

-- the domain of what another is of
pub with_list : (own other : Domain) (list slice : List Value) (r : Result Domain Memory) → other ≡ Values list → slice ≡ list
    → IfOk r (λ d. (values : List Value) → IsDomainOf values own → IsDomainOf (values ++ slice) d)
    → IfOk r (λ d. (values others : List Value) → IsDomainOf values own → IsDomainOf others other → IsDomainOf (values ++ others) d)
with_list own other list slice (Ok d) is same made = λ values others own_is other_is.
    for_list d values slice others (subst (IsDomainOf others) (is ∙ ap Values (sym same)) other_is) (made values own_is)
with_list own other list slice (Err e) is same made = tt

pub with_ends : (own other : Domain) (least greatest a b : Value) (r : Result Domain Memory) → other ≡ Range least greatest → a ≡ least → b ≡ greatest
    → IfOk r (λ d. (values others : List Value) → IsDomainOf values own → AreEndsOf others a b → AreMany others → IsDomainOf (values ++ others) d)
    → IfOk r (λ d. (values others : List Value) → IsDomainOf values own → IsDomainOf others other → IsDomainOf (values ++ others) d)
with_ends own other least greatest a b (Ok d) is low high made = λ values others own_is other_is.
    let ends : IsDomainOf others (Range a b) = subst (IsDomainOf others) (is ∙ (λ i. Range (sym low i) (sym high i))) other_is in
    made values others own_is ends.0 ends.1
with_ends own other least greatest a b (Err e) is low high made = tt

-- a value that does not pass is equal to none that was there
parts : (a b c : Bool) → (a && b && c) ≡ true → (a ≡ true) × (c ≡ true)
parts true true c e = (refl, e)
parts true false c e = cc
parts false true c e = cc
parts false false c e = cc

partner_among : (v : Value) (column : ℕ) (rows : List (List Value)) → list_any (λ row. are_equal v (cell row column)) rows ≡ true
    → is_among (map (λ row. cell row column) rows) v ≡ true
partner_among v column [] e = cc
partner_among v column (row ∷ rows) e = go (are_equal v (cell row column)) refl (partner_among v column rows)
  where
    rest : List Value
    rest = map (λ row. cell row column) rows

    in_rest : Bool
    in_rest = list_any (λ row. are_equal v (cell row column)) rows

    go : (b : Bool) → are_equal v (cell row column) ≡ b → (in_rest ≡ true → is_among rest v ≡ true) → is_among (cell row column ∷ rest) v ≡ true
    go true is later =
        let both = parts (is_present v) (is_present (cell row column)) (same_value v (cell row column)) is in
        and_both (is_present v) (same_value v (cell row column) || is_in rest v) both.0 (or_left (same_value v (cell row column)) (is_in rest v) both.1)
    go false is later =
        let there : is_among rest v ≡ true = later (sym (ap (λ c. c || in_rest) is) ∙ e) in
        and_both (is_present v) (same_value v (cell row column) || is_in rest v) (and_first (is_present v) (is_in rest v) there)
        (or_right (same_value v (cell row column)) (is_in rest v) (and_second (is_present v) (is_in rest v) there))

lost_alone : (d : Domain) (column : ℕ) (rows : List (List Value)) (v : Value) → IsDomainOf (map (λ row. cell row column) rows) d → passes d v ≡ false
    → list_any (λ row. are_equal v (cell row column)) rows ≡ false
lost_alone d column rows v is lost = go (list_any (λ row. are_equal v (cell row column)) rows) refl
  where
    go : (b : Bool) → list_any (λ row. are_equal v (cell row column)) rows ≡ b → list_any (λ row. are_equal v (cell row column)) rows ≡ false
    go true e = absurd (true≢false (sym (there_passes d (map (λ row. cell row column) rows) v is (partner_among v column rows e)) ∙ lost))
    go false e = e

-- rows that differ at one of the pairs are no partners
differ : (on : List (ℕ × ℕ)) (k : ℕ) (a b : List Value) → k < length on → are_equal (cell a (get_or on k (0, 0)).0) (cell b (get_or on k (0, 0)).1) ≡ false
    → are_partners on a b ≡ false
differ [] k a b lt e = absurd (omega arith)
differ (pair ∷ on) zero a b lt e = ap (λ t. t && are_partners on a b) e
differ (pair ∷ on) (suc k) a b lt e = ap (λ t. are_equal (cell a pair.0) (cell b pair.1) && t) (differ on k a b (omega arith) e) ∙ and_none (are_equal (cell a pair.0) (cell b pair.1))

none_kept : (on : List (ℕ × ℕ)) (k : ℕ) (a : List Value) (rows : List (List Value)) → k < length on
    → list_any (λ row. are_equal (cell a (get_or on k (0, 0)).0) (cell row (get_or on k (0, 0)).1)) rows ≡ false → filter (are_partners on a) rows ≡ []
none_kept on k a [] lt e = refl
none_kept on k a (row ∷ rows) lt e =
    let both = or_none (are_equal (cell a (get_or on k (0, 0)).0) (cell row (get_or on k (0, 0)).1)) (list_any (λ row. are_equal (cell a (get_or on k (0, 0)).0) (cell row (get_or on k (0, 0)).1)) rows) e in
    rw (differ on k a row lt both.0) (none_kept on k a rows lt both.1)

-- a row whose value does not pass has no partner
pub lost_row : (d : Domain) (on : List (ℕ × ℕ)) (k : ℕ) (a : List Value) (rows : List (List Value)) → k < length on
    → IsDomainOf (map (λ row. cell row (get_or on k (0, 0)).1) rows) d → passes d (cell a (get_or on k (0, 0)).0) ≡ false → filter (are_partners on a) rows ≡ []
lost_row d on k a rows lt is lost =
    none_kept on k a rows lt (lost_alone d (get_or on k (0, 0)).1 rows (cell a (get_or on k (0, 0)).0) is lost)
