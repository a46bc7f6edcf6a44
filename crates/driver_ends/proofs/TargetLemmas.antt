-- Outlets one by one, and what each has of the rows.
use Rattle.std.proofs.Common.{◌≡◌, ◌≢◌, ℕ, zero, suc, ◌+◌, ◌-◌, ◌<◌, ◌≤◌, List, [], ◌∷◌, ◌++◌, Bool, true, false, Option, Some, None, cond, length, get_or, set, map, refl, sym, ap, ◌∙◌, subst, arith}
use Rattle.std.specs.Prelude.{◌&&◌, All, filter, is_none, nat_eq, replicate, ◌==◌}
use Rattle.std.specs.List.{range_with_len}
use Rattle.std.proofs.Math.ListN.{get_or-map}
use Rattle.std.proofs.lemmas.List.{get_or-map as get_or-map-within}
use Rattle.std.proofs.lemmas.List.{append-nil, append_assoc, get_or-replicate, get_or-set_other, length-map, length-replicate, map-append, map-set}
use Rattle.std.proofs.lemmas.List.Elements.{All-map, All-nil, All-tail, filter-append}
use Rattle.std.proofs.lemmas.List.FromFn.{get_or-map-range_with_len, length-map-range_with_len, length-range_with_len}
use Rattle.std.proofs.lemmas.Bool.{cond-true, eq-eqb, true≢false}
use Rattle.std.proofs.Math.Nat.{mod-one}
use Rattle.std.proofs.lemmas.List.Sums.{sum_by-set, get_or-le-sum_by}
use Rattle.sql_values.specs.declared.value.Value.{Value}
use Rattle.col_pages.specs.Pages.{TypedPage}
use Rattle.bag_laws.specs.Buckets.{key_bucket, of_bucket}
use Rattle.output_buffer.specs.Edges.{end_count}
use Rattle.output_buffer.specs.Partitions.{Partition, part_of, parts_of}
use Rattle.output_buffer.specs.Seats.{GatherPutState, rows_of_pieces}
use Rattle.driver_ends.specs.declared.put_target.PutKind.{PutKind}
use Rattle.driver_ends.specs.declared.put_target.PutKind.TheVariants.{One, Each, Hash}
use Rattle.driver_ends.specs.Outlets.{HasRows, IsClear, IsThrough, OutletInOrder, OutletKept, OutletState, outlet_dues, outlet_kept, new_outlet, rows_of_held, rows_sent}
use Rattle.driver_ends.specs.Targets.{HasPutFirst, HasSent, HavePutAll, HavePutFirst, IsFinished, TargetState, add_each, dues_of, fulls_of, sent_to}

-- what a function cannot tell apart in two lists
pub each_same : {X Y : Type 0} (f : X → Y) (xs ys : List X) → map f xs ≡ map f ys → (k : ℕ) (d : X) → f (get_or xs k d) ≡ f (get_or ys k d)
each_same f xs ys same k d = sym (get_or-map f xs k d) ∙ ap (λ l. get_or l k (f d)) same ∙ get_or-map f ys k d

pub length_same : {X Y : Type 0} (f : X → Y) (xs ys : List X) → map f xs ≡ map f ys → length xs ≡ length ys
length_same f xs ys same = sym (length-map xs f) ∙ ap length same ∙ length-map ys f

map_twice : {X Y Z : Type 0} (g : Y → Z) (f : X → Y) (xs : List X) → map g (map f xs) ≡ map (λ x. g (f x)) xs
map_twice g f [] = refl
map_twice g f (x ∷ xs) = ap (λ rest. g (f x) ∷ rest) (map_twice g f xs)

-- what a function says of it is the same too
pub same_by : {X Y Z : Type 0} (g : Y → Z) (f : X → Y) (xs ys : List X) → map f xs ≡ map f ys → map (λ x. g (f x)) xs ≡ map (λ x. g (f x)) ys
same_by g f xs ys same = sym (map_twice g f xs) ∙ ap (map g) same ∙ map_twice g f ys

-- behind no more lists, each is as it was
pub add_none : {X : Type 0} (lists : List (List X)) → add_each lists [] ≡ lists
add_none [] = refl
add_none (xs ∷ lists) = refl

-- the last of the lists may be added first
add_last : {X : Type 0} (lists more : List (List X)) (last : List X) (d : List X) → length more < length lists →
    add_each lists (more ++ last ∷ []) ≡ add_each (set lists (length more) (get_or lists (length more) d ++ last)) more
add_last [] more last d within = absurd (omega (arith, within))
add_last (xs ∷ lists) [] last d within = ap (λ rest. (xs ++ last) ∷ rest) (add_none lists)
add_last (xs ∷ lists) (ys ∷ more) last d within = ap (λ rest. (xs ++ ys) ∷ rest) (add_last lists more last d (omega (arith, within)))

-- the outlet of the last page holds it
pub held_more : (outlets : List OutletState) (pages : List TypedPage) (page : TypedPage) (new d : OutletState) (n : ℕ) →
    n ≡ length pages → n < length outlets → rows_sent new ≡ rows_sent (get_or outlets n d) ++ page.rows →
    add_each (map rows_sent (set outlets n new)) (map (λ (p : TypedPage). p.rows) pages) ≡ add_each (map rows_sent outlets) (map (λ (p : TypedPage). p.rows) (pages ++ page ∷ []))
held_more outlets pages page new d n is within holds =
    let M = map rows_sent outlets in
    let P = map (λ (p : TypedPage). p.rows) pages in
    let place : n ≡ length P = is ∙ sym (length-map pages (λ (p : TypedPage). p.rows)) in
    let at : rows_sent new ≡ get_or M (length P) (rows_sent d) ++ page.rows = holds ∙ ap (λ rows. rows ++ page.rows) (sym (get_or-map rows_sent outlets n d) ∙ ap (λ k. get_or M k (rows_sent d)) place) in
    let less : length P < length M = omega (arith, place, within, length-map outlets rows_sent) in
    ap (λ l. add_each l P) (map-set rows_sent outlets n new ∙ (λ i. set M (place i) (at i)))
    ∙ sym (add_last M P page.rows (rows_sent d) less)
    ∙ ap (add_each M) (sym (map-append (λ (p : TypedPage). p.rows) pages (page ∷ [])))

-- the outlets before the last page's are clear as before
pub clear_before : (outlets : List OutletState) (new : OutletState) (n m : ℕ) → m ≡ n + 1 →
    ((k : ℕ) (d : OutletState) → k < m → IsClear (get_or outlets k d)) → (k : ℕ) (d : OutletState) → k < n → IsClear (get_or (set outlets n new) k d)
clear_before outlets new n m is clear k d less =
    let other : k ≢ n = λ e. absurd (omega (arith, e, less)) in
    subst IsClear (sym (get_or-set_other outlets n k new d other)) (clear k d (omega (arith, is, less)))

replicate_each : {X : Type 0} (n : ℕ) (a b : List X) → replicate n (a ++ b) ≡ add_each (replicate n a) (replicate n b)
replicate_each zero a b = refl
replicate_each (suc n) a b = ap (λ rest. (a ++ b) ∷ rest) (replicate_each n a b)

map_each : {X Y : Type 0} (f g h : Y → List X) → ((y : Y) → f y ≡ g y ++ h y) → (ys : List Y) → map f ys ≡ add_each (map g ys) (map h ys)
map_each f g h each [] = refl
map_each f g h each (y ∷ ys) = λ i. each y i ∷ map_each f g h each ys i

-- what an outlet has of some rows and of more is what it has of the first, and then of the others
pub sent_more : (kind : PutKind) (n : ℕ) (a b : List (List Value)) → sent_to kind n (a ++ b) ≡ add_each (sent_to kind n a) (sent_to kind n b)
sent_more One n a b = replicate_each n a b
sent_more Each n a b = replicate_each n a b
sent_more (Hash by) n a b =
    map_each (λ k. of_bucket (key_bucket by.parts by.columns) k (a ++ b)) (λ k. of_bucket (key_bucket by.parts by.columns) k a) (λ k. of_bucket (key_bucket by.parts by.columns) k b)
    (λ k. filter-append (λ x. nat_eq (key_bucket by.parts by.columns x) k) a b) (range_with_len 0 n)

pub length_sent : (kind : PutKind) (n : ℕ) (rows : List (List Value)) → length (sent_to kind n rows) ≡ n
length_sent One n rows = length-replicate n rows
length_sent Each n rows = length-replicate n rows
length_sent (Hash by) n rows = length-map-range_with_len (λ k. of_bucket (key_bucket by.parts by.columns) k rows) 0 n

map_replicate : {X Y : Type 0} (f : X → Y) (n : ℕ) (x : X) → map f (replicate n x) ≡ replicate n (f x)
map_replicate f zero x = refl
map_replicate f (suc n) x = ap (λ rest. f x ∷ rest) (map_replicate f n x)

map_none : {X Y : Type 0} (f : X → List Y) → ((x : X) → f x ≡ []) → (xs : List X) → map f xs ≡ replicate (length xs) []
map_none f none [] = refl
map_none f none (x ∷ xs) = λ i. none x i ∷ map_none f none xs i

-- of no rows each outlet has none
none_sent : (kind : PutKind) (n : ℕ) → sent_to kind n [] ≡ replicate n []
none_sent One n = refl
none_sent Each n = refl
none_sent (Hash by) n = map_none (λ k. of_bucket (key_bucket by.parts by.columns) k []) (λ k. refl) (range_with_len 0 n) ∙ ap (λ m. replicate m []) (length-range_with_len 0 n)

fresh_sent : (seats : List GatherPutState) → All (λ s. s.put ≡ []) seats → map rows_sent (map new_outlet seats) ≡ replicate (length seats) []
fresh_sent [] none = refl
fresh_sent (s ∷ seats) none = λ i. (rows_of_pieces (none 0 s (omega arith) i) ++ []) ∷ fresh_sent seats (All-tail (λ (s : GatherPutState). s.put ≡ []) s seats none) i

-- outlets of seats that put nothing have sent nothing
pub new_sent : (kind : PutKind) (seats : List GatherPutState) (outlets : List OutletState) → outlets ≡ map new_outlet seats → All (λ s. s.put ≡ []) seats →
    map rows_sent outlets ≡ sent_to kind (length outlets) []
new_sent kind seats outlets is none =
    ap (map rows_sent) is ∙ fresh_sent seats none ∙ ap (λ n. replicate n []) (sym (ap length is ∙ length-map seats new_outlet)) ∙ sym (none_sent kind (length outlets))

pub new_early : (seats : List GatherPutState) (outlets : List OutletState) → outlets ≡ map new_outlet seats → All (λ s. s.put ≡ []) seats → All (λ l. end_count l.seat.put ≡ 0) outlets
new_early seats outlets is none =
    subst (All (λ (l : OutletState). end_count l.seat.put ≡ 0)) (sym is) (All-map (λ (l : OutletState). end_count l.seat.put ≡ 0) new_outlet seats (λ k d less. ap end_count (none k d less)))

-- an outlet of a seat that put nothing is in order
fresh_in_order : (s : GatherPutState) → s.put ≡ [] → OutletInOrder (new_outlet s)
fresh_in_order s none = record {
  full = subst (All HasRows) (sym none) (All-nil HasRows);
  rows = tt;
  first = tt;
}

pub new_in_order : (seats : List GatherPutState) (outlets : List OutletState) → outlets ≡ map new_outlet seats → All (λ s. s.put ≡ []) seats → All OutletInOrder outlets
new_in_order seats outlets is none =
    subst (All OutletInOrder) (sym is) (All-map OutletInOrder new_outlet seats (λ k d less. fresh_in_order (get_or seats k d) (none k d less)))

pub parts_sent : (by : Partition) (n : ℕ) (page : TypedPage) (pages : List TypedPage) → n ≡ by.parts → pages ≡ parts_of by page →
    map (λ (p : TypedPage). p.rows) pages ≡ sent_to (Hash by) n page.rows
parts_sent by n page pages fits is =
    ap (map (λ (p : TypedPage). p.rows)) is ∙ map_twice (λ (p : TypedPage). p.rows) (part_of by page) (range_with_len 0 by.parts)
    ∙ ap (λ m. map (λ k. of_bucket (key_bucket by.parts by.columns) k page.rows) (range_with_len 0 m)) (sym fits)

-- all rows are of the only bucket
all_of_one : (columns : List ℕ) (rows : List (List Value)) → of_bucket (key_bucket 1 columns) 0 rows ≡ rows
all_of_one columns [] = refl
all_of_one columns (row ∷ rows) =
    let first : (key_bucket 1 columns row == 0) ≡ true = eq-eqb _ 0 (mod-one _) in
    cond-true (key_bucket 1 columns row == 0) (row ∷ of_bucket (key_bucket 1 columns) 0 rows) _ first ∙ ap (λ left. row ∷ left) (all_of_one columns rows)

pub only_sent : (by : Partition) (page : TypedPage) (pages : List TypedPage) → by.parts ≡ 1 → pages ≡ replicate 1 page →
    map (λ (p : TypedPage). p.rows) pages ≡ sent_to (Hash by) 1 page.rows
only_sent by page pages one is =
    ap (map (λ (p : TypedPage). p.rows)) is ∙ ap (λ rows. rows ∷ []) (sym (ap (λ n. of_bucket (key_bucket n by.columns) 0 page.rows) one ∙ all_of_one by.columns page.rows))

pub copies_sent : (n : ℕ) (page : TypedPage) (pages : List TypedPage) → pages ≡ replicate n page → map (λ (p : TypedPage). p.rows) pages ≡ replicate n page.rows
copies_sent n page pages is = ap (map (λ (p : TypedPage). p.rows)) is ∙ map_replicate (λ (p : TypedPage). p.rows) n page

-- what is kept while outlets put
pub kept_sent : (told : Bool) (kind : PutKind) (old new : List OutletState) → map (outlet_kept told) new ≡ map (outlet_kept told) old → (given : List (List Value)) →
    map rows_sent old ≡ sent_to kind (length old) given → map rows_sent new ≡ sent_to kind (length new) given
kept_sent told kind old new kept given sent =
    same_by (λ (l : OutletKept). l.rows) (outlet_kept told) new old kept ∙ sent ∙ ap (λ n. sent_to kind n given) (sym (length_same (outlet_kept told) new old kept))

pub kept_early : (told : Bool) (old new : List OutletState) → map (outlet_kept told) new ≡ map (outlet_kept told) old →
    (told ≡ false → All (λ l. end_count l.seat.put ≡ 0) old) → told ≡ false → All (λ l. end_count l.seat.put ≡ 0) new
kept_early true old new kept early is = absurd (true≢false is)
kept_early false old new kept early is = λ k d less.
    ap (λ (l : OutletKept). l.ends) (each_same (outlet_kept false) new old kept k d) ∙ early refl k d (omega (arith, less, length_same (outlet_kept false) new old kept))

-- a sum of dues in which one outlet's grew
pub rang_more : (old new : ℕ → Type 0) (outlets : List OutletState) (outlet d : OutletState) (k bell : ℕ) → k < length outlets →
    ((times : ℕ) → old (times + outlet_dues (get_or outlets k d) bell) → new (times + outlet_dues outlet bell)) →
    (times : ℕ) → old (times + dues_of outlets bell) → new (times + dues_of (set outlets k outlet) bell)
rang_more old new outlets outlet d k bell within step times rang =
    let f : OutletState → ℕ = λ l. outlet_dues l bell in
    let sum : dues_of (set outlets k outlet) bell + outlet_dues (get_or outlets k d) bell ≡ dues_of outlets bell + outlet_dues outlet bell = sum_by-set f outlets k outlet d within in
    let part : outlet_dues (get_or outlets k d) bell ≤ dues_of outlets bell = get_or-le-sum_by f outlets k d within in
    let before : times + dues_of outlets bell ≡ (times + (dues_of outlets bell - outlet_dues (get_or outlets k d) bell)) + outlet_dues (get_or outlets k d) bell = omega (arith, part) in
    let after : (times + (dues_of outlets bell - outlet_dues (get_or outlets k d) bell)) + outlet_dues outlet bell ≡ times + dues_of (set outlets k outlet) bell = omega (arith, part, sum) in
    subst new after (step (times + (dues_of outlets bell - outlet_dues (get_or outlets k d) bell)) (subst old before rang))

-- fulls never fall where those of one outlet do not
pub fulls_more : (first : ℕ) (outlets : List OutletState) (k : ℕ) (outlet d : OutletState) → k < length outlets → first ≤ fulls_of outlets →
    (get_or outlets k d).seat.fulls ≤ outlet.seat.fulls → first ≤ fulls_of (set outlets k outlet)
fulls_more first outlets k outlet d within before more =
    omega (arith, sum_by-set (λ (l : OutletState). l.seat.fulls) outlets k outlet d within, before, more)

-- outlets that are clear put all that they were given
clear_rows : (outlets : List OutletState) → All (IsThrough true) outlets → map (λ (s : GatherPutState). rows_of_pieces s.put) (map (λ (l : OutletState). l.seat) outlets) ≡ map rows_sent outlets
clear_rows [] through = refl
clear_rows (l ∷ outlets) through = λ i. sym (ap (λ h. rows_of_pieces l.seat.put ++ rows_of_held h) (through 0 l (omega arith)).clear ∙ append-nil (rows_of_pieces l.seat.put)) i
    ∷ clear_rows outlets (All-tail (IsThrough true) l outlets through) i

pub put_all : (kind : PutKind) (outlets : List OutletState) (seats : List GatherPutState) (given : List (List Value)) → seats ≡ map (λ (l : OutletState). l.seat) outlets →
    All (IsThrough true) outlets → map rows_sent outlets ≡ sent_to kind (length outlets) given → HavePutAll kind given seats
put_all kind outlets seats given is through sent = subst (HavePutAll kind given) (sym is) (record {
  rows = clear_rows outlets through ∙ sent ∙ ap (λ n. sent_to kind n given) (sym (length-map outlets (λ (l : OutletState). l.seat)));
  ends = All-map (λ (s : GatherPutState). 0 < end_count s.put) (λ (l : OutletState). l.seat) outlets (λ k d less. (through k d less).ended refl);
})

record Cut {X : Type 0} (p : X → Bool) (zs xs : List X) : Type 0 where
  first : List X
  rest : List X
  whole : zs ≡ first ++ rest
  kept : filter p first ≡ xs

-- the first of those that pass a test are those of a beginning of the list
filter_cut : {X : Type 0} (p : X → Bool) (zs xs ys : List X) → filter p zs ≡ xs ++ ys → Cut p zs xs
filter_cut p [] [] ys e = record { first = []; rest = []; whole = refl; kept = refl }
filter_cut p [] (x ∷ xs) ys e = absurd (omega (arith, ap length e))
filter_cut p (z ∷ zs) [] ys e = record { first = []; rest = z ∷ zs; whole = refl; kept = refl }
filter_cut {X = X} p (z ∷ zs) (x ∷ xs) ys e = by (p z) refl e (λ us e. filter_cut p zs us ys e)
  where
    by : (b : Bool) → p z ≡ b → cond b (z ∷ filter p zs) (filter p zs) ≡ (x ∷ xs) ++ ys → ((us : List X) → filter p zs ≡ us ++ ys → Cut p zs us) → Cut p (z ∷ zs) (x ∷ xs)
    by true is e later =
        let head : z ≡ x = cc in
        let tail : filter p zs ≡ xs ++ ys = cc in
        let c = later xs tail in
        record {
          first = z ∷ c.first;
          rest = c.rest;
          whole = ap (λ l. z ∷ l) c.whole;
          kept = ap (λ b. cond b (z ∷ filter p c.first) (filter p c.first)) is ∙ (λ i. head i ∷ c.kept i);
        }
    by false is e later =
        let c = later (x ∷ xs) e in
        record {
          first = z ∷ c.first;
          rest = c.rest;
          whole = ap (λ l. z ∷ l) c.whole;
          kept = ap (λ b. cond b (z ∷ filter p c.first) (filter p c.first)) is ∙ c.kept;
        }

pub put_first : (kind : PutKind) (n place : ℕ) (given : List (List Value)) (outlet : OutletState) → place < n → rows_sent outlet ≡ get_or (sent_to kind n given) place [] → HasPutFirst kind n place given outlet.seat
put_first One n place given outlet within sent = record {
  first = rows_of_pieces outlet.seat.put;
  rest = rows_of_held outlet.held;
  whole = sym (sent ∙ get_or-replicate n place given [] within);
  put = sym (get_or-replicate n place (rows_of_pieces outlet.seat.put) [] within);
}
put_first Each n place given outlet within sent = record {
  first = rows_of_pieces outlet.seat.put;
  rest = rows_of_held outlet.held;
  whole = sym (sent ∙ get_or-replicate n place given [] within);
  put = sym (get_or-replicate n place (rows_of_pieces outlet.seat.put) [] within);
}
put_first (Hash by) n place given outlet within sent =
    let bucket : List Value → ℕ = key_bucket by.parts by.columns in
    let p : List Value → Bool = λ row. nat_eq (bucket row) place in
    let mine : List (List Value) → ℕ → List (List Value) = λ rows k. of_bucket bucket k rows in
    let c = filter_cut p given (rows_of_pieces outlet.seat.put) (rows_of_held outlet.held) (sym (sent ∙ get_or-map-range_with_len (mine given) 0 n place place [] within (omega arith))) in
    record {
      first = c.first;
      rest = c.rest;
      whole = c.whole;
      put = sym (get_or-map-range_with_len (mine c.first) 0 n place place [] within (omega arith) ∙ c.kept);
    }

pub puts_first : (kind : PutKind) (outlets : List OutletState) (seats : List GatherPutState) (given : List (List Value)) → seats ≡ map (λ (l : OutletState). l.seat) outlets →
    map rows_sent outlets ≡ sent_to kind (length outlets) given → HavePutFirst kind given seats
puts_first kind outlets seats given is sent place seat within there =
    let d = new_outlet seat in
    let long : length seats ≡ length outlets = ap length is ∙ length-map outlets (λ (l : OutletState). l.seat) in
    let outlet = get_or outlets place d in
    let less : place < length outlets = omega (arith, within, long) in
    let mine : outlet.seat ≡ seat = sym (get_or-map (λ (l : OutletState). l.seat) outlets place d) ∙ ap (λ l. get_or l place seat) (sym is) ∙ sym there in
    let rows : rows_sent outlet ≡ get_or (sent_to kind (length outlets) given) place [] = sym (sent_at outlets place d less) ∙ ap (λ l. get_or l place []) sent in
    subst (λ n. HasPutFirst kind n place given seat) (sym long) (subst (HasPutFirst kind (length outlets) place given) mine (put_first kind (length outlets) place given outlet less rows))
  where
    sent_at : (outlets : List OutletState) (place : ℕ) (d : OutletState) → place < length outlets → get_or (map rows_sent outlets) place [] ≡ rows_sent (get_or outlets place d)
    sent_at outlets place d less = get_or-map-within rows_sent outlets place d [] less

-- ---- with the rows that wait

-- the rows that waited are spread
pub spreads_all : (old new : TargetState) (given : List (List Value)) → map rows_sent new.outlets ≡ add_each (map rows_sent old.outlets) (sent_to old.kind (length old.outlets) (rows_of_held old.waiting)) →
    length new.outlets ≡ length old.outlets → new.kind ≡ old.kind → new.waiting ≡ None → HasSent old given → HasSent new given
spreads_all old new given holds long kind none h =
    let waits = rows_of_held old.waiting in
    record {
      spread = h.spread ++ waits;
      whole = h.whole ∙ sym (append-nil (h.spread ++ waits)) ∙ ap (λ w. (h.spread ++ waits) ++ rows_of_held w) (sym none);
      sent = holds ∙ ap (λ l. add_each l (sent_to old.kind (length old.outlets) waits)) h.sent
          ∙ sym (sent_more old.kind (length old.outlets) h.spread waits) ∙ (λ i. sent_to (sym kind i) (sym long i) (h.spread ++ waits));
    }

-- while rows wait no End may be put
pub no_end : (told : Bool) (waiting : Option TypedPage) (page : TypedPage) → waiting ≡ Some page → (told && is_none waiting) ≡ false
no_end told waiting page is = ap (λ w. told && is_none w) is ∙ never told
  where
    never : (told : Bool) → (told && false) ≡ false
    never true = refl
    never false = refl

-- where none wait, rows that are spread come to those that were given
pub holds_more : (old new : TargetState) (given rows : List (List Value)) → map rows_sent new.outlets ≡ add_each (map rows_sent old.outlets) (sent_to old.kind (length old.outlets) rows) →
    length new.outlets ≡ length old.outlets → new.kind ≡ old.kind → old.waiting ≡ None → new.waiting ≡ None → HasSent old given → HasSent new (given ++ rows)
holds_more old new given rows holds long kind none still h = record {
  spread = h.spread ++ rows;
  whole = ap (λ l. l ++ rows) (h.whole ∙ ap (λ w. h.spread ++ rows_of_held w) none ∙ append-nil h.spread) ∙ sym (append-nil (h.spread ++ rows)) ∙ ap (λ w. (h.spread ++ rows) ++ rows_of_held w) (sym still);
  sent = holds ∙ ap (λ l. add_each l (sent_to old.kind (length old.outlets) rows)) h.sent
      ∙ sym (sent_more old.kind (length old.outlets) h.spread rows) ∙ (λ i. sent_to (sym kind i) (sym long i) (h.spread ++ rows));
}

-- what is kept while outlets put
pub kept_given : (told : Bool) (old new : TargetState) (given : List (List Value)) → new.kind ≡ old.kind → new.waiting ≡ old.waiting →
    map (outlet_kept told) new.outlets ≡ map (outlet_kept told) old.outlets → HasSent old given → HasSent new given
kept_given told old new given kind waits kept h = record {
  spread = h.spread;
  whole = h.whole ∙ ap (λ w. h.spread ++ rows_of_held w) (sym waits);
  sent = kept_sent told old.kind old.outlets new.outlets kept h.spread h.sent ∙ ap (λ k. sent_to k (length new.outlets) h.spread) (sym kind);
}

-- what the seats put is of the first of the rows that were given
pub sent_first : (t : TargetState) (seats : List GatherPutState) (given : List (List Value)) → seats ≡ map (λ (l : OutletState). l.seat) t.outlets → HasSent t given → HavePutFirst t.kind given seats
sent_first t seats given is h place seat within there =
    let p = puts_first t.kind t.outlets seats h.spread is h.sent place seat within there in
    record {
      first = p.first;
      rest = p.rest ++ rows_of_held t.waiting;
      whole = h.whole ∙ ap (λ l. l ++ rows_of_held t.waiting) p.whole ∙ append_assoc p.first p.rest (rows_of_held t.waiting);
      put = p.put;
    }

-- and of a target that is finished it is all of them
pub sent_all : (t : TargetState) (seats : List GatherPutState) (given : List (List Value)) → seats ≡ map (λ (l : OutletState). l.seat) t.outlets → IsFinished t → HasSent t given → HavePutAll t.kind given seats
sent_all t seats given is over h =
    subst (λ rows. HavePutAll t.kind rows seats) (sym (h.whole ∙ ap (λ w. h.spread ++ rows_of_held w) over.none ∙ append-nil h.spread))
    (put_all t.kind t.outlets seats h.spread is over.through h.sent)
