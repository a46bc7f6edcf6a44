-- What stands inside a value nests less deep.
use Rattle.std.proofs.Common.{◌≡◌, ℕ, zero, suc, ◌<◌, ◌≤◌, max, List, [], ◌∷◌, length, get_or, map, Option, Some, Ordering, Less, Equal, Greater, arith}
use Rattle.std.specs.Ordering.{nat_cmp, match_ordering}
use Rattle.std.specs.Cmp.Lexicographic.{slice_cmp}
use Rattle.serde_json.specs.Data.{Data, null, boolean, number, string, array, object, Items, Members, no_members, member, depth, items_depth, members_depth}
use Rattle.serde_json.specs.Find.{as_array, get, get_member}
use Rattle.serde_json.specs.View.{view, items_of}
use Rattle.serde_json.specs.declared.value.Value.{Value}

found_depth : (o : Ordering) (e d : Data) (rest : Option Data) (n : ℕ) → (rest ≡ Some e → depth e ≤ n) → match_ordering o rest (Some d) rest ≡ Some e → depth e ≤ max (depth d) n
found_depth Less e d rest n h found = let at : depth e ≤ n = h found in omega arith
found_depth Equal e d rest n h found = let same : d ≡ e = cc in rw same (omega arith)
found_depth Greater e d rest n h found = let at : depth e ≤ n = h found in omega arith

member_depth : (name : List ℕ) (ms : Members) (e : Data) → get_member name ms ≡ Some e → depth e ≤ members_depth ms
member_depth name no_members e found = absurd (cc)
member_depth name (member l d ms) e found = found_depth (slice_cmp nat_cmp name l) e d (get_member name ms) (members_depth ms) (member_depth name ms e) found

-- a member
pub get_depth : (name : List ℕ) (d e : Data) → get name d ≡ Some e → depth e < depth d
get_depth name null e found = absurd (cc)
get_depth name (boolean b) e found = absurd (cc)
get_depth name (number n) e found = absurd (cc)
get_depth name (string s) e found = absurd (cc)
get_depth name (array ds) e found = absurd (cc)
get_depth name (object ms) e found = let h : depth e ≤ members_depth ms = member_depth name ms e found in omega arith

-- an entry
pub item_depth : (vs : List Value) (i : ℕ) (v : Value) → i < length vs → v ≡ get_or vs i v → depth (view v) ≤ items_depth (items_of (map view vs))
item_depth [] i v within is = absurd (omega arith)
item_depth (x ∷ vs) zero v within is = let e : v ≡ x = is in rw e (omega arith)
item_depth (x ∷ vs) (suc i) v within is = let h : depth (view v) ≤ items_depth (items_of (map view vs)) = item_depth vs i v (omega arith) is in omega arith

-- the entries of a list
pub array_depth : (d : Data) (ds : Items) → Some ds ≡ as_array d → depth d ≡ suc (items_depth ds)
array_depth null ds is = absurd (cc)
array_depth (boolean b) ds is = absurd (cc)
array_depth (number n) ds is = absurd (cc)
array_depth (string s) ds is = absurd (cc)
array_depth (array es) ds is = let e : ds ≡ es = cc in rw e
array_depth (object ms) ds is = absurd (cc)
