-- Cells of several parts: what a look learns, and the union of domains.
use Rattle.std.proofs.Common.{◌≡◌, ◌⊎◌, ◌-◌, ℕ, zero, suc, ◌+◌, ◌<◌, ◌≤◌, ◌≢◌, List, [], ◌∷◌, ◌++◌, length, get_or, set, map, take, Option, Some, None, Result, Ok, Err, refl, ap, sym, ◌∙◌, subst, arith, append_assoc, append-nil, inl, inr}
use Rattle.std.specs.Prelude.{IfNone, IfSome}
use Rattle.std.specs.Borrow.{Bor}
use Rattle.std.proofs.lemmas.Bool.{cases_lt}
use Rattle.std.proofs.lemmas.List.{get_or-append_right, get_or-set_other, get_or-set_same, get_or_append_left, get_or_default, get_or-map, length-append, length-map, length-set, map-append, map-set, set-get_or, take_all}
use Rattle.count_laws.specs.Counts.{next_count}
use Rattle.set_once.specs.Notes.{NoteState, new_note}
use Rattle.set_once.specs.Answers.{IsSet, MayLearn}
use Rattle.set_once.specs.declared.fault.SetFault.{SetFault}
use Rattle.set_once.specs.declared.fault.SetFault.TheVariants.{Refused, Memory}
use Rattle.sql_values.specs.declared.value.Value.{Value}
use Rattle.dyn_filter.specs.declared.domain.Domain.{Domain}
use Rattle.dyn_filter.specs.declared.domain.Domain.TheVariants.{Nothing}
use Rattle.dyn_filter.specs.Domains.{IsDomainOf}
use Rattle.dyn_filter.specs.Cells.{AreDomainsOf, AreFound, AreKnown, FoundAll, IsNoteOf, IsUnion, NotesState, all_of, domain_at, note_at}

-- a part that was found
learned : NoteState Domain → Domain → NoteState Domain
learned note domain = record note { known = Some domain }

module _ (old mid new : List (NoteState Domain)) (domains : List Domain) (domain : Domain) (found : AreFound old mid domains) (more : length domains < length old)
    (may : MayLearn (note_at mid (length domains)) domain) (is : new ≡ set mid (length domains) (record (note_at mid (length domains)) { known = Some domain })) where
  own : note_at mid (length domains) ≡ note_at old (length domains)
  own = found.rest (length domains) (omega arith)

  longer : length (domains ++ domain ∷ []) ≡ length domains + 1
  longer = length-append domains (domain ∷ [])

  before : (part : ℕ) → part < length domains → domain_at (domains ++ domain ∷ []) part ≡ domain_at domains part
  before part lt = get_or_append_left domains (domain ∷ []) Nothing part lt

  here : (part : ℕ) → part ≡ length domains → domain_at (domains ++ domain ∷ []) part ≡ domain
  here part e =
      let none : part - length domains ≡ 0 = omega arith in
      get_or-append_right domains (domain ∷ []) (length domains) part Nothing refl (omega arith) ∙ ap (λ n. get_or (domain ∷ []) n Nothing) none

  elsewhere : (part : ℕ) → part ≢ length domains → note_at new part ≡ note_at mid part
  elsewhere part ne = ap (λ notes. note_at notes part) is ∙ get_or-set_other mid (length domains) part _ _ ne

  there : (part : ℕ) → part ≡ length domains → note_at new part ≡ record (note_at mid (length domains)) { known = Some domain }
  there part e = ap (λ n. note_at new n) e ∙ ap (λ notes. note_at notes (length domains)) is ∙ get_or-set_same mid (length domains) _ _ (rw found.size more)

  pub one_found : AreFound old new (domains ++ domain ∷ [])
  one_found = record {
    size = ap length is ∙ length-set mid (length domains) _ ∙ found.size;
    few = rw longer (omega arith);
    may = λ part lt. go part lt (cases_lt part (length domains));
    known = λ part lt. known part lt (cases_lt part (length domains));
    rest = λ part le. elsewhere part (λ e. omega (arith, longer)) ∙ found.rest part (omega (arith, longer));
  }
    where
      go : (part : ℕ) → part < length (domains ++ domain ∷ []) → (part < length domains) ⊎ (length domains ≤ part) → MayLearn (note_at old part) (domain_at (domains ++ domain ∷ []) part)
      go part lt (inl below) = rw (before part below) (found.may part below)
      go part lt (inr above) =
          let e : part ≡ length domains = omega (arith, longer) in
          rw (here part e, e, ← own) may

      known : (part : ℕ) → part < length (domains ++ domain ∷ []) → (part < length domains) ⊎ (length domains ≤ part)
          → note_at new part ≡ record (note_at old part) { known = Some (domain_at (domains ++ domain ∷ []) part) }
      known part lt (inl below) = rw (before part below) (elsewhere part (λ e. omega arith) ∙ found.known part below)
      known part lt (inr above) =
          let e : part ≡ length domains = omega (arith, longer) in
          rw (here part e) (there part e ∙ ap (λ (note : NoteState Domain). record note { known = Some domain }) (own ∙ ap (note_at old) (sym e)))

-- where each part was found, the note knows these domains
pub all_known : (old new : List (NoteState Domain)) (domains : List Domain) → AreFound old new domains → length domains ≡ length old → AreKnown new domains
all_known old new domains found all = record {
  size = found.size ∙ sym all;
  known = λ part lt. ap (λ note. note.known) (found.known part lt);
}

-- a note stays one of its cell where a part's note keeps its name
pub same_cells : (notes : List (NoteState Domain)) (part : ℕ) (note : NoteState Domain) → note.cell ≡ (note_at notes part).cell
    → map (λ n. n.cell) (set notes part note) ≡ map (λ n. n.cell) notes
same_cells notes part note e =
    map-set (λ (n : NoteState Domain). n.cell) notes part note ∙ ap (set (map (λ n. n.cell) notes) part) e
    ∙ sym (map-set (λ (n : NoteState Domain). n.cell) notes part (note_at notes part)) ∙ ap (map (λ n. n.cell)) (set-get_or notes part _)

-- the values of one list more
pub one_list_more : (lists : List (List Value)) (domains : List Domain) (i : ℕ) (d : Domain) → AreDomainsOf lists domains → i < length domains → d ≡ get_or domains i d
    → (values : List Value) × IsDomainOf values d × (all_of (take (suc i) lists) ≡ all_of (take i lists) ++ values)
one_list_more [] [] i d are lt at = absurd (omega arith)
one_list_more [] (domain ∷ domains) i d are lt at = absurd are
one_list_more (values ∷ lists) [] i d are lt at = absurd are
one_list_more (values ∷ lists) (domain ∷ domains) zero d are lt at = (values, rw at are.0, append-nil values)
one_list_more (values ∷ lists) (domain ∷ domains) (suc i) d are lt at =
    let next = one_list_more lists domains i d are.1 (omega arith) at in
    (next.0, next.1, ap (λ rest. values ++ rest) next.2 ∙ sym (append_assoc values (all_of (take i lists)) next.0))

pub as_many : (lists : List (List Value)) (domains : List Domain) → AreDomainsOf lists domains → length lists ≡ length domains
as_many [] [] are = refl
as_many [] (domain ∷ domains) are = absurd are
as_many (values ∷ lists) [] are = absurd are
as_many (values ∷ lists) (domain ∷ domains) are = ap suc (as_many lists domains are.1)

-- the domain of the values of the first lists
abbrev pub IsUnionOfFirst : List Domain → ℕ → Domain → Type 0
IsUnionOfFirst domains i domain = (lists : List (List Value)) → AreDomainsOf lists domains → IsDomainOf (all_of (take i lists)) domain

pub first_more : (domains : List Domain) (i : ℕ) (own d new : Domain) → IsUnionOfFirst domains i own → i < length domains → d ≡ get_or domains i d
    → ((values others : List Value) → IsDomainOf values own → IsDomainOf others d → IsDomainOf (values ++ others) new) → IsUnionOfFirst domains (i + 1) new
first_more domains i own d new before lt at made lists are =
    let next = one_list_more lists domains i d are lt at in
    let step : suc i ≡ i + 1 = omega arith in
    subst (λ n. IsDomainOf (all_of (take n lists)) new) step
    (subst (λ values. IsDomainOf values new) (sym next.2) (made (all_of (take i lists)) next.0 (before lists are) next.1))

pub first_all : (domains : List Domain) (i : ℕ) (domain : Domain) → length domains ≤ i → IsUnionOfFirst domains i domain → IsUnion domains domain
first_all domains i domain le first lists are =
    subst (λ all. IsDomainOf (all_of all) domain) (take_all i lists (rw (as_many lists domains are) le)) (first lists are)

-- over references, as a loop has them
pub as_long : (notes : NotesState) (parts : List ℕ) → IsNoteOf parts notes → length notes.parts ≡ length parts
as_long notes parts e = sym (length-map notes.parts (λ (n : NoteState Domain). n.cell)) ∙ ap length e

pub found_next : (old mid new : List (NoteState Domain)) (refs refs' : List (Bor Domain)) (r : Bor Domain) (part : ℕ) → AreFound old mid (map (λ (x : Bor Domain). x.now) refs)
    → length refs ≡ part → part < length old → MayLearn (note_at mid part) r.now → new ≡ set mid part (record (note_at mid part) { known = Some r.now })
    → refs' ≡ refs ++ r ∷ [] → AreFound old new (map (λ (x : Bor Domain). x.now) refs')
found_next old mid new refs refs' r part found many more may is longer =
    let own : length (map (λ (x : Bor Domain). x.now) refs) ≡ part = length-map refs (λ (x : Bor Domain). x.now) ∙ many in
    subst (AreFound old new) (sym (ap (map (λ (x : Bor Domain). x.now)) longer ∙ map-append (λ (x : Bor Domain). x.now) refs (r ∷ [])))
    (one_found old mid new (map (λ (x : Bor Domain). x.now) refs) r.now found (rw own more) (rw own may) (rw own is))

pub found_all : (old new : NotesState) (refs slice : List (Bor Domain)) (domain : Domain) (parts : List ℕ) (part : ℕ) → IsNoteOf parts old
    → AreFound old.parts new.parts (map (λ (x : Bor Domain). x.now) refs) → length refs ≡ part → length parts ≤ part → slice ≡ refs
    → IsUnion (map (λ (x : Bor Domain). x.now) slice) domain → new.empties ≡ old.empties → new.looked_at ≡ old.looked_at → FoundAll old new domain
found_all old new refs slice domain parts part of found many le same union empties looked_at =
    let own : length (map (λ (x : Bor Domain). x.now) refs) ≡ part = length-map refs (λ (x : Bor Domain). x.now) ∙ many in
    record {
      domains = map (λ (x : Bor Domain). x.now) refs;
      all = omega (arith, own, found.few, as_long old parts of);
      found = found;
      union = subst (λ rs. IsUnion (map (λ (x : Bor Domain). x.now) rs) domain) same union;
      empties = empties;
      looked_at = looked_at;
    }

pub union_more : (refs : List (Bor Domain)) (i : ℕ) (own : Domain) (r : Bor Domain) (new : Domain) → IsUnionOfFirst (map (λ (x : Bor Domain). x.now) refs) i own
    → i < length refs → r ≡ get_or refs i r
    → ((values others : List Value) → IsDomainOf values own → IsDomainOf others r.now → IsDomainOf (values ++ others) new)
    → IsUnionOfFirst (map (λ (x : Bor Domain). x.now) refs) (i + 1) new
union_more refs i own r new before lt at made =
    first_more (map (λ (x : Bor Domain). x.now) refs) i own r.now new before (rw (length-map refs (λ (x : Bor Domain). x.now)) lt)
    (ap (λ (x : Bor Domain). x.now) at ∙ sym (get_or-map (λ (x : Bor Domain). x.now) refs i r r.now lt)) made

pub union_all : (refs : List (Bor Domain)) (i : ℕ) (domain : Domain) → length refs ≤ i → IsUnionOfFirst (map (λ (x : Bor Domain). x.now) refs) i domain
    → IsUnion (map (λ (x : Bor Domain). x.now) refs) domain
union_all refs i domain le first = first_all (map (λ (x : Bor Domain). x.now) refs) i domain (rw (length-map refs (λ (x : Bor Domain). x.now)) le) first

-- what a set and a look leave of the name
pub set_cell : (old new : NoteState Domain) (domain : Domain) (seen : ℕ) (r : Result (Unit {0}) (SetFault Domain)) → IsSet old new domain seen r → new.cell ≡ old.cell
set_cell old new domain seen (Ok done) is = ap (λ (n : NoteState Domain). n.cell) is.1
set_cell old new domain seen (Err (Refused back)) is = ap (λ (n : NoteState Domain). n.cell) is.1.2
set_cell old new domain seen (Err (Memory back)) is = ap (λ (n : NoteState Domain). n.cell) is.1

pub look_cell : (old new : NoteState Domain) (seen : ℕ) (r : Option (Bor Domain)) → IfSome r (λ x. MayLearn old x.now × (new ≡ record old { known = Some x.now }))
    → IfNone r ((old.known ≡ None) × (new ≡ record old { empties = next_count old.empties; looked_at = seen })) → new.cell ≡ old.cell
look_cell old new seen (Some x) some none = ap (λ (n : NoteState Domain). n.cell) some.1
look_cell old new seen None some none = ap (λ (n : NoteState Domain). n.cell) none.1

pub cells_kept : (old : NotesState) (notes : List (NoteState Domain)) (parts : List ℕ) (part : ℕ) (own new : NoteState Domain) → IsNoteOf parts old → notes ≡ old.parts
    → part < length parts → own ≡ get_or notes part own → new.cell ≡ own.cell → map (λ n. n.cell) (set notes part new) ≡ parts
cells_kept old notes parts part own new of is lt at same =
    let all : map (λ (n : NoteState Domain). n.cell) notes ≡ parts = ap (map (λ (n : NoteState Domain). n.cell)) is ∙ of in
    let long : length notes ≡ length parts = sym (length-map notes (λ (n : NoteState Domain). n.cell)) ∙ ap length all in
    let there : own ≡ note_at notes part = at ∙ get_or_default notes part own (new_note 0) (rw long lt) in
    same_cells notes part new (same ∙ ap (λ (n : NoteState Domain). n.cell) there) ∙ all

-- the notes of one part are of one cell
pub same_name : (notes others : List (NoteState Domain)) (part : ℕ) (own other : NoteState Domain) → map (λ n. n.cell) others ≡ map (λ n. n.cell) notes → part < length notes
    → own ≡ get_or notes part own → other ≡ get_or others part other → other.cell ≡ own.cell
same_name notes others part own other same lt at at' =
    let name : NoteState Domain → ℕ = λ n. n.cell in
    let long : length others ≡ length notes = sym (length-map others name) ∙ ap length same ∙ length-map notes name in
    ap name at' ∙ sym (get_or-map name others part other 0 (rw long lt)) ∙ ap (λ names. get_or names part 0) same ∙ get_or-map name notes part own 0 lt ∙ sym (ap name at)

-- a note that was just made is one of its cell
pub fresh_cells : (parts : List ℕ) → map (λ (n : NoteState Domain). n.cell) (map new_note parts) ≡ parts
fresh_cells [] = refl
fresh_cells (part ∷ parts) = ap (λ rest. part ∷ rest) (fresh_cells parts)
