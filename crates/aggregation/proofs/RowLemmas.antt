-- Rows that were taken from a page, one by one, and rows of groups.
use Rattle.std.proofs.Common.{◌≡◌, ℕ, ◌+◌, ◌<◌, zero, suc, List, [], ◌∷◌, ◌++◌, length, get_or, map, take, refl, ap, sym, subst, ◌∙◌, arith}
use Rattle.std.specs.Prelude.{Bool, slice_index_or, true}
use Rattle.std.proofs.lemmas.List.{append_assoc, map-append, take_more}
use Rattle.std.proofs.lemmas.Option.{unwrap_or-slice_get}
use Rattle.sql_values.specs.declared.value.Value.{Value}
use Rattle.sql_values.specs.declared.value.Value.TheVariants as value
use Rattle.sql_values.specs.Blocks.{offered}
use Rattle.sql_values.specs.Cells.{cell}
use Rattle.sql_values.specs.ColumnRows.{TypedRows}
use Rattle.sql_values.specs.declared.relational.Call.{Call}
use Rattle.aggregation.specs.Alike.{TellAlike}
use Rattle.aggregation.specs.Held.{of_each}
use Rattle.aggregation.specs.Tables.{TableState, held_in}
use Rattle.aggregation.proofs.AlikeLemmas.{alike-append, alike-from_equal, alike-refl, alike-trans}

-- with what is made of one more row of a page
pub rows-more : (width : ℕ) (calls : List Call) (make : List Value → List Value) (first now next rows : List (List Value)) (i : ℕ) (row : List Value) → i < length rows → row ≡ get_or rows i []
    → TellAlike width calls now (first ++ map make (take i rows)) → TellAlike width calls next (now ++ make row ∷ [])
    → TellAlike width calls next (first ++ map make (take (i + 1) rows))
rows-more w calls make first now next rows i row lt is alike more =
    let taken : take (i + 1) rows ≡ take i rows ++ row ∷ [] = take_more rows i [] lt ∙ ap (λ r. take i rows ++ r ∷ []) (sym is) in
    let whole : first ++ map make (take (i + 1) rows) ≡ (first ++ map make (take i rows)) ++ make row ∷ []
    = ap (λ rs. first ++ map make rs) taken
    ∙ ap (λ rs. first ++ rs) (map-append make (take i rows) (row ∷ []))
    ∙ sym (append_assoc first (map make (take i rows)) (make row ∷ [])) in
    alike-trans w calls more
    (alike-trans w calls (alike-append w calls alike (alike-refl w calls (make row ∷ [])))
    (alike-from_equal w calls (sym whole)))

pub page-more : (make : TableState → List Value → List Value) (first now next : TableState) (rows : List (List Value)) (i : ℕ) → i < length rows → make now ≡ make first
    → ◌≡◌ {A = TableState} (record now { keys = first.keys; partials = first.partials }) first
    → TellAlike (length first.columns) first.calls (held_in now) (held_in first ++ map (make first) (take i rows))
    → ◌≡◌ {A = TableState} (record next { keys = now.keys; partials = now.partials }) now
    → TellAlike (length now.columns) now.calls (held_in next) (held_in now ++ make now (slice_index_or rows i []) ∷ [])
    → (◌≡◌ {A = TableState} (record next { keys = first.keys; partials = first.partials }) first)
    × TellAlike (length first.columns) first.calls (held_in next) (held_in first ++ map (make first) (take (i + 1) rows))
page-more make first now next rows i lt made same alike again more =
    let row = slice_index_or rows i [] in
    let columns : now.columns ≡ first.columns = ap (λ (t : TableState). t.columns) same in
    let calls : now.calls ≡ first.calls = ap (λ (t : TableState). t.calls) same in (
      ap (λ (t : TableState). record t { keys = first.keys; partials = first.partials }) again ∙ same,
      rows-more (length first.columns) first.calls (make first) (held_in first) (held_in now) (held_in next) rows i row lt refl alike
          (subst (λ (m : List Value → List Value). TellAlike (length first.columns) first.calls (held_in next) (held_in now ++ m row ∷ [])) made
          (subst (λ (cs : List Call). TellAlike (length first.columns) cs (held_in next) (held_in now ++ make now row ∷ [])) calls
          (subst (λ (cs : List ℕ). TellAlike (length cs) now.calls (held_in next) (held_in now ++ make now row ∷ [])) columns more))),
    )

-- what is made of the key and the partial row at a place
pub each-at : {X : Type 0} (make : List Value → List Value → X) (keys partials : List (List Value)) (i : ℕ) (d : X) → i < length keys → length partials ≡ length keys
    → get_or (of_each make keys partials) i d ≡ make (get_or keys i []) (get_or partials i [])
each-at make [] partials i d lt level = absurd (omega (arith, lt))
each-at make (key ∷ keys) [] i d lt level = absurd (omega (arith, level))
each-at make (key ∷ keys) (p ∷ partials) zero d lt level = refl
each-at make (key ∷ keys) (p ∷ partials) (suc i) d lt level = each-at make keys partials i d (omega (arith, lt)) (omega (arith, level))

pub each-long : {X : Type 0} (make : List Value → List Value → X) (keys partials : List (List Value)) → length partials ≡ length keys → length (of_each make keys partials) ≡ length keys
each-long make [] partials level = refl
each-long make (key ∷ keys) [] level = absurd (omega (arith, level))
each-long make (key ∷ keys) (p ∷ partials) level = ap suc (each-long make keys partials (omega (arith, level)))

-- one more cell of a key
pub key-put : (old now next : TypedRows) (key : List Value) (i : ℕ) {v : Value} (taken : Bool) → now ≡ record old { begun = old.begun ++ take i key } → next ≡ record now { begun = offered taken now.begun v }
    → taken ≡ true → v ≡ cell key i → i < length key → next ≡ record old { begun = old.begun ++ take (i + 1) key }
key-put old now next key i {v} taken so_far put is at lt =
    let here : v ≡ get_or key i value.Null = at ∙ unwrap_or-slice_get key i value.Null in
    let more : take i key ++ v ∷ [] ≡ take (i + 1) key = ap (λ (x : Value). take i key ++ x ∷ []) here ∙ sym (take_more key i value.Null lt) in
    put
    ∙ ap (λ (b : Bool). record now { begun = offered b now.begun v }) is
    ∙ ap (λ (r : TypedRows). record r { begun = r.begun ++ v ∷ [] }) so_far
    ∙ ap (λ (vs : List Value). record old { begun = vs }) (append_assoc old.begun (take i key) (v ∷ []) ∙ ap (λ (vs : List Value). old.begun ++ vs) more)
