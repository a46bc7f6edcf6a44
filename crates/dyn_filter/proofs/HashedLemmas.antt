-- A domain whose values are found by their hash.
use Rattle.std.proofs.Common.{◌≡◌, ℕ, ◌+◌, ◌<◌, ◌≤◌, List, [], ◌∷◌, ◌++◌, length, get_or, set, take, Bool, true, false, ◌||◌, cond, refl, ap, sym, ◌∙◌, subst, arith, inl, inr}
use Rattle.std.specs.Prelude.{All, filter}
use Rattle.std.proofs.lemmas.Bool.{cases_eq, true≢false}
use Rattle.std.proofs.lemmas.List.{get_or-set_other, get_or-set_same, length-map, length-set, take_all, take_more}
use Rattle.col_pages.specs.Pages.{TypedPage}
use Rattle.columns.specs.Present.{gather}
use Rattle.sql_values.specs.declared.value.Value.{Value}
use Rattle.relation_laws.specs.Equality.{same_value}
use Rattle.dyn_filter.specs.Lists.{is_in}
use Rattle.dyn_filter.specs.Slots.{AreSlotsOf, slot_count, slot_of}
use Rattle.dyn_filter.proofs.ListLemmas.{is_in-append, is_same}

abbrev pub Rows : Type 0
Rows = List (List Value)

-- the places of the rows before one that pass
pub record ArePassing (pass : List Value → Bool) (rows : Rows) (i : ℕ) (places : List ℕ) : Type 0 where
  pub rows_at : gather rows [] places ≡ filter pass (take i rows)
  pub within : All (λ place. place < length rows) places
  pub few : length places ≤ i

-- as many rows pass as there are
fewer : (pass : List Value → Bool) (rows : Rows) → length (filter pass rows) ≤ length rows
fewer pass [] = omega arith
fewer pass (row ∷ rows) = go (pass row) refl (fewer pass rows)
  where
    go : (b : Bool) → pass row ≡ b → length (filter pass rows) ≤ length rows → length (filter pass (row ∷ rows)) ≤ length (row ∷ rows)
    go true e le = rw e (omega arith)
    go false e le = rw e (omega arith)

pub all_pass : (pass : List Value → Bool) (rows : Rows) → length (filter pass rows) ≡ length rows → filter pass rows ≡ rows
all_pass pass [] e = refl
all_pass pass (row ∷ rows) e = go (pass row) refl (all_pass pass rows) (fewer pass rows)
  where
    go : (b : Bool) → pass row ≡ b → (length (filter pass rows) ≡ length rows → filter pass rows ≡ rows) → length (filter pass rows) ≤ length rows
        → filter pass (row ∷ rows) ≡ row ∷ rows
    go true p later le =
        let own : length (row ∷ filter pass rows) ≡ length (row ∷ rows) = subst (λ b. length (cond b (row ∷ filter pass rows) (filter pass rows)) ≡ length (row ∷ rows)) p e in
        rw p (ap (λ rs. row ∷ rs) (later (omega arith)))
    go false p later le =
        let own : length (filter pass rows) ≡ length (row ∷ rows) = subst (λ b. length (cond b (row ∷ filter pass rows) (filter pass rows)) ≡ length (row ∷ rows)) p e in
        absurd (omega arith)

-- the slots of the first values
pub record AreSlotsTo (list : List Value) (i : ℕ) (slots : List ℕ) (next : ℕ) : Type 0 where
  pub size : length slots ≡ slot_count
  pub taken : (v : Value) → is_in (take i list) v ≡ true → 0 < get_or slots (slot_of v) 0
  pub some : 0 < next

pub slots_none : (list : List Value) (slots : List ℕ) → length slots ≡ slot_count → AreSlotsTo list 0 slots 1
slots_none list slots size = record { size = size; taken = λ v e. absurd (true≢false (sym e)); some = omega arith }

still_taken : (slots : List ℕ) (slot next at : ℕ) → slot < length slots → 0 < next → 0 < get_or slots at 0 → 0 < get_or (set slots slot next) at 0
still_taken slots slot next at lt some was = elim (cases_eq at slot) [
  | inl same ↦ rw same (subst (λ n. 0 < n) (sym (get_or-set_same slots slot next 0 lt)) some)
  | inr other ↦ subst (λ n. 0 < n) (sym (get_or-set_other slots slot at next 0 other)) was
]

pub slots_more : (list : List Value) (i : ℕ) (slots slots' : List ℕ) (next next' : ℕ) (v : Value) (slot : ℕ) → AreSlotsTo list i slots next → i < length list
    → v ≡ get_or list i v → slot ≡ slot_of v → slot < slot_count → slots' ≡ set slots slot next → 0 < next' → AreSlotsTo list (i + 1) slots' next'
slots_more list i slots slots' next next' v slot before lt at own within is more = record {
  size = ap length is ∙ length-set slots slot next ∙ before.size;
  taken = λ w e. subst (λ (s : List ℕ). 0 < get_or s (slot_of w) 0) (sym is) (go w (is_in (take i list) w) refl e);
  some = more;
}
  where
    there : slot < length slots
    there = rw before.size within

    last : (w : Value) → is_in (take (i + 1) list) w ≡ (is_in (take i list) w || (same_value w v || false))
    last w = ap (λ xs. is_in xs w) (take_more list i v lt ∙ ap (λ x. take i list ++ x ∷ []) (sym at)) ∙ is_in-append (take i list) (v ∷ []) w

    new : (w : Value) (b : Bool) → same_value w v ≡ b → (b || false) ≡ true → 0 < get_or (set slots slot next) (slot_of w) 0
    new w true same e =
        let place : slot_of w ≡ slot = ap slot_of (is_same w v same) ∙ sym own in
        rw place (subst (λ n. 0 < n) (sym (get_or-set_same slots slot next 0 there)) before.some)
    new w false same e = absurd (true≢false (sym e))

    go : (w : Value) (b : Bool) → is_in (take i list) w ≡ b → is_in (take (i + 1) list) w ≡ true → 0 < get_or (set slots slot next) (slot_of w) 0
    go w true was e = still_taken slots slot next (slot_of w) there before.some (before.taken w was)
    go w false was e = new w (same_value w v) refl (sym (ap (λ b. b || (same_value w v || false)) was) ∙ sym (last w) ∙ e)

pub slots_all : (list : List Value) (i : ℕ) (slots : List ℕ) (next : ℕ) → AreSlotsTo list i slots next → length list ≤ i → AreSlotsOf list slots
slots_all list i slots next are le = record { size = are.size; taken = λ v e. are.taken v (ap (λ xs. is_in xs v) (take_all i list le) ∙ e) }

-- a page all of whose rows pass
pub same_page : (pass : List Value → Bool) (page : TypedPage) (places : List ℕ) → gather page.rows [] places ≡ filter pass page.rows → length places ≡ length page.rows
    → page ≡ record page { rows = filter pass page.rows }
same_page pass page places rows all =
    let long : length (filter pass page.rows) ≡ length page.rows
    = ap length (sym rows) ∙ length-map places (λ (p : ℕ). get_or page.rows p []) ∙ all in
    λ i. record page { rows = sym (all_pass pass page.rows long) i }
