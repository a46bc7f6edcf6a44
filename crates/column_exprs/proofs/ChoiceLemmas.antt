-- A case by its branches: the rows that a condition chooses and leaves, and the values beside their positions.
use Rattle.std.proofs.Common.{◌≡◌, ℕ, ◌+◌, ◌<◌, ◌++◌, ◌≤◌, zero, suc, drop, map, true, false, List, [], ◌∷◌, length, get_or, refl, ap, sym, ◌∙◌, subst, arith, length-append, below_more}
use Rattle.std.specs.Prelude.{All, Bool, not, Option, Some, None, Result, Ok, Err, IfOk, IfSome, IsTrue, unwrap_or, if◌then◌else◌}
use Rattle.std.specs.List.{range_with_len}
use Rattle.std.proofs.lemmas.List.{get_or-replicate, get_or_append_left, length-replicate, replicate_more}
use Rattle.std.proofs.lemmas.List.Elements.{All-append}
use Rattle.std.proofs.Math.Seq.{get_or-append_seam}
use Rattle.columns.specs.Present.{gather}
use Rattle.sql_values.specs.declared.value.Value.{Value}
use Rattle.sql_values.specs.declared.value.Value.TheVariants.{Null}
use Rattle.sql_values.specs.Blocks.{TypedCells, with_cells}
use Rattle.sql_values.specs.Cells.{lent_value}
use Rattle.col_pages.specs.Pages.{TypedPage}
use Rattle.sql_functions.specs.Outcomes.{Outcome}
use Rattle.sql_functions.specs.Truth.{is_true}
use Rattle.sql_exprs.specs.declared.expr.Branch.{Branch}
use Rattle.sql_exprs.specs.declared.expr.Expr.TheFolds.{fold_out-Branch}
use Rattle.sql_exprs.specs.Forms.{Choices, Form, branch, branch_step, branch_view, choice, choices_of, form_step, form_view, last}
use Rattle.sql_exprs.specs.Meaning.{branches_of, kind_of}
use Rattle.sql_exprs.specs.Rows.{case_of, chosen_of, decided}
use Rattle.column_exprs.specs.declared.choice.Choice.{Choice}
use Rattle.column_exprs.specs.declared.choice.Settled.{Settled}
use Rattle.column_exprs.specs.declared.choice.Unsettled.{Unsettled}
use Rattle.column_exprs.specs.declared.rows.Rows.{Rows}
use Rattle.column_exprs.specs.declared.operand.Operand.{Operand}
use Rattle.column_exprs.specs.declared.operand.Operand.TheVariants.{Lent, Made, Constant}
use Rattle.column_exprs.specs.declared.kept.Test.TheVariants as test_is
use Rattle.column_exprs.specs.Choices.{AreLeft, ArePlaces, AreSettled, AreUnsettled, IsChoice, TakesBranch, operand_cells, outcome_on}
use Rattle.column_exprs.specs.Kept.{IsPart, kept}
use Rattle.column_exprs.specs.Operands.{AreOutcomes, HasCells, IsOperand, operand_cell}
use Rattle.column_exprs.proofs.ChainLemmas.{from_place, past_end}
use Rattle.column_exprs.proofs.KeptLemmas.{kept_each}
use Rattle.column_exprs.proofs.OperandLemmas.{gathered, chosen_length}

-- a condition that is true takes its result, and another one what is left behind it
case_true : (o r other : Outcome) (bs : List (Outcome × Outcome)) (v : Value) → o ≡ Ok v → is_true v ≡ true → case_of ((o, r) ∷ bs) other ≡ r
case_true o r other bs v e h =
    ap (λ q. unwrap_or (decided q r (chosen_of bs)) other) e ∙ ap (λ (b : Bool). unwrap_or (if b then Some r else chosen_of bs) other) h

false_where_not : (b : Bool) → not b ≡ true → b ≡ false
false_where_not true h = sym h
false_where_not false h = refl

case_false : (o r other : Outcome) (bs : List (Outcome × Outcome)) (v : Value) → o ≡ Ok v → not (is_true v) ≡ true → case_of ((o, r) ∷ bs) other ≡ case_of bs other
case_false o r other bs v e h =
    ap (λ q. unwrap_or (decided q r (chosen_of bs)) other) e ∙ ap (λ (b : Bool). unwrap_or (if b then Some r else chosen_of bs) other) (false_where_not (is_true v) h)

module _ (form test result other : Form) (rest : Choices) (rows : Rows) (tests : Operand)
    (is : IsOperand test rows tests) (same : AreLeft form (choice (branch test result rest) other) rows.page.now rows.positions.now) where
  abbrev at : ℕ → ℕ
  at k = get_or rows.positions.now k 0

  pub chosen_has : AreLeft form result rows.page.now (kept test_is.True (operand_cell tests) rows.positions.now (length rows.positions.now))
  chosen_has =
      kept_each test_is.True (operand_cell tests) rows.positions.now (λ p. outcome_on form rows.page.now p ≡ outcome_on result rows.page.now p)
      (λ k l h.
      same k 0 l
      ∙ case_true (outcome_on test rows.page.now (at k)) (outcome_on result rows.page.now (at k)) (outcome_on other rows.page.now (at k)) (branches_of rows.page.now.types rest (get_or rows.page.now.rows (at k) []))
      (operand_cell tests k) (is.each k l) h)

  pub left_has : AreLeft form (choice rest other) rows.page.now (kept test_is.NotTrue (operand_cell tests) rows.positions.now (length rows.positions.now))
  left_has =
      kept_each test_is.NotTrue (operand_cell tests) rows.positions.now (λ p. outcome_on form rows.page.now p ≡ outcome_on (choice rest other) rows.page.now p)
      (λ k l h.
      same k 0 l
      ∙ case_false (outcome_on test rows.page.now (at k)) (outcome_on result rows.page.now (at k)) (outcome_on other rows.page.now (at k)) (branches_of rows.page.now.types rest (get_or rows.page.now.rows (at k) []))
      (operand_cell tests k) (is.each k l) h)

-- outcomes at some positions, and at further ones
first_and : (f : ℕ → Outcome) (p : ℕ) (ps : List ℕ) (v : Value) (vs : List Value) → f p ≡ Ok v → ((k : ℕ) → k < length ps → f (get_or ps k 0) ≡ Ok (get_or vs k Null))
    → (k : ℕ) → k < length (p ∷ ps) → f (get_or (p ∷ ps) k 0) ≡ Ok (get_or (v ∷ vs) k Null)
first_and f p ps v vs e h zero l = e
first_and f p ps v vs e h (suc k) l = h k (omega (arith, l))

outcomes_append : (f : ℕ → Outcome) (ps qs : List ℕ) (vs ws : List Value) → AreOutcomes (λ k. f (get_or ps k 0)) (length ps) vs → AreOutcomes (λ k. f (get_or qs k 0)) (length qs) ws
    → AreOutcomes (λ k. f (get_or (ps ++ qs) k 0)) (length (ps ++ qs)) (vs ++ ws)
outcomes_append f [] qs [] ws g h = h
outcomes_append f [] qs (v ∷ vs) ws g h = absurd (omega (arith, g.len))
outcomes_append f (p ∷ ps) qs [] ws g h = absurd (omega (arith, g.len))
outcomes_append f (p ∷ ps) qs (v ∷ vs) ws g h =
    let behind = outcomes_append f ps qs vs ws (record { len = omega (arith, g.len); each = λ k l. g.each (suc k) (omega (arith, l)) }) h in
    record { len = omega (arith, behind.len); each = first_and f p (ps ++ qs) v (vs ++ ws) (g.each zero (omega arith)) behind.each }

-- the cells of an operand are the outcomes of its form
many_cells : (o : Operand) (n : ℕ) → HasCells o n → length (operand_cells o n) ≡ n
many_cells (Lent block) n h = h
many_cells (Made block) n h = h
many_cells (Constant kind value) n h = length-replicate n (lent_value value)

one_cell : (o : Operand) (n k : ℕ) → k < n → operand_cell o k ≡ get_or (operand_cells o n) k Null
one_cell (Lent block) n k l = refl
one_cell (Made block) n k l = refl
one_cell (Constant kind value) n k l = sym (get_or-replicate n k (lent_value value) Null l)

operand_outcomes : (form part_form : Form) (page : TypedPage) (part : Rows) (o : Operand) → part.page.now ≡ page → IsOperand part_form part o → AreLeft form part_form page part.positions.now
    → AreOutcomes (λ k. outcome_on form page (get_or part.positions.now k 0)) (length part.positions.now) (operand_cells o (length part.positions.now))
operand_outcomes form part_form page part o e is same = record {
  len = many_cells o (length part.positions.now) is.cells;
  each = λ k l.
      same k 0 l ∙ ap (λ (page : TypedPage). outcome_on part_form page (get_or part.positions.now k 0)) (sym e) ∙ is.each k l
      ∙ ap Ok (one_cell o (length part.positions.now) k l);
}

-- further rows are settled
settled_more : (form : Form) (page : TypedPage) (old new : Settled) (qs : List ℕ) (ws : List Value) → AreSettled form page old → AreOutcomes (λ k. outcome_on form page (get_or qs k 0)) (length qs) ws
    → new.positions.items ≡ old.positions.items ++ qs → new.values ≡ with_cells old.values (old.values.cells ++ ws) → AreSettled form page new
settled_more form page old new qs ws h more e f = record {
  kind = ap (λ (b : TypedCells). b.kind) f ∙ h.kind;
  values =
      subst (λ ps. AreOutcomes (λ k. outcome_on form page (get_or ps k 0)) (length ps) new.values.cells) (sym e)
      (subst (λ (b : TypedCells). AreOutcomes (λ k. outcome_on form page (get_or (old.positions.items ++ qs) k 0)) (length (old.positions.items ++ qs)) b.cells) (sym f)
      (outcomes_append (outcome_on form page) old.positions.items qs old.values.cells ws h.values more));
}

-- as many values as positions
pub many_settled : (old new : Settled) (o : Operand) (qs : List ℕ) → length old.values.cells ≡ length old.positions.items → HasCells o (length qs)
    → new.positions.items ≡ old.positions.items ++ qs → new.values ≡ with_cells old.values (old.values.cells ++ operand_cells o (length qs)) → length new.values.cells ≡ length new.positions.items
many_settled old new o qs same h e f =
    omega (arith, ap (λ (b : TypedCells). length b.cells) f, ap length e, many_cells o (length qs) h, same, length-append old.values.cells (operand_cells o (length qs)), length-append old.positions.items qs)

-- no row is settled
pub choice_new : (form : Form) (rows : Rows) (c : Choice) → c.settled.values.kind ≡ kind_of rows.page.now.types form → c.settled.values.cells ≡ [] → c.settled.positions.items ≡ []
    → c.unsettled.positions.items ≡ rows.positions.now → c.unsettled.whole ≡ rows.whole → All (λ p. p < length rows.page.now.rows) rows.positions.now
    → (IsTrue rows.whole → rows.positions.now ≡ range_with_len 0 (length rows.page.now.rows)) → IsChoice form form rows.page.now c
choice_new form rows c e none nowhere all whole within is = record {
  settled = record {
    kind = e;
    values =
        record { len = ap length none ∙ sym (ap length nowhere); each = λ k l. absurd (omega (arith, l, ap length nowhere)) };
  };
  unsettled = record {
    within = subst (All (λ p. p < length rows.page.now.rows)) (sym all) within;
    all = λ h. all ∙ is (subst IsTrue whole h);
  };
  same = λ k d l. refl;
}

pub branch_made : (rows part : Rows) (tests results : Operand) (settled new : Settled) (next : Unsettled) → IsPart test_is.True (operand_cell tests) rows part
    → new.positions.items ≡ settled.positions.items ++ part.positions.now → new.values ≡ with_cells settled.values (settled.values.cells ++ operand_cells results (length part.positions.now))
    → AreUnsettled rows.page.now next → next.positions.items ≡ kept test_is.NotTrue (operand_cell tests) rows.positions.now (length rows.positions.now)
    → (test result : Form) → IsOperand test rows tests → IsOperand result part results → TakesBranch test result rows.page.now settled rows.positions.now (record { settled = new; unsettled = next })
branch_made rows part tests results settled new next h e f u left test result is has = λ form other rest s same. record {
  settled =
      settled_more form rows.page.now settled new part.positions.now (operand_cells results (length part.positions.now)) s
      (operand_outcomes form result rows.page.now part results h.page has
      (subst (AreLeft form result rows.page.now) (sym h.positions) (chosen_has form test result other rest rows tests is same)))
      e f;
  unsettled = u;
  same = subst (AreLeft form (choice rest other) rows.page.now) (sym left) (left_has form test result other rest rows tests is same);
}

-- one position more that is found
pub place_more : (settled positions places : List ℕ) (n p q : ℕ) → ArePlaces settled positions n places → p < length settled → get_or settled p 0 ≡ q → q ≡ get_or positions n 0
    → ArePlaces settled positions (n + 1) (places ++ p ∷ [])
place_more settled positions places n p q h l e f = record {
  len = omega (arith, h.len, length-append places (p ∷ []));
  within = All-append (λ p. p < length settled) places (p ∷ []) h.within (λ i d m. let first : i ≡ 0 = omega arith in subst (λ j. get_or (p ∷ []) j d < length settled) (sym first) l);
  each =
      below_more (λ k. get_or settled (get_or (places ++ p ∷ []) k 0) 0 ≡ get_or positions k 0) n
      (λ k m. let here : k < length places = omega (arith, h.len, m) in ap (λ j. get_or settled j 0) (get_or_append_left places (p ∷ []) 0 k here) ∙ h.each k m)
      (ap (λ j. get_or settled j 0) (ap (λ i. get_or (places ++ p ∷ []) i 0) (sym h.len) ∙ get_or-append_seam places p [] 0) ∙ e ∙ f);
}

-- the values at the places of positions
pub settled_at : (form : Form) (page : TypedPage) (s : Settled) (positions places : List ℕ) (block : TypedCells) → ArePlaces s.positions.items positions (length positions) places
    → block ≡ with_cells s.values (gather s.values.cells Null places) → AreSettled form page s
    → (block.kind ≡ kind_of page.types form) × AreOutcomes (λ k. outcome_on form page (get_or positions k 0)) (length positions) block.cells
settled_at form page s positions places block h e is =
    let cells : block.cells ≡ gather s.values.cells Null places = ap (λ (b : TypedCells). b.cells) e in (
      ap (λ (b : TypedCells). b.kind) e ∙ is.kind,
      record {
        len = chosen_length s.values.cells block.cells places cells ∙ h.len;
        each = λ k l.
            let here : k < length places = omega (arith, h.len, l) in
            ap (outcome_on form page) (sym (h.each k l))
            ∙ is.values.each (get_or places k 0) (h.within k 0 here)
            ∙ ap Ok (sym (gathered s.values.cells places k here) ∙ ap (λ cs. get_or cs k Null) (sym cells));
      },
    )

pub choice_made : (form other : Form) (rows left : Rows) (others : Operand) (settled all : Settled) (block : TypedCells) → left.page.now ≡ rows.page.now
    → all.positions.items ≡ settled.positions.items ++ left.positions.now → all.values ≡ with_cells settled.values (settled.values.cells ++ operand_cells others (length left.positions.now))
    → ((form : Form) (page : TypedPage) → AreSettled form page all
    → (block.kind ≡ kind_of page.types form) × AreOutcomes (λ k. outcome_on form page (get_or rows.positions.now k 0)) (length rows.positions.now) block.cells)
    → IsOperand other left others → AreSettled form rows.page.now settled → AreLeft form (choice last other) rows.page.now left.positions.now → IsOperand form rows (Made block)
choice_made form other rows left others settled all block p e f at is s same =
    let found = at form rows.page.now
    (settled_more form rows.page.now settled all left.positions.now (operand_cells others (length left.positions.now)) s (operand_outcomes form other rows.page.now left others p is same) e f) in
    record { kind = found.0; cells = found.1.len; each = found.1.each }

-- the forms of the parts that were evaluated
pub result_found : {E : Type 0} (r : Result (Option Choice) E) (rows part : Rows) (tests results : Operand) (settled : Settled) (form : Form)
    → IfOk r (λ o. IfSome o (λ next. (test result : Form) → IsOperand test rows tests → IsOperand result part results → TakesBranch test result rows.page.now settled rows.positions.now next))
    → IsOperand form part results
    → IfOk r (λ o. IfSome o (λ next. (test : Form) → IsOperand test rows tests → TakesBranch test form rows.page.now settled rows.positions.now next))
result_found (Ok (Some next)) rows part tests results settled form all is = λ test h. all test form h is
result_found (Ok None) rows part tests results settled form all is = tt
result_found (Err fault) rows part tests results settled form all is = tt

pub branch_found : {E : Type 0} (r : Result (Option Choice) E) (rows : Rows) (page : TypedPage) (positions : List ℕ) (tests : Operand) (settled : Settled) (form result : Form)
    → rows.page.now ≡ page → rows.positions.now ≡ positions
    → IfOk r (λ o. IfSome o (λ next. (test : Form) → IsOperand test rows tests → TakesBranch test result rows.page.now settled rows.positions.now next))
    → IsOperand form rows tests → IfOk r (λ o. IfSome o (TakesBranch form result page settled positions))
branch_found (Ok (Some next)) rows page positions tests settled form result e f all is =
    subst (λ page. TakesBranch form result page settled positions next) e (subst (λ ps. TakesBranch form result rows.page.now settled ps next) f (all form is))
branch_found (Ok None) rows page positions tests settled form result e f all is = tt
branch_found (Err fault) rows page positions tests settled form result e f all is = tt

pub other_found : {E : Type 0} (r : Result (Option Operand) E) (rows left : Rows) (others : Operand) (c : Choice) (default : Form) → left.positions.now ≡ c.unsettled.positions.items
    → IfOk r (λ o. IfSome o (λ x. (form other : Form) → IsOperand other left others → AreSettled form rows.page.now c.settled → AreLeft form (choice last other) rows.page.now left.positions.now → IsOperand form rows x))
    → IsOperand default left others → IfOk r (λ o. IfSome o (λ x. (form : Form) → IsChoice form (choice last default) rows.page.now c → IsOperand form rows x))
other_found (Ok (Some x)) rows left others c default e all is =
    λ form h. all form default is h.settled (subst (AreLeft form (choice last default) rows.page.now) (sym e) h.same)
other_found (Ok None) rows left others c default e all is = tt
other_found (Err fault) rows left others c default e all is = tt

-- the forms of a branch are those of its parts
pub branch_seen : (b : Branch) → branch_view b ≡ (form_view b.test, form_view b.result)
branch_seen b = fold_out-Branch Form (Form × Form) form_step branch_step b

-- one branch after the other
pub next_branch : (form other : Form) (branches : List Branch) (i : ℕ) (b : Branch) (test result : Form) (page : TypedPage) (c next : Choice) → i < length branches → b ≡ get_or branches i b
    → branch_view b ≡ (test, result) → IsChoice form (choice (choices_of (map branch_view (drop i branches))) other) page c → TakesBranch test result page c.settled c.unsettled.positions.items next
    → IsChoice form (choice (choices_of (map branch_view (drop (i + 1) branches))) other) page next
next_branch form other branches i b test result page c next l e v is takes =
    let step : i + 1 ≡ suc i = omega arith in
    let here : choices_of (map branch_view (drop i branches)) ≡ branch test result (choices_of (map branch_view (drop (i + 1) branches)))
    = ap (λ bs. choices_of (map branch_view bs)) (from_place branches i b l e ∙ ap (λ n. b ∷ drop n branches) (sym step))
    ∙ ap (λ t. choices_of (t ∷ map branch_view (drop (i + 1) branches))) v in
    takes form other (choices_of (map branch_view (drop (i + 1) branches))) is.settled
    (subst (λ bs. AreLeft form (choice bs other) page c.unsettled.positions.items) here is.same)

pub no_branch : (form other : Form) (branches : List Branch) (i : ℕ) (page : TypedPage) (c : Choice) → length branches ≤ i
    → IsChoice form (choice (choices_of (map branch_view (drop i branches))) other) page c → IsChoice form (choice last other) page c
no_branch form other branches i page c l is =
    subst (λ (bs : List Branch). IsChoice form (choice (choices_of (map branch_view bs)) other) page c) (past_end branches i l) is

pub all_branches : {E : Type 0} (r : Result (Option Operand) E) (form default : Form) (rows : Rows) (c : Choice)
    → IfOk r (λ o. IfSome o (λ x. (form : Form) → IsChoice form (choice last default) rows.page.now c → IsOperand form rows x)) → IsChoice form (choice last default) rows.page.now c
    → IfOk r (λ o. IfSome o (IsOperand form rows))
all_branches (Ok (Some x)) form default rows c all is = all form is
all_branches (Ok None) form default rows c all is = tt
all_branches (Err fault) form default rows c all is = tt

pub ruleset choices = (place_more, replicate_more)
