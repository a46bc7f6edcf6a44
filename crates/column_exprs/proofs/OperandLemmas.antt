-- Operands of the parts of an expression, and the cells that they give.
use Rattle.std.proofs.Common.{◌≡◌, ℕ, ◌+◌, ◌<◌, zero, suc, true, List, [], ◌∷◌, ◌++◌, length, get_or, map, refl, ap, sym, ◌∙◌, subst, arith, length-append, below_more}
use Rattle.std.specs.Prelude.{All, IfOk, IfSome, IsTrue, Option, Some, None, Result, Ok, Err, unwrap_or, slice_get, if◌then◌else◌}
use Rattle.std.specs.List.{range_with_len}
use Rattle.std.proofs.lemmas.List.{get_or_append_left, length-map}
use Rattle.std.proofs.lemmas.List.FromFn.{get_or-range_with_len, length-range_with_len}
use Rattle.std.proofs.Math.Seq.{get_or-append_seam}
use Rattle.sql_values.specs.declared.types.SqlType.{SqlType}
use Rattle.sql_values.specs.declared.types.SqlType.TheVariants.{Boolean}
use Rattle.sql_values.specs.declared.value.Value.{Value}
use Rattle.sql_values.specs.declared.value.Value.TheVariants.{Null}
use Rattle.sql_values.specs.Blocks.{TypedCells, fits, with_cells}
use Rattle.sql_values.specs.Cells.{cell}
use Rattle.columns.specs.Present.{gather}
use Rattle.sql_functions.specs.declared.name.CallName.{CallName}
use Rattle.sql_functions.specs.declared.name.CallName.TheVariants.{And, Or, Coalesce}
use Rattle.sql_functions.specs.Outcomes.{Outcome, and_then}
use Rattle.sql_functions.specs.Calls.{binary_of, unary_of}
use Rattle.sql_functions.specs.Casts.{cast_of}
use Rattle.sql_functions.specs.CallTypes.{call_type}
use Rattle.sql_exprs.specs.Forms.{Form, call, cast, column, more, none}
use Rattle.sql_exprs.specs.Meaning.{kind_of, value_of}
use Rattle.sql_exprs.specs.Pages.{cell_at, cell_before, cells_at, in_block}
use Rattle.sql_exprs.specs.Rows.{call_of, strict_of}
use Rattle.column_exprs.specs.declared.rows.Rows.{Rows}
use Rattle.column_exprs.specs.declared.operand.Operand.{Operand}
use Rattle.column_exprs.specs.declared.operand.Operand.TheVariants.{Lent, Made, Constant}
use Rattle.column_exprs.specs.Operands.{AreOutcomes, HasCells, HasPlace, IsOperand, binary_at, cast_at, is_strict, operand_cell, operand_kind, outcome_at, unary_at}

-- no outcome yet, and one more
pub outcomes_none : (f : ℕ → Outcome) → AreOutcomes f 0 []
outcomes_none f = record { len = refl; each = λ k l. absurd (omega arith) }

pub outcomes_more : (f : ℕ → Outcome) (n : ℕ) (cells : List Value) (v : Value) → AreOutcomes f n cells → f n ≡ Ok v → AreOutcomes f (n + 1) (cells ++ v ∷ [])
outcomes_more f n cells v h e = record {
  len = omega (arith, h.len, length-append cells (v ∷ []));
  each =
      below_more (λ k. f k ≡ Ok (get_or (cells ++ v ∷ []) k Null)) n
      (λ k l. let m : k < length cells = omega (arith, h.len) in h.each k l ∙ ap Ok (sym (get_or_append_left cells (v ∷ []) Null k m)))
      (e ∙ ap Ok (sym (get_or-append_seam cells v [] Null)) ∙ ap (λ i. Ok (get_or (cells ++ v ∷ []) i Null)) h.len);
}

-- a place below their count has a cell
pub place_of : (o : Operand) (count k : ℕ) → HasCells o count → k < count → HasPlace o k
place_of (Lent block) count k h l = omega (arith, h)
place_of (Made block) count k h l = omega (arith, h)
place_of (Constant kind value) count k h l = tt

-- what a call or a cast made of the cells that stand at a place
pub binary_here : (name : CallName) (a b : Operand) (k : ℕ) (left right : SqlType) (v w x : Value) → left ≡ operand_kind a → right ≡ operand_kind b → v ≡ operand_cell a k → w ≡ operand_cell b k
    → binary_of name left right v w ≡ Ok x → binary_at name a b k ≡ Ok x
binary_here name a b k left right v w x e f g h is =
    ap (λ t. binary_of name t (operand_kind b) (operand_cell a k) (operand_cell b k)) (sym e) ∙ ap (λ t. binary_of name left t (operand_cell a k) (operand_cell b k)) (sym f)
    ∙ ap (λ u. binary_of name left right u (operand_cell b k)) (sym g) ∙ ap (binary_of name left right v) (sym h) ∙ is

pub unary_here : (name : CallName) (a : Operand) (k : ℕ) (kind : SqlType) (v x : Value) → kind ≡ operand_kind a → v ≡ operand_cell a k → unary_of name kind v ≡ Ok x → unary_at name a k ≡ Ok x
unary_here name a k kind v x e g is = ap (λ t. unary_of name t (operand_cell a k)) (sym e) ∙ ap (unary_of name kind) (sym g) ∙ is

pub cast_here : (to : SqlType) (a : Operand) (k : ℕ) (kind : SqlType) (v x : Value) → kind ≡ operand_kind a → v ≡ operand_cell a k → cast_of kind to v ≡ Ok x → cast_at to a k ≡ Ok x
cast_here to a k kind v x e g is = ap (λ t. cast_of t to (operand_cell a k)) (sym e) ∙ ap (cast_of kind to) (sym g) ∙ is

-- the block with one more cell
pub pushed : (f : ℕ → Outcome) (n : ℕ) (old new : TypedCells) (v : Value) → AreOutcomes f n old.cells → f n ≡ Ok v → new ≡ with_cells old (old.cells ++ v ∷ []) → AreOutcomes f (n + 1) new.cells
pushed f n old new v h here e = subst (λ (b : TypedCells). AreOutcomes f (n + 1) b.cells) (sym e) (outcomes_more f n old.cells v h here)

-- one number more, or one that is missing
mapped_push : {A B : Type 0} (f : A → B) (xs : List A) (x : A) → map f (xs ++ x ∷ []) ≡ map f xs ++ f x ∷ []
mapped_push f [] x = refl
mapped_push f (y ∷ xs) x = ap (λ ys. f y ∷ ys) (mapped_push f xs x)

pub number_pushed : {A : Type 0} (g : A → Value) (f : ℕ → Outcome) (n : ℕ) (old new : List A) (x : A) → AreOutcomes f n (map g old) → f n ≡ Ok (g x) → new ≡ old ++ x ∷ [] → AreOutcomes f (n + 1) (map g new)
number_pushed g f n old new x h here e =
    subst (AreOutcomes f (n + 1)) (sym (ap (map g) e ∙ mapped_push g old x)) (outcomes_more f n (map g old) (g x) h here)

pub ruleset outcomes = (outcomes_none, outcomes_more, place_of)

-- the values of a column on rows
cell_none : (n : ℕ) → cell [] n ≡ Null
cell_none zero = refl
cell_none (suc n) = refl

column_cell : (rows : List (List Value)) (n p : ℕ) → get_or (map (λ row. cell row n) rows) p Null ≡ cell (get_or rows p []) n
column_cell [] n p = sym (cell_none n)
column_cell (row ∷ rows) n zero = refl
column_cell (row ∷ rows) n (suc p) = column_cell rows n p

pub gathered : (xs : List Value) (ps : List ℕ) (k : ℕ) → k < length ps → get_or (gather xs Null ps) k Null ≡ get_or xs (get_or ps k 0) Null
gathered xs [] k l = absurd (omega arith)
gathered xs (p ∷ ps) zero l = refl
gathered xs (p ∷ ps) (suc k) l = gathered xs ps k (omega arith)

pub column_kind : (types : List SqlType) (n : ℕ) (kind : SqlType) → Some kind ≡ slice_get types n → kind ≡ kind_of types (column n)
column_kind types n kind h = ap (λ o. unwrap_or o Boolean) h

pub column_length : (rows : Rows) (n : ℕ) (cells : List Value) → rows.positions.now ≡ range_with_len 0 (length rows.page.now.rows)
    → cells ≡ map (λ row. cell row n) rows.page.now.rows → length cells ≡ length rows.positions.now
column_length rows n cells all e =
    ap length e ∙ length-map rows.page.now.rows (λ row. cell row n) ∙ sym (ap length all ∙ length-range_with_len 0 (length rows.page.now.rows))

pub chosen_length : (xs chosen : List Value) (ps : List ℕ) → chosen ≡ gather xs Null ps → length chosen ≡ length ps
chosen_length xs chosen ps e = ap length e ∙ length-map ps (λ p. get_or xs p Null)

-- those of all rows
pub column_lent : (rows : Rows) (n : ℕ) (kind : SqlType) (cells : List Value) → rows.positions.now ≡ range_with_len 0 (length rows.page.now.rows)
    → cells ≡ map (λ row. cell row n) rows.page.now.rows → (k : ℕ) → k < length rows.positions.now → outcome_at (column n) rows k ≡ Ok (get_or cells k Null)
column_lent rows n kind cells all e k l =
    let few : k < length rows.page.now.rows = omega (arith, ap length all, length-range_with_len 0 (length rows.page.now.rows)) in
    let here : get_or rows.positions.now k 0 ≡ k = let own : 0 + k ≡ k = omega arith in ap (λ ps. get_or ps k 0) all ∙ get_or-range_with_len 0 (length rows.page.now.rows) k 0 few ∙ own in
    ap (λ p. Ok (cell (get_or rows.page.now.rows p []) n)) here
    ∙ ap Ok (sym (column_cell rows.page.now.rows n k) ∙ ap (λ cs. get_or cs k Null) (sym e))

pub column_chosen : (rows : Rows) (n : ℕ) (cells chosen : List Value) → cells ≡ map (λ row. cell row n) rows.page.now.rows → chosen ≡ gather cells Null rows.positions.now
    → (k : ℕ) → k < length rows.positions.now → outcome_at (column n) rows k ≡ Ok (get_or chosen k Null)
column_chosen rows n cells chosen e c k l =
    let p = get_or rows.positions.now k 0 in
    ap Ok (sym (column_cell rows.page.now.rows n p) ∙ ap (λ cs. get_or cs p Null) (sym e) ∙ sym (gathered cells rows.positions.now k l) ∙ ap (λ cs. get_or cs k Null) (sym c))

-- the cells of a block of the form's type are those of the form
held : (kind : SqlType) (v : Value) → IsTrue (fits kind v) → in_block kind v ≡ v
held kind v h = ap (λ b. if b then v else Null) h

cells_from : (types : List SqlType) (form : Form) (rows : List (List Value)) (positions : List ℕ) (cells : List Value) → length cells ≡ length positions
    → ((k : ℕ) → k < length positions → value_of types form (get_or rows (get_or positions k 0) []) ≡ Ok (get_or cells k Null))
    → All (λ v. IsTrue (fits (kind_of types form) v)) cells → cells_at types form rows positions ≡ Ok cells
cells_from types form rows [] [] e each fit = refl
cells_from types form rows [] (v ∷ cells) e each fit = cc
cells_from types form rows (p ∷ positions) [] e each fit = cc
cells_from types form rows (p ∷ positions) (v ∷ cells) e each fit =
    let here : cell_at types form rows p ≡ Ok v
    = ap (λ o. and_then o (λ w. Ok (in_block (kind_of types form) w))) (each zero (omega arith)) ∙ ap Ok (held (kind_of types form) v (fit zero Null (omega arith))) in
    let later : cells_at types form rows positions ≡ Ok cells
    = cells_from types form rows positions cells (omega (arith, e)) (λ k l. each (suc k) (omega arith)) (λ k d l. fit (suc k) d (omega arith)) in
    ap (λ o. cell_before p o (cells_at types form rows positions)) here ∙ ap (cell_before p (Ok v)) later

pub cells_are : (form : Form) (rows : Rows) (o : Operand) (kind : SqlType) (cells : List Value) → IsOperand form rows o → kind ≡ operand_kind o
    → AreOutcomes (λ k. Ok (operand_cell o k)) (length rows.positions.now) cells → All (λ v. IsTrue (fits kind v)) cells
    → cells_at rows.page.now.types form rows.page.now.rows rows.positions.now ≡ Ok cells
cells_are form rows o kind cells h e are fit =
    cells_from rows.page.now.types form rows.page.now.rows rows.positions.now cells are.len (λ k l. h.each k l ∙ are.each k l)
    (subst (λ t. All (λ v. IsTrue (fits t v)) cells) (e ∙ h.kind) fit)

-- calls that take the values of all their arguments
strict_call : (name : CallName) (kinds : List SqlType) (os : List Outcome) → is_strict name ≡ true → call_of name kinds os ≡ strict_of name kinds os
strict_call And kinds os h = cc
strict_call Or kinds os h = cc
strict_call Coalesce kinds os h = cc
strict_call name kinds os h = refl

strict_one : (name : CallName) (kind k : SqlType) (o : Outcome) (v : Value) → is_strict name ≡ true → k ≡ kind → o ≡ Ok v
    → call_of name (kind ∷ []) (o ∷ []) ≡ unary_of name k v
strict_one name kind k o v h e is =
    strict_call name (kind ∷ []) (o ∷ []) h ∙ ap (λ p. and_then p (unary_of name kind)) is ∙ ap (λ t. unary_of name t v) (sym e)

strict_two : (name : CallName) (left right k l : SqlType) (o p : Outcome) (v w : Value) → is_strict name ≡ true → k ≡ left → l ≡ right → o ≡ Ok v → p ≡ Ok w
    → call_of name (left ∷ right ∷ []) (o ∷ p ∷ []) ≡ binary_of name k l v w
strict_two name left right k l o p v w h e f is and =
    strict_call name (left ∷ right ∷ []) (o ∷ p ∷ []) h
    ∙ ap (λ q. and_then q (λ x. and_then p (binary_of name left right x))) is
    ∙ ap (λ q. and_then q (binary_of name left right v)) and
    ∙ ap (λ t. binary_of name t right v w) (sym e) ∙ ap (λ t. binary_of name k t v w) (sym f)

pub cast_made : (kind : SqlType) (rows : Rows) (a : Operand) (block : TypedCells) → block.kind ≡ kind → AreOutcomes (cast_at kind a) (length rows.positions.now) block.cells
    → (form : Form) → IsOperand form rows a → IsOperand (cast form kind) rows (Made block)
cast_made kind rows a block e are form h = record {
  kind = e;
  cells = are.len;
  each = λ k l. ap (λ o. and_then o (cast_of (kind_of rows.page.now.types form) kind)) (h.each k l) ∙ ap (λ t. cast_of t kind (operand_cell a k)) (sym h.kind) ∙ are.each k l;
}

pub unary_made : (name : CallName) (rows : Rows) (a : Operand) (block : TypedCells) → is_strict name ≡ true → block.kind ≡ call_type name (operand_kind a) Boolean
    → AreOutcomes (unary_at name a) (length rows.positions.now) block.cells → (form : Form) → IsOperand form rows a → IsOperand (call name (more form none)) rows (Made block)
unary_made name rows a block s e are form h = record {
  kind = e ∙ ap (λ t. call_type name t Boolean) h.kind;
  cells = are.len;
  each = λ k l.
      strict_one name (kind_of rows.page.now.types form) (operand_kind a) (outcome_at form rows k) (operand_cell a k) s h.kind (h.each k l) ∙ are.each k l;
}

pub binary_made : (name : CallName) (rows : Rows) (a b : Operand) (block : TypedCells) → is_strict name ≡ true → block.kind ≡ call_type name (operand_kind a) (operand_kind b)
    → AreOutcomes (binary_at name a b) (length rows.positions.now) block.cells → (f g : Form) → IsOperand f rows a → IsOperand g rows b → IsOperand (call name (more f (more g none))) rows (Made block)
binary_made name rows a b block s e are f g h i = record {
  kind = e ∙ ap (λ t. call_type name t (operand_kind b)) h.kind ∙ ap (call_type name (kind_of rows.page.now.types f)) i.kind;
  cells = are.len;
  each = λ k l.
      strict_two name (kind_of rows.page.now.types f) (kind_of rows.page.now.types g) (operand_kind a) (operand_kind b) (outcome_at f rows k) (outcome_at g rows k)
      (operand_cell a k) (operand_cell b k) s h.kind i.kind (h.each k l) (i.each k l) ∙ are.each k l;
}

pub ruleset made = (cast_made, unary_made, binary_made)

-- the same with the second argument's form
pub second_made : {E : Type 0} (r : Result (Option Operand) E) (name : CallName) (rows : Rows) (a b : Operand) (g : Form)
    → IfOk r (λ o. IfSome o (λ x. (f h : Form) → IsOperand f rows a → IsOperand h rows b → IsOperand (call name (more f (more h none))) rows x)) → IsOperand g rows b
    → IfOk r (λ o. IfSome o (λ x. (form : Form) → IsOperand form rows a → IsOperand (call name (more form (more g none))) rows x))
second_made (Ok (Some x)) name rows a b g all h = λ f k. all f g k h
second_made (Ok None) name rows a b g all h = tt
second_made (Err fault) name rows a b g all h = tt

-- the cells of the block that was found for an operand that was found
pub cells_found : (form : Form) (rows : Rows) (os : Option Operand) (o : Operand) (bs : Option TypedCells) (b : TypedCells) → os ≡ Some o → bs ≡ Some b → IfSome os (IsOperand form rows)
    → IfSome bs (λ b. b.kind ≡ operand_kind o) → IfSome bs (λ b. AreOutcomes (λ k. Ok (operand_cell o k)) (length rows.positions.now) b.cells)
    → All (λ v. IsTrue (fits b.kind v)) b.cells → cells_at rows.page.now.types form rows.page.now.rows rows.positions.now ≡ Ok b.cells
cells_found form rows os o bs b e f h kind values fit =
    cells_are form rows o b.kind b.cells (subst (λ x. IfSome x (IsOperand form rows)) e h) (subst (λ x. IfSome x (λ (b : TypedCells). b.kind ≡ operand_kind o)) f kind)
    (subst (λ x. IfSome x (λ (b : TypedCells). AreOutcomes (λ k. Ok (operand_cell o k)) (length rows.positions.now) b.cells)) f values) fit
