-- The first position at which a form fails, and the positions before it.
use Rattle.std.proofs.Common.{eq-eqb, ◌≡◌, ℕ, Bool, true, false, List, [], ◌∷◌, take, map, refl, ap, sym, ◌∙◌, Some, None, add-one}
use Rattle.std.specs.Prelude.{Result, Ok, Err, ◌==◌}
use Rattle.std.proofs.lemmas.Bool.{eqb-true}
use Rattle.sql_values.specs.declared.types.SqlType.{SqlType}
use Rattle.sql_values.specs.declared.value.Value.{Value}
use Rattle.sql_values.specs.declared.fail.Fail.{Fail}
use Rattle.sql_functions.specs.Outcomes.{Outcome}
use Rattle.sql_exprs.specs.Forms.{Form}
use Rattle.sql_exprs.specs.Pages.{cell_at, cell_before, cells_at}
use Rattle.sql_values.specs.Blocks.{TypedCells}
use Rattle.sql_exprs.specs.Meaning.{kind_of}
use Rattle.page_processor.specs.Positions.{block_at, calm_positions, failure_in, index_of, value_or_null, values_at}

-- of outcomes that are given as one list, or as the first failure
abbrev pub listed : (ℕ → Outcome) → List ℕ → Result (List Value) (ℕ × Fail)
listed outcome [] = Ok []
listed outcome (p ∷ ps) = cell_before p (outcome p) (listed outcome ps)

pub cells_are_listed : (types : List SqlType) (form : Form) (rows : List (List Value)) (ps : List ℕ) → cells_at types form rows ps ≡ listed (cell_at types form rows) ps
cells_are_listed types form rows [] = refl
cells_are_listed types form rows (p ∷ ps) = ap (cell_before p (cell_at types form rows p)) (cells_are_listed types form rows ps)

pub record AllCalm (outcome : ℕ → Outcome) (ps : List ℕ) (cells : List Value) : Type 0 where
  pub calm : calm_positions outcome ps ≡ ps
  pub none : failure_in outcome ps ≡ None
  pub values : cells ≡ map (λ p. value_or_null (outcome p)) ps

module _ (outcome : ℕ → Outcome) where
  all_calm_at : (p : ℕ) (ps : List ℕ) (here : Outcome) (later : Result (List Value) (ℕ × Fail)) (cells : List Value) → outcome p ≡ here → listed outcome ps ≡ later
      → ((vs : List Value) → listed outcome ps ≡ Ok vs → AllCalm outcome ps vs)
      → cell_before p here later ≡ Ok cells → AllCalm outcome (p ∷ ps) cells
  all_calm_at p ps (Ok v) (Ok vs) cells h l further e =
      let rest = further vs l in
      let same : v ∷ vs ≡ cells = cc in
      record {
        calm = rw h (ap (λ xs. p ∷ xs) rest.calm);
        none = rw h rest.none;
        values = sym same ∙ rw h (ap (λ xs. v ∷ xs) rest.values);
      }
  all_calm_at p ps (Ok v) (Err failure) cells h l further e = cc
  all_calm_at p ps (Err kind) later cells h l further e = cc

  pub all_calm : (ps : List ℕ) (cells : List Value) → listed outcome ps ≡ Ok cells → AllCalm outcome ps cells
  all_calm [] cells e = record { calm = refl; none = refl; values = cc }
  all_calm (p ∷ ps) cells e = all_calm_at p ps (outcome p) (listed outcome ps) cells refl refl (all_calm ps) e

pub record FailsFirst (outcome : ℕ → Outcome) (ps : List ℕ) (q : ℕ) (kind : Fail) : Type 0 where
  pub here : outcome q ≡ Err kind
  pub before : take (index_of q ps) ps ≡ calm_positions outcome ps
  pub told : failure_in outcome ps ≡ Some kind

err_same : (r : Result (List Value) (ℕ × Fail)) (x y : ℕ × Fail) → r ≡ Err x → r ≡ Err y → x ≡ y
err_same r x y d e = cc

module _ (outcome : ℕ → Outcome) where
  other : (p q : ℕ) (v : Value) (kind : Fail) → outcome p ≡ Ok v → outcome q ≡ Err kind → (b : Bool) → (p == q) ≡ b → b ≡ false
  other p q v kind h e false t = refl
  other p q v kind h e true t = let same : p ≡ q = eqb-true p q t in let twice : Ok v ≡ Err kind = sym h ∙ ap outcome same ∙ e in cc

  fails_at : (p : ℕ) (ps : List ℕ) (here : Outcome) (later : Result (List Value) (ℕ × Fail)) (q : ℕ) (kind : Fail) → outcome p ≡ here → listed outcome ps ≡ later
      → ((r : ℕ) (k : Fail) → listed outcome ps ≡ Err (r, k) → FailsFirst outcome ps r k)
      → cell_before p here later ≡ Err (q, kind) → FailsFirst outcome (p ∷ ps) q kind
  fails_at p ps (Ok v) (Ok vs) q kind h l further e = cc
  fails_at p ps (Ok v) (Err failure) q kind h l further e =
      let rest = further q kind (l ∙ e) in
      let test : (p == q) ≡ false = (let b = other p q v kind h rest.here (p == q) refl in b) in
      record {
        here = rest.here;
        before = rw (h, test) (rw add-one (ap (λ xs. p ∷ xs) rest.before));
        told = rw h rest.told;
      }
  fails_at p ps (Err k) later q kind h l further e =
      let both = err_same (cell_before p (Err k) later) (p, k) (q, kind) refl e in
      let place : p ≡ q = ap (λ (x : ℕ × Fail). x.0) both in
      let same : k ≡ kind = ap (λ (x : ℕ × Fail). x.1) both in
      let test : (p == q) ≡ true = eq-eqb p q place in
      record {
        here = ap outcome (sym place) ∙ h ∙ ap (λ (x : Fail). Err x) same;
        before = rw (h, test) refl;
        told = rw h (ap (λ (x : Fail). Some x) same);
      }

  pub fails_first : (ps : List ℕ) (q : ℕ) (kind : Fail) → listed outcome ps ≡ Err (q, kind) → FailsFirst outcome ps q kind
  fails_first [] q kind e = cc
  fails_first (p ∷ ps) q kind e = fails_at p ps (outcome p) (listed outcome ps) q kind refl refl (fails_first ps) e

module _ (types : List SqlType) (form : Form) (rows : List (List Value)) where
  abbrev at : ℕ → Outcome
  at = cell_at types form rows

  the_values : (ps : List ℕ) (block : TypedCells) → block.kind ≡ kind_of types form → cells_at types form rows ps ≡ Ok block.cells → block ≡ block_at types rows ps form
  the_values ps block k e =
      let all = all_calm at ps block.cells (sym (cells_are_listed types form rows ps) ∙ e) in
      (λ i. record { kind = k i; cells = all.values i })

  pub found_kept : (ps : List ℕ) (cells : List Value) → cells_at types form rows ps ≡ Ok cells → ps ≡ calm_positions at ps
  found_kept ps cells e = sym (all_calm at ps cells (sym (cells_are_listed types form rows ps) ∙ e)).calm

  pub found_values : (ps : List ℕ) (block : TypedCells) → block.kind ≡ kind_of types form → cells_at types form rows ps ≡ Ok block.cells → record { block = block; failure = None } ≡ values_at types rows ps form
  found_values ps block k e =
      let all = all_calm at ps block.cells (sym (cells_are_listed types form rows ps) ∙ e) in
      let same : block ≡ block_at types rows ps form = the_values ps block k e in
      let calm : block_at types rows (calm_positions at ps) form ≡ block_at types rows ps form = ap (λ qs. block_at types rows qs form) all.calm in
      let whole : block ≡ block_at types rows (calm_positions at ps) form = same ∙ sym calm in
      (λ i. record { block = whole i; failure = sym all.none i })

  pub failed_kept : (ps qs : List ℕ) (q : ℕ) (kind : Fail) → cells_at types form rows ps ≡ Err (q, kind) → qs ≡ take (index_of q ps) ps → qs ≡ calm_positions at ps
  failed_kept ps qs q kind e cut = cut ∙ (fails_first at ps q kind (sym (cells_are_listed types form rows ps) ∙ e)).before

  pub failed_values : (ps qs : List ℕ) (q : ℕ) (kind : Fail) (block : TypedCells) → cells_at types form rows ps ≡ Err (q, kind) → qs ≡ take (index_of q ps) ps
      → block.kind ≡ kind_of types form → cells_at types form rows qs ≡ Ok block.cells → record { block = block; failure = Some kind } ≡ values_at types rows ps form
  failed_values ps qs q kind block e cut k c =
      let first = fails_first at ps q kind (sym (cells_are_listed types form rows ps) ∙ e) in
      let same : block ≡ block_at types rows qs form = the_values qs block k c in
      let calm : block_at types rows qs form ≡ block_at types rows (calm_positions at ps) form = ap (λ rs. block_at types rows rs form) (cut ∙ first.before) in
      let whole : block ≡ block_at types rows (calm_positions at ps) form = same ∙ calm in
      (λ i. record { block = whole i; failure = sym first.told i })
