-- What operators that keep groups answer.
use Rattle.std.proofs.Common.{◌≡◌, ℕ, List, [], ◌++◌, Bool, true, ap, sym, subst, ◌∙◌}
use Rattle.std.specs.Prelude.{◌↔◌, Option, Some, None, Ok}
use Rattle.sql_values.specs.declared.value.Value.{Value}
use Rattle.sql_values.specs.declared.fail.Fail.{Fail}
use Rattle.col_pages.specs.Pages.{TypedPage}
use Rattle.operator_core.specs.Answers.{gave}
use Rattle.relation_laws.specs.Verdicts.{Verdict}
use Rattle.aggregation.specs.Giving.{GroupsFail, GroupsGive, GroupsState, IsBegun, IsGiven, RowsLeft}
use Rattle.aggregation.specs.Tables.{TableState}
use Rattle.aggregation.proofs.SingleLemmas.{begun-calm, begun-gives}

given-left : (old new : RowsLeft) (o : Option TypedPage) → IsGiven old o new → gave (Ok o) ++ new.rows ≡ old.rows
given-left old new None g = ap (λ (l : RowsLeft). l.rows) g.1
given-left old new (Some page) g = sym g.rows

-- groups whose output has begun, where `said` is what is said of them where no row comes any more
module _ (said : TableState → List Verdict) (old mid new : GroupsState)
    (middle : mid ≡ record old { table = mid.table; begun = true; left = record old.left { rows = mid.left.rows } })
    (begun : IsBegun old.begun (said old.table) old.left.rows mid.left.rows)
    (later : new ≡ record mid { left = record mid.left { rows = new.left.rows } }) where
  has-begun : new.begun ≡ true
  has-begun = ap (λ (s : GroupsState). s.begun) later ∙ ap (λ (s : GroupsState). s.begun) middle

  pub got-gives : (o : Option TypedPage) → IsGiven mid.left o new.left → (B : List (List Value)) → GroupsGive new.begun new.left.rows (said new.table) B
      → GroupsGive old.begun old.left.rows (said old.table) (gave (Ok o) ++ B)
  got-gives o given B g =
      let left : B ≡ new.left.rows = subst (λ (b : Bool). GroupsGive b new.left.rows (said new.table) B) has-begun g in
      let whole : gave (Ok o) ++ B ≡ mid.left.rows = ap (λ rows. gave (Ok o) ++ rows) left ∙ given-left mid.left new.left o given in
      begun-gives old.begun (said old.table) [] old.left.rows mid.left.rows (gave (Ok o) ++ B) begun whole

  pub got-fails : (own node : ℕ) (kind : Fail) → GroupsFail new.begun own (said new.table) node kind ↔ GroupsFail old.begun own (said old.table) node kind
  got-fails own node kind = (
    (λ f. absurd (subst (λ (b : Bool). GroupsFail b own (said new.table) node kind) has-begun f)),
    (λ f. absurd (begun-calm old.begun own (said old.table) old.left.rows mid.left.rows node kind begun f)),
  )

-- groups that took rows, of which is said what was said of them with these rows still to come
module _ (old new : GroupsState) (V W : List Verdict) (begun : new.begun ≡ old.begun) (left : new.left ≡ old.left) (said : V ≡ W) where
  pub took-gives : (B : List (List Value)) → GroupsGive new.begun new.left.rows V B → GroupsGive old.begun old.left.rows W B
  took-gives B g =
      subst (λ (b : Bool). GroupsGive b old.left.rows W B) begun
      (subst (λ (l : RowsLeft). GroupsGive new.begun l.rows W B) left (subst (λ (v : List Verdict). GroupsGive new.begun new.left.rows v B) said g))

  pub took-fails : (own node : ℕ) (kind : Fail) → GroupsFail new.begun own V node kind ↔ GroupsFail old.begun own W node kind
  took-fails own node kind = (
    (λ f. subst (λ (b : Bool). GroupsFail b own W node kind) begun (subst (λ (v : List Verdict). GroupsFail new.begun own v node kind) said f)),
    (λ f. subst (λ (v : List Verdict). GroupsFail new.begun own v node kind) (sym said) (subst (λ (b : Bool). GroupsFail b own W node kind) (sym begun) f)),
  )
