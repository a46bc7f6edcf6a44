-- An operator that probes is the stage of a join.
use Rattle.std.proofs.Common.{◌≡◌, ℕ, List, [], ◌∷◌, ◌++◌, Option, Some, None, Bool, true, false, length, refl, sym, subst}
use Rattle.std.specs.Prelude.{◌&&◌, IsTrue, filter, replicate}
use Rattle.std.proofs.lemmas.List.Elements.{All-append, All-cons, All-filter, All-head, All-nil, All-tail}
use Rattle.sql_values.specs.Blocks.{fits}
use Rattle.sql_values.specs.ColumnRows.{fits_row}
use Rattle.sql_values.specs.declared.types.SqlType.{SqlType}
use Rattle.sql_values.specs.declared.value.Value.{Value}
use Rattle.sql_values.specs.declared.value.Value.TheVariants.{Null}
use Rattle.sql_values.specs.declared.relational.JoinKind.{JoinKind}
use Rattle.sql_values.specs.declared.relational.JoinKind.TheVariants.{Inner, Left}
use Rattle.sql_functions.proofs.FitLemmas.{null_fits}
use Rattle.col_pages.specs.Fits.{AllFit}
use Rattle.operator_core.specs.declared.operator.Operator.{Ghosts}
use Rattle.operator_core.specs.Rows.{Row}
use Rattle.operator_core.specs.Calls.{IsLawful}
use Rattle.operator_core.specs.Stages.{Steps}
use Rattle.operator_core.proofs.StageLemmas.{finished-told}
use Rattle.relation_laws.specs.Joins.{are_partners, beside_each, join_of, nulls, partnered}
use Rattle.bag_laws.specs.Weights.{SameWeights}
use Rattle.bag_laws.proofs.BagLemmas.{same-from_equal, same-refl, same-trans}
use Rattle.bag_laws.proofs.JoinLemmas.{same-join}
use Rattle.plan_run_laws.specs.Stages as stage
use Rattle.plan_run_laws.specs.Stops.{StagesCanGoOn}
use Rattle.plan_run_laws.proofs.GoOnLemmas.{goes_on-one, goes_on-probe}
use Rattle.stage_meanings.specs.Pipelines.{NodeStage, at_node, stages_of}
use Rattle.pipe_laws.specs.Operators.{LooksUp, Probes}

Fits : List SqlType → Row → Type 0
Fits types row = IsTrue (fits_row types row)

both : (x y z : Bool) → (x && y) ≡ true → (y ≡ true → z ≡ true) → (x && z) ≡ true
both true y z h so = so h
both false y z h so = h

fits_beside : (ks ls : List SqlType) (a b : Row) → fits_row ks a ≡ true → fits_row ls b ≡ true → fits_row (ks ++ ls) (a ++ b) ≡ true
fits_beside [] ls [] b h k = k
fits_beside [] ls (v ∷ a) b h k = cc
fits_beside (kind ∷ ks) ls [] b h k = cc
fits_beside (kind ∷ ks) ls (v ∷ a) b h k = both (fits kind v) (fits_row ks a) (fits_row (ks ++ ls) (a ++ b)) h (λ g. fits_beside ks ls a b g k)

nulls_fit : (ls : List SqlType) → fits_row ls (replicate (length ls) Null) ≡ true
nulls_fit [] = refl
nulls_fit (kind ∷ ls) = rw (null_fits kind) (nulls_fit ls)

beside_fits : (ks ls : List SqlType) (a : Row) (bs : List Row) → fits_row ks a ≡ true → AllFit ls bs → AllFit (ks ++ ls) (beside_each a bs)
beside_fits ks ls a [] h fit = All-nil (λ (row : List Value). IsTrue (fits_row (ks ++ ls) row))
beside_fits ks ls a (b ∷ bs) h fit =
    All-cons (λ (row : List Value). IsTrue (fits_row (ks ++ ls) row)) (a ++ b) (beside_each a bs)
    (fits_beside ks ls a b h (All-head (λ (row : List Value). IsTrue (fits_row ls row)) b bs fit))
    (beside_fits ks ls a bs h (All-tail (λ (row : List Value). IsTrue (fits_row ls row)) b bs fit))

partnered_fits : (ks ls : List SqlType) (kind : JoinKind) (a : Row) (bs : List Row) → fits_row ks a ≡ true → AllFit ls bs → AllFit (ks ++ ls) (partnered kind (nulls (length ls)) a bs)
partnered_fits ks ls Inner a bs h fit = beside_fits ks ls a bs h fit
partnered_fits ks ls Left a [] h fit =
    All-cons (λ (row : List Value). IsTrue (fits_row (ks ++ ls) row)) (a ++ nulls (length ls)) [] (fits_beside ks ls a (nulls (length ls)) h (nulls_fit ls))
    (All-nil (λ (row : List Value). IsTrue (fits_row (ks ++ ls) row)))
partnered_fits ks ls Left a (b ∷ bs) h fit = beside_fits ks ls a (b ∷ bs) h fit

pub join_fits : (ks ls : List SqlType) (kind : JoinKind) (on : List (ℕ × ℕ)) (left : ℕ) (X rows : List Row) → AllFit ks X → AllFit ls rows
    → AllFit (ks ++ ls) (join_of kind on left (length ls) X rows)
join_fits ks ls kind on left [] rows fit right = All-nil (λ (row : List Value). IsTrue (fits_row (ks ++ ls) row))
join_fits ks ls kind on left (a ∷ X) rows fit right =
    All-append (λ (row : List Value). IsTrue (fits_row (ks ++ ls) row)) (partnered kind (nulls (length ls)) a (filter (are_partners on a) rows)) (join_of kind on left (length ls) X rows)
    (partnered_fits ks ls kind a (filter (are_partners on a) rows) (All-head (λ (row : List Value). IsTrue (fits_row ks row)) a X fit) (All-filter (are_partners on a) (λ (row : List Value). IsTrue (fits_row ls row)) rows right))
    (join_fits ks ls kind on left X rows (All-tail (λ (row : List Value). IsTrue (fits_row ks row)) a X fit) right)

module _ {S : Type 0} (g : Ghosts S) (laws : IsLawful g) (s : S) (noted : Option (List Row)) (id : ℕ) (kind : JoinKind) (on : List (ℕ × ℕ)) (left : ℕ) (taken right : List SqlType)
    (p : Probes g s noted kind on left right) where
  probe : List Row → NodeStage
  probe built = at_node id (stage.probe kind on left (length right) built)

  made : (rows built : List Row) → noted ≡ Some rows → SameWeights built rows → (X Y : List Row) → g.may_give (g.as_made s) X Y → SameWeights (join_of kind on left (length right) X built) Y
  made rows built is same X Y gives =
      same-trans (same-join kind on left (length right) (same-refl X) same) (same-from_equal (sym (p.gives rows is X Y gives)))

  nothing_came : noted ≡ None → (X Y : List Row) → Steps g s X Y → (X ≡ []) × (Y ≡ [])
  nothing_came none X Y steps = laws.note.waiting_went s X Y p.waits (steps.idle (p.unknown none))

  pub looks_up_rows : LooksUp g s noted taken (λ (built : List Row). at_node id (stage.probe kind on left (length right) built)) (taken ++ right)
  looks_up_rows = record {
    means = λ rows built is same. record {
      fits = λ X Y fit gives. subst (AllFit (taken ++ right)) (sym (p.gives rows is X Y gives)) (join_fits taken right kind on left X rows fit (p.fits rows is));
      makes = λ X Y fit gives none. (Y, made rows built is same X Y gives, refl);
      goes_on = λ X Y ended done fit can. goes_on-one (stage.probe kind on left (length right) built) X Y ended done (λ more may.
          let c = can.could more may in (c.0, made rows built is same (X ++ more) (Y ++ c.0) c.1, c.2));
      fails = λ X ended at kind fit fails. absurd (p.calm (X ++ []) at kind (fails [] (λ e. refl)));
    };
    goes_on = λ none built X Y ended fit steps turn.
        let nothing = nothing_came none X Y steps in
        subst (λ (x : List Row). StagesCanGoOn (stages_of (at_node id (stage.probe kind on left (length right) built) ∷ [])) x Y ended (g.is_finished s)) (sym nothing.0)
        (subst (λ (y : List Row). StagesCanGoOn (stages_of (at_node id (stage.probe kind on left (length right) built) ∷ [])) [] y ended (g.is_finished s)) (sym nothing.1)
        (goes_on-probe kind on left (length right) built [] [] [] ended (g.is_finished s) (same-refl []) (λ e. (turn (finished-told g laws s e), refl))));
    idle = λ none X Y steps. (nothing_came none X Y steps).1;
    calm = p.calm;
  }
