-- Operators one after the other, in terms of the stages that they mean.
use Rattle.std.proofs.Common.{◌≡◌, ◌⊎◌, inl, inr, ℕ, zero, suc, ◌<◌, List, [], ◌∷◌, ◌++◌, Bool, true, false, length, get_or, take, refl, sym, ap, subst, ◌∙◌, arith, append_assoc, append-nil}
use Rattle.std.proofs.lemmas.List.{map-append}
use Rattle.sql_values.specs.declared.types.SqlType.{SqlType}
use Rattle.sql_values.specs.declared.fail.Fail.{Fail}
use Rattle.col_pages.specs.Fits.{AllFit}
use Rattle.operator_core.specs.declared.operator.Operator.{Ghosts}
use Rattle.operator_core.specs.Rows.{Row, Coming}
use Rattle.operator_core.specs.Calls.{IsLawful}
use Rattle.operator_core.specs.Stages.{AreMadeOf, Chain, FailsAfter, Linked, MadeOf, NothingFails, Steps, ToldInTurn, last_finished}
use Rattle.operator_core.proofs.StageLemmas.{Coming-weaker, Steps-finished, Steps-goes_on, finished-told}
use Rattle.plan_trees.specs.Allowed.{Mode, strict}
use Rattle.plan_run_laws.specs.Stages.{Stage, Makes}
use Rattle.plan_run_laws.specs.Stages as net
use Rattle.plan_run_laws.specs.Stops.{StagesCanGoOn, MayCome}
use Rattle.plan_run_laws.proofs.GoOnLemmas.{goes_on-append, goes_on-nil}
use Rattle.stage_meanings.specs.Pipelines.{FailsIn, NodeStage, at_node, stages_of}
use Rattle.stage_meanings.specs.Meanings.{AllMean, CanGive, Means}

-- rows at the front of rows that fit
pub front-fits : (types : List SqlType) (rows more : List Row) → AllFit types (rows ++ more) → AllFit types rows
front-fits types [] more all = λ k d lt. absurd (omega arith)
front-fits types (row ∷ rows) more all = front_step types row rows more all (front-fits types rows more (λ k d lt. all (suc k) d (omega (arith, lt))))
  where
    front_step : (types : List SqlType) (row : Row) (rows more : List Row) → AllFit types ((row ∷ rows) ++ more) → AllFit types rows → AllFit types (row ∷ rows)
    front_step types row rows more all rest zero d lt = all zero d (omega arith)
    front_step types row rows more all rest (suc k) d lt = rest k d (omega (arith, lt))

-- stages one behind the other
pub made-append : (mode : Mode) (first second : List Stage) (took between gave : List Row) → net.StagesMake mode first took between → net.StagesMake mode second between gave
    → net.StagesMake mode (first ++ second) took gave
made-append mode [] second took between gave is chain = subst (λ rows. net.StagesMake mode second rows gave) (sym is) chain
made-append mode (stage ∷ first) second took between gave (next, makes, rest) chain = (next, makes, made-append mode first second next between gave rest chain)

pub stages-append : (first second : List NodeStage) → stages_of (first ++ second) ≡ stages_of first ++ stages_of second
stages-append first second = map-append (λ (s : NodeStage). s.stage) first second

pub comes : (over : Bool) (rows : List Row) → MayCome over rows → Coming over rows
comes true rows may = may refl
comes false rows may = tt

pub may_come : (over : Bool) (rows : List Row) → Coming over rows → MayCome over rows
may_come true rows coming = λ e. coming
may_come false rows coming = λ e. cc

module _ {S : Type 0} (g : Ghosts S) where
  -- where nothing failed
  pub all_make : (ms : List S) (taken given : List SqlType) (pipeline : List NodeStage) → AllMean g ms taken pipeline given
      → (X Y : List Row) → AllFit taken X → Chain g true ms X Y → net.StagesMake strict (stages_of pipeline) X Y × AllFit given Y
  all_make [] taken given pipeline (none, same) X Y fit chain =
      (subst (λ (p : List NodeStage). net.StagesMake strict (stages_of p) X Y) (sym none) chain, subst (λ ts. AllFit ts Y) same (subst (AllFit taken) chain fit))
  all_make (m ∷ ms) taken given pipeline (first, rest, between, same, means, others) X Y fit (M, gives, calm, chain) =
      let later = all_make ms between given rest others M Y (means.fits X M fit gives) chain in (
        subst (λ (p : List Stage). net.StagesMake strict p X Y) (sym (ap stages_of same ∙ stages-append first rest))
            (made-append strict (stages_of first) (stages_of rest) X M Y (means.makes X M fit gives (calm refl)) later.0),
        later.1,
      )

  -- a stage of the list, in hand
  calm_at : IsLawful g → (s m : S) (X M : List Row) → Steps g s X M → MadeOf g s m → g.is_finished s ≡ true → NothingFails g m X ⊎ ((t : S) × g.may_learn t m)
  calm_at laws s m X M steps (inl made) over = inl (subst (λ (k : S). NothingFails g k X) (sym made) ((Steps-finished g laws s X M over steps).1))
  calm_at laws s m X M steps (inr learned) over = inr (s, learned.1)

  can_give : IsLawful g → (s m : S) (X M : List Row) (ended : Bool) → (g.is_told s ≡ true → ended ≡ true) → Steps g s X M → MadeOf g s m → CanGive g m X M ended (g.is_finished s)
  can_give laws s m X M ended turn steps made = record {
    could = λ Z may. Steps-goes_on g laws s m X M Z steps made (Coming-weaker ended (g.is_told s) Z turn (comes ended Z may));
    over = λ e. turn (finished-told g laws s e);
    calm = calm_at laws s m X M steps made;
  }

  -- what was given so far fits
  pub given_fits : (m : S) (X M : List Row) (ended done : Bool) (taken given : List SqlType) (pipeline : List NodeStage) → Means g m taken pipeline given → AllFit taken X
      → CanGive g m X M ended done → AllFit given M
  given_fits m X M ended done taken given pipeline means fit can =
      let now = can.could [] (λ e. refl) in
      front-fits given M now.0 (means.fits X (M ++ now.0) fit (subst (λ (x : List Row). g.may_give m x (M ++ now.0)) (append-nil X) now.1))

  pub all_go_on : IsLawful g → (ss ms : List S) (taken given : List SqlType) (pipeline : List NodeStage) → AllMean g ms taken pipeline given → AreMadeOf g ss ms
      → (ended : Bool) (X Y : List Row) → ToldInTurn g ended ss → Linked g ss X Y → AllFit taken X
      → StagesCanGoOn (stages_of pipeline) X Y ended (last_finished g ended ss) × AllFit given Y
  all_go_on laws [] [] taken given pipeline (none, same) are ended X Y turns linked fit = (
    subst (λ (p : List NodeStage). StagesCanGoOn (stages_of p) X Y ended ended) (sym none) (subst (λ (rows : List Row). StagesCanGoOn [] X rows ended ended) linked (goes_on-nil X ended ended (λ e. e))),
    subst (λ ts. AllFit ts Y) same (subst (AllFit taken) linked fit),
  )
  all_go_on laws [] (m ∷ ms) taken given pipeline mean are ended X Y turns linked fit = absurd are
  all_go_on laws (s ∷ ss) [] taken given pipeline mean are ended X Y turns linked fit = absurd are
  all_go_on laws (s ∷ ss) (m ∷ ms) taken given pipeline (first, rest, between, same, means, others) are ended X Y turns (M, steps, linked) fit =
      let can = can_give laws s m X M ended turns.0 steps are.0 in
      let later = all_go_on laws ss ms between given rest others are.1 (g.is_finished s) M Y turns.1 linked (given_fits m X M ended (g.is_finished s) taken between first means fit can) in (
        subst (λ (p : List Stage). StagesCanGoOn p X Y ended (last_finished g (g.is_finished s) ss)) (sym (ap stages_of same ∙ stages-append first rest))
            (goes_on-append (stages_of first) (stages_of rest) X M Y ended (g.is_finished s) (last_finished g (g.is_finished s) ss)
            (means.goes_on X M ended (g.is_finished s) fit can) later.0),
        later.1,
      )

  -- a failure in the first stages, or behind them
  pub fails-front : (first rest pipeline : List NodeStage) → pipeline ≡ first ++ rest → (X : List Row) (ended : Bool) (node : ℕ) (kind : Fail)
      → FailsIn first X ended node kind → FailsIn pipeline X ended node kind
  fails-front first rest pipeline same X ended node kind f = record {
    before = f.before;
    stage = f.stage;
    after = f.after ++ rest;
    at = same ∙ ap (λ (p : List NodeStage). p ++ rest) f.at ∙ append_assoc f.before (at_node node f.stage ∷ f.after) rest;
    came = f.came;
    told = f.told;
    goes_on = f.goes_on;
    fails = f.fails;
  }

  pub fails-behind : (first rest pipeline : List NodeStage) → pipeline ≡ first ++ rest → (X M : List Row) (ended told : Bool) (node : ℕ) (kind : Fail)
      → StagesCanGoOn (stages_of first) X M ended told → FailsIn rest M told node kind → FailsIn pipeline X ended node kind
  fails-behind first rest pipeline same X M ended told node kind goes f = record {
    before = first ++ f.before;
    stage = f.stage;
    after = f.after;
    at = same ∙ ap (λ (p : List NodeStage). first ++ p) f.at ∙ sym (append_assoc first f.before (at_node node f.stage ∷ f.after));
    came = f.came;
    told = f.told;
    goes_on = subst (λ (p : List Stage). StagesCanGoOn p X f.came ended f.told) (sym (stages-append first f.before))
        (goes_on-append (stages_of first) (stages_of f.before) X M f.came ended told f.told goes f.goes_on);
    fails = f.fails;
  }

  -- the first stage fails on what came from the source
  fails_first : (m : S) (taken between given : List SqlType) (first rest pipeline : List NodeStage) → pipeline ≡ first ++ rest → Means g m taken first between
      → (ended : Bool) (X came : List Row) (node : ℕ) (kind : Fail) → X ≡ came → AllFit taken X
      → ((Z : List Row) → Coming ended Z → g.may_still_fail m (came ++ Z) node kind) → FailsIn pipeline X ended node kind
  fails_first m taken between given first rest pipeline same means ended X came node kind is fit fails =
      fails-front first rest pipeline same X ended node kind
      (means.fails X ended node kind fit (λ Z may. subst (λ (x : List Row). g.may_still_fail m (x ++ Z) node kind) (sym is) (fails Z (comes ended Z may))))

  pub all_fail : IsLawful g → (ss ms : List S) (taken given : List SqlType) (pipeline : List NodeStage) → AllMean g ms taken pipeline given → AreMadeOf g ss ms
      → (ended : Bool) (X : List Row) → AllFit taken X → (i : ℕ) (m d : S) → i < length ms → m ≡ get_or ms i d → (node : ℕ) (kind : Fail)
      → FailsAfter g (take i ss) m ended X node kind → FailsIn pipeline X ended node kind
  all_fail laws [] [] taken given pipeline mean are ended X fit i m d lt at node kind f = absurd (omega (arith, lt))
  all_fail laws [] (k ∷ ms) taken given pipeline mean are ended X fit i m d lt at node kind f = absurd are
  all_fail laws (s ∷ ss) [] taken given pipeline mean are ended X fit i m d lt at node kind f = absurd are
  all_fail laws (s ∷ ss) (k ∷ ms) taken given pipeline (first, rest, between, same, means, others) are ended X fit zero m d lt at node kind f =
      fails_first k taken between given first rest pipeline same means ended X f.came node kind f.linked fit
      (λ Z coming. subst (λ (o : S). g.may_still_fail o (f.came ++ Z) node kind) at (f.fails Z coming))
  all_fail laws (s ∷ ss) (k ∷ ms) taken given pipeline (first, rest, between, same, means, others) are ended X fit (suc i) m d lt at node kind f =
      let M = f.linked.0 in
      let can = can_give laws s k X M ended (f.told.0) (f.linked.1) are.0 in
      fails-behind first rest pipeline same X M ended (g.is_finished s) node kind (means.goes_on X M ended (g.is_finished s) fit can)
      (all_fail laws ss ms between given rest others are.1 (g.is_finished s) M (given_fits k X M ended (g.is_finished s) taken between first means fit can) i m d (omega (arith, lt)) at node kind
      (record { came = f.came; linked = f.linked.2; told = f.told.1; fails = f.fails }))
