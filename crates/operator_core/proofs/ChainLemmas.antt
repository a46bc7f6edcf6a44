-- What the stages gave, and could still give, in terms of the stages as they were made.
use Rattle.std.proofs.Common.{◌≡◌, ℕ, ◌<◌, List, [], ◌∷◌, ◌++◌, length, get_or, take, map, Bool, true, false, refl, sym, ap, subst, ◌∙◌}
use Rattle.sql_values.specs.declared.fail.Fail.{Fail}
use Rattle.operator_core.specs.declared.operator.Operator.{Ghosts}
use Rattle.operator_core.specs.Rows.{Row, Coming}
use Rattle.operator_core.specs.Calls.{IsLawful, FailsNow}
use Rattle.operator_core.specs.Stages.{Linked, ToldInTurn, last_finished, Chain, ComingTo, Follows, AreMadeOf, GoesOn, FailsAfter}
use Rattle.operator_core.proofs.StageLemmas.{Coming-told, Coming-weaker, finished-told, finished-gives, Steps-finished, Steps-goes_on, Steps-fails}
use Rattle.operator_core.proofs.LinkLemmas.{Linked-at}
use Rattle.operator_core.proofs.TurnLemmas.{Turns-take, giver-last, giver-told}

module _ {S : Type 0} (g : Ghosts S) where
  -- what a stage may still give is what may still come to the next
  given-comes : IsLawful g → (s : S) (Z B : List Row) → Coming (g.is_told s) Z → g.may_give s Z B → (over : Bool) → g.is_finished s ≡ over → Coming over B
  given-comes laws s Z B coming gives true e =
      finished-gives g laws s B e (subst (λ (z : List Row). g.may_give s z B) (Coming-told _ Z (finished-told g laws s e) coming) gives)
  given-comes laws s Z B coming gives false e = tt

  to-next : (ss : List S) (over : Bool) (B : List Row) → ToldInTurn g over ss → Coming over B → ComingTo g ss B
  to-next [] over B turns coming = tt
  to-next (s ∷ ss) over B turns coming = Coming-weaker over (g.is_told s) B turns.0 coming

  -- what the stages may still give continues what they, as they were made, may give for all that comes
  pub follows : IsLawful g → (ended : Bool) (ss : List S) (X Y : List Row) → ToldInTurn g ended ss → Linked g ss X Y → Follows g ss X Y
  follows laws ended [] X Y turns l = λ Z B coming chain. rw (l, chain) refl
  follows laws ended (s ∷ ss) X Y turns l = λ Z B coming chain.
      let next = to-next ss (g.is_finished s) chain.0 turns.1 (given-comes laws s Z chain.0 coming chain.1 (g.is_finished s) refl) in
      (l.0 ++ chain.0, l.1.gives Z chain.0 coming chain.1, (λ e node kind f. cc), follows laws (g.is_finished s) ss l.0 Y turns.1 l.2 chain.0 B next chain.3)

  -- where the last stage is finished, all are, the source has ended, and nothing failed
  pub finished : IsLawful g → (ended : Bool) (ss : List S) (X Y : List Row) → ToldInTurn g ended ss → last_finished g ended ss ≡ true → Linked g ss X Y
      → (ended ≡ true) × Chain g true (map g.as_made ss) X Y
  finished laws ended [] X Y turns over l = (over, l)
  finished laws ended (s ∷ ss) X Y turns over l =
      let rest = finished laws (g.is_finished s) ss l.0 Y turns.1 over l.2 in
      let here = Steps-finished g laws s X l.0 rest.0 l.1 in
      (turns.0 (finished-told g laws s rest.0), (l.0, here.0, (λ _. here.1), rest.1))

  comes : (over : Bool) (B : List Row) → (over ≡ true → B ≡ []) → Coming over B
  comes true B so = so refl
  comes false B so = tt

  -- whatever still comes, and whatever the notes come to know, the stages can go on
  pub could_go_on : IsLawful g → (ended : Bool) (ss ms : List S) (X Y Z : List Row) → AreMadeOf g ss ms → ToldInTurn g ended ss → Linked g ss X Y → Coming ended Z
      → GoesOn g ms X Y Z (last_finished g ended ss)
  could_go_on laws ended [] [] X Y Z are turns l coming = record { more = Z; chain = ap (λ x. x ++ Z) l; over = λ e. Coming-told ended Z e coming }
  could_go_on laws ended [] (m ∷ ms) X Y Z are turns l coming = absurd are
  could_go_on laws ended (s ∷ ss) [] X Y Z are turns l coming = absurd are
  could_go_on laws ended (s ∷ ss) (m ∷ ms) X Y Z are turns l coming =
      let here = Steps-goes_on g laws s m X l.0 Z l.1 are.0 (Coming-weaker ended (g.is_told s) Z turns.0 coming) in
      let rest = could_go_on laws (g.is_finished s) ss ms l.0 Y here.0 are.1 turns.1 l.2 (comes (g.is_finished s) here.0 here.2) in
      record { more = rest.more; chain = (l.0 ++ here.0, here.1, (λ e node kind f. cc), rest.chain); over = rest.over }

  -- a failure that comes whatever follows is a failure of the stage, as it was made, on what came to it
  pub failure : (ended : Bool) (ss : List S) (i : ℕ) (s : S) (X Y : List Row) (node : ℕ) (kind : Fail) → i < length ss → s ≡ get_or ss i s
      → ToldInTurn g ended ss → Linked g ss X Y → FailsNow g s node kind → FailsAfter g (take i ss) (g.as_made s) ended X node kind
  failure ended ss i s X Y node kind h e turns l fails =
      let at = Linked-at g ss i s X Y h e l in
      let given : g.is_told s ≡ true → last_finished g ended (take i ss) ≡ true =
      (λ told. sym (giver-last g ended ss i) ∙ giver-told g ended ss i s h e turns told) in
      record {
        came = at.0;
        linked = at.2;
        told = Turns-take g ended ss i turns;
        fails = λ Z coming. Steps-fails g s at.0 at.1 node kind at.3 fails Z (Coming-weaker _ _ Z given coming);
      }
