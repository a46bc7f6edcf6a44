-- What a pass leaves of a driver, from what its moves leave of the stages.
use Rattle.std.proofs.Common.{◌≡◌, List, [], ◌++◌, map, Bool, true, false, Option, Some, None, Result, Ok, Err, refl, sym, ap, subst, ◌∙◌, append-nil}
use Rattle.std.specs.Prelude.{IfOk}
use Rattle.col_pages.specs.Pages.{TypedPage}
use Rattle.operator_core.specs.declared.fault.OpFault.{OpFault}
use Rattle.operator_core.specs.declared.operator.Operator.{Ghosts}
use Rattle.operator_core.specs.Answers.{gave}
use Rattle.operator_core.specs.Rows.{Row}
use Rattle.operator_core.specs.Stages.{Linked, ToldInTurn}
use Rattle.operator_core.proofs.TurnLemmas.{Turns-later}
use Rattle.stage_moves.specs.Moves.{Moved}
use Rattle.stage_moves.specs.Passes.{Passed}
use Rattle.stage_moves.specs.Places.{AllStay}
use Rattle.stage_moves.proofs.PlaceLemmas.{AllStay-same, AllStay-then}

-- a source that was asked for a page had not ended
pub not-ended : (was is : Bool) → was ≡ false → was ≡ true → is ≡ true
not-ended was is going ended = absurd (let clash : false ≡ true = sym going ∙ ended in cc)

-- no page is out
pub none-out : (r : Result (Option TypedPage) OpFault) → IfOk r (λ o. o ≡ None) → gave r ≡ []
none-out (Ok o) e = ap (λ (o : Option TypedPage). gave (Ok o)) e
none-out (Err fault) e = refl

module _ {S : Type 0} (g : Ghosts S) where
  -- nothing moved; the source may have ended
  pub Passed-none : (ss : List S) (X A Y : List Row) (was is : Bool) → A ≡ X → (was ≡ true → is ≡ true) → Passed g ss ss X A Y Y was is
  Passed-none ss X A Y was is e so = record {
    links = λ l. subst (λ (x : List Row). Linked g ss x Y) (sym e) l;
    turns = λ t. Turns-later g was is ss so t;
    made = refl;
    same = AllStay-same g ss;
  }

  pub Passed-still : (ss : List S) (X A Y : List Row) (was is : Bool) → A ≡ X → (was ≡ true → is ≡ true) → Passed g ss ss X A Y (Y ++ []) was is
  Passed-still ss X A Y was is e so = subst (λ (y : List Row). Passed g ss ss X A Y y was is) (sym (append-nil Y)) (Passed-none ss X A Y was is e so)

  -- no page was out
  pub Passed-in : (old new : List S) (X A Y : List Row) (was is : Bool) (o : Option TypedPage) → o ≡ None → Passed g old new X A Y (Y ++ gave (Ok o)) was is
      → Passed g old new X A Y Y was is
  Passed-in old new X A Y was is o e p = subst (λ (y : List Row). Passed g old new X A Y y was is) (append-nil Y)
      (subst (λ (o : Option TypedPage). Passed g old new X A Y (Y ++ gave (Ok o)) was is) e p)

  -- a move took and gave these rows
  pub Passed-moved : (old new : List S) (P Q X A Y B : List Row) (was is : Bool) → Moved g old new P Q → A ≡ X ++ P → B ≡ Y ++ Q → (was ≡ true → is ≡ true)
      → Passed g old new X A Y B was is
  Passed-moved old new P Q X A Y B was is moved a b so = record {
    links = λ l. subst (λ (x : List Row). Linked g new x B) (sym a) (subst (λ (y : List Row). Linked g new (X ++ P) y) (sym b) (moved.links X Y l));
    turns = λ t. Turns-later g was is new so (moved.turns was t);
    made = moved.made;
    same = moved.same;
  }

  -- a move that gave nothing
  pub Passed-took : (old new : List S) (P X A Y : List Row) (was is : Bool) (o : Option TypedPage) → o ≡ None → Moved g old new P (gave (Ok o)) → A ≡ X ++ P
      → (was ≡ true → is ≡ true) → Passed g old new X A Y Y was is
  Passed-took old new P X A Y was is o e moved a so =
      Passed-moved old new P [] X A Y Y was is (subst (λ (o : Option TypedPage). Moved g old new P (gave (Ok o))) e moved) a (sym (append-nil Y)) so

  pub Passed-gave : (old new : List S) (P X A Y B : List Row) (was is : Bool) (o : Option TypedPage) (page : TypedPage) → o ≡ Some page → Moved g old new P (gave (Ok o)) → A ≡ X ++ P
      → B ≡ Y ++ page.rows → (was ≡ true → is ≡ true) → Passed g old new X A Y B was is
  Passed-gave old new P X A Y B was is o page e moved a b so =
      Passed-moved old new P page.rows X A Y B was is (subst (λ (o : Option TypedPage). Moved g old new P (gave (Ok o))) e moved) a b so

  pub Passed-then : (old mid new : List S) (X A C Y B D : List Row) (was is be : Bool) → Passed g old mid X A Y B was is → Passed g mid new A C B D is be → Passed g old new X C Y D was be
  Passed-then old mid new X A C Y B D was is be p q = record {
    links = λ l. q.links (p.links l);
    turns = λ t. q.turns (p.turns t);
    made = q.made ∙ p.made;
    same = AllStay-then g old mid new p.same q.same;
  }

  -- ends were passed on, and then a page was moved or not
  pub Passed-served : (old mid new : List S) (X Y : List Row) (ended : Bool) → ((A B : List Row) → Linked g old A B → Linked g mid A B)
      → (ToldInTurn g ended old → ToldInTurn g ended mid) → map g.as_made mid ≡ map g.as_made old → AllStay g old mid → Moved g mid new [] [] → Passed g old new X X Y Y ended ended
  Passed-served old mid new X Y ended links turns made same moved = record {
    links = λ l. subst (λ (x : List Row). Linked g new x Y) (append-nil X) (subst (λ (y : List Row). Linked g new (X ++ []) y) (append-nil Y) (moved.links X Y (links X Y l)));
    turns = λ t. moved.turns ended (turns t);
    made = moved.made ∙ made;
    same = AllStay-then g old mid new same moved.same;
  }

  pub Passed-told : (old mid : List S) (X Y : List Row) (ended : Bool) → ((A B : List Row) → Linked g old A B → Linked g mid A B)
      → (ToldInTurn g ended old → ToldInTurn g ended mid) → map g.as_made mid ≡ map g.as_made old → AllStay g old mid → Passed g old mid X X Y Y ended ended
  Passed-told old mid X Y ended links turns made same = record { links = λ l. links X Y l; turns = turns; made = made; same = same }

  -- then pages moved behind the source as it is now
  pub Passed-on : (old mid new : List S) (X A Y B : List Row) (was is b : Bool) → b ≡ is → Passed g old mid X A Y B was is → Passed g mid new A A B B b b → Passed g old new X A Y B was is
  Passed-on old mid new X A Y B was is b e p q =
      Passed-then old mid new X A A Y B B was is is p (subst (λ (x : Bool). Passed g mid new A A B B x x) e q)

  -- a page was taken and others moved on, and none is out
  pub Passed-moved_on : (old mid new : List S) (X A P Q : List Row) (was is b : Bool) → b ≡ is → P ≡ [] → Q ≡ [] → ((Y : List Row) → Passed g old mid X A Y (Y ++ P) was is)
      → ((Y : List Row) → Passed g mid new A A Y Y b b) → (Y : List Row) → Passed g old new X A Y (Y ++ Q) was is
  Passed-moved_on old mid new X A P Q was is b e none out p q Y =
      let first : Passed g old mid X A Y Y was is = subst (λ (y : List Row). Passed g old mid X A Y y was is) (ap (λ p. Y ++ p) none ∙ append-nil Y) (p Y) in
      subst (λ (y : List Row). Passed g old new X A Y y was is) (sym (ap (λ q. Y ++ q) out ∙ append-nil Y)) (Passed-on old mid new X A Y Y was is b e first (q Y))

  -- then the last stage gave
  pub Passed-given : (old mid new : List S) (X A P R Y : List Row) (was is : Bool) → P ≡ [] → Passed g old mid X A Y (Y ++ P) was is → Passed g mid new A A Y (Y ++ R) is is
      → Passed g old new X A Y (Y ++ R) was is
  Passed-given old mid new X A P R Y was is none p q =
      Passed-then old mid new X A A Y Y (Y ++ R) was is is (subst (λ (y : List Row). Passed g old mid X A Y y was is) (ap (λ p. Y ++ p) none ∙ append-nil Y) p) q

  pub Passed-none_out : (old new : List S) (X A Y : List Row) (was is : Bool) → Passed g old new X A Y Y was is → Passed g old new X A Y (Y ++ []) was is
  Passed-none_out old new X A Y was is p = subst (λ (y : List Row). Passed g old new X A Y y was is) (sym (append-nil Y)) p
