-- What looks and passes leave of a driver, put together to a turn.
use Rattle.std.proofs.Common.{◌≡◌, ◌⊎◌, inl, inr, ◌≤◌, ◌+◌, ◌-◌, ℕ, zero, suc, ◌<◌, List, [], ◌++◌, length, get_or, set, Bool, true, false, Option, Some, None, Result, Ok, Err, refl, sym, subst, ◌∙◌, arith, append-nil}
use Rattle.std.specs.Prelude.{IfOk, IfSome, MatchOption}
use Rattle.sql_values.specs.declared.fail.Fail.{Fail}
use Rattle.count_laws.specs.Counts.{Rose, most_count}
use Rattle.blocked.specs.declared.blocked_on.BlockedOn.{BlockedOn}
use Rattle.operator_core.specs.declared.operator.Operator.{Ghosts}
use Rattle.operator_core.specs.declared.fault.OpFault.{OpFault}
use Rattle.operator_core.specs.declared.fault.OpFault.TheVariants.{Expr}
use Rattle.operator_core.specs.Answers.{NotMemory}
use Rattle.operator_core.specs.Rows.{Row}
use Rattle.operator_core.specs.Calls.{IsLawful, Stays, Looked}
use Rattle.operator_core.specs.Stages.{Linked, ToldInTurn}
use Rattle.operator_core.proofs.StageLemmas.{Steps-looked}
use Rattle.operator_core.proofs.LinkLemmas.{Linked-set}
use Rattle.operator_core.proofs.TurnLemmas.{Turns-set, Turns-later}
use Rattle.operator_core.proofs.MadeLemmas.{CameFrom-looked, AllCameFrom-set}
use Rattle.operator_core.proofs.ChainLemmas.{failure}
use Rattle.stage_moves.specs.Moves.{SomeFails}
use Rattle.stage_moves.specs.Passes.{Passed}
use Rattle.stage_moves.specs.Places.{AllStay, IsLater, AllLater}
use Rattle.stage_moves.specs.Counts.{Counted}
use Rattle.stage_moves.specs.Looks.{Looks, HasWaited}
use Rattle.stage_moves.specs.Quiet.{IsQuiet}
use Rattle.driver_turns.specs.Turns.{WentOn, WorkedTo, StageBlocked, StageFailed, IsHeldUp, IsBlocked, IsHalted, RangDues}
use Rattle.stage_moves.proofs.CountLemmas.{Counted-none, Counted-then}
use Rattle.stage_moves.proofs.PlaceLemmas.{AllLater-same, AllLater-then, AllLater-looked, AllLater-stay, AllCameFrom-stay, each-at, each-length, item-is}

module _ {S : Type 0} (g : Ghosts S) where
  -- nothing happened
  pub WentOn-none : (ss : List S) (X Y : List Row) (ended : Bool) → WentOn g ss ss X X Y Y ended ended
  WentOn-none ss X Y ended = record { links = λ l. l; turns = λ t. t; came = λ ms c. c; later = AllLater-same g ss }

  pub WentOn-then : (old mid new : List S) (X A C Y B D : List Row) (was is be : Bool) → WentOn g old mid X A Y B was is → WentOn g mid new A C B D is be
      → WentOn g old new X C Y D was be
  WentOn-then old mid new X A C Y B D was is be p q = record {
    links = λ l. q.links (p.links l);
    turns = λ t. q.turns (p.turns t);
    came = λ ms c. q.came ms (p.came ms c);
    later = AllLater-then g old mid new p.later q.later;
  }

  pub WentOn-passed : (old new : List S) (X A Y B : List Row) (was is : Bool) → Passed g old new X A Y B was is → WentOn g old new X A Y B was is
  WentOn-passed old new X A Y B was is p = record {
    links = p.links;
    turns = p.turns;
    came = λ ms c. AllCameFrom-stay g ms old new p.same c;
    later = AllLater-stay g old new p.same;
  }

  -- the source looked, and may have ended
  pub WentOn-came : (old new : List S) (X A Y : List Row) (was is : Bool) → A ≡ X → (was ≡ true → is ≡ true) → WentOn g old new X X Y Y was was → WentOn g old new X A Y Y was is
  WentOn-came old new X A Y was is e so p = record {
    links = λ l. subst (λ (x : List Row). Linked g new x Y) (sym e) (p.links l);
    turns = λ t. Turns-later g was is new so (p.turns t);
    came = p.came;
    later = p.later;
  }

  -- a stage looked at its note
  pub WentOn-looked : IsLawful g → (ss : List S) (i : ℕ) (s t : S) (X Y : List Row) (ended : Bool) → i < length ss → s ≡ get_or ss i s → Looked g s t
      → g.empty_looks s ≤ g.empty_looks t → WentOn g ss (set ss i t) X X Y Y ended ended
  WentOn-looked laws ss i s t X Y ended h e looked looks = record {
    links = λ l. Linked-set g ss i s t X Y h e (λ A B steps. Steps-looked g s t A B looked steps) l;
    turns = λ turns. Turns-set g ended ss i s t h e (λ told. sym looked.told ∙ told) looked.kept.over turns;
    came = λ ms c. AllCameFrom-set g ms ss i s t h e (λ m c. CameFrom-looked g laws m s t looked c) c;
    later = AllLater-looked g ss i s t h e looked looks;
  }

  -- it is blocked too after a pass, and it looked since whatever came before
  pub Blocked-stays : (old mid new : List S) (shown : ℕ → ℕ → Type 0) (on : BlockedOn) → AllStay g mid new → StageBlocked g old mid shown on → StageBlocked g old new shown on
  Blocked-stays old mid new shown on stay b =
      let there : b.place < length new = omega (arith, b.there, each-length (λ s t. Stays g s t) mid new stay) in
      let after : S = get_or new b.place b.after in
      let is : after ≡ get_or new b.place after = item-is new b.place b.after there in
      let stays : Stays g b.after after = each-at (λ s t. Stays g s t) mid new b.place b.after after stay there b.is is in
      record {
        place = b.place;
        before = b.before;
        after = after;
        there = there;
        was = b.was;
        is = is;
        waits = stays.kept.waits ∙ b.waits;
        unknown = stays.knows ∙ b.unknown;
        looked = subst (λ (n : ℕ). Rose (g.empty_looks b.before) n) (sym stays.looks) b.looked;
        bell = b.bell ∙ sym stays.bell;
        seen = b.seen;
        handed = stays.looked_at ∙ b.handed;
        unrung = b.unrung;
      }

  rose-since : (a b c : ℕ) → a ≤ b → Rose b c → Rose a c
  rose-since a b c h rose = omega (arith, h, rose)

  pub Blocked-since : (old mid new : List S) (shown : ℕ → ℕ → Type 0) (on : BlockedOn) → AllLater g old mid → AllLater g mid new → StageBlocked g mid new shown on
      → StageBlocked g old new shown on
  Blocked-since old mid new shown on later latest b =
      let within : b.place < length mid = omega (arith, b.there, each-length (λ s t. IsLater g s t) mid new latest) in
      let inside : b.place < length old = omega (arith, within, each-length (λ s t. IsLater g s t) old mid later) in
      let before : S = get_or old b.place b.before in
      let was : before ≡ get_or old b.place before = item-is old b.place b.before inside in
      let since : IsLater g before b.before = each-at (λ s t. IsLater g s t) old mid b.place before b.before later within was b.was in
      record {
        place = b.place;
        before = before;
        after = b.after;
        there = b.there;
        was = was;
        is = b.is;
        waits = b.waits;
        unknown = b.unknown;
        looked = rose-since (g.empty_looks before) (g.empty_looks b.before) (g.empty_looks b.after) since.looks b.looked;
        bell = b.bell;
        seen = b.seen;
        handed = b.handed;
        unrung = b.unrung;
      }

  pub Blocked-passed : (old mid new : List S) (shown : ℕ → ℕ → Type 0) (o : Option BlockedOn) → AllStay g mid new → IfSome o (λ on. StageBlocked g old mid shown on)
      → IfSome o (λ on. StageBlocked g old new shown on)
  Blocked-passed old mid new shown None stay b = tt
  Blocked-passed old mid new shown (Some on) stay b = Blocked-stays old mid new shown on stay b

  -- the stages were looked at, and then there was a pass
  pub WentOn-step : (old mid new : List S) (X A Y B : List Row) (was is : Bool) → WentOn g old mid X X Y Y was was → Passed g mid new X A Y B was is → WentOn g old new X A Y B was is
  WentOn-step old mid new X A Y B was is p q = WentOn-then old mid new X X A Y Y B was was is p (WentOn-passed mid new X A Y B was is q)

  pub WorkedTo-passed : (was_given : List Row → Type 0) (old new : List S) (X A Y B : List Row) (was is : Bool) (missed misses rows : ℕ) → was_given B → Passed g old new X A Y B was is
      → Counted g old new X A Y B rows → misses ≡ missed → WorkedTo g was_given old new X A Y was is missed misses rows
  WorkedTo-passed was_given old new X A Y B was is missed misses rows given p counts same = record {
    rows = B;
    given = given;
    went = WentOn-passed old new X A Y B was is p;
    entered = rows;
    again = 0;
    counts = counts;
    units_are = omega arith;
    within = λ below. omega (arith, same);
  }

  -- a pass gave these rows out
  pub WorkedTo-out : (was_given : List Row → Type 0) (old new : List S) (X A Y Q R : List Row) (was is : Bool) (missed misses rows : ℕ) → Q ≡ R → was_given (Y ++ R)
      → Passed g old new X A Y (Y ++ Q) was is → Counted g old new X A Y (Y ++ Q) rows → misses ≡ missed → WorkedTo g was_given old new X A Y was is missed misses rows
  WorkedTo-out was_given old new X A Y Q R was is missed misses rows e given p counts same =
      WorkedTo-passed was_given old new X A Y (Y ++ Q) was is missed misses rows (subst (λ (q : List Row). was_given (Y ++ q)) (sym e) given) p counts same

  -- or none
  pub WorkedTo-still : (was_given : List Row → Type 0) (old new : List S) (X A Y Q : List Row) (was is : Bool) (missed misses rows : ℕ) → Q ≡ [] → was_given Y
      → Passed g old new X A Y (Y ++ Q) was is → Counted g old new X A Y (Y ++ Q) rows → misses ≡ missed → WorkedTo g was_given old new X A Y was is missed misses rows
  WorkedTo-still was_given old new X A Y Q was is missed misses rows none given p counts same =
      WorkedTo-out was_given old new X A Y Q [] was is missed misses rows none (subst was_given (sym (append-nil Y)) given) p counts same

  pub WorkedTo-none : (was_given : List Row → Type 0) (ss : List S) (X Y : List Row) (ended : Bool) (missed : ℕ) → was_given Y → WorkedTo g was_given ss ss X X Y ended ended missed missed 0
  WorkedTo-none was_given ss X Y ended missed given = record {
    rows = Y;
    given = given;
    went = WentOn-none ss X Y ended;
    entered = 0;
    again = 0;
    counts = Counted-none g ss X X Y refl;
    units_are = refl;
    within = λ below. omega arith;
  }

  -- the source and the stages were looked at
  pub WorkedTo-looked : (was_given : List Row → Type 0) (old new : List S) (X A Y : List Row) (was is : Bool) (missed misses again : ℕ) → was_given Y → WentOn g old new X A Y Y was is
      → Counted g old new X A Y Y 0 → (misses < most_count → missed + again ≤ misses) → WorkedTo g was_given old new X A Y was is missed misses again
  WorkedTo-looked was_given old new X A Y was is missed misses again given went counts within =
      record { rows = Y; given = given; went = went; entered = 0; again = again; counts = counts; units_are = omega arith; within = within }

  pub WorkedTo-given : (was_given now : List Row → Type 0) (old new : List S) (X A Y : List Row) (was is : Bool) (missed misses units : ℕ) → ((Y : List Row) → was_given Y → now Y)
      → WorkedTo g was_given old new X A Y was is missed misses units → WorkedTo g now old new X A Y was is missed misses units
  WorkedTo-given was_given now old new X A Y was is missed misses units on p = record {
    rows = p.rows;
    given = on p.rows p.given;
    went = p.went;
    entered = p.entered;
    again = p.again;
    counts = p.counts;
    units_are = p.units_are;
    within = p.within;
  }

  pub WorkedTo-then : (was_given now : List Row → Type 0) (old mid new : List S) (X A C Y : List Row) (was is be : Bool) (missed misses more units then all : ℕ)
      → WorkedTo g was_given old mid X A Y was is missed misses units → ((B : List Row) → was_given B → WorkedTo g now mid new A C B is be misses more then)
      → misses ≤ more → all ≡ units + then → WorkedTo g now old new X C Y was be missed more all
  WorkedTo-then was_given now old mid new X A C Y was is be missed misses more units then all p on rises e =
      let q = on p.rows p.given in
      record {
        rows = q.rows;
        given = q.given;
        went = WentOn-then old mid new X A C Y p.rows q.rows was is be p.went q.went;
        entered = p.entered + q.entered;
        again = p.again + q.again;
        counts = Counted-then g old mid new X A C Y p.rows q.rows p.entered q.entered p.counts q.counts;
        units_are = omega (arith, e, p.units_are, q.units_are);
        within = λ below. omega (arith, p.within (omega (arith, below, rises)), q.within below);
      }

  -- who waits since looked since whatever came before
  pub Waited-since : (a b c : Looks) (shown : ℕ → ℕ → Type 0) (on : BlockedOn) → a.in_vain ≤ b.in_vain → HasWaited b c shown on → HasWaited a c shown on
  Waited-since a b c shown on h w = record { looked = rose-since a.in_vain b.in_vain c.in_vain h w.looked; bell = w.bell; seen = w.seen; handed = w.handed; unrung = w.unrung }

  HeldUp-since : (old mid new : List S) (sa sb sc : Looks) (shown : ℕ → ℕ → Type 0) (on : BlockedOn) → AllLater g old mid → AllLater g mid new → sa.in_vain ≤ sb.in_vain
      → IsHeldUp g mid new sb sc shown on → IsHeldUp g old new sa sc shown on
  HeldUp-since old mid new sa sb sc shown on later latest s (inl b) = inl (Blocked-since old mid new shown on later latest b)
  HeldUp-since old mid new sa sb sc shown on later latest s (inr w) = inr (Waited-since sa sb sc shown on s w)

  pub Blocked-all_since : (old mid new : List S) (told : Bool) (sa sb sc ta tb tc : Looks) (shown : ℕ → ℕ → Type 0) (on : BlockedOn) → AllLater g old mid → AllLater g mid new
      → sa.in_vain ≤ sb.in_vain → ta.in_vain ≤ tb.in_vain → IsBlocked g mid new told sb sc tb tc shown on → IsBlocked g old new told sa sc ta tc shown on
  Blocked-all_since old mid new told sa sb sc ta tb tc shown on later latest s t (inl b) = inl (HeldUp-since old mid new sa sb sc shown on later latest s b.0, b.1)
  Blocked-all_since old mid new told sa sb sc ta tb tc shown on later latest s t (inr w) = inr (Waited-since ta tb tc shown on t w)

  Blocked-shown : (old new : List S) (shown later : ℕ → ℕ → Type 0) (on : BlockedOn) → ((bell count : ℕ) → shown bell count → later bell count) → StageBlocked g old new shown on
      → StageBlocked g old new later on
  Blocked-shown old new shown later on more b = record {
    place = b.place;
    before = b.before;
    after = b.after;
    there = b.there;
    was = b.was;
    is = b.is;
    waits = b.waits;
    unknown = b.unknown;
    looked = b.looked;
    bell = b.bell;
    seen = more on.bell on.seen b.seen;
    handed = b.handed;
    unrung = b.unrung;
  }

  Waited-shown : (was is now : Looks) (shown later : ℕ → ℕ → Type 0) (on : BlockedOn) → now ≡ is → ((bell count : ℕ) → shown bell count → later bell count) → HasWaited was is shown on
      → HasWaited was now later on
  Waited-shown was is now shown later on e more w = subst (λ (l : Looks). HasWaited was l later on) (sym e)
      (record { looked = w.looked; bell = w.bell; seen = more on.bell on.seen w.seen; handed = w.handed; unrung = w.unrung })

  -- who was held up is so after a pass, with what the bells show by then
  HeldUp-later : (old mid new : List S) (su sl sn : Looks) (shown later : ℕ → ℕ → Type 0) (on : BlockedOn) → AllStay g mid new → sn ≡ sl
      → ((bell count : ℕ) → shown bell count → later bell count) → IsHeldUp g old mid su sl shown on → IsHeldUp g old new su sn later on
  HeldUp-later old mid new su sl sn shown later on stay e more (inl b) = inl (Blocked-shown old new shown later on more (Blocked-stays old mid new shown on stay b))
  HeldUp-later old mid new su sl sn shown later on stay e more (inr w) = inr (Waited-shown su sl sn shown later on e more w)

  some-held : (o : Option BlockedOn) (P : BlockedOn → Type 0) (on : BlockedOn) → o ≡ Some on → IfSome o P → P on
  some-held o P on e h = let p = subst (λ (o : Option BlockedOn). IfSome o P) e h in p

  -- the target waits, or it was not told to finish and somebody before it waits
  pub Blocked-who : (old mid new : List S) (told wanted is_told : Bool) (su sl sn tu tm tn : Looks) (shown later : ℕ → ℕ → Type 0) (full waits who : Option BlockedOn) (none : Type 0)
      → MatchOption who none (λ on. (full ≡ Some on) ⊎ ((told ≡ false) × (wanted ≡ true) × (waits ≡ Some on))) → AllStay g mid new → sn ≡ sl → tu.in_vain ≤ tm.in_vain
      → told ≡ is_told → ((bell count : ℕ) → shown bell count → later bell count) → IfSome waits (λ on. IsHeldUp g old mid su sl shown on)
      → IfSome full (λ on. HasWaited tm tn later on) → IfSome who (λ on. IsBlocked g old new is_told su sn tu tn later on)
  Blocked-who old mid new told wanted is_told su sl sn tu tm tn shown later full waits None none is stay e t same more held waited = tt
  Blocked-who old mid new told wanted is_told su sl sn tu tm tn shown later full waits (Some on) none (inl is) stay e t same more held waited =
      inr (Waited-since tu tm tn later on t (some-held full (λ on. HasWaited tm tn later on) on is waited))
  Blocked-who old mid new told wanted is_told su sl sn tu tm tn shown later full waits (Some on) none (inr is) stay e t same more held waited =
      inl (HeldUp-later old mid new su sl sn shown later on stay e more (some-held waits (λ on. IsHeldUp g old mid su sl shown on) on is.2 held), sym same ∙ is.0)

  Halted-quiet : (ss : List S) (wants : Bool) (waits : Type 0) → IsQuiet g wants ss → (wants ≡ true) ⊎ waits → IsHalted g ss waits
  Halted-quiet ss wants waits q (inl wanted) = record { stages = q.stages; last = inl (q.last wanted) }
  Halted-quiet ss wants waits q (inr w) = record { stages = q.stages; last = inr w }

  -- the target waits, or it had wanted a page, and nothing was left for it
  pub Halted-who : (ss : List S) (wants : Bool) (tu tn : Looks) (shown : ℕ → ℕ → Type 0) (who : Option BlockedOn) → IsQuiet g wants ss
      → IfSome who (λ on. (wants ≡ true) ⊎ HasWaited tu tn shown on) → IfSome who (λ on. IsHalted g ss (HasWaited tu tn shown on))
  Halted-who ss wants tu tn shown None q h = tt
  Halted-who ss wants tu tn shown (Some on) q h = Halted-quiet ss wants (HasWaited tu tn shown on) q h

  pub Halted-since : (ss : List S) (ta tb tc : Looks) (shown : ℕ → ℕ → Type 0) (on : BlockedOn) → ta.in_vain ≤ tb.in_vain → IsHalted g ss (HasWaited tb tc shown on)
      → IsHalted g ss (HasWaited ta tc shown on)
  Halted-since ss ta tb tc shown on t h = record { stages = h.stages; last = since h.last }
    where
      since : {P : Type 0} → P ⊎ HasWaited tb tc shown on → P ⊎ HasWaited ta tc shown on
      since (inl p) = inl p
      since (inr w) = inr (Waited-since ta tb tc shown on t w)

  -- a failure is one of a stage, as it was made, on what came to it
  pub SomeFails-after : (ss : List S) (ended : Bool) (X Y : List Row) (node : ℕ) (kind : Fail) → SomeFails g ss node kind → Linked g ss X Y → ToldInTurn g ended ss
      → StageFailed g ss ended X node kind
  SomeFails-after ss ended X Y node kind f l t = record {
    place = f.place;
    stage = f.stage;
    there = f.there;
    is = f.is;
    after = failure g ended ss f.place f.stage X Y node kind f.there f.is t l f.fails;
  }

-- the target waits, or it had wanted a page
pub wanted-who : (told wanted wants : Bool) (tu tm tn : Looks) (later : ℕ → ℕ → Type 0) (full waits who : Option BlockedOn) (none : Type 0)
    → MatchOption who none (λ on. (full ≡ Some on) ⊎ ((told ≡ false) × (wanted ≡ true) × (waits ≡ Some on))) → tu.in_vain ≤ tm.in_vain → wanted ≡ wants
    → IfSome full (λ on. HasWaited tm tn later on) → IfSome who (λ on. (wants ≡ true) ⊎ HasWaited tu tn later on)
wanted-who told wanted wants tu tm tn later full waits None none is t same waited = tt
wanted-who told wanted wants tu tm tn later full waits (Some on) none (inl is) t same waited =
    inr (let w = subst (λ (o : Option BlockedOn). IfSome o (λ on. HasWaited tm tn later on)) is waited in since tu.in_vain tm.in_vain tn.in_vain t w.looked w)
  where
    since : (a b c : ℕ) → a ≤ b → Rose b c → HasWaited tm tn later on → HasWaited tu tn later on
    since a b c h rose w = record { looked = omega (arith, t, w.looked); bell = w.bell; seen = w.seen; handed = w.handed; unrung = w.unrung }
wanted-who told wanted wants tu tm tn later full waits (Some on) none (inr is) t same waited = inl (sym same ∙ is.1)

-- what holds of who waits holds of it also where more is known
pub all-told : (r : Result (Option BlockedOn) OpFault) (Q : Type 0) (P : BlockedOn → Type 0) → IfOk r (λ waits. IfSome waits P) → IfOk r (λ waits. IfSome waits (λ on. Q → P on))
all-told (Ok None) Q P h = tt
all-told (Ok (Some on)) Q P h = λ _. h
all-told (Err fault) Q P h = tt

-- of a target that was told to finish holds what is asked of one that was not
pub none-untold : (told : Bool) (o : Option BlockedOn) (P : BlockedOn → Type 0) → told ≡ true → IfSome o (λ on. told ≡ false → P on)
none-untold told None P is = tt
none-untold told (Some on) P is = λ not. absurd (let clash : true ≡ false = sym is ∙ not in cc)

-- what holds of who waits holds of this one
pub in-some : (r : Result (Option BlockedOn) OpFault) (o : Option BlockedOn) (on : BlockedOn) (P : BlockedOn → Type 0) → r ≡ Ok o → o ≡ Some on → IfOk r (λ waits. IfSome waits P) → P on
in-some r o on P is some h =
    let all : IfSome o P = subst (λ (r : Result (Option BlockedOn) OpFault). IfOk r (λ waits. IfSome waits P)) is h in
    let this : P on = subst (λ (o : Option BlockedOn). IfSome o P) some all in this

-- no step without room counts a unit
pub few-step : (units quantum most room more : ℕ) → units < quantum + most → room ≡ quantum - units → more < room + most → (room ≡ 0 → more ≡ 0) → units + more < quantum + most
few-step units quantum most zero more few e some none = omega (arith, few, none refl)
few-step units quantum most (suc room) more few e some none = omega (arith, e, some)

-- what holds where the target was told to finish before, and where it is told to now, holds where it is told at all
pub told-since : (was : Bool) (last : Type 0) → (was ≡ true → last) → (was ≡ true) ⊎ last → last
told-since was last before (inl told) = before told
told-since was last before (inr now) = now

pub expr-not-memory : (fault : OpFault) (node : ℕ) (kind : Fail) → fault ≡ Expr node kind → NotMemory {A = Unit {0}} (Err fault)
expr-not-memory fault node kind e = subst (λ (f : OpFault). NotMemory {A = Unit {0}} (Err f)) (sym e) tt

-- what two rang for their dues, one after the other
pub RangDues-both : (a b c : ℕ → ℕ → Type 0) (s t u v : ℕ → ℕ) → RangDues a b s t → RangDues b c u v → RangDues a c (λ bell. s bell + u bell) (λ bell. t bell + v bell)
RangDues-both a b c s t u v p q = λ bell times rang.
    subst (c bell) (order (t bell) (v bell) times)
    (q bell (times + t bell) (subst (b bell) (swap (t bell) (u bell) times) (p bell (times + u bell) (subst (a bell) (move (s bell) (u bell) times) rang))))
  where
    move : (s u n : ℕ) → n + (s + u) ≡ n + u + s
    move s u n = omega arith

    swap : (t u n : ℕ) → n + u + t ≡ n + t + u
    swap t u n = omega arith

    order : (t v n : ℕ) → n + t + v ≡ n + (t + v)
    order t v n = omega arith

pub RangDues-then : (a b c : ℕ → ℕ → Type 0) (s t u : ℕ → ℕ) → RangDues a b s t → RangDues b c t u → RangDues a c s u
RangDues-then a b c s t u p q = λ bell times rang. q bell times (p bell times rang)

-- the dues are what they were
pub RangDues-same : (a b : ℕ → ℕ → Type 0) (s t u v : ℕ → ℕ) → ((bell : ℕ) → u bell ≡ s bell) → ((bell : ℕ) → v bell ≡ t bell) → RangDues a b s t → RangDues a b u v
RangDues-same a b s t u v e f p = λ bell times rang.
    subst (λ (n : ℕ). b bell (times + n)) (sym (f bell)) (p bell times (subst (λ (n : ℕ). a bell (times + n)) (e bell) rang))

-- the source rang and then the target, and between the two their dues stayed
pub RangDues-step : (a b c : ℕ → ℕ → Type 0) (i l m t p n : ℕ → ℕ) → RangDues a b i l → RangDues b c p n → ((bell : ℕ) → m bell ≡ l bell) → ((bell : ℕ) → p bell ≡ t bell)
    → RangDues a c (λ bell. i bell + t bell) (λ bell. m bell + n bell)
RangDues-step a b c i l m t p n first then same kept =
    RangDues-same a c (λ bell. i bell + p bell) (λ bell. l bell + n bell) (λ bell. i bell + t bell) (λ bell. m bell + n bell)
    (λ bell. at-right (i bell) (t bell) (p bell) (sym (kept bell)))
    (λ bell. at-left (m bell) (l bell) (n bell) (same bell))
    (RangDues-both a b c i l p n first then)
  where
    at-right : (i t p : ℕ) → t ≡ p → i + t ≡ i + p
    at-right i t p e = omega (arith, e)

    at-left : (m l n : ℕ) → m ≡ l → m + n ≡ l + n
    at-left m l n e = omega (arith, e)

-- the source rang, and then nobody
pub RangDues-alone : (a b : ℕ → ℕ → Type 0) (i l m t n : ℕ → ℕ) → RangDues a b i l → ((bell : ℕ) → m bell ≡ l bell) → ((bell : ℕ) → n bell ≡ t bell)
    → RangDues a b (λ bell. i bell + t bell) (λ bell. m bell + n bell)
RangDues-alone a b i l m t n first same kept = RangDues-step a b b i l m t n n first (λ bell times rang. rang) same kept
