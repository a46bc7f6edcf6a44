-- Operators one after the other: what went into the first, what came out of the last, and who was told to finish.
use Rattle.std.specs.Prelude.{◌≡◌, ◌↔◌, ◌⊎◌, ℕ, zero, suc, List, [], ◌∷◌, ◌++◌, length, Bool, true, false, map}
use Rattle.sql_values.specs.declared.fail.Fail.{Fail}
use Rattle.operator_core.specs.declared.operator.Operator.{Ghosts}
use Rattle.operator_core.specs.Rows.{Row, Coming}

-- a stage took the rows X and gave the rows Y: what it may still give or fail on continues what it, as it was made, may, and
-- it counted those that it gave
pub record Steps {S : Type 0} (g : Ghosts S) (s : S) (X Y : List Row) : Type 0 where
  pub gives : (Z B : List Row) → Coming (g.is_told s) Z → g.may_give s Z B → g.may_give (g.as_made s) (X ++ Z) (Y ++ B)
  pub fails : (Z : List Row) (node : ℕ) (kind : Fail) → Coming (g.is_told s) Z
      → g.may_still_fail s Z node kind ↔ g.may_still_fail (g.as_made s) (X ++ Z) node kind
  pub idle : g.knows s ≡ false → g.went s X Y
  pub counted : g.counted s (length Y)

-- the stages took X and gave Y, and each took what the one before it gave
abbrev pub Linked : {S : Type 0} → Ghosts S → List S → List Row → List Row → Type 0
Linked g [] X Y = X ≡ Y
Linked g (s ∷ ss) X Y = (M : List Row) × Steps g s X M × Linked g ss M Y

-- a stage may be told to finish; `ended` is whether its giver is finished
abbrev pub MayBeTold : {S : Type 0} → Ghosts S → Bool → S → Type 0
MayBeTold g ended s = ended ≡ true

-- each stage was told to finish only where it might be; `ended` is the source's
abbrev pub ToldInTurn : {S : Type 0} → Ghosts S → Bool → List S → Type 0
ToldInTurn g ended [] = Unit {0}
ToldInTurn g ended (s ∷ ss) = (g.is_told s ≡ true → MayBeTold g ended s) × ToldInTurn g (g.is_finished s) ss

-- whether the last stage is finished, or the source where there is no stage
abbrev pub last_finished : {S : Type 0} → Ghosts S → Bool → List S → Bool
last_finished g ended [] = ended
last_finished g ended (s ∷ ss) = last_finished g (g.is_finished s) ss

-- whether the giver of the stage at a place is finished
abbrev pub giver_finished : {S : Type 0} → Ghosts S → Bool → List S → ℕ → Bool
giver_finished g ended ss zero = ended
giver_finished g ended [] (suc i) = ended
giver_finished g ended (s ∷ ss) (suc i) = giver_finished g (g.is_finished s) ss i

-- nothing of these rows fails
abbrev pub NothingFails : {S : Type 0} → Ghosts S → S → List Row → Type 0
NothingFails g s X = (node : ℕ) (kind : Fail) → g.may_still_fail s X node kind → ⊥

-- the stages, one after the other, may give Y for X; where `strict`, nothing fails on the way
abbrev pub Chain : {S : Type 0} → Ghosts S → Bool → List S → List Row → List Row → Type 0
Chain g strict [] X Y = X ≡ Y
Chain g strict (s ∷ ss) X Y = (M : List Row) × g.may_give s X M × (strict ≡ true → NothingFails g s X) × Chain g strict ss M Y

-- rows that may still come to the first stage: any until it was told to finish
abbrev pub ComingTo : {S : Type 0} → Ghosts S → List S → List Row → Type 0
ComingTo g [] Z = Unit {0}
ComingTo g (s ∷ ss) Z = Coming (g.is_told s) Z

-- whatever rows still come, what the stages may still give continues what they, as they were made, may give for all
abbrev pub Follows : {S : Type 0} → Ghosts S → List S → List Row → List Row → Type 0
Follows g ss X Y = (Z B : List Row) → ComingTo g ss Z → Chain g false ss Z B → Chain g false (map g.as_made ss) (X ++ Z) (Y ++ B)

-- a stage as it was made, with what its note knows, or with a value that its note may come to know
abbrev pub MadeOf : {S : Type 0} → Ghosts S → S → S → Type 0
MadeOf g s m = (m ≡ g.as_made s) ⊎ ((g.knows s ≡ false) × g.may_learn s m)

abbrev pub AreMadeOf : {S : Type 0} → Ghosts S → List S → List S → Type 0
AreMadeOf g [] [] = Unit {0}
AreMadeOf g (s ∷ ss) (m ∷ ms) = MadeOf g s m × AreMadeOf g ss ms
AreMadeOf g ss ms = ⊥

-- a stage was made so, and may have learned since
abbrev pub CameFrom : {S : Type 0} → Ghosts S → S → S → Type 0
CameFrom g m s = (g.as_made s ≡ m) ⊎ g.may_learn m (g.as_made s)

abbrev pub AllCameFrom : {S : Type 0} → Ghosts S → List S → List S → Type 0
AllCameFrom g [] [] = Unit {0}
AllCameFrom g (m ∷ ms) (s ∷ ss) = CameFrom g m s × AllCameFrom g ms ss
AllCameFrom g ms ss = ⊥

-- the stages can go on with the rows Z: they, so made, may give Y and more for X and Z, and no more once the last is finished
pub record GoesOn {S : Type 0} (g : Ghosts S) (ms : List S) (X Y Z : List Row) (done : Bool) : Type 0 where
  pub more : List Row
  pub chain : Chain g false ms (X ++ Z) (Y ++ more)
  pub over : done ≡ true → more ≡ []

-- a stage fails on what the stages before it gave, whatever rows still come to it
pub record FailsAfter {S : Type 0} (g : Ghosts S) (before : List S) (m : S) (ended : Bool) (X : List Row) (node : ℕ) (kind : Fail) : Type 0 where
  pub came : List Row
  pub linked : Linked g before X came
  pub told : ToldInTurn g ended before
  pub fails : (Z : List Row) → Coming (last_finished g ended before) Z → g.may_still_fail m (came ++ Z) node kind
