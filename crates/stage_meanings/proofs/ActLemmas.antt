-- An operator that acts as another means what that one means.
use Rattle.std.proofs.Common.{◌⊎◌, inl, inr, List, ◌++◌, Bool}
use Rattle.sql_values.specs.declared.types.SqlType.{SqlType}
use Rattle.operator_core.specs.declared.operator.Operator.{Ghosts}
use Rattle.operator_core.specs.Rows.{Row}
use Rattle.operator_core.specs.Stages.{NothingFails}
use Rattle.stage_meanings.specs.Pipelines.{NodeStage}
use Rattle.stage_meanings.specs.Meanings.{ActsAs, CanGive, Means}

module _ {S T : Type 0} (g : Ghosts S) (m : S) (h : Ghosts T) (n : T) (acts : ActsAs g m h n) where
  calm : (X : List Row) → NothingFails g m X ⊎ ((s : S) × g.may_learn s m) → NothingFails h n X ⊎ ((t : T) × h.may_learn t n)
  calm X (inl none) = inl (λ node kind f. none node kind (acts.calm X node kind f))
  calm X (inr (s, learned)) = inr (acts.learned s learned)

  can : (X Y : List Row) (ended done : Bool) → CanGive g m X Y ended done → CanGive h n X Y ended done
  can X Y ended done c = record {
    could = λ Z may. let more = c.could Z may in (more.0, acts.gives (X ++ Z) (Y ++ more.0) more.1, more.2);
    over = c.over;
    calm = λ e. calm X (c.calm e);
  }

  pub acts_mean : (taken given : List SqlType) (pipeline : List NodeStage) → Means h n taken pipeline given → Means g m taken pipeline given
  acts_mean taken given pipeline means = record {
    fits = λ X Y fit gives. means.fits X Y fit (acts.gives X Y gives);
    makes = λ X Y fit gives none. means.makes X Y fit (acts.gives X Y gives) (λ node kind f. none node kind (acts.calm X node kind f));
    goes_on = λ X Y ended done fit c. means.goes_on X Y ended done fit (can X Y ended done c);
    fails = λ X ended node kind fit fails. means.fails X ended node kind fit (λ Z may. acts.fails (X ++ Z) node kind (fails Z may));
  }
