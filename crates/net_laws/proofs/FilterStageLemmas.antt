-- Stages that drop rows by dynamic filters, in front of those for the steps of a scan's pipe.
use Rattle.std.proofs.Common.{◌≡◌, List, [], ◌∷◌, ap, sym, subst}
use Rattle.sql_values.specs.declared.types.SqlType.{SqlType}
use Rattle.dyn_filter.specs.Filters.{FilterState}
use Rattle.dyn_filter.specs.contracts.filter.FilterOpOperator.TheImpl.{ghosts as filter_ghosts}
use Rattle.driver_loop.specs.contracts.stage.StageOperator.TheImpl.{ghosts}
use Rattle.driver_loop.specs.declared.stage.Stage.{Stage}
use Rattle.driver_loop.specs.declared.stage.Stage.TheVariants.{Dynamic}
use Rattle.plan_layout.specs.declared.filters.PlacedFilter.{PlacedFilter}
use Rattle.sieve_laws.specs.FilterLanes.{AllDrop, Drops, FilterNoted}
use Rattle.sieve_laws.proofs.FilterOpLemmas.{filter_drops}
use Rattle.driver_net_laws.specs.Nets.{AreInFront, NetForm}

-- a stage that is made as a dynamic filter is one
pub record IsDynamic (s : Stage) (op : FilterState) (types : List SqlType) : Type 0 where
  pub raw : FilterState
  pub is : s ≡ Dynamic raw types
  pub made : filter_ghosts.as_made raw ≡ op

pub dynamic_raw : (s : Stage) (op : FilterState) (types : List SqlType) → ghosts.as_made s ≡ Dynamic op types → IsDynamic s op types
dynamic_raw (Dynamic raw ts) op types same =
    let own : ts ≡ types = cc in
    let made : filter_ghosts.as_made raw ≡ op = cc in
    record { raw = raw; is = ap (λ (t : List SqlType). Dynamic raw t) own; made = made }
dynamic_raw s op types same = absurd cc

-- what it tests
abbrev pub noted : FilterState → FilterNoted
noted op = record { column = op.column; known = op.known }

stage_drops : (op : FilterState) (types : List SqlType) → Drops ghosts (noted op) (Dynamic op types)
stage_drops op types =
    let d = filter_drops op in
    record { unknown = d.unknown; drops = d.drops; holds = d.holds; calm = d.calm }

pub one_drops : (s : Stage) (op : FilterState) (types : List SqlType) → s ≡ Dynamic op types → Drops ghosts (noted op) s
one_drops s op types is = subst (Drops ghosts (noted op)) (sym is) (stage_drops op types)

-- stages in front drop rows, and never fail
pub front_drops : (net : NetForm) (types : List SqlType) (fs : List PlacedFilter) (stages : List Stage) → AreInFront net types fs stages
    → (filters : List FilterNoted) × AllDrop ghosts filters stages
front_drops net types [] stages none = ([], subst (AllDrop ghosts []) (sym none) tt)
front_drops net types (f ∷ fs) [] are = absurd are
front_drops net types (f ∷ fs) (s ∷ stages) are =
    let d = dynamic_raw s are.0.op types are.0.is in
    let rest = front_drops net types fs stages are.1 in
    (noted d.raw ∷ rest.0, (one_drops s d.raw types d.is, rest.1))
