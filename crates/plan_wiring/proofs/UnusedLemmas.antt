-- Nothing of a wiring is handed out as it is made.
use Rattle.std.proofs.Common.{◌≡◌, ℕ, zero, suc, ◌+◌, ◌*◌, List, [], ◌∷◌, map, replicate, refl, subst, sym}
use Rattle.sql_values.specs.declared.table.Table.{Table}
use Rattle.plan_layout.specs.Pipes.{PipeForm, SourceForm, table, rows, sides, fragment, edge}
use Rattle.plan_wiring.specs.declared.shared.Shared.{Shared}
use Rattle.plan_wiring.specs.Handed.{AreUnused, AreUnusedClaims, AreUnusedEdges}
use Rattle.plan_wiring.specs.Shares.{claims_of, gathers_of, new_edge, shares_of, spreads_of}
use Rattle.plan_wiring.specs.Wirings.{share_view}

unused_edges : (n seats : ℕ) → AreUnusedEdges (replicate n (new_edge seats))
unused_edges zero seats = tt
unused_edges (suc n) seats = (refl, unused_edges n seats)

unused_claims : (tables : List Table) (split drivers : ℕ) (source : SourceForm) → AreUnusedClaims (claims_of tables split drivers source)
unused_claims tables split drivers (table place columns types) = refl
unused_claims tables split drivers (rows types list) = tt
unused_claims tables split drivers sides = tt
unused_claims tables split drivers (fragment number) = tt
unused_claims tables split drivers (edge at numbers) = tt

unused_gathers : (layout : List PipeForm) (own tasks : ℕ) (source : SourceForm) → AreUnusedEdges (gathers_of layout own tasks source)
unused_gathers layout own tasks (table place columns types) = tt
unused_gathers layout own tasks (rows types list) = tt
unused_gathers layout own tasks sides = unused_edges tasks _
unused_gathers layout own tasks (fragment number) = tt
unused_gathers layout own tasks (edge at numbers) = unused_edges tasks _

unused_spreads : (tasks drivers : ℕ) (source : SourceForm) → AreUnusedEdges (spreads_of tasks drivers source)
unused_spreads tasks drivers (table place columns types) = tt
unused_spreads tasks drivers (rows types list) = tt
unused_spreads tasks drivers sides = tt
unused_spreads tasks drivers (fragment number) = unused_edges tasks drivers
unused_spreads tasks drivers (edge at numbers) = tt

unused_shares : (layout : List PipeForm) (tables : List Table) (split at : ℕ) (pipes : List PipeForm) → AreUnused (shares_of layout tables split at pipes)
unused_shares layout tables split at [] = tt
unused_shares layout tables split at (pipe ∷ pipes) = (
  record {
    claims = unused_claims tables split (pipe.tasks * pipe.drivers) pipe.source;
    gathers = unused_gathers layout at pipe.tasks pipe.source;
    spreads = unused_spreads pipe.tasks pipe.drivers pipe.source;
  },
  unused_shares layout tables split (at + 1) pipes,
)

pub unused_as_made : (layout : List PipeForm) (tables : List Table) (split : ℕ) (pipes : List Shared) → map share_view pipes ≡ shares_of layout tables split 0 layout → AreUnused (map share_view pipes)
unused_as_made layout tables split pipes are = subst AreUnused (sym are) (unused_shares layout tables split 0 layout)
