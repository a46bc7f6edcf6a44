-- The spread that an operator gives is one at which it is placed, over inputs that are placed at theirs.
use Rattle.std.proofs.Common.{◌≡◌, ℕ, ◌<◌, List, ◌∷◌, length, map, Bool, true, false, Option, Some, None, refl, ap, sym, ◌∙◌, subst, arith}
use Rattle.std.specs.Prelude.{if◌then◌else◌, option_map}
use Rattle.std.proofs.lemmas.List.{map-id}
use Rattle.sql_values.specs.declared.types.SqlType.{SqlType}
use Rattle.sql_values.specs.declared.relational.Call.{Call}
use Rattle.sql_values.specs.declared.relational.JoinKind.{JoinKind}
use Rattle.sql_exprs.specs.Forms.{Form, column}
use Rattle.bag_laws.specs.Buckets.{AllBelow, at_places}
use Rattle.plan_trees.specs.declared.tree.Pair.{Pair}
use Rattle.plan_trees.specs.TreeForms.{pair_view}
use Rattle.plan_trees.specs.Allowed.{width_of}
use Rattle.plan_docs.specs.declared.node.NodeStep.{NodeStep}
use Rattle.plan_docs.specs.declared.node.NodeStep.TheVariants.{Single, Partial}
use Rattle.plan_docs.specs.declared.plan.Output.{Output}
use Rattle.plan_docs.specs.declared.plan.Output.TheVariants as output
use Rattle.plan_docs.specs.declared.plan.Placement.{Placement}
use Rattle.plan_docs.specs.declared.plan.Placement.TheVariants as placement
use Rattle.plan_run_laws.specs.RunPlans.{RunPlan, tree_of_run}
use Rattle.plan_run_laws.specs.RunPlans as run
use Rattle.plan_run_laws.specs.Spreads as runs
use Rattle.plan_run_laws.specs.Placements.{IsRead, Placed, scan_any, remote_by, remote_every, project_any, project_by, project_every, join_right_every, join_by, aggregate_by, union_any, union_every, any_from_by}
use Rattle.plan_spreads.specs.declared.spread.RowSpread.{RowSpread}
use Rattle.plan_spreads.specs.declared.spread.RowSpread.TheVariants.{Whole, Any, By, Every}
use Rattle.plan_spreads.specs.Columns.{are_paired, is_column, is_key, first_places}
use Rattle.plan_spreads.specs.Operators.{aggregate_spread, are_keys, by_or_any, final_spread, first_rows_spread, is_parted, join_spread, partial_spread, project_spread, remote_spread, scan_spread, union_spread}
use Rattle.plan_spreads.specs.Runs.{output_view, row_spread_view}
use Rattle.plan_spreads.proofs.PlaceLemmas.{column_is, key_is, keys_are, paired, places_at}

pub if_some : {A : Type 0} (b : Bool) (x y : A) → (if b then Some x else None) ≡ Some y → (b ≡ true) × (x ≡ y)
if_some true x y e = (refl, cc e)
if_some false x y e = absurd cc

-- a plan that some tasks run, as others read it
pub record ReadAs (tasks : ℕ) (r : RunPlan) : Type 0 where
  pub spread : runs.Spread
  pub is_read : IsRead tasks spread
  pub placed : Placed tasks r spread

-- a hash output has columns of the rows
abbrev pub FitsColumns : Output → ℕ → Type 0
FitsColumns (output.Hash columns) width = AllBelow width columns
FitsColumns o width = Unit {0}

module _ (n : ℕ) where
  -- placed at the spread that a row gave
  placed_at : (r : RunPlan) (s t : RowSpread) → Some s ≡ Some t → Placed n r (row_spread_view s) → Placed n r (row_spread_view t)
  placed_at r s t e placed = let same : s ≡ t = cc e in subst (λ x. Placed n r (row_spread_view x)) same placed

  pub scan_placed : (id table : ℕ) (columns : List ℕ) (types : List SqlType) (p : Placement) (s : RowSpread) → scan_spread p ≡ Some s
      → Placed n (run.scan id table columns types) (row_spread_view s)
  scan_placed id table columns types placement.Source s e = placed_at (run.scan id table columns types) Any s e scan_any
  scan_placed id table columns types p s e = absurd cc

  pub remote_placed : (id m width : ℕ) (r : RunPlan) (o : Output) (s : RowSpread) → FitsColumns o width → width_of (tree_of_run r) ≡ width → ReadAs m r
      → remote_spread o ≡ Some s → Placed n (run.remote id (output_view o) m r) (row_spread_view s)
  remote_placed id m width r (output.Hash columns) s fits is reads e =
      placed_at (run.remote id (run.hashed columns) m r) (By columns) s e
      (remote_by (subst (λ w. AllBelow w columns) (sym is) fits) reads.is_read reads.placed)
  remote_placed id m width r output.Broadcast s fits is reads e =
      placed_at (run.remote id run.broadcast m r) Every s e (remote_every reads.is_read reads.placed)
  remote_placed id m width r o s fits is reads e = absurd cc

  project_by_places : (id : ℕ) (forms : List Form) (r : RunPlan) (columns : List ℕ) (o : Option (List ℕ)) → first_places is_column forms columns ≡ o
      → Placed n r (runs.by columns) → Placed n (run.project id forms r) (row_spread_view (by_or_any o))
  project_by_places id forms r columns None e placed = project_any (any_from_by placed)
  project_by_places id forms r columns (Some places) e placed =
      let at = places_at is_column column (column 0) column_is forms columns places e in project_by (at.within, at.same) placed

  pub project_placed : (id : ℕ) (forms : List Form) (r : RunPlan) (input s : RowSpread) → project_spread forms input ≡ Some s → Placed n r (row_spread_view input)
      → Placed n (run.project id forms r) (row_spread_view s)
  project_placed id forms r (By columns) s e placed =
      let o = first_places is_column forms columns in
      placed_at (run.project id forms r) (by_or_any o) s e (project_by_places id forms r columns o refl placed)
  project_placed id forms r Any s e placed = placed_at (run.project id forms r) Any s e (project_any placed)
  project_placed id forms r Every s e placed = placed_at (run.project id forms r) Every s e (project_every placed)
  project_placed id forms r Whole s e placed = absurd cc

  module _ (id : ℕ) (kind : JoinKind) (on : List Pair) (l r : RunPlan) where
    join_by_pairs : (cs ds : List ℕ) → are_paired on cs ds ≡ true → Placed n l (runs.by cs) → Placed n r (runs.by ds)
        → Placed n (run.join id kind (map pair_view on) l r) (runs.by cs)
    join_by_pairs cs ds e left right =
        let p = paired on cs ds e in
        subst (λ columns. Placed n (run.join id kind (map pair_view on) l r) (runs.by columns)) p.left
        (join_by p.pairs p.among (subst (λ columns. Placed n l (runs.by columns)) (sym p.left) left)
        (subst (λ columns. Placed n r (runs.by columns)) (sym p.right) right))

    pub join_placed : (left right s : RowSpread) → join_spread on left right ≡ Some s → Placed n l (row_spread_view left) → Placed n r (row_spread_view right)
        → Placed n (run.join id kind (map pair_view on) l r) (row_spread_view s)
    join_placed left Every s e pl pr = placed_at (run.join id kind (map pair_view on) l r) left s e (join_right_every pl pr)
    join_placed (By cs) (By ds) s e pl pr =
        let h = if_some (are_paired on cs ds) (By cs) s e in
        placed_at (run.join id kind (map pair_view on) l r) (By cs) s (ap Some h.1) (join_by_pairs cs ds h.0 pl pr)
    join_placed left right s e pl pr = absurd cc

  pub as_any : (r : RunPlan) (s : RowSpread) → is_parted s ≡ true → Placed n r (row_spread_view s) → Placed n r runs.any
  as_any r Any e placed = placed
  as_any r (By columns) e placed = any_from_by placed
  as_any r s e placed = absurd cc

  aggregate_by_places : (id : ℕ) (keys : List ℕ) (calls : List Call) (r : RunPlan) (columns : List ℕ) (o : Option (List ℕ)) (s : RowSpread) → 0 < length keys
      → first_places is_key keys columns ≡ o → option_map By o ≡ Some s → Placed n r (runs.by columns)
      → Placed n (run.aggregate id keys calls r) (row_spread_view s)
  aggregate_by_places id keys calls r columns None s some e is placed = absurd cc
  aggregate_by_places id keys calls r columns (Some places) s some e is placed =
      let at = places_at is_key (λ c. c) 0 key_is keys columns places e in
      let same : at_places keys places ≡ columns = at.same ∙ map-id columns in
      placed_at (run.aggregate id keys calls r) (By places) s is
      (aggregate_by some at.within (subst (λ cs. Placed n r (runs.by cs)) (sym same) placed))

  pub aggregate_placed : (id : ℕ) (step : NodeStep) (keys : List ℕ) (calls : List Call) (r : RunPlan) (input s : RowSpread) → step ≡ Single
      → aggregate_spread step keys input ≡ Some s → Placed n r (row_spread_view input) → Placed n (run.aggregate id keys calls r) (row_spread_view s)
  aggregate_placed id Single (k ∷ ks) calls r (By columns) s h e placed =
      aggregate_by_places id (k ∷ ks) calls r columns (first_places is_key (k ∷ ks) columns) s (omega arith) refl e placed
  aggregate_placed id step keys calls r input s h e placed = absurd cc

  pub union_placed : (id : ℕ) (l r : RunPlan) (left right s : RowSpread) → union_spread left right ≡ Some s → Placed n l (row_spread_view left)
      → Placed n r (row_spread_view right) → Placed n (run.union id l r) (row_spread_view s)
  union_placed id l r Any Any s e pl pr = placed_at (run.union id l r) Any s e (union_any pl pr)
  union_placed id l r Any (By ds) s e pl pr = placed_at (run.union id l r) Any s e (union_any pl (any_from_by pr))
  union_placed id l r (By cs) Any s e pl pr = placed_at (run.union id l r) Any s e (union_any (any_from_by pl) pr)
  union_placed id l r (By cs) (By ds) s e pl pr = placed_at (run.union id l r) Any s e (union_any (any_from_by pl) (any_from_by pr))
  union_placed id l r Every Every s e pl pr = placed_at (run.union id l r) Every s e (union_every pl pr)
  union_placed id l r left right s e pl pr = absurd cc

-- what a FINAL node over a remote source with an output says of it
pub record FinalBy (o : Output) (keys : ℕ) (s : RowSpread) : Type 0 where
  pub columns : List ℕ
  pub is : output_view o ≡ run.hashed columns
  pub some : 0 < keys
  pub within : AllBelow keys columns
  pub same : By columns ≡ s

final_hash : (columns : List ℕ) (p : Placement) (keys : ℕ) (s : RowSpread) → final_spread p keys (By columns) ≡ Some s → FinalBy (output.Hash columns) keys s
final_hash columns placement.Hash keys s e =
    let h = if_some (are_keys keys columns) (By columns) s e in
    let k = keys_are keys columns h.0 in
    record { columns = columns; is = refl; some = k.0; within = k.1; same = h.1 }
final_hash columns p keys s e = absurd cc

not_every : (p : Placement) (keys : ℕ) (s : RowSpread) → final_spread p keys Every ≡ Some s → ⊥
not_every placement.Hash keys s e = cc
not_every p keys s e = cc

pub final_over : (o : Output) (p : Placement) (keys : ℕ) (input s : RowSpread) → remote_spread o ≡ Some input → final_spread p keys input ≡ Some s → FinalBy o keys s
final_over (output.Hash columns) p keys input s r e =
    let same : By columns ≡ input = cc r in final_hash columns p keys s (subst (λ i. final_spread p keys i ≡ Some s) (sym same) e)
final_over output.Broadcast p keys input s r e =
    let same : Every ≡ input = cc r in absurd (not_every p keys s (subst (λ i. final_spread p keys i ≡ Some s) (sym same) e))
final_over o p keys input s r e = absurd cc

-- a root whose rows are each in one task can be read
pub parted_read : (tasks : ℕ) (r : RunPlan) (s : RowSpread) → 0 < tasks → is_parted s ≡ true → Placed tasks r (row_spread_view s) → ReadAs tasks r
parted_read tasks r Any some e placed = record { spread = runs.any; is_read = some; placed = placed }
parted_read tasks r (By columns) some e placed = record { spread = runs.by columns; is_read = some; placed = placed }
parted_read tasks r s some e placed = absurd cc

pub partial_parted : (input s : RowSpread) → partial_spread input ≡ Some s → is_parted input ≡ true
partial_parted input s e = (if_some (is_parted input) Any s e).0

pub not_first : (step : NodeStep) (input s : RowSpread) → step ≡ Single → first_rows_spread step input ≡ Some s → ⊥
not_first Single input s h e = cc
not_first Partial input s h e = cc
