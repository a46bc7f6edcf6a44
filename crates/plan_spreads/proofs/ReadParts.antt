-- What is known of the fragments that a fragment reads, as they run.
use Rattle.std.proofs.Common.{◌≡◌, ℕ, ◌+◌, ◌-◌, ◌≤◌, zero, suc, List, [], ◌∷◌, length, Bool, true, false, Option, Some, None, refl, subst}
use Rattle.std.specs.Prelude.{if◌then◌else◌, nat_le, slice_get, unwrap_or}
use Rattle.std.proofs.lemmas.Bool.{leb-true}
use Rattle.sql_values.specs.declared.relational.Call.{Call}
use Rattle.sql_values.specs.declared.order.KeySpec.{KeySpec}
use Rattle.plan_trees.specs.Allowed.{width_of}
use Rattle.plan_docs.specs.Nodes.{NodeForm, remote}
use Rattle.plan_docs.specs.Plans.{FragmentForm}
use Rattle.plan_types.specs.declared.row_types.RowTypes.{RowTypes}
use Rattle.plan_types.specs.RowTypes.{plain, whole_of}
use Rattle.plan_run_laws.specs.RunPlans.{RunPlan, tree_of_run}
use Rattle.plan_run_laws.specs.RunPlans as run
use Rattle.plan_spreads.specs.Halves.{Halved, aggregates, top_ns, limits, HasHalf, ReadsHalf, half}
use Rattle.plan_spreads.specs.Runs.{Part, no_part, output_view}
use Rattle.plan_spreads.specs.Sources.{fragment_read, half_keys}
use Rattle.plan_spreads.proofs.OperatorLemmas.{FitsColumns, ReadAs}

-- the root is the half of an aggregate of so many keys, over a plan that can be read
pub record Grouped (keys : ℕ) (types : RowTypes) (part : Part) : Type 0 where
  pub id : ℕ
  pub by_keys : List ℕ
  pub calls : List Call
  pub below : RunPlan
  pub is : part.root ≡ run.aggregate id by_keys calls below
  pub reads : ReadAs part.tasks below
  pub count : keys ≡ length by_keys
  pub width : length by_keys + length calls ≡ length (whole_of types)

-- the half of a top n
pub record Topped (types : RowTypes) (part : Part) : Type 0 where
  pub id : ℕ
  pub count : ℕ
  pub keys : List KeySpec
  pub below : RunPlan
  pub is : part.root ≡ run.topn id count keys below
  pub reads : ReadAs part.tasks below
  pub width : width_of (tree_of_run below) ≡ length types.columns

-- the half of a limit
pub record Limited (types : RowTypes) (part : Part) : Type 0 where
  pub id : ℕ
  pub count : ℕ
  pub below : RunPlan
  pub is : part.root ≡ run.limit id count below
  pub reads : ReadAs part.tasks below
  pub width : width_of (tree_of_run below) ≡ length types.columns

abbrev pub Rooted : Option Halved → ℕ → RowTypes → Part → Type 0
Rooted None keys types part = ReadAs part.tasks part.root × (width_of (tree_of_run part.root) ≡ length types.columns)
Rooted (Some aggregates) keys types part = Grouped keys types part
Rooted (Some top_ns) keys types part = Topped types part
Rooted (Some limits) keys types part = Limited types part

-- the part of a fragment whose rows have these types
pub record Stands (f : FragmentForm) (types : RowTypes) (part : Part) : Type 0 where
  pub output : part.output ≡ output_view f.output
  pub fits : FitsColumns f.output (length types.columns)
  pub root : Rooted (half f.root) (half_keys f.root) types part

abbrev pub AllStand : List FragmentForm → List RowTypes → List Part → Type 0
AllStand later types parts =
    (k : ℕ) (f : FragmentForm) → slice_get later k ≡ Some f
    → Stands f (unwrap_or (slice_get types k) (plain [])) (unwrap_or (slice_get parts k) no_part)

pub one_more : (f : FragmentForm) (fs : List FragmentForm) (t : RowTypes) (ts : List RowTypes) (p : Part) (ps : List Part) → Stands f t p → AllStand fs ts ps
    → AllStand (f ∷ fs) (t ∷ ts) (p ∷ ps)
one_more f fs t ts p ps first rest zero g e = let same : f ≡ g = cc e in subst (λ x. Stands x t p) same first
one_more f fs t ts p ps first rest (suc k) g e = rest k g e

-- where a source reads one of the later fragments
there_by : (b : Bool) (o : Option FragmentForm) (f : FragmentForm) → (if b then o else None) ≡ Some f → (b ≡ true) × (o ≡ Some f)
there_by true o f e = (refl, e)
there_by false o f e = absurd cc

module _ (first : ℕ) (later : List FragmentForm) where
  -- the fragment that a source reads, and what its root is a half of
  pub record Reads (operator : Option Halved) (fragment : ℕ) : Type 0 where
    pub f : FragmentForm
    pub read : fragment_read first later fragment ≡ Some f
    pub after : first ≤ fragment
    pub at : slice_get later (fragment - first) ≡ Some f
    pub is : half f.root ≡ operator

  pub has_read : (operator : Option Halved) (fragment : ℕ) (o : Option FragmentForm) → fragment_read first later fragment ≡ o → HasHalf operator o
      → Reads operator fragment
  has_read operator fragment None e h = absurd h
  has_read operator fragment (Some f) e h =
      let there = there_by (nat_le first fragment) (slice_get later (fragment - first)) f e in
      record { f = f; read = e; after = leb-true first fragment there.0; at = there.1; is = h }

  -- the source that a FINAL node is over
  pub record Over (operator : Halved) (input : NodeForm) : Type 0 where
    pub source : ℕ
    pub fragment : ℕ
    pub is : remote source fragment ≡ input
    pub reads : Reads (Some operator) fragment

  pub over_half : (operator : Halved) (input : NodeForm) → ReadsHalf operator first later input → Over operator input
  over_half operator (remote source fragment) h = record {
    source = source;
    fragment = fragment;
    is = refl;
    reads = has_read (Some operator) fragment (fragment_read first later fragment) refl h;
  }
  over_half operator input h = absurd h
