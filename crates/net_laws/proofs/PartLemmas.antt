-- The parts of a run from a place on, where each source reads a later one.
use Rattle.std.proofs.Common.{◌≡◌, ℕ, ◌+◌, ◌-◌, ◌<◌, ◌≤◌, suc, List, [], ◌∷◌, length, Bool, ap, arith}
use Rattle.std.specs.Prelude.{slice_get, unwrap_or, if◌then◌else◌}
use Rattle.std.proofs.lemmas.Bool.{ne_eqb}
use Rattle.plan_docs.specs.Nodes.{NodeForm, scan, values, remote, step, join, union}
use Rattle.plan_docs.specs.Plans.{FragmentForm}
use Rattle.plan_spreads.specs.Reading.{AllReadOn, EachSource, IsAmong, reads_in, reads_of}
use Rattle.plan_spreads.specs.Runs.{Part, no_part, part_read}

pub part_here : (i k : ℕ) (p : Part) (ps : List Part) → k ≡ i → part_read i (p ∷ ps) k ≡ p
part_here i k p ps same = let none : k - i ≡ 0 = omega (arith, same) in ap (λ (n : ℕ). unwrap_or (slice_get (p ∷ ps) n) no_part) none

pub part_later : (i k : ℕ) (p : Part) (ps : List Part) → i + 1 ≤ k → part_read i (p ∷ ps) k ≡ part_read (i + 1) ps k
part_later i k p ps later = let next : k - i ≡ suc (k - (i + 1)) = omega (arith, later) in ap (λ (n : ℕ). unwrap_or (slice_get (p ∷ ps) n) no_part) next

-- nothing reads a fragment before those that it may read
node_reads_none : (k first many : ℕ) (node : NodeForm) → k < first → EachSource (IsAmong first many) node → reads_of k node ≡ 0
node_reads_none k first many (scan id table columns types) low each = omega arith
node_reads_none k first many (values id types rows) low each = omega arith
node_reads_none k first many (remote id fragment) low each =
    let other : fragment ≡ k → ⊥ = λ same. omega (arith, same, low, each.0) in
    ap (λ (b : Bool). if b then 1 else 0) (ne_eqb fragment k other)
node_reads_none k first many (step id operator input) low each = node_reads_none k first many input low each
node_reads_none k first many (join id kind on filters left right) low each =
    omega (arith, node_reads_none k first many left low each.0, node_reads_none k first many right low each.1)
node_reads_none k first many (union id left right) low each =
    omega (arith, node_reads_none k first many left low each.0, node_reads_none k first many right low each.1)

pub reads_none : (k i : ℕ) (fs : List FragmentForm) → k ≤ i → AllReadOn i fs → reads_in k fs ≡ 0
reads_none k i [] low on = omega arith
reads_none k i (f ∷ fs) low on =
    omega (arith, node_reads_none k (i + 1) (length fs) f.root (omega (arith, low)) on.0, reads_none k (i + 1) fs (omega (arith, low)) on.1)
