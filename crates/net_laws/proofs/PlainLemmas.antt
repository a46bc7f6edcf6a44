-- The pipes of a layout that fetch take from an edge and have no step: those of nodes never fetch.
use Rattle.std.proofs.Common.{◌≡◌, ℕ, ◌+◌, List, [], ◌∷◌, ◌++◌, Bool, true, false, length, refl, Some}
use Rattle.std.specs.Prelude.{slice_get, ◌==◌, if◌then◌else◌}
use Rattle.plan_docs.specs.declared.plan.Output.{Output}
use Rattle.plan_docs.specs.Nodes.{NodeForm}
use Rattle.plan_docs.specs.Nodes as node
use Rattle.plan_docs.specs.Plans.{FragmentForm, PlanForm}
use Rattle.plan_spreads.proofs.EachLemmas.{Each, each_at, each_join}
use Rattle.plan_layout.specs.declared.pipe.Parallelism.{Parallelism}
use Rattle.plan_layout.specs.Edges.{edge_numbers, reads_edge, fetches_of, reader_of, target_of}
use Rattle.plan_layout.specs.Layouts.{driver_numbers, fragment_pipes, laid, layout_of, site_of, with_fetches}
use Rattle.plan_layout.specs.Pipes.{PipeForm, TargetForm, readers, result, side}
use Rattle.plan_layout.specs.Sides.{Site, built_for, pipe_of, pipes_of, sides_of}
use Rattle.plan_layout.specs.Steps.{side_count}
use Rattle.plan_layout.proofs.PipeLemmas.{each_fetch, each_numbered}
use Rattle.net_laws.specs.Reached.{is_fetching}

abbrev IsPlain : PipeForm → Type 0
IsPlain pipe = is_fetching pipe.target ≡ true → (pipe.steps ≡ []) × (reads_edge pipe.source ≡ true)

stays : (s : Site) (next : ℕ) (target : TargetForm) (n : NodeForm) → is_fetching target ≡ false → IsPlain (pipe_of s next target n)
stays s next target n none fetches = absurd cc

plain_sides : (s : Site) (own next : ℕ) (n : NodeForm) → Each IsPlain (sides_of s own next n)
plain_sides s own next (node.scan id place columns types) = tt
plain_sides s own next (node.values id types list) = tt
plain_sides s own next (node.remote id number) = tt
plain_sides s own next (node.step id operator input) = plain_sides s own next input
plain_sides s own next (node.join id kind on filters left right) =
    let at = next + side_count left in
    each_join IsPlain (sides_of s own next left) (pipes_of s at (built_for id on filters) right) (plain_sides s own next left)
    (stays s (at + 1) (built_for id on filters) right refl, plain_sides s at (at + 1) right)
plain_sides s own next (node.union id left right) =
    let at = next + 1 + side_count left in
    each_join IsPlain (pipes_of s next (side own) left) (pipes_of s at (side own) right)
    (stays s (next + 1) (side own) left refl, plain_sides s next (next + 1) left)
    (stays s (at + 1) (side own) right refl, plain_sides s at (at + 1) right)

plain_block : (s : Site) (done : List PipeForm) (target : TargetForm) (root : NodeForm) → is_fetching target ≡ false → Each IsPlain (fragment_pipes s done target root)
plain_block s done target root none =
    let at = length done in
    let own = pipes_of s at target root in
    let all = with_fetches done own in
    let mine : Each IsPlain own = (stays s (at + 1) target root none, plain_sides s at (at + 1) root) in
    each_numbered IsPlain (λ pipe numbers h. h) (driver_numbers done all) all
    (each_join IsPlain own (fetches_of (edge_numbers done own) at own) mine
    (each_fetch IsPlain IsPlain (λ pipe place numbers h fetches. (refl, refl)) (edge_numbers done own) at own mine))

root_stays : (first : Bool) (output : Output) (at : ℕ) → is_fetching (if first then result else readers output at) ≡ false
root_stays true output at = refl
root_stays false output at = refl

all_plain : (p : Parallelism) (fragments : List FragmentForm) (fs : List FragmentForm) (number : ℕ) (done : List PipeForm) → Each IsPlain done → Each IsPlain (laid p fragments number done fs)
all_plain p fragments [] number done each = each
all_plain p fragments (f ∷ fs) number done each =
    let s = site_of p fragments number f in
    let target = target_of number f.output done in
    all_plain p fragments fs (number + 1) (done ++ fragment_pipes s done target f.root)
    (each_join IsPlain done (fragment_pipes s done target f.root) each (plain_block s done target f.root (root_stays (number == 0) f.output (reader_of number done))))

pub plan_plain : (p : Parallelism) (plan : PlanForm) (at : ℕ) (pipe : PipeForm) → slice_get (layout_of p plan) at ≡ Some pipe → is_fetching pipe.target ≡ true → (pipe.steps ≡ []) × (reads_edge pipe.source ≡ true)
plan_plain p plan at pipe is = each_at IsPlain (layout_of p plan) at pipe is (all_plain p plan.fragments plan.fragments 0 [] tt)
