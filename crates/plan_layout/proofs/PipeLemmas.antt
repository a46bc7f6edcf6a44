-- What holds of each pipe of a fragment.
use Rattle.std.proofs.Common.{ℕ, ◌+◌, List, [], ◌∷◌, length, Bool, true, false}
use Rattle.std.specs.Prelude.{if◌then◌else◌}
use Rattle.plan_docs.specs.Nodes.{NodeForm}
use Rattle.plan_docs.specs.Nodes as node
use Rattle.plan_layout.specs.declared.pipe.Series.{Series}
use Rattle.plan_layout.specs.Edges.{after, edge_numbers, fetch_of, fetches_of, reads_fragment}
use Rattle.plan_layout.specs.Layouts.{driver_numbers, fragment_pipes, numbered, with_fetches}
use Rattle.plan_layout.specs.Pipes.{PipeForm, TargetForm, side}
use Rattle.plan_layout.specs.Sides.{Site, built_for, pipe_of, pipes_of, sides_of}
use Rattle.plan_layout.specs.Steps.{side_count}
use Rattle.plan_spreads.proofs.EachLemmas.{Each, each_join}

module _ (P : PipeForm → Type 0) where
  module _ (s : Site) (one : (next : ℕ) (target : TargetForm) (n : NodeForm) → P (pipe_of s next target n)) where
    each_side : (own next : ℕ) (n : NodeForm) → Each P (sides_of s own next n)
    each_side own next (node.scan id place columns types) = tt
    each_side own next (node.values id types list) = tt
    each_side own next (node.remote id number) = tt
    each_side own next (node.step id operator input) = each_side own next input
    each_side own next (node.join id kind on filters left right) =
        let at = next + side_count left in
        each_join P (sides_of s own next left) (pipes_of s at (built_for id on filters) right) (each_side own next left) (one (at + 1) (built_for id on filters) right, each_side at (at + 1) right)
    each_side own next (node.union id left right) =
        let at = next + 1 + side_count left in
        each_join P (pipes_of s next (side own) left) (pipes_of s at (side own) right) (one (next + 1) (side own) left, each_side next (next + 1) left)
        (one (at + 1) (side own) right, each_side at (at + 1) right)

    pub each_pipe : (at : ℕ) (target : TargetForm) (n : NodeForm) → Each P (pipes_of s at target n)
    each_pipe at target n = (one (at + 1) target n, each_side at (at + 1) n)

  each_if : (b : Bool) (first : PipeForm) (more none : List PipeForm) → P first → Each P more → Each P none → Each P (if b then first ∷ more else none)
  each_if true first more none h f g = (h, f)
  each_if false first more none h f g = g

  module _ (Q : PipeForm → Type 0) (one : (pipe : PipeForm) (at : ℕ) (numbers : Series) → Q pipe → P (fetch_of pipe at numbers)) where
    pub each_fetch : (numbers : Series) (at : ℕ) (own : List PipeForm) → Each Q own → Each P (fetches_of numbers at own)
    each_fetch numbers at [] each = tt
    each_fetch numbers at (pipe ∷ own) each =
        each_if (reads_fragment pipe.source) (fetch_of pipe at numbers) (fetches_of (after 1 numbers) (at + 1) own) (fetches_of numbers (at + 1) own)
        (one pipe at numbers each.0) (each_fetch (after 1 numbers) (at + 1) own each.1) (each_fetch numbers (at + 1) own each.1)

  pub each_numbered : ((pipe : PipeForm) (numbers : Series) → P pipe → P (record pipe { numbers = numbers })) → (numbers : Series) (pipes : List PipeForm) → Each P pipes
      → Each P (numbered numbers pipes)
  each_numbered keeps numbers [] each = tt
  each_numbered keeps numbers (pipe ∷ pipes) each = (keeps pipe numbers each.0, each_numbered keeps (after pipe.drivers numbers) pipes each.1)

  -- of all pipes of a fragment
  pub each_block : (s : Site) → ((next : ℕ) (target : TargetForm) (n : NodeForm) → P (pipe_of s next target n))
      → ((pipe : PipeForm) (at : ℕ) (numbers : Series) → P pipe → P (fetch_of pipe at numbers)) → ((pipe : PipeForm) (numbers : Series) → P pipe → P (record pipe { numbers = numbers }))
      → (done : List PipeForm) (target : TargetForm) (root : NodeForm) → Each P (fragment_pipes s done target root)
  each_block s one fetched keeps done target root =
      let own = pipes_of s (length done) target root in
      let all = with_fetches done own in
      let mine = each_pipe s one (length done) target root in
      each_numbered keeps (driver_numbers done all) all
      (each_join P own (fetches_of (edge_numbers done own) (length done) own) mine (each_fetch P fetched (edge_numbers done own) (length done) own mine))
