-- Where the halves of operators meet, each source reads a fragment after its own.
use Rattle.std.proofs.Common.{ℕ, ◌+◌, ◌-◌, List, [], ◌∷◌, length, Option, Some, None, refl, subst, arith}
use Rattle.std.proofs.lemmas.Option.{slice_get_within}
use Rattle.plan_docs.specs.Nodes.{NodeForm, scan, values, remote, filter, project, join, aggregate, aggregate_final, sort, top_n, top_n_final, limit, limit_final, union}
use Rattle.plan_docs.specs.Plans.{FragmentForm}
use Rattle.plan_spreads.specs.Halves.{AllMeet, Halved, HalvesMeet, Meets, RootMeets, aggregates, top_ns, limits}
use Rattle.plan_spreads.specs.Reading.{AllReadOn, EachSource, IsAmong}
use Rattle.plan_spreads.specs.Sources.{fragment_read}
use Rattle.plan_spreads.proofs.PlanLemmas.{all_meet}
use Rattle.plan_spreads.proofs.ReadParts.{Over, Reads, has_read, over_half}

module _ (first : ℕ) (later : List FragmentForm) where
  abbrev Among : ℕ → Type 0
  Among = IsAmong first (length later)

  among : (operator : Option Halved) (fragment : ℕ) → Reads first later operator fragment → Among fragment
  among operator fragment r =
      let within = slice_get_within later (fragment - first) r.f r.at in
      (r.after, omega (arith, r.after, within))

  over_among : (operator : Halved) (input : NodeForm) → Over first later operator input → EachSource Among input
  over_among operator input o = subst (EachSource Among) o.is (among (Some operator) o.fragment o.reads)

  node_reads : (node : NodeForm) → Meets first later node → EachSource Among node
  node_reads (scan id table columns types) m = tt
  node_reads (values id types rows) m = tt
  node_reads (remote id fragment) m = among None fragment (has_read first later None fragment (fragment_read first later fragment) refl m)
  node_reads (filter id predicate input) m = node_reads input m
  node_reads (project id columns input) m = node_reads input m
  node_reads (join id kind on filters left right) m = (node_reads left m.0, node_reads right m.1)
  node_reads (aggregate id step keys calls input) m = node_reads input m.1
  node_reads (aggregate_final id input) m = over_among aggregates input (over_half first later aggregates input m)
  node_reads (sort id keys input) m = node_reads input m
  node_reads (top_n id step count keys input) m = node_reads input m.1
  node_reads (top_n_final id input) m = over_among top_ns input (over_half first later top_ns input m)
  node_reads (limit id step count input) m = node_reads input m.1
  node_reads (limit_final id input) m = over_among limits input (over_half first later limits input m)
  node_reads (union id left right) m = (node_reads left m.0, node_reads right m.1)

  root_reads : (node : NodeForm) → RootMeets first later node → EachSource Among node
  root_reads (aggregate id step keys calls input) m = node_reads input m
  root_reads (top_n id step count keys input) m = node_reads input m
  root_reads (limit id step count input) m = node_reads input m
  root_reads node m = node_reads node m

all_read : (i : ℕ) (fs : List FragmentForm) → AllMeet i fs → AllReadOn i fs
all_read i [] m = tt
all_read i (f ∷ fs) m = (root_reads (i + 1) fs f.root m.0, all_read (i + 1) fs m.1)

pub halves_read : (fs : List FragmentForm) → HalvesMeet fs → AllReadOn 0 fs
halves_read fs m = all_read 0 fs (all_meet fs m)
