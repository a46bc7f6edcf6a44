-- Code 7: a FINAL and a PARTIAL node are two halves of one operator, and the FINAL one reads the
-- fragment of which the PARTIAL one is the root.
use Rattle.std.specs.Prelude.{ℕ, List, length, slice_get, Bool, true, false, not, ◌&&◌, ◌==◌, Option, Some, None, option_and_then}
use Rattle.std.specs.List.{find, list_any}
use Rattle.serde_json.specs.Data.{Data}
use Rattle.json_paths.specs.declared.key.Key.TheVariants as key
use Rattle.json_paths.specs.declared.step.Step.{Step}
use Rattle.plan_grammar.specs.declared.kind.Kind.{Kind}
use Rattle.plan_grammar.specs.declared.kind.Kind.TheVariants as kind
use Rattle.plan_grammar.specs.declared.words.OpWord.{OpWord}
use Rattle.plan_grammar.specs.declared.words.OpWord.TheVariants as op
use Rattle.plan_grammar.specs.declared.words.StepWord.{StepWord}
use Rattle.plan_grammar.specs.declared.words.StepWord.TheVariants as step
use Rattle.plan_grammar.specs.Json.{entries_under, number_under, same_text, text_of, text_under, under}
use Rattle.plan_grammar.specs.Spots.{Spot}
use Rattle.plan_grammar.specs.Words.{op_of, step_named, step_of}
use Rattle.plan_checks.specs.Names.{part_index}

abbrev pub is_remote : OpWord → Bool
is_remote op.Remote = true
is_remote word = false

abbrev pub is_partial : StepWord → Bool
is_partial step.Partial = true
is_partial word = false

abbrev pub is_final : StepWord → Bool
is_final step.Final = true
is_final word = false

-- the root of a fragment
abbrev pub root_of : ℕ → Data → Option Data
root_of fragment document = option_and_then (under key.Root) (slice_get (entries_under key.Fragments document) fragment)

-- a PARTIAL node of the same op
abbrev pub is_half : Data → Option Data → Bool
is_half node None = false
is_half node (Some root) = same_text (text_under key.Op root) (text_under key.Op node) && is_partial (step_of root)

abbrev pub reads_half : Data → Data → Option Data → Bool
reads_half document node None = false
reads_half document node (Some input) = is_remote (op_of input) && is_half node (root_of (number_under key.Fragment input) document)

-- the node's input is a remote source, and the root that it reads is the other half
abbrev pub is_joined : Data → Data → Bool
is_joined document node = reads_half document node (under key.Input node)

abbrev pub input_reads : ℕ → Option Data → Bool
input_reads fragment None = false
input_reads fragment (Some input) = number_under key.Fragment input == fragment

abbrev pub is_step_kind : Kind → Bool
is_step_kind kind.Step = true
is_step_kind k = false

-- the place is the step of a FINAL node that reads its other half in that fragment
abbrev pub joins : ℕ → Data → Spot → Bool
joins fragment document s =
    is_step_kind s.kind && is_final (step_named (text_of s.value)) && is_joined document s.owner
    && input_reads fragment (under key.Input s.owner)

-- the path to the step of the root of a fragment, which is not the first
abbrev pub is_root_path : List Step → Bool
is_root_path path = (length path == 4) && not (part_index path == 0)

abbrev pub is_half_alone : StepWord → Data → List Spot → List Step → Data → Bool
is_half_alone step.Final document all path node = not (is_joined document node)
is_half_alone step.Partial document all path node = not (is_root_path path && list_any (joins (part_index path) document) all)
is_half_alone word document all path node = false

abbrev pub is_alone : Data → List Spot → Spot → Bool
is_alone document all s = is_step_kind s.kind && is_half_alone (step_named (text_of s.value)) document all s.path s.owner

-- the first step of a node without its other half
abbrev pub first_alone : Data → List Spot → Option Spot
first_alone document all = find (is_alone document all) all
