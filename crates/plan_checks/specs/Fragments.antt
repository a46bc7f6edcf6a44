-- Code 6: a fragment stands at another place than its id says, or is not read exactly once, by a
-- fragment before it.
use Rattle.std.specs.Prelude.{ℕ, List, [], ◌∷◌, ◌++◌, length, Bool, true, false, not, ◌&&◌, ◌||◌, ◌==◌, nat_le, if◌then◌else◌, Option, Some, None}
use Rattle.std.specs.Option.{option_or}
use Rattle.std.specs.List.{find, list_any}
use Rattle.serde_json.specs.Data.{Data}
use Rattle.json_paths.specs.declared.key.Key.TheVariants as key
use Rattle.json_paths.specs.declared.step.Step.{Step}
use Rattle.plan_grammar.specs.declared.kind.Kind.{Kind}
use Rattle.plan_grammar.specs.declared.kind.Kind.TheVariants as kind
use Rattle.plan_grammar.specs.Json.{entries_under, number_of}
use Rattle.plan_grammar.specs.Spots.{Spot}
use Rattle.plan_checks.specs.Names.{part_index}

abbrev pub is_source_kind : Kind → Bool
is_source_kind kind.FragmentNumber = true
is_source_kind k = false

-- the place is that of a remote source, at the number of the fragment
abbrev pub reads : ℕ → Spot → Bool
reads fragment s = is_source_kind s.kind && (number_of s.value == fragment)

abbrev pub fragments_count : Data → ℕ
fragments_count document = length (entries_under key.Fragments document)

-- a source reads a fragment that comes after its own, that there is, and that no source before reads
abbrev pub reads_amiss : ℕ → ℕ → ℕ → List Spot → Bool
reads_amiss fragments own fragment before =
    nat_le fragment own || nat_le fragments fragment || list_any (reads fragment) before

abbrev pub links_amiss : Kind → Data → List Spot → List Step → Data → Bool
links_amiss kind.FragmentId document before path value = not (number_of value == part_index path)
links_amiss kind.FragmentNumber document before path value =
    reads_amiss (fragments_count document) (part_index path) (number_of value) before
links_amiss k document before path value = false

abbrev pub is_mislinked : Data → List Spot → Spot → Bool
is_mislinked document before s = links_amiss s.kind document before s.path s.value

abbrev pub first_mislinked : Data → List Spot → List Spot → Option Spot
first_mislinked document before [] = None
first_mislinked document before (s ∷ rest) =
    if is_mislinked document before s then Some s else first_mislinked document (before ++ s ∷ []) rest

-- each fragment but the first
abbrev pub is_further_kind : Kind → Bool
is_further_kind kind.Fragment = true
is_further_kind k = false

abbrev pub is_further : Spot → Bool
is_further s = is_further_kind s.kind

-- a fragment but the first that no source reads
abbrev pub is_unread : List Spot → Spot → Bool
is_unread all s = is_further s && not (list_any (reads (part_index s.path)) all)

-- the first id or source that is amiss, and after all of them the first fragment that is not read
abbrev pub first_unlinked : Data → List Spot → Option Spot
first_unlinked document all = option_or (first_mislinked document [] all) (find (is_unread all) all)
