-- The places of a document, in the order of the walk.
use Rattle.std.specs.Prelude.{ℕ, ◌+◌, List, [], ◌∷◌, ◌++◌, Option, Some, None, option_map, unwrap_or, if◌then◌else◌}
use Rattle.std.specs.Ordering.{nat_cmp, match_ordering}
use Rattle.std.specs.Cmp.Lexicographic.{slice_cmp}
use Rattle.std.specs.List.{flat_map}
use Rattle.serde_json.specs.Data.{Data, null, boolean, number, string, array, object, Items, no_items, item, Members, no_members, member}
use Rattle.serde_json.specs.Find.{as_array}
use Rattle.serde_json.specs.View.{view}
use Rattle.json_paths.specs.declared.step.Step.{Step}
use Rattle.json_paths.specs.declared.step.Step.TheVariants as step
use Rattle.json_paths.specs.Places.{key_text}
use Rattle.plan_grammar.specs.declared.kind.Kind.{Kind}
use Rattle.plan_grammar.specs.declared.kind.Kind.TheVariants as kind
use Rattle.plan_grammar.specs.declared.place.Place.{Place}
use Rattle.plan_grammar.specs.declared.tables.Part.{Part}
use Rattle.plan_grammar.specs.Json.{under}
use Rattle.plan_grammar.specs.Grammar.{element_of, has_entries, depth_of, parts_of}

-- a place: the path to it, the nearest object around it, what the grammar asks for there, how many
-- nodes or forms stand above one another, and the value
pub record Spot : Type 0 where
  pub path : List Step
  pub owner : Data
  pub kind : Kind
  pub level : ℕ
  pub value : Data

abbrev pub spot : Data → List Step → Data → Kind → ℕ → Spot
spot value path owner kind level = record { path = path; owner = owner; kind = kind; level = level; value = value }

abbrev mutual
  -- a value, and then what stands inside
  pub spots : Data → List Step → Data → Kind → ℕ → List Spot
  spots null path owner kind level = spot null path owner kind level ∷ []
  spots (boolean b) path owner kind level = spot (boolean b) path owner kind level ∷ []
  spots (number n) path owner kind level = spot (number n) path owner kind level ∷ []
  spots (string s) path owner kind level = spot (string s) path owner kind level ∷ []
  spots (array ds) path owner kind level =
      spot (array ds) path owner kind level ∷ (if has_entries kind then item_spots ds path owner kind level 0 else [])
  spots (object ms) path owner kind level =
      spot (object ms) path owner kind level
      ∷ flat_map (λ part. member_spots ms (key_text part.key) (path ++ step.Key part.key ∷ []) (object ms) part.kind (depth_of part.kind level))
      (parts_of kind (object ms))

  -- the entries of a list from index i on
  pub item_spots : Items → List Step → Data → Kind → ℕ → ℕ → List Spot
  item_spots no_items path owner kind level i = []
  item_spots (item d ds) path owner kind level i =
      spots d (path ++ step.Index i ∷ []) owner (element_of kind i) (depth_of (element_of kind i) level)
      ++ item_spots ds path owner kind level (i + 1)

  -- the member of that name
  pub member_spots : Members → List ℕ → List Step → Data → Kind → ℕ → List Spot
  member_spots no_members name path owner kind level = []
  member_spots (member l d ms) name path owner kind level =
      match_ordering (slice_cmp nat_cmp name l) (member_spots ms name path owner kind level) (spots d path owner kind level)
      (member_spots ms name path owner kind level)

-- the places of a document
abbrev pub places_of : Data → List Spot
places_of d = spots d [] d kind.Document 0

abbrev pub spot_of : Place → Spot
spot_of p = spot (view p.value.now) p.path.items (view p.owner.now) p.kind p.level

abbrev pub spots_at : Spot → List Spot
spots_at s = spots s.value s.path s.owner s.kind s.level

-- the places of what stands under a key of the object at a place
abbrev pub part_spots : Spot → Part → List Spot
part_spots s part =
    unwrap_or (option_map (λ d. spots d (s.path ++ step.Key part.key ∷ []) s.value part.kind (depth_of part.kind s.level))
    (under part.key s.value)) []

abbrev pub inner_of : Option Items → Spot → List Spot
inner_of None s = flat_map (part_spots s) (parts_of s.kind s.value)
inner_of (Some ds) s = if has_entries s.kind then item_spots ds s.path s.owner s.kind s.level 0 else []

-- the places inside a place
abbrev pub inner_spots : Spot → List Spot
inner_spots s = inner_of (as_array s.value) s
