-- What bytes are as a plan document, as far as its own places say: JSON at no place of which a
-- check fails, or the first failing check with its place. The checks go by codes, and each goes
-- through the document in the order of the walk.
use Rattle.std.specs.Prelude.{◌≡◌, ◌⊎◌, ℕ, List, [], Option, Some, None, option_map}
use Rattle.std.specs.List.{find}
use Rattle.std.specs.Option.{option_or}
use Rattle.std.specs.Str.{IsUtf8}
use Rattle.serde_json.specs.Data.{Data}
use Rattle.serde_json.specs.Read.{read as read_text}
use Rattle.json_paths.specs.Places.{pointer_text}
use Rattle.plan_grammar.specs.Spots.{Spot, places_of}
use Rattle.plan_checks.specs.declared.fault.PlanFault.{PlanFault}
use Rattle.plan_checks.specs.declared.fault.PlanFault.TheVariants.{Refused, Memory}
use Rattle.plan_checks.specs.Fragments.{first_unlinked}
use Rattle.plan_checks.specs.Halves.{first_alone}
use Rattle.plan_checks.specs.Limits.{first_beyond}
use Rattle.plan_checks.specs.Names.{first_misnamed}
use Rattle.plan_checks.specs.Shapes.{fault_path, is_misshapen}

-- the code of a check that fails at a place, and the place
abbrev pub at : ℕ → Option Spot → Option (ℕ × Spot)
at code place = option_map (λ s. (code, s)) place

-- a value out of its form, beyond its limit, or with a name that it may not have
abbrev pub first_malformed : Data → List Spot → Option (ℕ × Spot)
first_malformed document all =
    option_or (at 2 (find is_misshapen all))
    (option_or (at 3 (first_beyond all))
    (at 4 (first_misnamed document [] all)))

-- a fragment or a half of an operator that does not go together with the others
abbrev pub first_unjoined : Data → List Spot → Option (ℕ × Spot)
first_unjoined document all = option_or (at 6 (first_unlinked document all)) (at 7 (first_alone document all))

-- the first failing check over the places of a document
abbrev pub first_refused : Data → List Spot → Option (ℕ × Spot)
first_refused document all = option_or (first_malformed document all) (first_unjoined document all)

-- the code and the pointer of a refusal
abbrev pub refusal : ℕ × Spot → ℕ × List ℕ
refusal r = (r.0, pointer_text (fault_path r.1))

-- why a document is refused, if it is
abbrev pub refusal_of : Data → Option (ℕ × List ℕ)
refusal_of document = option_map refusal (first_refused document (places_of document))

-- the bytes are JSON, and the document is the value that they write
pub record IsJson (bytes : List ℕ) (document : Data) : Type 0 where
  pub text : IsUtf8 bytes
  pub value : read_text bytes ≡ Some document

-- the bytes are a document at no place of which a check fails
pub record IsDocument (bytes : List ℕ) (document : Data) : Type 0 where
  pub json : IsJson bytes document
  pub passes : refusal_of document ≡ None

-- code 1: the bytes are no JSON
pub record IsNotJson (bytes : List ℕ) (code : ℕ) (path : List ℕ) : Type 0 where
  pub is_one : code ≡ 1
  pub no_place : path ≡ []
  pub no_document : (d : Data) → ¬ IsJson bytes d

-- the bytes are a document, and the first check that fails has the code and the path
pub record IsRefused (bytes : List ℕ) (code : ℕ) (path : List ℕ) : Type 0 where
  pub document : Data
  pub json : IsJson bytes document
  pub refused : refusal_of document ≡ Some (code, path)

-- a document's own refusal, or want of memory
abbrev pub RefusedAs : Option (ℕ × List ℕ) → PlanFault → Type 0
RefusedAs refusal (Refused code path) = refusal ≡ Some (code, path)
RefusedAs refusal Memory = Unit {0}

-- why bytes are no plan document
abbrev pub RefusedFor : List ℕ → PlanFault → Type 0
RefusedFor bytes (Refused code path) = IsNotJson bytes code path ⊎ IsRefused bytes code path
RefusedFor bytes Memory = Unit {0}

-- why bytes are no JSON
abbrev pub NotJsonFor : List ℕ → PlanFault → Type 0
NotJsonFor bytes (Refused code path) = IsNotJson bytes code path
NotJsonFor bytes Memory = Unit {0}
