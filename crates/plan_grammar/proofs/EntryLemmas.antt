-- The entries of a list of JSON.
use Rattle.std.proofs.Common.{◌≡◌, List, [], ◌∷◌, refl, ap}
use Rattle.serde_json.proofs.Views.{items_len-items_view, members_len-members_view}
use Rattle.serde_json.specs.Data.{Data}
use Rattle.serde_json.specs.View.{items_of}
use Rattle.plan_grammar.specs.Json.{entries_of}

pub entries_of-items_of : (ds : List Data) → entries_of (items_of ds) ≡ ds
entries_of-items_of [] = refl
entries_of-items_of (d ∷ ds) = ap (λ es. d ∷ es) (entries_of-items_of ds)

pub ruleset seen = (items_len-items_view, members_len-members_view, entries_of-items_of)
