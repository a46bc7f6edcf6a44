-- Items put together by their keys.
use Rattle.std.specs.Prelude.{List, map, filter, Bool}
use Rattle.relation_laws.specs.Groups.{distinct}

-- for each key that occurs, in the order of first places: what is made of it and of its items
abbrev pub grouped : {X K Y : Type 0} → (K → K → Bool) → (X → K) → (K → List X → Y) → List X → List Y
grouped same key result items = map (λ k. result k (filter (λ x. same k (key x)) items)) (distinct same (map key items))
