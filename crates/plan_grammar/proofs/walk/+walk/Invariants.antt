use Rattle.std.proofs.Common.{◌≡◌, ◌+◌, ◌++◌, ◌*◌, drop, map}
use Rattle.std.specs.List.{flat_map}
use Rattle.serde_json.specs.Data.{depth, items_depth}
use Rattle.serde_json.specs.View.{items_of, view}
use Rattle.plan_grammar.specs.Spots.{item_spots, part_spots, spot_of}
use Rattle.plan_grammar.proofs.walk.+walk.Given as goal

abbrev pub decreases-list_entries : goal.decreases-list_entries
decreases-list_entries l = 5 * items_depth (items_of (map view l.entries.now)) + 5

abbrev pub decreases-list_inner : goal.decreases-list_inner
decreases-list_inner l = 5 * depth (view l.place.now.value.now) + 3

abbrev pub decreases-list_part : goal.decreases-list_part
decreases-list_part l = 5 * depth (view l.place.now.value.now) + 1

abbrev pub decreases-list_parts : goal.decreases-list_parts
decreases-list_parts l = 5 * depth (view l.place.now.value.now) + 2

abbrev pub decreases-list_place : goal.decreases-list_place
decreases-list_place l = 5 * depth (view l.place.now.value.now) + 4

-- the places so far, and those of the entries that are left, are all
abbrev pub invariant-list_entries-loop-i : goal.invariant-list_entries-loop-i
invariant-list_entries-loop-i l =
    map spot_of l.places.items ++ item_spots (items_of (map view (drop l.i l.entries))) l.place.path.items (view l.place.owner.now) l.place.kind l.place.level l.i
    ≡ map spot_of l.initial.places.items ++ item_spots (items_of (map view l.entries)) l.place.path.items (view l.place.owner.now) l.place.kind l.place.level 0

-- the places so far, and those of the keys that are left, are all
abbrev pub invariant-list_parts-loop-part : goal.invariant-list_parts-loop-part
invariant-list_parts-loop-part l =
    map spot_of l.places.items ++ flat_map (part_spots (spot_of l.place)) (drop l.part-index l.parts)
    ≡ map spot_of l.initial.places.items ++ flat_map (part_spots (spot_of l.place)) l.parts
