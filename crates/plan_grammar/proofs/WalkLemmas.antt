-- A value's places are its own and then those inside, each member found by its name.
use Rattle.std.proofs.Common.{◌≡◌, ℕ, List, [], ◌∷◌, ◌++◌, Option, Some, option_map, unwrap_or, Ordering, Less, Equal, Greater, refl, sym, ap}
use Rattle.std.specs.Ordering.{nat_cmp, match_ordering}
use Rattle.std.specs.Cmp.Lexicographic.{slice_cmp}
use Rattle.std.specs.List.{flat_map}
use Rattle.serde_json.specs.Data.{Data, null, boolean, number, string, array, object, Members, no_members, member}
use Rattle.serde_json.specs.Find.{get_member}
use Rattle.json_paths.specs.declared.step.Step.{Step}
use Rattle.json_paths.specs.declared.step.Step.TheVariants as step
use Rattle.json_paths.specs.Places.{key_text}
use Rattle.plan_grammar.specs.declared.kind.Kind.{Kind}
use Rattle.plan_grammar.specs.declared.tables.Part.{Part}
use Rattle.plan_grammar.specs.Grammar.{depth_of, parts_of}
use Rattle.plan_grammar.specs.Spots.{Spot, inner_spots, member_spots, part_spots, spot, spots}

none_inside : (parts : List Part) → flat_map {X = Part} {A = Spot} (λ part. []) parts ≡ []
none_inside [] = refl
none_inside (part ∷ parts) = none_inside parts

same_inside : (f g : Part → List Spot) (parts : List Part) → ((part : Part) → f part ≡ g part) → flat_map f parts ≡ flat_map g parts
same_inside f g [] same = refl
same_inside f g (part ∷ parts) same = rw (same part, same_inside f g parts same)

found_spots : (o : Ordering) (read : Data → List Spot) (d : Data) (rest : Option Data) (others : List Spot) → others ≡ unwrap_or (option_map read rest) []
    → match_ordering o others (read d) others ≡ unwrap_or (option_map read (match_ordering o rest (Some d) rest)) []
found_spots Less read d rest others same = same
found_spots Equal read d rest others same = refl
found_spots Greater read d rest others same = same

member_spots-get : (ms : Members) (name : List ℕ) (path : List Step) (owner : Data) (kind : Kind) (level : ℕ)
    → member_spots ms name path owner kind level ≡ unwrap_or (option_map (λ d. spots d path owner kind level) (get_member name ms)) []
member_spots-get no_members name path owner kind level = refl
member_spots-get (member l d ms) name path owner kind level =
    found_spots (slice_cmp nat_cmp name l) (λ e. spots e path owner kind level) d (get_member name ms) _ (member_spots-get ms name path owner kind level)

pub spots_are : (d : Data) (path : List Step) (owner : Data) (kind : Kind) (level : ℕ)
    → spots d path owner kind level ≡ spot d path owner kind level ∷ inner_spots (spot d path owner kind level)
spots_are null path owner kind level = ap (λ rest. spot null path owner kind level ∷ rest) (sym (none_inside (parts_of kind null)))
spots_are (boolean b) path owner kind level = ap (λ rest. spot (boolean b) path owner kind level ∷ rest) (sym (none_inside (parts_of kind (boolean b))))
spots_are (number n) path owner kind level = ap (λ rest. spot (number n) path owner kind level ∷ rest) (sym (none_inside (parts_of kind (number n))))
spots_are (string s) path owner kind level = ap (λ rest. spot (string s) path owner kind level ∷ rest) (sym (none_inside (parts_of kind (string s))))
spots_are (array ds) path owner kind level = refl
spots_are (object ms) path owner kind level =
    ap (λ rest. spot (object ms) path owner kind level ∷ rest)
    (same_inside (λ part. member_spots ms (key_text part.key) (path ++ step.Key part.key ∷ []) (object ms) part.kind (depth_of part.kind level))
    (part_spots (spot (object ms) path owner kind level)) (parts_of kind (object ms))
    (λ part. member_spots-get ms (key_text part.key) (path ++ step.Key part.key ∷ []) (object ms) part.kind (depth_of part.kind level)))
