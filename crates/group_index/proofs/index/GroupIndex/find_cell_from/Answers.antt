use Rattle.std.proofs.Common.{◌≡◌, false, ℕ, ◌∷◌, [], map, refl, ap, sym, subst, ◌∙◌}
use Rattle.std.specs.Prelude.{Option, Some}
use Rattle.relation_laws.specs.Equality.{same_row}
use Rattle.sql_values.specs.Cells.{lent_value}
use Rattle.group_index.specs.Chains.{hash_at, last_of_hash}
use Rattle.cell_hashes.specs.Hashes.{hash_of}
use Rattle.group_index.specs.Keys.{key_at}
use Rattle.group_index.proofs.KeyLemmas.{IsAt, begins-at, goes-down, goes-on}
use Rattle.group_index.proofs.index.GroupIndex.find_cell_from.Goals as goal

pub loop-found-init : goal.loop-found-init
loop-found-init c =
    let key = lent_value c.args.key ∷ [] in
    let keys = c.args.self.now in
    subst (λ (found : Option ℕ). IsAt keys (map hash_of keys) key found) (sym c.requires) (begins-at keys (map hash_of keys) key refl)

pub loop-found-smaller : goal.loop-found-smaller
loop-found-smaller c =
    goes-down c.self.inside.chains (hash_at c.self.inside.chains c.in-Some.place) c.in-Some.place c.loop-found.found c.before-found.result c.before-found.ensures c.in-Some.is

pub loop-found-preserved : goal.loop-found-preserved
loop-found-preserved c =
    let key = lent_value c.args.key ∷ [] in
    let keys = c.args.self.now in
    let place = c.in-Some.place in
    let hashes : c.self.inside.chains ≡ map hash_of keys = c.self.invariant.0 ∙ ap (map hash_of) c.self.view_is in
    let at : IsAt keys (map hash_of keys) key (Some place) = subst (λ (found : Option ℕ). IsAt keys (map hash_of keys) key found) c.in-Some.is c.loop-found.invariant in
    let other : same_row (key_at keys place) key ≡ false = sym c.is_key.ensures ∙ c.if-is_key.false in
    let is : c.before-found.result ≡ last_of_hash (map hash_of keys) (hash_at (map hash_of keys) place) place
    = c.before-found.ensures ∙ ap (λ hs. last_of_hash hs (hash_at hs place) place) hashes in
    subst (λ (found : Option ℕ). IsAt keys (map hash_of keys) key found) (sym is) (goes-on keys (map hash_of keys) key refl place at other)
