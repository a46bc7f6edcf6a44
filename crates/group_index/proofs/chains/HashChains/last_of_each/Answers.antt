use Rattle.std.proofs.Common.{ℕ, ◌≡◌, ◌<◌, ◌++◌, ◌∷◌, [], List, length, map, take, ap, sym, subst, ◌∙◌, arith}
use Rattle.std.specs.Prelude.{Option, slice_index_or}
use Rattle.std.proofs.lemmas.List.{get_or_read, length-map, map_more}
use Rattle.group_index.specs.declared.chains.Link.{Link}
use Rattle.group_index.specs.Chains.{IsOnChain, hashes_of, head_of, last_of_hash}
use Rattle.group_index.proofs.ChainLemmas.{from-head, head-of_each, head-on}
use Rattle.group_index.proofs.chains.HashChains.last_of_each.Goals as goal

pub go_along-requires : goal.go_along-requires
go_along-requires c =
    let s = c.self.inside in
    let hashes = c.args.hashes.now in
    let place = c.loop-place.place in
    let hash = slice_index_or hashes place 0 in
    let heads : c.in_ok-heads.heads.items ≡ map (head_of s.mask s.heads.items) hashes = c.in_ok-heads.ensures ∙ ap (λ hs. map (head_of s.mask hs) hashes) c.deref.ensures.value in
    let within : place < length c.in_ok-heads.heads.items = omega (arith, c.loop-place-test.true, ap length heads, length-map hashes (head_of s.mask s.heads.items)) in
    let head : c.index.result.now ≡ head_of s.mask s.heads.items hash
    = get_or_read c.in_ok-heads.heads.items place c.index.result.now within c.index.ensures 0
    ∙ head-of_each s.mask s.heads.items hashes c.in_ok-heads.heads.items place heads c.loop-place-test.true in
    subst (λ (ls : List Link). IsOnChain ls hash c.index.result.now) (sym c.deref-in-loop-place.ensures.value)
    (subst (λ (n : ℕ). IsOnChain s.links.items hash n) (sym head) (head-on s.mask s.heads.items s.links.items hash c.self.invariant))

pub loop-place-preserved : goal.loop-place-preserved
loop-place-preserved c =
    let s = c.self.inside in
    let hashes = c.args.hashes.now in
    let place = c.loop-place.place in
    let hash = slice_index_or hashes place 0 in
    let heads : c.in_ok-heads.heads.items ≡ map (head_of s.mask s.heads.items) hashes = c.in_ok-heads.ensures ∙ ap (λ hs. map (head_of s.mask hs) hashes) c.deref.ensures.value in
    let within : place < length c.in_ok-heads.heads.items = omega (arith, c.loop-place-test.true, ap length heads, length-map hashes (head_of s.mask s.heads.items)) in
    let head : c.index.result.now ≡ head_of s.mask s.heads.items hash
    = get_or_read c.in_ok-heads.heads.items place c.index.result.now within c.index.ensures 0
    ∙ head-of_each s.mask s.heads.items hashes c.in_ok-heads.heads.items place heads c.loop-place-test.true in
    let last = λ (h : ℕ). last_of_hash c.args.self.now h (length c.args.self.now) in
    let is : c.go_along.result ≡ last hash
    = c.go_along.ensures
    ∙ ap (λ (ls : List Link). last_of_hash (hashes_of ls) hash c.index.result.now) c.deref-in-loop-place.ensures.value
    ∙ ap (last_of_hash (hashes_of s.links.items) hash) head
    ∙ from-head s.mask s.heads.items s.links.items hash c.self.invariant
    ∙ ap (λ hs. last_of_hash hs hash (length hs)) c.self.view_is in
    c.in_ok-push.ensures.items
    ∙ ap (λ ls. ls ++ c.go_along.result ∷ []) c.loop-place.invariant
    ∙ ap (λ (o : Option ℕ). map last (take place hashes) ++ o ∷ []) is
    ∙ sym (map_more last hashes place 0 c.loop-place-test.true)
