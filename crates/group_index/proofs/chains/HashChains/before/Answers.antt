use Rattle.std.proofs.Common.{◌≡◌, ◌<◌, List, length, ap, sym, subst, ◌∙◌, arith}
use Rattle.std.proofs.lemmas.List.{get_or_read, length-map}
use Rattle.group_index.specs.declared.chains.Link.{Link}
use Rattle.group_index.specs.Places.{place_before}
use Rattle.group_index.specs.Chains.{IsOnChain, hash_at, hashes_of, last_of_hash, link_at}
use Rattle.group_index.proofs.ChainLemmas.{from-link, hash-link, link-on}
use Rattle.group_index.proofs.chains.HashChains.before.Goals as goal

pub go_along-requires : goal.go_along-requires
go_along-requires c =
    let s = c.self.inside in
    let links = s.links.items in
    let within : c.args.place < length links = omega (arith, c.requires, ap length c.self.view_is, length-map links (λ (l : Link). l.hash)) in
    let is : link_at links c.args.place ≡ c.index-link.result.now = sym (get_or_read links c.args.place c.index-link.result.now within c.index-link.ensures (record { hash = 0; before = 0 })) in
    subst (λ (ls : List Link). IsOnChain ls c.index-link.result.now.hash c.index-link.result.now.before) (sym c.deref.ensures.value)
    (subst (λ (l : Link). IsOnChain links l.hash l.before) is (link-on s.mask s.heads.items links c.args.place c.self.invariant within))

pub returns : goal.returns
returns c =
    let s = c.self.inside in
    let links = s.links.items in
    let within : c.args.place < length links = omega (arith, c.requires, ap length c.self.view_is, length-map links (λ (l : Link). l.hash)) in
    let is : link_at links c.args.place ≡ c.index-link.result.now = sym (get_or_read links c.args.place c.index-link.result.now within c.index-link.ensures (record { hash = 0; before = 0 })) in
    let same : c.index-link.result.now.hash ≡ hash_at c.args.self.now c.args.place
    = ap (λ (l : Link). l.hash) (sym is) ∙ sym (hash-link links c.args.place) ∙ ap (λ hs. hash_at hs c.args.place) c.self.view_is in
    c.go_along.ensures
    ∙ ap (λ (ls : List Link). last_of_hash (hashes_of ls) c.index-link.result.now.hash c.index-link.result.now.before) c.deref.ensures.value
    ∙ ap (λ (l : Link). last_of_hash (hashes_of links) l.hash l.before) (sym is)
    ∙ sym (ap place_before (from-link s.mask s.heads.items links c.args.place c.self.invariant within))
    ∙ ap (λ (l : Link). last_of_hash (hashes_of links) l.hash c.args.place) is
    ∙ ap (λ h. last_of_hash (hashes_of links) h c.args.place) same
    ∙ ap (λ hs. last_of_hash hs (hash_at c.args.self.now c.args.place) c.args.place) c.self.view_is
