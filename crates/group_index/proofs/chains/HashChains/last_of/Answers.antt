use Rattle.std.proofs.Common.{ℕ, ◌≡◌, List, length, ap, sym, subst, ◌∙◌}
use Rattle.group_index.specs.declared.chains.Link.{Link}
use Rattle.group_index.specs.Chains.{IsOnChain, hashes_of, head_of, last_of_hash}
use Rattle.group_index.proofs.ChainLemmas.{from-head, head-on}
use Rattle.group_index.proofs.chains.HashChains.last_of.Goals as goal

pub go_along-requires : goal.go_along-requires
go_along-requires c =
    let s = c.self.inside in
    let head : c.head_of-head.result ≡ head_of s.mask s.heads.items c.args.hash = c.head_of-head.ensures ∙ ap (λ hs. head_of s.mask hs c.args.hash) c.deref.ensures.value in
    subst (λ (ls : List Link). IsOnChain ls c.args.hash c.head_of-head.result) (sym c.deref-2.ensures.value)
    (subst (λ (n : ℕ). IsOnChain s.links.items c.args.hash n) (sym head) (head-on s.mask s.heads.items s.links.items c.args.hash c.self.invariant))

pub returns : goal.returns
returns c =
    let s = c.self.inside in
    let links = s.links.items in
    let head : c.head_of-head.result ≡ head_of s.mask s.heads.items c.args.hash = c.head_of-head.ensures ∙ ap (λ hs. head_of s.mask hs c.args.hash) c.deref.ensures.value in
    c.go_along.ensures
    ∙ ap (λ (ls : List Link). last_of_hash (hashes_of ls) c.args.hash c.head_of-head.result) c.deref-2.ensures.value
    ∙ ap (last_of_hash (hashes_of links) c.args.hash) head
    ∙ from-head s.mask s.heads.items links c.args.hash c.self.invariant
    ∙ ap (λ hs. last_of_hash hs c.args.hash (length hs)) c.self.view_is
