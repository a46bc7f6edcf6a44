use Rattle.std.proofs.Common.{ℕ, ◌≡◌, ◌+◌, ◌<◌, ◌^◌, ◌++◌, ◌∷◌, [], List, length, set, suc, ap, sym, subst, ◌∙◌, arith}
use Rattle.std.specs.Prelude.{bit_and}
use Rattle.std.proofs.lemmas.Nat.{and_le_r}
use Rattle.std.proofs.lemmas.List.{get_or_read, length-append}
use Rattle.group_index.specs.declared.chains.Link.{Link}
use Rattle.group_index.specs.Chains.{AreChains}
use Rattle.group_index.proofs.ChainLemmas.{chains-more}
use Rattle.group_index.proofs.chains.HashChains.link_beside.Goals as goal

pub invariant_of-self-2 : goal.invariant_of-self-2
invariant_of-self-2 c =
    let s = c.self.inside in
    let x : Link = record { hash = c.args.hash; before = c.index-before.result.now } in
    let b = bit_and c.args.hash s.mask in
    let within : b < length s.heads.items = omega (arith, c.self.invariant.buckets, and_le_r c.args.hash s.mask) in
    let few : length s.links.items + 1 < 2 ^ 32 = omega (arith, c.if-len-ge4294967295.false, c.len.ensures, s.links.ok.0) in
    let items : c.push_reserved.new.self.items ≡ s.links.items ++ x ∷ [] = c.push_reserved.ensures.items ∙ ap (λ (ls : List Link). ls ++ x ∷ []) c.in_ok-reserve.ensures.items in
    let long : c.len-2.result ≡ suc (length s.links.items) = c.len-2.ensures ∙ omega (arith, ap length items, length-append s.links.items (x ∷ []), c.push_reserved.new.self.ok.0) in
    subst (λ (ls : List Link). AreChains s.mask (set s.heads.items b c.len-2.result) ls) (sym items)
    (subst (λ (n : ℕ). AreChains s.mask (set s.heads.items b n) (s.links.items ++ x ∷ [])) (sym long)
    (chains-more s.mask s.heads.items s.links.items x c.self.invariant few (get_or_read s.heads.items b c.index-before.result.now within c.index-before.ensures 0) within))
