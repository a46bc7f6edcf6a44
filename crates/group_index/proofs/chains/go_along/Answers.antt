use Rattle.std.proofs.Common.{◌≡◌, ℕ, ◌-◌, suc, ap, sym, subst, ◌∙◌, arith}
use Rattle.group_index.specs.Places.{last_below, place_before}
use Rattle.group_index.specs.Chains.{IsOnChain, has_hash, hashes_of}
use Rattle.group_index.proofs.ChainLemmas.{before-less, found-at, on-before, on-within, passed-over}
use Rattle.group_index.proofs.chains.go_along.Goals as goal

pub offset_bounds-links-place : goal.offset_bounds-links-place
offset_bounds-links-place c =
    omega (arith, c.requires.few, on-within c.args.links.now c.args.hash c.loop-place.place c.loop-place.invariant.on)

pub bounds-links-place : goal.bounds-links-place
bounds-links-place c =
    omega (arith, c.loop-place-test.true, on-within c.args.links.now c.args.hash c.loop-place.place c.loop-place.invariant.on)

pub returns-then-link-hash : goal.returns-then-link-hash
returns-then-link-hash c =
    let m = c.loop-place.place - 1 in
    let e : c.loop-place.place ≡ suc m = omega (arith, c.loop-place-test.true) in
    sym (ap place_before (c.loop-place.invariant.same ∙ ap (last_below (has_hash (hashes_of c.args.links.now) c.args.hash)) e ∙ found-at c.args.links.now c.args.hash m c.if-link-hash.true))

pub loop-place-smaller : goal.loop-place-smaller
loop-place-smaller c =
    let m = c.loop-place.place - 1 in
    let e : c.loop-place.place ≡ suc m = omega (arith, c.loop-place-test.true) in
    omega (arith, e, before-less c.args.links.now c.args.hash m (subst (λ (n : ℕ). IsOnChain c.args.links.now c.args.hash n) e c.loop-place.invariant.on))

pub loop-place-preserved : goal.loop-place-preserved
loop-place-preserved c =
    let m = c.loop-place.place - 1 in
    let e : c.loop-place.place ≡ suc m = omega (arith, c.loop-place-test.true) in
    let on : IsOnChain c.args.links.now c.args.hash (suc m) = subst (λ (n : ℕ). IsOnChain c.args.links.now c.args.hash n) e c.loop-place.invariant.on in
    record {
      on = on-before c.args.links.now c.args.hash m on;
      same = c.loop-place.invariant.same
          ∙ ap (last_below (has_hash (hashes_of c.args.links.now) c.args.hash)) e
          ∙ passed-over c.args.links.now c.args.hash m on c.if-link-hash.false;
    }
