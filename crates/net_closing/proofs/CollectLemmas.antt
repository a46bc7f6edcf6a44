-- Lists that are gathered one by one.
use Rattle.std.proofs.Common.{◌≡◌, ◌+◌, ◌++◌, ◌∙◌, ℕ, suc, List, arith, sym, ap, append_assoc}
use Rattle.bag_laws.specs.Gather.{gather}

pub gather_more : {X : Type 0} (k : ℕ) (lists : ℕ → List X) → gather (k + 1) lists ≡ gather k lists ++ lists k
gather_more k lists =
    let next : k + 1 ≡ suc k = omega arith in
    ap (λ (n : ℕ). gather n lists) next

-- one more list came behind those that were gathered
pub gathered_more : {X : Type 0} (start all next own : List X) (k : ℕ) (lists : ℕ → List X) → all ≡ start ++ gather k lists → next ≡ all ++ own → lists k ≡ own
    → next ≡ start ++ gather (k + 1) lists
gathered_more start all next own k lists before came is =
    came ∙ (λ i. before i ++ sym is i) ∙ append_assoc start (gather k lists) (lists k) ∙ ap (λ (l : List _). start ++ l) (sym (gather_more k lists))
