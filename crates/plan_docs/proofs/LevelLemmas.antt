-- Forms and nodes of one level more are read by their words.
use Rattle.std.proofs.Common.{◌≡◌, ℕ, zero, suc, ◌-◌, refl, arith}
use Rattle.serde_json.specs.Data.{Data}
use Rattle.plan_grammar.specs.Words.{form_of, op_of}
use Rattle.plan_docs.specs.Exprs.{form_at, form_by, missing}
use Rattle.plan_docs.specs.ReadNodes.{node_at, node_by, nothing}

pub form_at-zero : (n : ℕ) (d : Data) → n ≡ 0 → form_at n d ≡ missing
unfolding form_at
form_at-zero n d e = rw e refl

pub form_at-more : (n m : ℕ) (d : Data) → n ≡ suc m → form_at n d ≡ form_by (form_at m) d (form_of d)
unfolding form_at
form_at-more n m d e = rw e refl

pub ruleset form_levels = (form_at-zero, form_at-more)

pub node_at-zero : (n : ℕ) (document d : Data) → n ≡ 0 → node_at n document d ≡ nothing
unfolding node_at
node_at-zero n document d e = rw e refl

pub node_at-more : (n : ℕ) (document d : Data) → (n ≡ 0 → ⊥) → node_at n document d ≡ node_by (node_at (n - 1) document) document d (op_of d)
unfolding node_at
node_at-more zero document d some = absurd (some refl)
node_at-more (suc n) document d some = let e : suc n - 1 ≡ n = omega arith in rw e refl

pub ruleset node_levels = (node_at-zero, node_at-more)
