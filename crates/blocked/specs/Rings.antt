-- How often a bell rings.
use Rattle.std.specs.Prelude.{ℕ, cond, nat_eq}

-- how often a bell rings where the bell of this number is rung once
abbrev pub rings_at : ℕ → ℕ → ℕ
rings_at bell number = cond (nat_eq bell number) 1 0
