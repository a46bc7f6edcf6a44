-- Beginnings of what is kept of rows, and of their first ones.
use Rattle.std.proofs.Common.{◌≡◌, ℕ, List, [], ◌∷◌, ◌++◌, refl, ap, sym, arith, get_or, length, subst, take, drop, take_all, take-append-drop}
use Rattle.std.proofs.lemmas.List.{length-append, length-take}
use Rattle.sql_values.specs.declared.value.Value.{Value}
use Rattle.relation_laws.specs.Sorts.{IsBeginning}
use Rattle.relation_laws.specs.Verdicts.{Verdict, keeps, drops, fails, kept, kept_rows}
use Rattle.plan_trees.proofs.SubBagLemmas.{beginning_trans}

-- a beginning of the input from which the rows are kept
pub record Front (judge : List Value → Verdict) (input rows : List (List Value)) : Type 0 where
  pub front : List (List Value)
  pub begins : IsBeginning front input
  pub are_kept : rows ≡ kept_rows judge front

module _ (judge : List Value → Verdict) where
  nothing : (input : List (List Value)) → Front judge input []
  nothing input = record { front = []; begins = (input, refl); are_kept = refl }

  one_more : (row : List Value) (input rows : List (List Value)) (kept_row : List (List Value)) → kept (judge row) ≡ kept_row → Front judge input rows → Front judge (row ∷ input) (kept_row ++ rows)
  one_more row input rows kept_row is f = record {
    front = row ∷ f.front;
    begins = (f.begins.0, ap (λ xs. row ∷ xs) f.begins.1);
    are_kept = (λ i. sym is i ++ f.are_kept i);
  }

  front_at : (row : List Value) (input rows rest : List (List Value)) (verdict : Verdict) → judge row ≡ verdict
      → ((rows : List (List Value)) → rows ++ rest ≡ kept_rows judge input → Front judge input rows)
      → rows ++ rest ≡ kept verdict ++ kept_rows judge input → Front judge (row ∷ input) rows
  front_at row input [] rest verdict is further e = nothing (row ∷ input)
  front_at row input (r ∷ rows) rest (keeps s) is further e =
      subst (λ x. Front judge (row ∷ input) (x ∷ rows)) (sym (ap (λ xs. get_or xs 0 r) e))
      (one_more row input rows (s ∷ []) (ap kept is) (further rows (ap (drop 1) e)))
  front_at row input (r ∷ rows) rest drops is further e = one_more row input (r ∷ rows) [] (ap kept is) (further (r ∷ rows) e)
  front_at row input (r ∷ rows) rest (fails kind) is further e = one_more row input (r ∷ rows) [] (ap kept is) (further (r ∷ rows) e)

  pub front_of : (input rows rest : List (List Value)) → rows ++ rest ≡ kept_rows judge input → Front judge input rows
  front_of [] [] rest e = nothing []
  front_of [] (r ∷ rows) rest e = absurd (omega (arith, ap length e))
  front_of (row ∷ input) rows rest e = front_at row input rows rest (judge row) refl (λ more. front_of input more rest) e

-- the beginning of the first n items
pub first_front : (n : ℕ) (input rows : List (List Value)) → IsBeginning rows (take n input) → IsBeginning rows input
first_front n input rows front = beginning_trans rows (take n input) input front (drop n input, take-append-drop n input)

pub first_all : (n : ℕ) (input rows : List (List Value)) → IsBeginning rows (take n input) → rows ≡ take n rows
first_all n input rows front =
    sym (take_all n rows (omega (arith, ap length front.1, length-append rows front.0, length-take n input)))
