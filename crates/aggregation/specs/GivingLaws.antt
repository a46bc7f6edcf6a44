-- Laws of operators that keep groups.
use Rattle.std.specs.Prelude.{◌≡◌, ◌↔◌, ℕ, zero, suc, List, [], ◌∷◌, ◌++◌, Bool, true, false, not, flat_map, length, map, Contains, Result, Ok, Err, refl}
use Rattle.std.proofs.Common.{sym, ◌∙◌, subst, arith}
use Rattle.std.proofs.lemmas.Bool.{true≢false}
use Rattle.std.proofs.lemmas.List.Elements.{Contains-append_left, Contains-push}
use Rattle.sql_values.specs.declared.value.Value.{Value}
use Rattle.sql_values.specs.declared.fail.Fail.{Fail}
use Rattle.sql_values.specs.Bags.{SameBag}
use Rattle.operator_core.specs.Samples.{has_row}
use Rattle.relation_laws.specs.Groups.{grouped_row}
use Rattle.relation_laws.specs.Verdicts.{Verdict, fails, keeps, kept}
use Rattle.bag_laws.specs.Weights.{SameWeights}
use Rattle.bag_laws.proofs.BagLemmas.{bag_from_same, same-nil, same-refl, same-sym, same_from_bag}
use Rattle.relation_laws.specs.Partials.{results_from}
use Rattle.bag_laws.specs.Pieces.{all_merged, behind_key, front_keys}
use Rattle.aggregation.specs.Alike.{part_rows}
use Rattle.aggregation.specs.Tables.{held_in}
use Rattle.aggregation.specs.Giving.{GroupsFail, GroupsGive, GroupsState, has_more, is_over, parts_with, to_give, verdicts_with}

pub groups-some : (begun : Bool) (left : List (List Value)) (V : List Verdict) → (B : List (List Value)) × GroupsGive begun left V B
groups-some true left V = (left, refl)
groups-some false left V = (flat_map kept V, bag_from_same (flat_map kept V) (flat_map kept V) (same-refl (flat_map kept V)))

-- two bags have rows or both have none
not-none : (row : List Value) (rows : List (List Value)) → (row ∷ rows) ≡ [] → ⊥
not-none row rows e = cc

bag-none : (rows B : List (List Value)) → B ≡ [] → SameBag rows B → rows ≡ []
bag-none rows B e same = same-nil (subst (λ (C : List (List Value)). SameWeights rows C) e (same_from_bag rows B same))

none-alike : (rows B : List (List Value)) → SameBag rows B → (has_row rows ≡ false) ↔ (B ≡ [])
none-alike [] B same = ((λ e. same-nil (same-sym (same_from_bag [] B same))), (λ e. refl))
none-alike (row ∷ rows) B same = ((λ e. cc), (λ e. absurd (not-none row rows (bag-none (row ∷ rows) B e same))))

equal-alike : (rows B : List (List Value)) → B ≡ rows → (has_row rows ≡ false) ↔ (B ≡ [])
equal-alike [] B same = ((λ e. same), (λ e. refl))
equal-alike (row ∷ rows) B same = ((λ e. cc), (λ e. absurd (not-none row rows (sym same ∙ e))))

-- what is left where no row comes is a list of the rows that it holds
pub groups-rest : (begun : Bool) (left : List (List Value)) (V : List Verdict) (B : List (List Value)) → GroupsGive begun left V B → (has_row (to_give begun left V) ≡ false) ↔ (B ≡ [])
groups-rest true left V B g = equal-alike left B g
groups-rest false left V B g = none-alike (flat_map kept V) B g

-- each group gives a row or fails
said : (o : Result (List Value) Fail) (key : List Value) (rest : List Verdict) (own : ℕ) → has_row (flat_map kept (grouped_row key o ∷ rest)) ≡ false
    → ((node : ℕ) (kind : Fail) → GroupsFail false own (grouped_row key o ∷ rest) node kind → ⊥) → ⊥
said (Ok row) key rest own none calm = absurd (true≢false none)
said (Err kind) key rest own none calm = calm own kind (refl, Contains-append_left (fails kind ∷ []) rest (fails kind) (Contains-push [] (fails kind)))

none-in : (v : Verdict) → Contains [] v → ⊥
none-in v c = absurd (omega (arith, c.1))

-- they are over where there is no row and no group fails
done-begun : (left : List (List Value)) → (not (has_row left) ≡ true) ↔ ((has_row left ≡ false) × ((node : ℕ) (kind : Fail) → ⊥ → ⊥))
done-begun [] = ((λ e. (refl, λ node kind f. f)), (λ h. refl))
done-begun (row ∷ rows) = ((λ e. cc), (λ h. cc (h.0)))

groups-done : (begun : Bool) (own : ℕ) (left keys : List (List Value)) (r : List Value → Result (List Value) Fail)
    → (not (has_more begun left (map (λ k. grouped_row k (r k)) keys)) ≡ true)
    ↔ ((has_row (to_give begun left (map (λ k. grouped_row k (r k)) keys)) ≡ false)
    × ((node : ℕ) (kind : Fail) → GroupsFail begun own (map (λ k. grouped_row k (r k)) keys) node kind → ⊥))
groups-done true own left keys r = done-begun left
groups-done false own left [] r = ((λ e. (refl, λ node kind f. none-in (fails kind) f.1)), (λ h. refl))
groups-done false own left (key ∷ keys) r = ((λ e. cc), (λ h. absurd (said (r key) key (map (λ k. grouped_row k (r k)) keys) own h.0 h.1)))

pub single-done : (g : GroupsState) (own : ℕ)
    → (is_over g (verdicts_with g.table []) ≡ true)
    ↔ ((has_row (to_give g.begun g.left.rows (verdicts_with g.table [])) ≡ false)
    × ((node : ℕ) (kind : Fail) → GroupsFail g.begun own (verdicts_with g.table []) node kind → ⊥))
single-done g own =
    let rows = held_in g.table ++ part_rows g.table.columns g.table.calls [] in
    groups-done g.begun own g.left.rows (front_keys (length g.table.columns) rows)
    (λ key. results_from g.table.types g.table.calls (all_merged g.table.calls (behind_key (length g.table.columns) rows key)))

-- groups whose partial rows are given never fail
none-fails : (said : List Value → List Value) (keys : List (List Value)) (kind : Fail) → Contains (map (λ key. keeps (said key)) keys) (fails kind) → ⊥
none-fails said [] kind c = none-in (fails kind) c
none-fails said (key ∷ keys) kind (zero, lt, is) = cc
none-fails said (key ∷ keys) kind (suc i, lt, is) = none-fails said keys kind (i, omega (arith, lt), is)

part-calm : (begun : Bool) (own : ℕ) (said : List Value → List Value) (keys : List (List Value)) (node : ℕ) (kind : Fail) → GroupsFail begun own (map (λ key. keeps (said key)) keys) node kind → ⊥
part-calm true own said keys node kind f = f
part-calm false own said keys node kind f = none-fails said keys kind f.1

pub partial-done : (g : GroupsState)
    → (is_over g (parts_with g.table []) ≡ true)
    ↔ ((has_row (to_give g.begun g.left.rows (parts_with g.table [])) ≡ false) × ((node : ℕ) (kind : Fail) → ⊥ → ⊥))
partial-done g =
    let rows = held_in g.table ++ part_rows g.table.columns g.table.calls [] in
    let keys = front_keys (length g.table.columns) rows in
    let partial = λ (key : List Value). all_merged g.table.calls (behind_key (length g.table.columns) rows key) in
    let done = groups-done g.begun 0 g.left.rows keys (λ key. Ok (partial key)) in (
      (λ e. ((done.0 e).0, λ node kind f. f)),
      (λ h. done.1 (h.0, λ node kind f. part-calm g.begun 0 (λ key. key ++ partial key) keys node kind f)),
    )
