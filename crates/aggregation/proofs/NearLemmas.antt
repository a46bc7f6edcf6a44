-- Places of keys that were found before some rows were taken.
use Rattle.std.proofs.Common.{◌≡◌, ℕ, ◌<◌, List, [], ◌∷◌, ◌++◌, length, get_or, map, ap, sym, subst, ◌∙◌, arith, inl, inr}
use Rattle.std.specs.Prelude.{IfSome, OnOk, Option, Some, None, Result, Ok, Err, slice_index_or}
use Rattle.std.proofs.lemmas.List.{length-append}
use Rattle.std.proofs.Math.ListN.{get_or-append}
use Rattle.sql_values.specs.declared.value.Value.{Value}
use Rattle.sql_values.specs.Cells.{cut}
use Rattle.group_index.specs.Keys.{StandsAt, place_of}
use Rattle.group_index.proofs.KeyLemmas.{stands-each, stands-there}
use Rattle.aggregation.specs.Tables.{AreKept, HasGroupFor, IsKeyAt, TableState}

kept-equal : (old new : List (List Value)) → new ≡ old → AreKept old new
kept-equal old new e = subst (λ (keys : List (List Value)). AreKept old keys) (sym e) (λ place key at. at)

kept-more : (keys more : List (List Value)) → AreKept keys (keys ++ more)
kept-more keys more place key at = (omega (arith, at.0, length-append keys more), get_or-append keys more [] place at.0 ∙ at.1)

-- a key that has a group now leaves the others where they stood
kept-by : (old table new : TableState) (key : List Value) → HasGroupFor old key table → new.keys ≡ table.keys → AreKept old.keys new.keys
kept-by old table new key (inl same) keys = kept-equal old.keys new.keys (keys ∙ ap (λ (t : TableState). t.keys) same)
kept-by old table new key (inr more) keys =
    subst (λ (ks : List (List Value)). AreKept old.keys ks) (sym (keys ∙ ap (λ (t : TableState). t.keys) more)) (kept-more old.keys (key ∷ []))

pub opened-kept : {E : Type 0} (old table new : TableState) (key : List Value) (r : Result (Unit {0}) E) → HasGroupFor old key table → new.keys ≡ table.keys
    → OnOk r (AreKept old.keys new.keys)
opened-kept old table new key (Ok u) opened keys = kept-by old table new key opened keys
opened-kept old table new key (Err e) opened keys = tt

-- what was found stands there still
still-there : (old keys : List (List Value)) (key : List Value) (near : Option ℕ) → near ≡ place_of old key → AreKept old keys → IfSome near (λ place. IsKeyAt keys place key)
still-there old keys key None is kept = tt
still-there old keys key (Some place) is kept = kept place key (stands-there old key place is)

pub near-there : (first now : TableState) (columns : List ℕ) (index rows : List (List Value)) (found : List (Option ℕ)) (i : ℕ) (near : Option ℕ)
    → columns ≡ first.columns → index ≡ first.keys → StandsAt index (map (cut columns) rows) found → i < length rows → near ≡ get_or found i near
    → ◌≡◌ {A = TableState} (record now { keys = first.keys; partials = first.partials }) first → AreKept first.keys now.keys
    → IfSome near (λ place. IsKeyAt now.keys place (cut now.columns (slice_index_or rows i [])))
near-there first now columns index rows found i near of begun stands lt is same kept =
    let row = slice_index_or rows i [] in
    let there : near ≡ place_of first.keys (cut now.columns row)
    = is ∙ stands-each (cut columns) index rows found i near stands lt
    ∙ (λ i. place_of (begun i) (cut (of i) row))
    ∙ ap (λ (t : TableState). place_of first.keys (cut t.columns row)) (sym same) in
    still-there first.keys now.keys (cut now.columns row) near there kept
