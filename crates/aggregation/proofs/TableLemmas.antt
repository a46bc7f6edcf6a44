-- Tables with one more group, and with one more row of a group.
use Rattle.std.proofs.Common.{◌≡◌, ℕ, ◌<◌, zero, suc, List, [], ◌∷◌, ◌++◌, false, length, get_or, set, refl, ap, sym, subst, ◌∙◌, arith, inl, inr}
use Rattle.std.specs.Prelude.{All, IsTrue, None, OnOk, Result, Ok, Err}
use Rattle.std.proofs.lemmas.Bool.{true≢false}
use Rattle.std.proofs.lemmas.List.{append_assoc, get_or-map, length-append, length-map, length-set, map-append, map-set, nil_from_length}
use Rattle.std.proofs.lemmas.List.Elements.{All-append, All-cons, All-get_or, All-head, All-nil, All-set}
use Rattle.sql_values.specs.declared.types.SqlType.{SqlType}
use Rattle.sql_values.specs.declared.value.Value.{Value}
use Rattle.sql_values.specs.declared.relational.Call.{Call}
use Rattle.sql_values.specs.Cells.{cell, cut}
use Rattle.relation_laws.specs.Equality.{same_row}
use Rattle.relation_laws.specs.Partials.{merged, partial_of}
use Rattle.relation_laws.proofs.PartialLemmas.{partial_of-append}
use Rattle.accumulators.specs.Groups.{Group, empty_group, with_part}
use Rattle.accumulators.specs.Limits.{are_allowed}
use Rattle.group_index.specs.Keys.{place_of}
use Rattle.group_index.proofs.KeyLemmas.{none-stands}
use Rattle.aggregation.specs.Alike.{TellAlike}
use Rattle.aggregation.specs.Held.{AreHeld, HasFirst, IsTold, held_rows}
use Rattle.aggregation.specs.Tables.{IsGroupOf, IsKeyAt, HasGroupFor, IsTable, TableState, held_in, partials_of_groups}
use Rattle.aggregation.proofs.AlikeLemmas.{alike-append, alike-from_equal, alike-none, alike-refl, alike-trans}
use Rattle.aggregation.proofs.HeldLemmas.{apart-more, held-more, merged-at}

-- the partial row of no row adds nothing to itself
none-told : (calls : List Call) → IsTold calls (partial_of calls [])
none-told calls = sym (partial_of-append calls [] [])

-- a new key without columns is none
begun-more : (width : ℕ) (keys : List (List Value)) (key : List Value) → length key ≡ width → HasFirst width keys → All (λ other. same_row other key ≡ false) keys → HasFirst width (keys ++ key ∷ [])
begun-more zero keys key wide first new =
    let empty : key ≡ [] = nil_from_length key wide in
    let fails : same_row [] [] ≡ false = All-head (λ other. same_row other [] ≡ false) [] []
    (subst (λ (ks : List (List Value)). All (λ other. same_row other [] ≡ false) ks) first (subst (λ (k : List Value). All (λ other. same_row other k ≡ false) keys) empty new)) in
    absurd (true≢false fails)
begun-more (suc width) keys key wide first new = tt

held-with : (width : ℕ) (calls : List Call) (keys partials : List (List Value)) (key : List Value) → AreHeld width calls keys partials → length key ≡ width → None ≡ place_of keys key
    → AreHeld width calls (keys ++ key ∷ []) (partials ++ partial_of calls [] ∷ [])
held-with width calls keys partials key h wide none =
    let new = none-stands keys key none in
    record {
      level = omega (arith, length-append partials (partial_of calls [] ∷ []), length-append keys (key ∷ []), h.level);
      wide = All-append (λ k. length k ≡ width) keys (key ∷ []) h.wide (All-cons (λ k. length k ≡ width) key [] wide (All-nil (λ k. length k ≡ width)));
      apart = apart-more keys key h.apart new;
      begun = begun-more width keys key wide h.begun new;
      told = All-append (IsTold calls) partials (partial_of calls [] ∷ []) h.told (All-cons (IsTold calls) (partial_of calls []) [] (none-told calls) (All-nil (IsTold calls)));
    }

none-of : (types : List SqlType) (calls : List Call) (g : Group) → g ≡ empty_group types calls → IsGroupOf types calls g
none-of types calls g e = record { of_calls = ap (λ (x : Group). x.calls) e; of_kinds = ap (λ (x : Group). x.kinds) e }

nothing-held : (width : ℕ) (calls : List Call) → AreHeld (suc width) calls [] []
nothing-held width calls = record { level = refl; wide = All-nil (λ k. length k ≡ suc width); apart = tt; begun = tt; told = All-nil (IsTold calls) }

one-held : (calls : List Call) → AreHeld 0 calls ([] ∷ []) (partial_of calls [] ∷ [])
one-held calls = record {
  level = refl;
  wide = All-cons (λ k. length k ≡ 0) [] [] refl (All-nil (λ k. length k ≡ 0));
  apart = (All-nil (λ other. same_row [] other ≡ false), tt);
  begun = refl;
  told = All-cons (IsTold calls) (partial_of calls []) [] (none-told calls) (All-nil (IsTold calls));
}

module _ (columns : List ℕ) (calls : List Call) (types : List SqlType) (keys : List (List Value)) (groups : List Group) (t : IsTable columns calls types keys groups) where
  pub table-more : (row : List Value) (g : Group) → None ≡ place_of keys (cut columns row) → g ≡ empty_group types calls
      → IsTable columns calls types (keys ++ cut columns row ∷ []) (groups ++ g ∷ [])
  table-more row g none e =
      let partials : partials_of_groups (groups ++ g ∷ []) ≡ partials_of_groups groups ++ partial_of calls [] ∷ []
      = map-append (λ (x : Group). x.partial) groups (g ∷ []) ∙ ap (λ (x : Group). partials_of_groups groups ++ x.partial ∷ []) e in
      record {
        allowed = t.allowed;
        held = subst (λ (ps : List (List Value)). AreHeld (length columns) calls (keys ++ cut columns row ∷ []) ps) (sym partials)
            (held-with (length columns) calls keys (partials_of_groups groups) (cut columns row) t.held (length-map columns (cell row)) none);
        each = All-append (IsGroupOf types calls) groups (g ∷ []) t.each (All-cons (IsGroupOf types calls) g [] (none-of types calls g e) (All-nil (IsGroupOf types calls)));
      }

  table-at : (place : ℕ) (g : Group) → IsGroupOf types calls g → IsTold calls g.partial → IsTable columns calls types keys (set groups place g)
  table-at place g is told =
      let partials : partials_of_groups (set groups place g) ≡ set (partials_of_groups groups) place g.partial = map-set (λ (x : Group). x.partial) groups place g in
      record {
        allowed = t.allowed;
        held = subst (λ (ps : List (List Value)). AreHeld (length columns) calls keys ps) (sym partials) record {
          level = length-set (partials_of_groups groups) place g.partial ∙ t.held.level;
          wide = t.held.wide;
          apart = t.held.apart;
          begun = t.held.begun;
          told = All-set (IsTold calls) (partials_of_groups groups) place g.partial told t.held.told;
        };
        each = All-set (IsGroupOf types calls) groups place g is t.each;
      }

  -- a group that took something, and to which that of no row adds nothing
  pub table-set : (place : ℕ) (before g : Group) → IsGroupOf types calls before → g.calls ≡ before.calls → g.kinds ≡ before.kinds → with_part g (partial_of g.calls []) ≡ g
      → IsTable columns calls types keys (set groups place g)
  table-set place before g is calls_same kinds_same told =
      let of : g.calls ≡ calls = calls_same ∙ is.of_calls in
      table-at place g (record { of_calls = of; of_kinds = kinds_same ∙ is.of_kinds })
      (sym (ap (λ cs. merged cs g.partial (partial_of cs [])) of) ∙ ap (λ (x : Group). x.partial) told)

  pub group-there : (place : ℕ) (g : Group) → place < length keys → g ≡ get_or groups place g → IsGroupOf types calls g
  group-there place g lt is =
      let within : place < length groups = omega (arith, lt, t.held.level, length-map groups (λ (x : Group). x.partial)) in
      subst (λ (x : Group). IsGroupOf types calls x) (sym is) (All-get_or (IsGroupOf types calls) groups place g within t.each)

  partial-set : (place : ℕ) (before g : Group) (q : List Call → List Value) → place < length keys → before ≡ get_or groups place before → g ≡ with_part before (q before.calls)
      → set (partials_of_groups groups) place g.partial ≡ set (partials_of_groups groups) place (merged calls (get_or (partials_of_groups groups) place []) (q calls))
  partial-set place before g q lt at e =
      let within : place < length groups = omega (arith, lt, t.held.level, length-map groups (λ (x : Group). x.partial)) in
      let of : before.calls ≡ calls = (group-there place before lt at).of_calls in
      let there : get_or (partials_of_groups groups) place [] ≡ before.partial
      = get_or-map (λ (x : Group). x.partial) groups place before [] within ∙ ap (λ (x : Group). x.partial) (sym at) in
      ap (set (partials_of_groups groups) place)
      (ap (λ (x : Group). x.partial) e ∙ (λ i. merged (of i) (sym there i) (q (of i))))

  -- a group that merged in a partial row, which may be made of its calls
  pub partials-set : {E : Type 0} (place : ℕ) (before g : Group) (q : List Call → List Value) (r : Result (Unit {0}) E) (old : TableState) → place < length keys
      → ◌≡◌ {A = TableState} (record { columns = columns; calls = calls; types = types; keys = keys; partials = partials_of_groups groups }) old
      → before ≡ get_or groups place before → OnOk r (g ≡ with_part before (q before.calls))
      → OnOk r (◌≡◌ {A = TableState} (record { columns = columns; calls = calls; types = types; keys = keys; partials = partials_of_groups (set groups place g) })
      (record old { partials = set old.partials place (merged old.calls (get_or old.partials place []) (q old.calls)) }))
  partials-set place before g q (Ok u) old lt view at e =
      ap (λ (ps : List (List Value)). record { columns = columns; calls = calls; types = types; keys = keys; partials = ps })
      (map-set (λ (x : Group). x.partial) groups place g ∙ partial-set place before g q lt at e)
      ∙ ap (λ (x : TableState). record x { partials = set x.partials place (merged x.calls (get_or x.partials place []) (q x.calls)) }) view
  partials-set place before g q (Err x) old lt view at e = tt

-- a key has a cell of each key column
pub key-long : (columns : List ℕ) (calls : List Call) (types : List SqlType) (keys : List (List Value)) (groups : List Group) → IsTable columns calls types keys groups → (state : TableState)
    → ◌≡◌ {A = TableState} (record { columns = columns; calls = calls; types = types; keys = keys; partials = partials_of_groups groups }) state
    → (place : ℕ) → place < length state.keys → length (get_or state.keys place []) ≡ length columns
key-long columns calls types keys groups t state view place lt =
    ap (λ (x : TableState). length (get_or x.keys place [])) (sym view)
    ∙ All-get_or (λ key. length key ≡ length columns) keys place [] (omega (arith, lt, ap (λ (x : TableState). length x.keys) view)) t.held.wide

-- a group of no row, and then the partial row
opened-at : (old table : TableState) (key q : List Value) → HasGroupFor old key table → length key ≡ length old.columns → AreHeld (length old.columns) old.calls old.keys old.partials
    → TellAlike (length old.columns) old.calls (held_rows table.keys table.partials ++ (key ++ q) ∷ []) (held_in old ++ (key ++ q) ∷ [])
opened-at old table key q (inl same) wide h = alike-from_equal (length old.columns) old.calls (ap (λ (t : TableState). held_rows t.keys t.partials ++ (key ++ q) ∷ []) same)
opened-at old table key q (inr more) wide h =
    let w = length old.columns in
    let calls = old.calls in
    let e = partial_of calls [] in
    let whole : held_rows table.keys table.partials ≡ held_in old ++ (key ++ e) ∷ []
    = ap (λ (t : TableState). held_rows t.keys t.partials) more ∙ held-more old.keys old.partials key e h.level in
    alike-trans w calls
    (alike-from_equal w calls (ap (λ rows. rows ++ (key ++ q) ∷ []) whole ∙ append_assoc (held_in old) ((key ++ e) ∷ []) ((key ++ q) ∷ [])))
    (alike-append w calls (alike-refl w calls (held_in old)) (alike-none w calls key q wide))

-- a group for each key, and keys of one width, as before
opened-level : (old table : TableState) (key : List Value) → HasGroupFor old key table → length old.partials ≡ length old.keys → length table.partials ≡ length table.keys
opened-level old table key (inl same) h = ap (λ (t : TableState). length t.partials) same ∙ h ∙ sym (ap (λ (t : TableState). length t.keys) same)
opened-level old table key (inr more) h =
    omega (
      arith,
      ap (λ (t : TableState). length t.partials) more,
      ap (λ (t : TableState). length t.keys) more,
      h,
      length-append old.partials (partial_of old.calls [] ∷ []),
      length-append old.keys (key ∷ []),
    )

opened-wide : (old table : TableState) (key : List Value) (width : ℕ) → HasGroupFor old key table → length key ≡ width → All (λ k. length k ≡ width) old.keys → All (λ k. length k ≡ width) table.keys
opened-wide old table key width (inl same) wide h = subst (λ (t : TableState). All (λ k. length k ≡ width) t.keys) (sym same) h
opened-wide old table key width (inr more) wide h =
    subst (λ (t : TableState). All (λ k. length k ≡ width) t.keys) (sym more)
    (All-append (λ k. length k ≡ width) old.keys (key ∷ []) h (All-cons (λ k. length k ≡ width) key [] wide (All-nil (λ k. length k ≡ width))))

-- the partial row was merged in at the place of its key
row-at : (old table : TableState) (key q : List Value) (place : ℕ) (partials : List (List Value)) → HasGroupFor old key table → IsKeyAt table.keys place key → length key ≡ length old.columns
    → AreHeld (length old.columns) old.calls old.keys old.partials
    → partials ≡ set table.partials place (merged old.calls (get_or table.partials place []) q)
    → TellAlike (length old.columns) old.calls (held_rows table.keys partials) (held_in old ++ (key ++ q) ∷ [])
row-at old table key q place partials opened at long before e =
    let w = length old.columns in
    let calls = old.calls in
    let level = opened-level old table key opened before.level in
    let wide = opened-wide old table key w opened long before.wide in
    let there = merged-at w calls table.keys table.partials place q at.0 level wide in
    let here : held_rows table.keys table.partials ++ (get_or table.keys place [] ++ q) ∷ [] ≡ held_rows table.keys table.partials ++ (key ++ q) ∷ []
    = ap (λ k. held_rows table.keys table.partials ++ (k ++ q) ∷ []) at.1 in
    alike-trans w calls (alike-from_equal w calls (ap (held_rows table.keys) e))
    (alike-trans w calls there
    (alike-trans w calls (alike-from_equal w calls here) (opened-at old table key q opened long before)))

pub part-added : {E : Type 0} (old table new : TableState) (key : List Value) (q : TableState → List Value) (place : ℕ) (r : Result (Unit {0}) E)
    → ◌≡◌ {A = TableState} (record table { keys = old.keys; partials = old.partials }) old
    → HasGroupFor old key table → IsKeyAt table.keys place key → length key ≡ length old.columns
    → AreHeld (length old.columns) old.calls old.keys old.partials → q table ≡ q old
    → OnOk r (new ≡ record table { partials = set table.partials place (merged table.calls (get_or table.partials place []) (q table)) })
    → OnOk r (TellAlike (length old.columns) old.calls (held_in new) (held_in old ++ (key ++ q old) ∷ []))
part-added old table new key q place (Ok u) same opened at long before part e =
    let calls : table.calls ≡ old.calls = ap (λ (t : TableState). t.calls) same in
    let partials : new.partials ≡ set table.partials place (merged old.calls (get_or table.partials place []) (q old))
    = ap (λ (t : TableState). t.partials) e ∙ (λ i. set table.partials place (merged (calls i) (get_or table.partials place []) (part i))) in
    let keys : new.keys ≡ table.keys = ap (λ (t : TableState). t.keys) e in
    subst (λ (ks : List (List Value)). TellAlike (length old.columns) old.calls (held_rows ks new.partials) (held_in old ++ (key ++ q old) ∷ [])) (sym keys)
    (row-at old table key (q old) place new.partials opened at long before partials)
part-added old table new key q place (Err x) same opened at long before part e = tt

-- no row yet
pub table-none : (column : ℕ) (columns : List ℕ) (calls : List Call) (types : List SqlType) (keys : List (List Value)) (groups : List Group) → IsTrue (are_allowed types calls) → keys ≡ [] → groups ≡ []
    → IsTable (column ∷ columns) calls types keys groups
table-none column columns calls types keys groups allowed none empty = record {
  allowed = allowed;
  held = (λ (ks : List (List Value)) (ps : List (List Value)) (e : ks ≡ []) (f : ps ≡ []).
      subst (λ (x : List (List Value)). AreHeld (suc (length columns)) calls x ps) (sym e)
      (subst (λ (x : List (List Value)). AreHeld (suc (length columns)) calls [] x) (sym f) (nothing-held (length columns) calls)))
      keys (partials_of_groups groups) none (ap partials_of_groups empty);
  each = subst (λ (gs : List Group). All (IsGroupOf types calls) gs) (sym empty) (All-nil (IsGroupOf types calls));
}

pub table-one : (calls : List Call) (types : List SqlType) (keys : List (List Value)) (groups : List Group) (g : Group) → IsTrue (are_allowed types calls) → keys ≡ [] ∷ [] → groups ≡ g ∷ [] → g ≡ empty_group types calls
    → IsTable [] calls types keys groups
table-one calls types keys groups g allowed one only e =
    let partials : partials_of_groups groups ≡ partial_of calls [] ∷ [] = ap partials_of_groups only ∙ ap (λ (x : Group). x.partial ∷ []) e in
    record {
      allowed = allowed;
      held = subst (λ (x : List (List Value)). AreHeld 0 calls x (partials_of_groups groups)) (sym one)
          (subst (λ (x : List (List Value)). AreHeld 0 calls ([] ∷ []) x) (sym partials) (one-held calls));
      each = subst (λ (gs : List Group). All (IsGroupOf types calls) gs) (sym only) (All-cons (IsGroupOf types calls) g [] (none-of types calls g e) (All-nil (IsGroupOf types calls)));
    }
