-- What is said of a group, and rows of groups one by one.
use Rattle.std.proofs.Common.{◌≡◌, ℕ, suc, ◌+◌, ◌<◌, ◌≤◌, List, [], ◌∷◌, ◌++◌, length, map, get_or, take, ap, sym, subst, ◌∙◌, arith}
use Rattle.std.specs.Prelude.{Result, Ok, nat_lt}
use Rattle.std.proofs.lemmas.Bool.{le-ltb, lt-ltb}
use Rattle.std.proofs.lemmas.List.{append-nil, get_or-map, length-map, map-append, take_all, take_more}
use Rattle.sql_values.specs.declared.types.SqlType.{SqlType}
use Rattle.sql_values.specs.declared.value.Value.{Value}
use Rattle.sql_values.specs.declared.fail.Fail.{Fail}
use Rattle.sql_values.specs.declared.fail.EvalFault.{EvalFault}
use Rattle.sql_values.specs.declared.fail.EvalFault.TheVariants as fault
use Rattle.sql_values.specs.declared.relational.Call.{Call}
use Rattle.sql_values.specs.ColumnRows.{TypedRows}
use Rattle.relation_laws.specs.Groups.{grouped_row}
use Rattle.relation_laws.specs.Partials.{results_from}
use Rattle.relation_laws.specs.Verdicts.{Verdict, drops, fails, keeps}
use Rattle.accumulators.specs.Columns.{kind_in}
use Rattle.accumulators.specs.Groups.{Group, RowFailsBy}
use Rattle.aggregation.specs.Tables.{AreResults, GroupFailsBy, IsPut, IsTable, OneFailsBy, TableState, held_in, partials_of_groups, verdict_at, verdicts_of}
use Rattle.bag_laws.specs.Pieces.{finals_of}
use Rattle.aggregation.specs.Giving.{has_verdict, part_verdicts, parts_with, verdicts_with}
use Rattle.aggregation.specs.Held.{AreHeld, of_each}
use Rattle.aggregation.proofs.HeldLemmas.{finals-held, parts-held}
use Rattle.aggregation.proofs.RowLemmas.{each-at, each-long}
use Rattle.aggregation.proofs.TableLemmas.{group-there}

-- the row of the next verdict
put-at : (vs : List Verdict) (kinds : List SqlType) (place : ℕ) (old new : TypedRows) (v : Verdict) → get_or vs place v ≡ v → place < length vs
    → AreResults kinds (take place vs) old → IsPut old new v → AreResults kinds (take (place + 1) vs) new
put-at vs kinds place old new (keeps row) at lt so_far put = record {
  of = ap (λ (r : TypedRows). r.types) put ∙ so_far.of;
  whole = ap (λ (r : TypedRows). r.begun) put ∙ so_far.whole;
  said = ap (λ (r : TypedRows). map keeps r.rows) put
      ∙ map-append keeps old.rows (row ∷ [])
      ∙ (λ i. so_far.said i ++ sym at i ∷ [])
      ∙ sym (take_more vs place (keeps row) lt);
}
put-at vs kinds place old new drops at lt so_far put = absurd put
put-at vs kinds place old new (fails kind) at lt so_far put = absurd put

module _ (columns : List ℕ) (calls : List Call) (types : List SqlType) (keys : List (List Value)) (groups : List Group) (t : IsTable columns calls types keys groups)
    (state : TableState) (view : ◌≡◌ {A = TableState} (record { columns = columns; calls = calls; types = types; keys = keys; partials = partials_of_groups groups }) state) where
  -- what is said of the group at a place
  said-at : (place : ℕ) (g : Group) → place < length keys → g ≡ get_or groups place g → verdict_at state place ≡ grouped_row (get_or state.keys place []) (results_from types g.calls g.partial)
  said-at place g lt is =
      let within : place < length groups = omega (arith, lt, t.held.level, length-map groups (λ (x : Group). x.partial)) in
      let of = group-there columns calls types keys groups t place g lt is in
      let partial : get_or (partials_of_groups groups) place [] ≡ g.partial
      = get_or-map (λ (x : Group). x.partial) groups place g [] within ∙ ap (λ (x : Group). x.partial) (sym is) in
      ap (λ (x : TableState). verdict_at x place) (sym view)
      ∙ (λ i. grouped_row (get_or keys place []) (results_from types (sym of.of_calls i) (partial i)))
      ∙ ap (λ (x : TableState). grouped_row (get_or x.keys place []) (results_from types g.calls g.partial)) view

  kinds-of : (place : ℕ) (g : Group) → place < length keys → g ≡ get_or groups place g → g.kinds ≡ map (kind_in types) g.calls
  kinds-of place g lt is =
      let of = group-there columns calls types keys groups t place g lt is in
      of.of_kinds ∙ ap (map (kind_in types)) (sym of.of_calls)

  pub put-there : (place : ℕ) (g : Group) (key row : List Value) (old new : TypedRows) → place < length keys → g ≡ get_or groups place g
      → ((ts : List SqlType) → g.kinds ≡ map (kind_in ts) g.calls → results_from ts g.calls g.partial ≡ Ok row)
      → key ≡ get_or keys place [] → new ≡ record old { rows = old.rows ++ (key ++ row) ∷ [] } → IsPut old new (verdict_at state place)
  put-there place g key row old new lt is told at e =
      let here : key ≡ get_or state.keys place [] = at ∙ ap (λ (x : TableState). get_or x.keys place []) view in
      subst (λ (v : Verdict). IsPut old new v)
      (sym (said-at place g lt is ∙ ap (grouped_row (get_or state.keys place [])) (told types (kinds-of place g lt is))))
      (e ∙ ap (λ k. record old { rows = old.rows ++ (k ++ row) ∷ [] }) here)

  fault-at : (place : ℕ) (o : Result (List Value) Fail) (f : EvalFault) → verdict_at state place ≡ grouped_row (get_or state.keys place []) o → RowFailsBy o f → GroupFailsBy (verdict_at state place) f
  fault-at place o (fault.Fail kind) e h = e ∙ ap (grouped_row (get_or state.keys place [])) h
  fault-at place o fault.Memory e h = tt

  pub fails-there : (place : ℕ) (g : Group) (f : EvalFault) → place < length keys → g ≡ get_or groups place g
      → ((ts : List SqlType) → g.kinds ≡ map (kind_in ts) g.calls → RowFailsBy (results_from ts g.calls g.partial) f) → GroupFailsBy (verdict_at state place) f
  fails-there place g f lt is told =
      fault-at place (results_from types g.calls g.partial) f (said-at place g lt is) (told types (kinds-of place g lt is))

  level : length state.partials ≡ length state.keys
  level = ap (λ (x : TableState). length x.partials) (sym view) ∙ t.held.level ∙ ap (λ (x : TableState). length x.keys) view

  verdict-there : (place : ℕ) (d : Verdict) → place < length keys → get_or (verdicts_of state) place d ≡ verdict_at state place
  verdict-there place d lt =
      each-at (λ key partial. grouped_row key (results_from state.types state.calls partial)) state.keys state.partials place d
      (omega (arith, lt, ap (λ (x : TableState). length x.keys) view)) level

  pub long : length (verdicts_of state) ≡ length groups
  long =
      each-long (λ key partial. grouped_row key (results_from state.types state.calls partial)) state.keys state.partials level
      ∙ sym level ∙ ap (λ (x : TableState). length x.partials) (sym view) ∙ length-map groups (λ (x : Group). x.partial)

  inside : (place : ℕ) → place < length groups → place < length keys
  inside place lt = omega (arith, lt, t.held.level, length-map groups (λ (x : Group). x.partial))

  pub put-more : (kinds : List SqlType) (place : ℕ) (old new : TypedRows) → place < length groups
      → AreResults kinds (take place (verdicts_of state)) old → IsPut old new (verdict_at state place) → AreResults kinds (take (place + 1) (verdicts_of state)) new
  put-more kinds place old new lt so_far put =
      put-at (verdicts_of state) kinds place old new (verdict_at state place) (verdict-there place (verdict_at state place) (inside place lt)) (omega (arith, lt, long)) so_far put

  pub all-put : (kinds : List SqlType) (place : ℕ) (rows : TypedRows) → length groups ≤ place → AreResults kinds (take place (verdicts_of state)) rows → AreResults kinds (verdicts_of state) rows
  all-put kinds place rows le so_far =
      subst (λ (vs : List Verdict). AreResults kinds vs rows) (take_all place (verdicts_of state) (omega (arith, le, long))) so_far

  pub one-fails : (place : ℕ) (f : EvalFault) → place < length groups → GroupFailsBy (verdict_at state place) f → OneFailsBy (verdicts_of state) f
  one-fails place (fault.Fail kind) lt h = (place, omega (arith, lt, long), verdict-there place (fails kind) (inside place lt) ∙ h)
  one-fails place fault.Memory lt h = tt

  -- what follows from the partial rows is said of the groups
  pub told-of : verdicts_with state [] ≡ verdicts_of state
  told-of =
      ap (finals_of state.types (length state.columns) state.calls) (append-nil (held_in state))
      ∙ finals-held (length state.columns) state.calls state.keys state.partials
      (subst (λ (x : TableState). AreHeld (length x.columns) x.calls x.keys x.partials) view t.held) state.types

  some-verdict : (n : ℕ) (vs : List Verdict) → length vs ≡ n → nat_lt 0 n ≡ has_verdict vs
  some-verdict n [] e = ap (nat_lt 0) (sym e) ∙ le-ltb 0 0 (omega arith)
  some-verdict n (v ∷ vs) e = ap (nat_lt 0) (sym e) ∙ lt-ltb 0 (suc (length vs)) (omega arith)

  pub some-told : (n : ℕ) → n ≡ length keys → nat_lt 0 n ≡ has_verdict (verdicts_with state [])
  some-told n e =
      some-verdict n (verdicts_of state) (long ∙ omega (arith, e, t.held.level, length-map groups (λ (x : Group). x.partial)))
      ∙ ap has_verdict (sym told-of)

  -- the rows of keys and partial rows
  parts-told : parts_with state [] ≡ of_each (λ key partial. keeps (key ++ partial)) state.keys state.partials
  parts-told =
      ap (part_verdicts (length state.columns) state.calls) (append-nil (held_in state))
      ∙ parts-held (length state.columns) state.calls state.keys state.partials (subst (λ (x : TableState). AreHeld (length x.columns) x.calls x.keys x.partials) view t.held)

  parts-long : length (parts_with state []) ≡ length groups
  parts-long =
      ap length parts-told ∙ each-long (λ key partial. keeps (key ++ partial)) state.keys state.partials level
      ∙ sym level ∙ ap (λ (x : TableState). length x.partials) (sym view) ∙ length-map groups (λ (x : Group). x.partial)

  pub partial-there : (place : ℕ) (g : Group) → place < length groups → g ≡ get_or groups place g → get_or state.partials place [] ≡ g.partial
  partial-there place g lt is =
      ap (λ (x : TableState). get_or x.partials place []) (sym view) ∙ get_or-map (λ (x : Group). x.partial) groups place g [] lt ∙ ap (λ (x : Group). x.partial) (sym is)

  part-there : (place : ℕ) (d : Verdict) → place < length groups → get_or (parts_with state []) place d ≡ keeps (get_or state.keys place [] ++ get_or state.partials place [])
  part-there place d lt =
      ap (λ vs. get_or vs place d) parts-told
      ∙ each-at (λ key partial. keeps (key ++ partial)) state.keys state.partials place d (omega (arith, inside place lt, ap (λ (x : TableState). length x.keys) view)) level

  pub part-more : (kinds : List SqlType) (place : ℕ) (old new : TypedRows) → place < length groups → AreResults kinds (take place (parts_with state [])) old
      → new ≡ record old { rows = old.rows ++ (get_or state.keys place [] ++ get_or state.partials place []) ∷ [] } → AreResults kinds (take (place + 1) (parts_with state [])) new
  part-more kinds place old new lt so_far put =
      let row = get_or state.keys place [] ++ get_or state.partials place [] in
      put-at (parts_with state []) kinds place old new (keeps row) (part-there place (keeps row) lt) (omega (arith, lt, parts-long)) so_far put

  pub all-parts : (kinds : List SqlType) (place : ℕ) (rows : TypedRows) → length groups ≤ place → AreResults kinds (take place (parts_with state [])) rows → AreResults kinds (parts_with state []) rows
  all-parts kinds place rows le so_far =
      subst (λ (vs : List Verdict). AreResults kinds vs rows) (take_all place (parts_with state []) (omega (arith, le, parts-long))) so_far
