use Rattle.std.proofs.Common.{◌≡◌, ◌+◌, ◌≤◌, List, [], ap, sym, subst, arith}
use Rattle.std.specs.Prelude.{OnOk, None}
use Rattle.std.proofs.lemmas.List.{length-replicate}
use Rattle.sql_values.specs.declared.types.SqlType.TheVariants.{Boolean}
use Rattle.sql_values.specs.declared.value.Value.{Value}
use Rattle.sql_values.specs.declared.value.Value.TheVariants.{Null}
use Rattle.sql_values.specs.declared.relational.Call.TheVariants as call_is
use Rattle.accumulators.specs.declared.call_column.CallColumn.TheInside.{Inside}
use Rattle.accumulators.specs.declared.call_column.HeldColumn.TheVariants.{CountAll, Count, Sum, Min, Max, Avg}
use Rattle.accumulators.specs.HeldColumns.{held_column}
use Rattle.accumulators.specs.HeldStates.{average_columns, count_columns, no_average, sum_columns, value_columns}
use Rattle.accumulators.specs.KeptColumns.{IsLong, KeptColumn, begun_behind, first_kept}
use Rattle.accumulators.proofs.HeldColumnLemmas.{at_held, from_branch}
use Rattle.accumulators.proofs.SlotLemmas.{begun, first-begun, none-begun, none-first, ok_from}
use Rattle.accumulators.proofs.call_column.CallColumn.begin.Goals as goal
use Rattle.accumulators.proofs.call_column.CallColumn.begin.Goals.{in-CountAll, in-Count, in-Sum, in-Min, in-Max, in-Avg}

pub returns-clause-ok : goal.returns-clause-ok
returns-clause-ok c =
    let held = c.self.inside.held in
    let after = c.match-self.self-inside.held in
    let P : KeptColumn → KeptColumn → Type 0 = λ new old. OnOk c.match-self.result (new ≡ begun_behind c.args.place old) in
    elim c.match-self.branch [
      | in-CountAll w ↦ let was = CountAll w.in-CountAll.groups in let now = CountAll (c.args.place + 1) in
          from_branch P held was after now c.args.self.now c.self.view_is w.in-CountAll.is (ap (λ (x : Inside). x.held) w.self-inside-is)
          (let le : c.args.place ≤ w.in-CountAll.groups = omega (arith, at_held (IsLong c.args.place) held was c.args.self.now c.self.view_is w.in-CountAll.is c.requires.long, length-replicate {A = List Value} w.in-CountAll.groups []) in subst (λ x. OnOk x (held_column now ≡ begun_behind c.args.place (held_column was))) (sym w.result-is) (λ i. record { call = call_is.CountAll; kind = Boolean; kept = none-begun c.args.place w.in-CountAll.groups le i }))
      | in-Count w ↦ let was = Count w.in-Count.column w.in-Count.counts in let now = Count w.in-Count.column w.begin_at.new.states in
          from_branch P held was after now c.args.self.now c.self.view_is w.in-Count.is (ap (λ (x : Inside). x.held) w.self-inside-is)
          (ok_from c.match-self.result w.begin_at.result w.result-is (λ e i. record { call = call_is.Count w.in-Count.column; kind = Boolean; kept = begun count_columns w.in-Count.counts.items w.begin_at.new.states.items c.args.place 0 e i }) w.begin_at.ensures.ok)
      | in-Sum w ↦ let was = Sum w.in-Sum.column w.in-Sum.kind w.in-Sum.sums in let now = Sum w.in-Sum.column w.in-Sum.kind w.begin_at-in-Sum.new.states in
          from_branch P held was after now c.args.self.now c.self.view_is w.in-Sum.is (ap (λ (x : Inside). x.held) w.self-inside-is)
          (ok_from c.match-self.result w.begin_at-in-Sum.result w.result-is (λ e i. record { call = call_is.Sum w.in-Sum.column; kind = w.in-Sum.kind; kept = begun sum_columns w.in-Sum.sums.items w.begin_at-in-Sum.new.states.items c.args.place None e i }) w.begin_at-in-Sum.ensures.ok)
      | in-Min w ↦ let was = Min w.in-Min.column w.in-Min.least in let now = Min w.in-Min.column w.begin_at-in-Min.new.states in
          from_branch P held was after now c.args.self.now c.self.view_is w.in-Min.is (ap (λ (x : Inside). x.held) w.self-inside-is)
          (ok_from c.match-self.result w.begin_at-in-Min.result w.result-is (λ e i. record { call = call_is.Min w.in-Min.column; kind = Boolean; kept = begun value_columns w.in-Min.least.items w.begin_at-in-Min.new.states.items c.args.place Null e i }) w.begin_at-in-Min.ensures.ok)
      | in-Max w ↦ let was = Max w.in-Max.column w.in-Max.most in let now = Max w.in-Max.column w.begin_at-in-Max.new.states in
          from_branch P held was after now c.args.self.now c.self.view_is w.in-Max.is (ap (λ (x : Inside). x.held) w.self-inside-is)
          (ok_from c.match-self.result w.begin_at-in-Max.result w.result-is (λ e i. record { call = call_is.Max w.in-Max.column; kind = Boolean; kept = begun value_columns w.in-Max.most.items w.begin_at-in-Max.new.states.items c.args.place Null e i }) w.begin_at-in-Max.ensures.ok)
      | in-Avg w ↦ let was = Avg w.in-Avg.column w.in-Avg.kind w.in-Avg.averages in let now = Avg w.in-Avg.column w.in-Avg.kind w.begin_at-in-Avg.new.states in
          from_branch P held was after now c.args.self.now c.self.view_is w.in-Avg.is (ap (λ (x : Inside). x.held) w.self-inside-is)
          (ok_from c.match-self.result w.begin_at-in-Avg.result w.result-is (λ e i. record { call = call_is.Avg w.in-Avg.column; kind = w.in-Avg.kind; kept = begun average_columns w.in-Avg.averages.items w.begin_at-in-Avg.new.states.items c.args.place no_average e i }) w.begin_at-in-Avg.ensures.ok)
    ]

pub returns-clause-first : goal.returns-clause-first
returns-clause-first c =
    let held = c.self.inside.held in
    let after = c.match-self.self-inside.held in
    let P : KeptColumn → KeptColumn → Type 0 = λ new old. first_kept c.args.place new ≡ first_kept c.args.place old in
    elim c.match-self.branch [
      | in-CountAll w ↦ let was = CountAll w.in-CountAll.groups in let now = CountAll (c.args.place + 1) in
          from_branch P held was after now c.args.self.now c.self.view_is w.in-CountAll.is (ap (λ (x : Inside). x.held) w.self-inside-is)
          (let le : c.args.place ≤ w.in-CountAll.groups = omega (arith, at_held (IsLong c.args.place) held was c.args.self.now c.self.view_is w.in-CountAll.is c.requires.long, length-replicate {A = List Value} w.in-CountAll.groups []) in λ i. record { call = call_is.CountAll; kind = Boolean; kept = none-first c.args.place w.in-CountAll.groups le i })
      | in-Count w ↦ let was = Count w.in-Count.column w.in-Count.counts in let now = Count w.in-Count.column w.begin_at.new.states in
          from_branch P held was after now c.args.self.now c.self.view_is w.in-Count.is (ap (λ (x : Inside). x.held) w.self-inside-is)
          (λ i. record { call = call_is.Count w.in-Count.column; kind = Boolean; kept = first-begun count_columns w.in-Count.counts.items w.begin_at.new.states.items c.args.place w.begin_at.ensures.first i })
      | in-Sum w ↦ let was = Sum w.in-Sum.column w.in-Sum.kind w.in-Sum.sums in let now = Sum w.in-Sum.column w.in-Sum.kind w.begin_at-in-Sum.new.states in
          from_branch P held was after now c.args.self.now c.self.view_is w.in-Sum.is (ap (λ (x : Inside). x.held) w.self-inside-is)
          (λ i. record { call = call_is.Sum w.in-Sum.column; kind = w.in-Sum.kind; kept = first-begun sum_columns w.in-Sum.sums.items w.begin_at-in-Sum.new.states.items c.args.place w.begin_at-in-Sum.ensures.first i })
      | in-Min w ↦ let was = Min w.in-Min.column w.in-Min.least in let now = Min w.in-Min.column w.begin_at-in-Min.new.states in
          from_branch P held was after now c.args.self.now c.self.view_is w.in-Min.is (ap (λ (x : Inside). x.held) w.self-inside-is)
          (λ i. record { call = call_is.Min w.in-Min.column; kind = Boolean; kept = first-begun value_columns w.in-Min.least.items w.begin_at-in-Min.new.states.items c.args.place w.begin_at-in-Min.ensures.first i })
      | in-Max w ↦ let was = Max w.in-Max.column w.in-Max.most in let now = Max w.in-Max.column w.begin_at-in-Max.new.states in
          from_branch P held was after now c.args.self.now c.self.view_is w.in-Max.is (ap (λ (x : Inside). x.held) w.self-inside-is)
          (λ i. record { call = call_is.Max w.in-Max.column; kind = Boolean; kept = first-begun value_columns w.in-Max.most.items w.begin_at-in-Max.new.states.items c.args.place w.begin_at-in-Max.ensures.first i })
      | in-Avg w ↦ let was = Avg w.in-Avg.column w.in-Avg.kind w.in-Avg.averages in let now = Avg w.in-Avg.column w.in-Avg.kind w.begin_at-in-Avg.new.states in
          from_branch P held was after now c.args.self.now c.self.view_is w.in-Avg.is (ap (λ (x : Inside). x.held) w.self-inside-is)
          (λ i. record { call = call_is.Avg w.in-Avg.column; kind = w.in-Avg.kind; kept = first-begun average_columns w.in-Avg.averages.items w.begin_at-in-Avg.new.states.items c.args.place w.begin_at-in-Avg.ensures.first i })
    ]
