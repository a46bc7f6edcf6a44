-- The drivers of all lanes, tasks and pipes, one by one.
use Rattle.std.proofs.Common.{◌≡◌, ℕ, ◌+◌, ◌<◌, ◌≤◌, ◌⊎◌, inl, inr, List, All, Result, Ok, Err, IfOk, Option, length, map, Some, None, ap, sym, subst, ◌∙◌, arith}
use Rattle.std.specs.Prelude.{replicate, slice_get, slice_set}
use Rattle.std.proofs.lemmas.Bool.{cases_order}
use Rattle.std.proofs.lemmas.List.{length-map, length-replicate}
use Rattle.net_parts.specs.Drivers.{DriverState}
use Rattle.net_parts.specs.Layouts.{drivers_in}
use Rattle.net_parts.specs.Pipes.{PipeForm, driver_number}
use Rattle.net_parts.specs.Nets.{AreDriversOf, IsDriverOf, NetForm}
use Rattle.net_parts.specs.Types.{PipesAreTyped}
use Rattle.net_parts.specs.Each.{EachBelow}
use Rattle.net_parts.specs.Stocks.{AreLeft, StockForm}
use Rattle.net_parts.specs.Makings.{CanMake, InNets, layout_in}
use Rattle.net_parts.specs.declared.making.Making.{Making}
use Rattle.net_parts.proofs.EachLemmas.{each, one_more}
use Rattle.net_parts.proofs.StockLemmas.{left_self, left_then, nets_left}
use Rattle.net_making.specs.Slots.{HasSlot, HaveGrown, IsNew}
use Rattle.net_making.proofs.SlotLemmas.{all_from, grown_put, grown_self, grown_then, none_filled, set_there, slot_driver, slot_kept, some_at}

-- what holds of all numbers below one, and of it
below_next : (P : ℕ → Type 0) (n : ℕ) → ((k : ℕ) → k < n → P k) → P n → (k : ℕ) → k < n + 1 → P k
below_next P n before own k less = by (cases_order k n)
  where
    by : (k ≡ n) ⊎ ((k < n) ⊎ (n < k)) → P k
    by (inl same) = subst P (sym same) own
    by (inr (inl fewer)) = before k fewer
    by (inr (inr more)) = absurd (omega (arith, less, more))

-- of what is answered
pub answered : {V E : Type 0} (items : V → List DriverState) (r : Result V E) (slots : List (Option DriverState)) (P : List DriverState → Type 0)
    → IfOk r (λ (v : V). slots ≡ map Some (items v)) → ((ds : List DriverState) → slots ≡ map Some ds → P ds) → IfOk r (λ (v : V). P (items v))
answered items (Ok v) slots P are holds = holds (items v) are
answered items (Err e) slots P are holds = tt

module _ (m : Making) where
  -- what was taken and filled, and what holds then
  pub record Made (Holds : List (Option DriverState) → NetForm → Type 0) (before now : StockForm) (old slots : List (Option DriverState)) : Type 0 where
    pub left : AreLeft before now
    pub grown : HaveGrown old slots
    pub added : InNets m before (Holds slots)

  abbrev pub Lanes : ℕ → PipeForm → ℕ → ℕ → List (Option DriverState) → NetForm → Type 0
  Lanes own pipe task lanes slots net = (lane : ℕ) → lane < lanes → HasSlot net slots own pipe task lane

  abbrev pub Tasks : ℕ → PipeForm → ℕ → List (Option DriverState) → NetForm → Type 0
  Tasks own pipe tasks slots net = (task lane : ℕ) → task < tasks → lane < pipe.drivers → HasSlot net slots own pipe task lane

  abbrev pub Pipes : ℕ → List (Option DriverState) → NetForm → Type 0
  Pipes own slots net = EachBelow (λ at (pipe : PipeForm). Tasks at pipe pipe.tasks slots net) (layout_in m) own

  pub no_lanes : (own : ℕ) (pipe : PipeForm) (task : ℕ) (before : StockForm) (old : List (Option DriverState)) → Made (Lanes own pipe task 0) before before old old
  no_lanes own pipe task before old = record {
    left = left_self before;
    grown = grown_self old;
    added = λ labels labelled net for lane less. absurd (omega (arith, less));
  }

  pub no_tasks : (own : ℕ) (pipe : PipeForm) (before : StockForm) (old : List (Option DriverState)) → Made (Tasks own pipe 0) before before old old
  no_tasks own pipe before old = record {
    left = left_self before;
    grown = grown_self old;
    added = λ labels labelled net for task lane less within. absurd (omega (arith, less));
  }

  pub no_pipes : (before : StockForm) (old : List (Option DriverState)) → Made (Pipes 0) before before old old
  no_pipes before old = record {
    left = left_self before;
    grown = grown_self old;
    added = λ labels labelled net for at pipe less there. absurd (omega (arith, less));
  }

  pub one_lane : (own : ℕ) (pipe : PipeForm) (task lane number : ℕ) (d : DriverState) (before now next : StockForm) (old slots new : List (Option DriverState))
      → Made (Lanes own pipe task lane) before now old slots → AreLeft now next → IsNew d → number ≡ driver_number pipe task lane
      → InNets m now (λ net. IsDriverOf net own pipe task lane d) → slice_get slots number ≡ Some None → new ≡ slice_set slots number (Some d)
      → Made (Lanes own pipe task (lane + 1)) before next old new
  one_lane own pipe task lane number d before now next old slots new made left fresh numbered is empty filled =
      let grown : HaveGrown slots new = subst (HaveGrown slots) (sym filled) (grown_put slots number d empty fresh) in
      let there : slice_get new (driver_number pipe task lane) ≡ Some (Some d) =
      ap (slice_get new) (sym numbered) ∙ ap (λ ss. slice_get ss number) filled ∙ set_there slots number (Some d) None empty in
      record {
        left = left_then before now next made.left left;
        grown = grown_then old slots new made.grown grown;
        added = λ labels labelled net for.
            below_next (λ k. HasSlot net new own pipe task k) lane (λ k less. slot_kept net slots new own pipe task k grown (made.added labels labelled net for k less))
            (record { driver = d; there = there; is = nets_left m before now (λ net. IsDriverOf net own pipe task lane d) made.left is labels labelled net for });
      }

  pub one_task : (own : ℕ) (pipe : PipeForm) (task : ℕ) (before now next : StockForm) (old slots new : List (Option DriverState))
      → Made (Tasks own pipe task) before now old slots → AreLeft now next → HaveGrown slots new → InNets m now (Lanes own pipe task pipe.drivers new)
      → Made (Tasks own pipe (task + 1)) before next old new
  one_task own pipe task before now next old slots new made left grown lanes = record {
    left = left_then before now next made.left left;
    grown = grown_then old slots new made.grown grown;
    added = λ labels labelled net for other lane less within.
        below_next (λ k. HasSlot net new own pipe k lane) task (λ k fewer. slot_kept net slots new own pipe k lane grown (made.added labels labelled net for k lane fewer within))
        (nets_left m before now (Lanes own pipe task pipe.drivers new) made.left lanes labels labelled net for lane within) other less;
  }

  pub one_pipe : (own : ℕ) (pipe : PipeForm) (before now next : StockForm) (old slots new : List (Option DriverState)) → slice_get (layout_in m) own ≡ Some pipe
      → Made (Pipes own) before now old slots → AreLeft now next → HaveGrown slots new → InNets m now (Tasks own pipe pipe.tasks new)
      → Made (Pipes (own + 1)) before next old new
  one_pipe own pipe before now next old slots new there made left grown tasks = record {
    left = left_then before now next made.left left;
    grown = grown_then old slots new made.grown grown;
    added = λ labels labelled net for.
        one_more (λ at (pipe : PipeForm). Tasks at pipe pipe.tasks new net) (layout_in m) own pipe there
        (nets_left m before now (Tasks own pipe pipe.tasks new) made.left tasks labels labelled net for)
        (λ at other less is task lane few within. slot_kept net slots new at other task lane grown (made.added labels labelled net for at other less is task lane few within));
  }

  module _ (count own : ℕ) (before now : StockForm) (slots : List (Option DriverState)) (drivers : List DriverState) (made : Made (Pipes own) before now (replicate count None) slots)
      (are : slots ≡ map Some drivers) where
    pub all_new : All IsNew drivers
    all_new = all_from IsNew drivers (λ n d there. made.grown.fresh (λ number e full. absurd (none_filled count number e full)) n d (ap (λ ss. slice_get ss n) are ∙ some_at drivers n d there))

    pub all_made : CanMake m → length (layout_in m) ≤ own → count ≡ drivers_in (layout_in m) → InNets m before (λ net. AreDriversOf net drivers)
    all_made can all counted labels labelled net for = record {
      typed = subst (λ layout. PipesAreTyped layout net.types) (sym for.layout) (subst (PipesAreTyped (layout_in m)) (sym for.types) can.typed);
      parts = λ at pipe there place less.
          let has = can.filters at pipe (ap (λ l. slice_get l at) (sym for.layout) ∙ there) place less in
          let own = for.filters at place has.cell has.there in
          ap length (ap net.links.parts own.0 ∙ own.1) ∙ has.count;
      count = sym (length-map drivers Some) ∙ ap length (sym are) ∙ made.grown.count ∙ length-replicate count None ∙ counted ∙ ap drivers_in (sym for.layout);
      each = λ at pipe there task lane few within. slot_driver net drivers slots at pipe task lane are
          (each (λ at (pipe : PipeForm). Tasks at pipe pipe.tasks slots net) (layout_in m) own all (made.added labels labelled net for) at pipe (ap (λ l. slice_get l at) (sym for.layout) ∙ there) task lane few within);
    }
