-- Rows that passed from pipe to pipe keep their types.
use Rattle.std.proofs.Common.{◌≡◌, ◌⊎◌, inl, inr, ℕ, zero, suc, ◌<◌, ◌≤◌, List, subst, arith}
use Rattle.std.specs.Prelude.{IsTrue}
use Rattle.std.proofs.lemmas.Bool.{cases_lt}
use Rattle.std.proofs.lemmas.List.Elements.{All-filter}
use Rattle.sql_values.specs.declared.types.SqlType.{SqlType}
use Rattle.sql_values.specs.ColumnRows.{fits_row}
use Rattle.col_pages.specs.Fits.{AllFit}
use Rattle.operator_core.specs.Rows.{Row}
use Rattle.bag_laws.specs.Gather.{gather}
use Rattle.bag_laws.proofs.TopLemmas.{All-back, All-front, All-gather}
use Rattle.plan_run_laws.specs.RunPlans.{Output, broadcast, hashed, single}
use Rattle.plan_run_laws.specs.Runs.{sent}
use Rattle.plan_run_laws.specs.Stops.{Hop}
use Rattle.driver_net_laws.proofs.FitLemmas.{front_of_source}

abbrev Fits : List SqlType → Row → Type 0
Fits types row = IsTrue (fits_row types row)

pub gathered_fit : (types : List SqlType) (n : ℕ) (lists : ℕ → List Row) → ((k : ℕ) → k < n → AllFit types (lists k)) → AllFit types (gather n lists)
gathered_fit types n lists each = All-gather (Fits types) n lists each

first_or_last : (types : List SqlType) (n : ℕ) (lists : ℕ → List Row) (k : ℕ) → (k < n → AllFit types (lists k)) → AllFit types (lists n) → k < suc n → (k < n) ⊎ (n ≤ k)
    → AllFit types (lists k)
first_or_last types n lists k before last lt (inl less) = before less
first_or_last types n lists k before last lt (inr more) =
    let same : n ≡ k = omega (arith, lt, more) in
    subst (λ (i : ℕ). AllFit types (lists i)) same last

pub one_fits : (types : List SqlType) (n : ℕ) (lists : ℕ → List Row) → AllFit types (gather n lists) → (k : ℕ) → k < n → AllFit types (lists k)
one_fits types zero lists all k lt = absurd (omega (arith, lt))
one_fits types (suc n) lists all k lt =
    first_or_last types n lists k (one_fits types n lists (All-front (Fits types) (gather n lists) (lists n) all) k) (All-back (Fits types) (gather n lists) (lists n) all) lt (cases_lt k n)

pub sent_fits : (types : List SqlType) (output : Output) (n k : ℕ) (rows : List Row) → AllFit types rows → AllFit types (sent output n k rows)
sent_fits types single n k rows all = all
sent_fits types (hashed columns) n k rows all = All-filter _ (Fits types) rows all
sent_fits types broadcast n k rows all = all

pub took_fits : (types : List SqlType) (put took : List Row) (IsOver HasClosed : Type 0) → Hop put took IsOver HasClosed → AllFit types put → AllFit types took
took_fits types put took IsOver HasClosed hop all = front_of_source types took hop.left put hop.some all
