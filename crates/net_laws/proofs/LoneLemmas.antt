-- Where a pipe has one driver in each task.
use Rattle.std.proofs.Common.{◌≡◌, ℕ, List, ◌++◌, Bool, true, false, ◌⊎◌, inl, inr, refl, ap, ◌∙◌}
use Rattle.std.specs.Prelude.{Result, Ok, Err, Option, None, not, ◌&&◌, ◌||◌, if◌then◌else◌}
use Rattle.std.specs.List.{list_any}
use Rattle.std.specs.Option.{ok_or}
use Rattle.std.proofs.lemmas.List.Folds.{list_any-append}
use Rattle.sql_exprs.specs.Typing.{Path, typed_then}
use Rattle.plan_docs.specs.declared.plan.Placement.{Placement}
use Rattle.plan_spreads.specs.declared.spread.RowSpread.{RowSpread}
use Rattle.plan_spreads.specs.Nodes.{over}
use Rattle.plan_spreads.specs.Plans.{is_single}
use Rattle.plan_spreads.specs.Runs.{tasks_of}
use Rattle.plan_layout.specs.Pipes.{SourceForm, StepForm, TargetForm}
use Rattle.plan_layout.specs.Steps.{builds, drivers_in_task, groups_rows, is_shared}

-- why a pipe of w drivers has one
pub record Lone (placement : Placement) (w : ℕ) (source : SourceForm) (steps : List StepForm) : Type 0 where
  pub groups : list_any groups_rows steps ≡ true → w ≡ 1
  pub unshared : is_shared source ≡ false → w ≡ 1
  pub single : is_single placement ≡ true → w ≡ 1

abbrev least : Bool → Bool → Bool → ℕ → ℕ
least shared groups built d = if shared && (not groups && not built) then d else 1

by_groups : (shared groups built : Bool) (d : ℕ) → groups ≡ true → least shared groups built d ≡ 1
by_groups true true built d h = refl
by_groups true false built d h = absurd cc
by_groups false groups built d h = refl

by_source : (shared groups built : Bool) (d : ℕ) → shared ≡ false → least shared groups built d ≡ 1
by_source true groups built d h = absurd cc
by_source false groups built d h = refl

by_target : (shared groups built : Bool) (d : ℕ) → built ≡ true → least shared groups built d ≡ 1
by_target true true built d h = refl
by_target true false true d h = refl
by_target true false false d h = absurd cc
by_target false groups built d h = refl

by_tasks : (shared groups built : Bool) (d : ℕ) → d ≡ 1 → least shared groups built d ≡ 1
by_tasks true true built d h = refl
by_tasks true false true d h = refl
by_tasks true false false d h = h
by_tasks false groups built d h = refl

pub lone_of : (placement : Placement) (d w : ℕ) (source : SourceForm) (steps : List StepForm) (target : TargetForm)
    → w ≡ drivers_in_task (tasks_of d placement) source steps target → Lone placement w source steps
lone_of placement d w source steps target is =
    let shared = is_shared source in
    let groups = list_any groups_rows steps in
    let built = builds target in
    let most = tasks_of d placement in
    record {
      groups = λ h. is ∙ by_groups shared groups built most h;
      unshared = λ h. is ∙ by_source shared groups built most h;
      single = λ h. is ∙ by_tasks shared groups built most (ap (λ b. if b then 1 else d) h);
    }

pub builder_alone : (placement : Placement) (d w : ℕ) (source : SourceForm) (steps : List StepForm) (target : TargetForm)
    → w ≡ drivers_in_task (tasks_of d placement) source steps target → builds target ≡ true → w ≡ 1
builder_alone placement d w source steps target is h = is ∙ by_target (is_shared source) (list_any groups_rows steps) (builds target) (tasks_of d placement) h

either_first : (a b : Bool) → a ≡ true → a || b ≡ true
either_first true b h = refl
either_first false b h = absurd cc

either_second : (a b : Bool) → b ≡ true → a || b ≡ true
either_second true b h = refl
either_second false b h = h

-- so it has for the first of its steps
pub lone_before : (placement : Placement) (w : ℕ) (source : SourceForm) (steps rest last : List StepForm) → steps ≡ rest ++ last → Lone placement w source steps
    → Lone placement w source rest
lone_before placement w source steps rest last are lone = record {
  groups = λ h. lone.groups (ap (list_any groups_rows) are ∙ list_any-append groups_rows rest last ∙ either_first (list_any groups_rows rest) (list_any groups_rows last) h);
  unshared = lone.unshared;
  single = lone.single;
}

pub lone_groups : (placement : Placement) (w : ℕ) (source : SourceForm) (steps rest last : List StepForm) → steps ≡ rest ++ last → list_any groups_rows last ≡ true
    → Lone placement w source steps → w ≡ 1
lone_groups placement w source steps rest last are h lone =
    lone.groups (ap (list_any groups_rows) are ∙ list_any-append groups_rows rest last ∙ either_second (list_any groups_rows rest) (list_any groups_rows last) h)

-- one task runs the node, or it has a spread
abbrev pub Fine : Placement → Result RowSpread Path → Type 0
Fine placement spread = (is_single placement ≡ true) ⊎ ((t : RowSpread) × (spread ≡ Ok t))

pub fine_over : (placement : Placement) (path : Path) (input : Result RowSpread Path) (spread : RowSpread → Option RowSpread) → Fine placement (over path input spread)
    → Fine placement input
fine_over placement path input spread (inl h) = inl h
fine_over placement path (Ok s) spread (inr h) = inr (s, refl)
fine_over placement path (Err at) spread (inr (t, h)) = absurd cc

-- what has no say in the spread of its input
pub fine_below : (placement : Placement) (input : Result RowSpread Path) → Fine placement (typed_then input (λ below. Ok below)) → Fine placement input
fine_below placement (Ok s) h = h
fine_below placement (Err at) h = h

-- what has no spread over any other is run by one task
pub fine_none : (placement : Placement) (path : Path) (input : Result RowSpread Path) (spread : RowSpread → Option RowSpread) → ((s : RowSpread) → spread s ≡ None)
    → Fine placement (over path input spread) → is_single placement ≡ true
fine_none placement path input spread none (inl h) = h
fine_none placement path (Ok s) spread none (inr (t, h)) =
    let refused : ok_or (spread s) path ≡ Err path = ap (λ o. ok_or o path) (none s) in
    absurd cc
fine_none placement path (Err at) spread none (inr (t, h)) = absurd cc

-- and where both sides are asked for
pub fine_left : (placement : Placement) (path : Path) (left right : Result RowSpread Path) (spread : RowSpread → RowSpread → Option RowSpread)
    → Fine placement (typed_then left (λ l. over path right (spread l))) → Fine placement left
fine_left placement path left right spread (inl h) = inl h
fine_left placement path (Ok l) right spread (inr h) = inr (l, refl)
fine_left placement path (Err at) right spread (inr (t, h)) = absurd cc

pub fine_right : (placement : Placement) (path : Path) (left right : Result RowSpread Path) (spread : RowSpread → RowSpread → Option RowSpread)
    → Fine placement (typed_then left (λ l. over path right (spread l))) → Fine placement right
fine_right placement path left right spread (inl h) = inl h
fine_right placement path (Ok l) right spread (inr h) = fine_over placement path right (spread l) (inr h)
fine_right placement path (Err at) right spread (inr (t, h)) = absurd cc
