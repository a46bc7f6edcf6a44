-- What stages of drivers know of the domains of a join's dynamic filters is that of the rows of its right side, in all tasks.
use Rattle.std.proofs.Common.{◌≡◌, ℕ, ◌+◌, ◌<◌, zero, suc, List, [], ◌∷◌, ◌++◌, Bool, true, false, Option, None, Some, map, length, refl, ap, sym, subst, ◌∙◌, arith}
use Rattle.std.specs.Prelude.{All, Contains, IfSome, ◌==◌, ◌&&◌, flat_map, get_or, if◌then◌else◌, option_map, slice_get, unwrap_or}
use Rattle.std.specs.List.{range_with_len}
use Rattle.std.specs.Option.{option_to_list}
use Rattle.std.proofs.lemmas.Bool.{eq-eqb, eqb-true}
use Rattle.std.proofs.lemmas.List.Elements.{All-append, All-contains, All-contains_itself, All-head, All-nil, All-tail, Contains-append_left, Contains-append_right}
use Rattle.sql_values.specs.Cells.{cell}
use Rattle.sql_values.specs.declared.value.Value.{Value}
use Rattle.operator_core.specs.Rows.{Row}
use Rattle.operator_core.specs.Stages.{last_finished}
use Rattle.bag_laws.specs.Gather.{gather}
use Rattle.plan_trees.specs.declared.tree.Pair.{Pair}
use Rattle.plan_trees.specs.TreeForms.{pair_view}
use Rattle.plan_docs.specs.declared.node.DynamicFilter.{DynamicFilter}
use Rattle.plan_run_laws.specs.Nets.{of_tasks}
use Rattle.plan_run_laws.specs.RunPlans.{RunPlan}
use Rattle.plan_run_laws.specs.Stops.{StoppedPipe}
use Rattle.driver_net_laws.specs.Pipes.{PipeState, stopped}
use Rattle.dyn_filter.specs.declared.domain.Domain.{Domain}
use Rattle.dyn_filter.specs.Cells.{AreDomainsOf, domain_at, note_at}
use Rattle.dyn_filter.specs.Domains.{IsDomainOf}
use Rattle.dyn_filter.specs.Filters.{FilterState, IsFiltering, KnowsAll}
use Rattle.driver_loop.specs.BuildFilters.{BuildFilterState, IsFilterOf, KnowsOwnDomain, part_note}
use Rattle.driver_loop.specs.Drivers.{DriverState, IsBuiltAs}
use Rattle.driver_loop.specs.Ends.{has_ended, is_told, was_given}
use Rattle.driver_loop.specs.Turns.{KnowsParts, filter_note_of_stage, filter_of_stage, filters_of, look_note, note_of_build_filter}
use Rattle.driver_loop.specs.contracts.stage.StageOperator.TheImpl.{ghosts}
use Rattle.driver_loop.specs.declared.pieces.FilterCellNote.{FilterCellNote}
use Rattle.driver_loop.specs.declared.stage.Stage.{Stage}
use Rattle.sieve_laws.specs.KnownDomains.{AreKnownOf, IsKnownOf, JoinFilter}
use Rattle.sieve_laws.proofs.SureLemmas.{domain_of_parts}
use Rattle.plan_layout.specs.Pipes.{BuildForm, TargetForm, driver_number}
use Rattle.plan_layout.specs.Pipes as form
use Rattle.net_laws.specs.RunPipes.{Alone, OfPipe, PipeIn}
use Rattle.driver_net_laws.specs.FilterCells.{LearnedPart}
use Rattle.driver_net_laws.specs.Nets.{AreDriversOf, ArePartsFor, IsPartFor, IsTargetFor, NetForm, right_columns}
use Rattle.driver_net_laws.specs.Settled.{AreSettled, filter_builds_of, filter_looks_of}
use Rattle.driver_net_laws.specs.States.{Flow, IsFlowOf, pipe_of}
use Rattle.net_laws.proofs.ListLemmas.{All-one, same_some}
use Rattle.net_laws.proofs.NoteLemmas.{P, contains_flat, contains_got, pipe_is, still}

-- the domain that is known of the filter whose cell has this bell and so many parts, if it is
abbrev pub domain_in : ℕ → ℕ → Option FilterState → List Domain
domain_in bell n None = []
domain_in bell n (Some op) = if op.bell == bell && (length op.note.parts == n) then option_to_list op.known else []

-- those that stages of drivers know of it
abbrev pub domains_in : ℕ → ℕ → DriverState → List Domain
domains_in bell n d = flat_map (λ (s : Stage). domain_in bell n (filter_of_stage s)) d.stages

abbrev pub domains_known : List DriverState → ℕ → ℕ → List Domain
domains_known drivers bell n = flat_map (domains_in bell n) drivers

abbrev pub known_as : ℕ → Domain → JoinFilter
known_as pair domain = record { pair = pair; known = Some domain }

-- what is known of the filters of a join, from a place among them on
abbrev pub known_from : NetForm → List DriverState → ℕ → ℕ → ℕ → List DynamicFilter → List JoinFilter
known_from net drivers at n place [] = []
known_from net drivers at n place (f ∷ fs) =
    map (known_as f.key) (domains_known drivers (net.links.filters at place) n) ++ known_from net drivers at n (place + 1) fs

module _ {X : Type 0} where
  pub first_there : (x : X) (xs : List X) → Contains (x ∷ xs) x
  first_there x xs = (0, omega arith, refl)

  pub later_there : (y : X) (xs : List X) (x : X) → Contains xs x → Contains (y ∷ xs) x
  later_there y xs x (k, lt, same) = (suc k, omega (arith, lt), same)

module _ {X Y : Type 0} where
  pub contains_map : (f : X → Y) (xs : List X) (x : X) → Contains xs x → Contains (map f xs) (f x)
  contains_map f [] x (k, lt, same) = absurd (omega (arith, lt))
  contains_map f (y ∷ xs) x (zero, lt, same) = (0, omega arith, ap f same)
  contains_map f (y ∷ xs) x (suc k, lt, same) = later_there (f y) (map f xs) (f x) (contains_map f xs x (k, omega (arith, lt), same))

  all_flat : (Q : Y → Type 0) (f : X → List Y) (xs : List X) → All (λ (x : X). All Q (f x)) xs → All Q (flat_map f xs)
  all_flat Q f [] all = All-nil Q
  all_flat Q f (x ∷ xs) all =
      All-append Q (f x) (flat_map f xs) (All-head (λ (z : X). All Q (f z)) x xs all) (all_flat Q f xs (All-tail (λ (z : X). All Q (f z)) x xs all))

-- what holds of each item holds of all
all_of_each : {X : Type 0} (Q : X → Type 0) (xs : List X) → ((x : X) → Contains xs x → Q x) → All Q xs
all_of_each Q xs each k d lt = each (get_or xs k d) (All-contains_itself xs k d lt)

-- the domain that is known among others
pub domain_there : (drivers : List DriverState) (bell n : ℕ) (d : DriverState) → Contains drivers d → (s : Stage) → Contains d.stages s → (op : FilterState)
    → filter_of_stage s ≡ Some op
    → op.bell ≡ bell → length op.note.parts ≡ n → (domain : Domain) → op.known ≡ Some domain → Contains (domains_known drivers bell n) domain
domain_there drivers bell n d there s own op is rings size domain known =
    let both : op.bell == bell && (length op.note.parts == n) ≡ true = λ i. eq-eqb op.bell bell rings i && eq-eqb (length op.note.parts) n size i in
    let here = subst (λ (o : Option Domain). Contains (option_to_list o) domain) (sym known) (first_there domain []) in
    let one = subst (λ (b : Bool). Contains (if b then option_to_list op.known else []) domain) (sym both) here in
    contains_flat (domains_in bell n) drivers d domain there
    (contains_flat (λ (t : Stage). domain_in bell n (filter_of_stage t)) d.stages s domain own
    (subst (λ (o : Option FilterState). Contains (domain_in bell n o) domain) (sym is) one))

pub known_there : (net : NetForm) (drivers : List DriverState) (at n place : ℕ) (fs : List DynamicFilter) (k : ℕ) (f : DynamicFilter)
    → slice_get fs k ≡ Some f → (domain : Domain)
    → Contains (domains_known drivers (net.links.filters at (place + k)) n) domain → Contains (known_from net drivers at n place fs) (known_as f.key domain)
known_there net drivers at n place [] k f is domain there = absurd cc
known_there net drivers at n place (g ∷ fs) zero f is domain there =
    let same : place + 0 ≡ place = omega arith in
    let here = subst (λ (i : ℕ). Contains (domains_known drivers (net.links.filters at i) n) domain) same there in
    let own = contains_map (known_as g.key) (domains_known drivers (net.links.filters at place) n) domain here in
    subst (λ (h : DynamicFilter). Contains (known_from net drivers at n place (g ∷ fs)) (known_as h.key domain)) (same_some is)
    (Contains-append_left (map (known_as g.key) (domains_known drivers (net.links.filters at place) n)) (known_from net drivers at n (place + 1) fs)
    (known_as g.key domain) own)
known_there net drivers at n place (g ∷ fs) (suc k) f is domain there =
    let same : place + suc k ≡ place + 1 + k = omega arith in
    let here = subst (λ (i : ℕ). Contains (domains_known drivers (net.links.filters at i) n) domain) same there in
    Contains-append_right (map (known_as g.key) (domains_known drivers (net.links.filters at place) n)) (known_from net drivers at n (place + 1) fs)
    (known_as f.key domain)
    (known_there net drivers at n (place + 1) fs k f is domain here)

-- where each domain of each filter is that of the right side, so it is of all that is known
module _ (on : List (ℕ × ℕ)) (n : ℕ) (right : StoppedPipe) where
  abbrev pub IsKnownAs : ℕ → Domain → Type 0
  IsKnownAs pair domain = IsKnownOf on n right (known_as pair domain) domain

  known_each : (pair : ℕ) (domains : List Domain) → All (IsKnownAs pair) domains → AreKnownOf on n right (map (known_as pair) domains)
  known_each pair [] all = tt
  known_each pair (d ∷ domains) all = (
    (λ domain same. subst (λ (e : Domain). IsKnownOf on n right (known_as pair d) e) (same_some same) (All-head (IsKnownAs pair) d domains all)),
    known_each pair domains (All-tail (IsKnownAs pair) d domains all),
  )

  known_both : (first rest : List JoinFilter) → AreKnownOf on n right first → AreKnownOf on n right rest → AreKnownOf on n right (first ++ rest)
  known_both [] rest one other = other
  known_both (f ∷ first) rest one other = (one.0, known_both first rest one.1 other)

  pub all_known_of : (net : NetForm) (drivers : List DriverState) (at place : ℕ) (fs : List DynamicFilter)
      → ((k : ℕ) (f : DynamicFilter) → slice_get fs k ≡ Some f → All (IsKnownAs f.key) (domains_known drivers (net.links.filters at (place + k)) n))
      → AreKnownOf on n right (known_from net drivers at n place fs)
  all_known_of net drivers at place [] each = tt
  all_known_of net drivers at place (f ∷ fs) each =
      let same : place + 0 ≡ place = omega arith in
      known_both (map (known_as f.key) (domains_known drivers (net.links.filters at place) n)) (known_from net drivers at n (place + 1) fs)
      (known_each f.key (domains_known drivers (net.links.filters at place) n)
      (subst (λ (i : ℕ). All (IsKnownAs f.key) (domains_known drivers (net.links.filters at i) n)) same (each 0 f refl)))
      (all_known_of net drivers at (place + 1) fs (λ k g is.
      let next : place + suc k ≡ place + 1 + k = omega arith in
      subst (λ (i : ℕ). All (IsKnownAs g.key) (domains_known drivers (net.links.filters at i) n)) next (each (suc k) g is)))

-- domains of lists of values, in their order
domains_in_order : (values : ℕ → List Value) (from : ℕ) (domains : List Domain)
    → ((k : ℕ) → k < length domains → IsDomainOf (values (from + k)) (domain_at domains k))
    → AreDomainsOf (map values (range_with_len from (length domains))) domains
domains_in_order values from [] each = tt
domains_in_order values from (d ∷ domains) each =
    let same : from + 0 ≡ from = omega arith in (
      subst (λ (i : ℕ). IsDomainOf (values i) d) same (each 0 (omega arith)),
      domains_in_order values (from + 1) domains (λ k lt.
          let next : from + suc k ≡ from + 1 + k = omega arith in
          subst (λ (i : ℕ). IsDomainOf (values i) (domain_at domains k)) next (each (suc k) (omega (arith, lt)))),
    )

right_at : (on : List Pair) (i : ℕ) → get_or (right_columns on) i 0 ≡ (get_or (map pair_view on) i (0, 0)).1
right_at [] i = refl
right_at (pair ∷ on) zero = refl
right_at (pair ∷ on) (suc i) = right_at on i

-- whoever knows the domain of its part, and was never refused there, published its own
own_domain : (own : BuildFilterState) (domain : Domain) → KnowsOwnDomain own → (part_note own).known ≡ Some domain → (part_note own).refused ≡ 0
    → (own.is_published ≡ true) × (own.domain ≡ domain)
own_domain own domain knows known none = by own.is_published refl
  where
    by : (b : Bool) → own.is_published ≡ b → (own.is_published ≡ true) × (own.domain ≡ domain)
    by true is = (is, same_some (sym (knows.known is) ∙ known))
    by false is = let no : None ≡ Some domain = sym (knows.unknown is none) ∙ known in absurd cc

-- the filter at a place of a target
part_at : (net : NetForm) (at task : ℕ) (on : List Pair) (from : ℕ) (fs : List DynamicFilter) (owns : List BuildFilterState)
    → ArePartsFor net at task on from fs owns
    → (k : ℕ) (f : DynamicFilter) → slice_get fs k ≡ Some f → (own : BuildFilterState) × Contains owns own × IsPartFor net at task on (from + k) f own
part_at net at task on from [] owns are k f is = absurd cc
part_at net at task on from (g ∷ fs) [] are k f is = absurd are
part_at net at task on from (g ∷ fs) (own ∷ owns) are zero f is =
    let same : from ≡ from + 0 = omega arith in
    let mine = subst (λ (h : DynamicFilter). IsPartFor net at task on from h own) (same_some is) are.0 in
    (own, first_there own owns, subst (λ (i : ℕ). IsPartFor net at task on i f own) same mine)
part_at net at task on from (g ∷ fs) (own ∷ owns) are (suc k) f is =
    let same : from + 1 + k ≡ from + suc k = omega arith in
    let r = part_at net at task on (from + 1) fs owns are.1 k f is in
    (r.0, later_there own owns r.0 r.1, subst (λ (i : ℕ). IsPartFor net at task on i f r.0) same r.2)

-- the one driver of the pipe that builds is done in the task, and gave rows whose values in the column have the domain
record Published (task column : ℕ) (domain : Domain) (p : PipeState Stage) : Type 0 where
  lone : p.drivers ≡ 1
  done : p.done task 0 ≡ true
  of : IsDomainOf (map (λ (row : Row). cell row column) (p.gave task 0)) domain

module _ (net : NetForm) (drivers : List DriverState) (of : AreDriversOf net drivers) (settled : AreSettled net drivers) (flow : Flow)
    (flowed : IsFlowOf net.layout drivers flow) where
  abbrev pipes : ℕ → PipeState Stage
  pipes = P net drivers of settled flow flowed

  module _ (n j : ℕ) (build : BuildForm) (Is : OfPipe) (p : PipeIn net.layout n (form.cell build) j (Alone Is)) (place : ℕ) (f : DynamicFilter)
      (there : slice_get build.filters place ≡ Some f) where
    abbrev column : ℕ
    column = (get_or (map pair_view build.on) f.key (0, 0)).1

    -- what is known of the part of a task
    published : (task : ℕ) → task < n → (op : FilterState) → Contains (filter_looks_of drivers) (look_note op) → op.bell ≡ net.links.filters j place
        → (domain : Domain) → (note_at op.note.parts task).known ≡ Some domain → Published task column domain (pipes j)
    published task lt op at rings domain known =
        let lone : p.pipe.drivers ≡ 1 = p.so.0 in
        let some : 0 < p.pipe.drivers = omega (arith, lone) in
        let h = of.each j p.pipe p.is task 0 (omega (arith, lt, p.tasks)) some in
        let d = h.driver in
        let number = driver_number p.pipe task 0 in
        let at_driver = contains_got drivers number d h.there in
        let b = subst (λ (t : TargetForm). IsTargetFor net j task t d.target) p.has h.is.target in
        let part = part_at net j task build.on 0 build.filters b.build.filters b.filters place f there in
        let own = part.0 in
        let same_place : 0 + place ≡ place = omega arith in
        let mine = note_of_build_filter own in
        let of_target = subst (λ (fs : List BuildFilterState). Contains (map note_of_build_filter fs) mine) (sym (ap filters_of b.is))
        (contains_map note_of_build_filter b.build.filters own part.1) in
        let within = contains_flat (λ (e : DriverState). map note_of_build_filter (filters_of e.target)) drivers d mine at_driver of_target in
        let all = All-contains (λ (look : FilterCellNote). All (LearnedPart look) (filter_builds_of drivers)) (filter_looks_of drivers)
        (look_note op) settled.parts at in
        let bells = part.2.bell ∙ ap (net.links.filters j) same_place ∙ sym rings in
        let learned = All-contains (LearnedPart (look_note op)) (filter_builds_of drivers) mine all within bells task
        (ap (λ (i : ℕ). Some i) part.2.part) domain known in
        let was = still net drivers of settled flow flowed d at_driver in
        let built = subst (IsBuiltAs d.is_finished) b.is was.built in
        let filter = All-contains (IsFilterOf b.build.source.rows b.build.is_told) b.build.filters own built.4 part.1 in
        let known_own = subst (λ (t : ℕ). (note_at own.note.parts t).known ≡ Some domain) (sym part.2.part) learned.0 in
        let never = subst (λ (t : ℕ). (note_at own.note.parts t).refused ≡ 0) (sym part.2.part) learned.1 in
        let mine_is = own_domain own domain filter.knows known_own never in
        let went = flowed.given number d h.there in
        let rows = subst (λ t. was_given t (flow.gave number)) b.is went.0 in
        let over = went.1.told was.whole (ap is_told b.is ∙ filter.told mine_is.0) in
        let of_rows = subst (λ (x : Domain). IsDomainOf (map (λ (row : Row). cell row own.column) b.build.source.rows) x) mine_is.1 filter.of in
        let of_gave = subst (λ (rs : List Row). IsDomainOf (map (λ (row : Row). cell row own.column) rs) domain) (sym rows) of_rows in
        let of_column = subst (λ (c : ℕ). IsDomainOf (map (λ (row : Row). cell row c) (flow.gave number)) domain)
        (part.2.column ∙ right_at build.on f.key) of_gave in
        let here : Published task column domain (pipe_of drivers flow j p.pipe) = record {
          lone = lone;
          done = ap (λ (o : Option DriverState). unwrap_or
              (option_map (λ (e : DriverState). last_finished ghosts (has_ended e.source) e.stages) o) false) h.there ∙ over;
          of = of_column;
        } in
        subst (Published task column domain) (sym (pipe_is net drivers of settled flow flowed j p.pipe p.is)) here

    module _ (right : RunPlan) (key : f.key < length (map pair_view build.on)) where
      abbrev IsRight : Domain → Type 0
      IsRight domain = IsKnownOf (map pair_view build.on) n (stopped right (pipes j)) (known_as f.key domain) domain

      abbrev values : ℕ → List Value
      values k = map (λ (row : Row). cell row column) (of_tasks (pipes j).drivers (pipes j).gave k)

      -- what is known of all parts
      of_right : (op : FilterState) → Contains (filter_looks_of drivers) (look_note op) → op.bell ≡ net.links.filters j place → length op.note.parts ≡ n
          → (domain : Domain) → KnowsAll op.note.parts domain → IsRight domain
      of_right op at rings size domain (domains, are, union) =
          let many : n ≡ length domains = sym size ∙ are.size in
          let each : (k : ℕ) → k < length domains → Published k column (domain_at domains k) (pipes j) =
          λ k lt. published k (omega (arith, lt, many)) op at rings (domain_at domains k) (are.known k lt) in
          record {
            pair = key;
            done = λ k d lt in_lane.
                let one = each k (omega (arith, lt, many)) in
                let first : d ≡ 0 = omega (arith, in_lane, one.lone) in
                ap ((pipes j).done k) first ∙ one.done;
            of = domain_of_parts n column (of_tasks (pipes j).drivers (pipes j).gave) domains domain
                (subst (λ (m : ℕ). AreDomainsOf (map values (range_with_len 0 m)) domains) (sym many)
                (domains_in_order values 0 domains (λ k lt.
                let one = each k lt in
                let here : k ≡ 0 + k = omega arith in
                let alone = ap (λ (m : ℕ). gather m ((pipes j).gave k)) one.lone in
                subst (λ (i : ℕ). IsDomainOf (values i) (domain_at domains k)) here
                (subst (λ (rows : List Row). IsDomainOf (map (λ (row : Row). cell row column) rows) (domain_at domains k)) (sym alone) one.of))))
                union;
          }

      -- where a stage's note knows a domain
      of_note : (op : FilterState) → Contains (filter_looks_of drivers) (look_note op) → op.bell ≡ net.links.filters j place → length op.note.parts ≡ n
          → (known : Option Domain) → IfSome known (KnowsAll op.note.parts) → All IsRight (option_to_list known)
      of_note op at rings size None knows = All-nil IsRight
      of_note op at rings size (Some domain) knows = All-one IsRight domain (of_right op at rings size domain knows)

      of_op : (op : FilterState) → Contains (filter_looks_of drivers) (look_note op) → IfSome op.known (KnowsAll op.note.parts)
          → (b c : Bool) → op.bell == net.links.filters j place ≡ b → length op.note.parts == n ≡ c
          → All IsRight (if b && c then option_to_list op.known else [])
      of_op op at knows false c rings size = All-nil IsRight
      of_op op at knows true false rings size = All-nil IsRight
      of_op op at knows true true rings size =
          of_note op at (eqb-true op.bell (net.links.filters j place) rings) (eqb-true (length op.note.parts) n size) op.known knows

      of_stage : (d : DriverState) → Contains drivers d → (s : Stage) → Contains d.stages s → (o : Option FilterState) → filter_of_stage s ≡ o
          → IfSome o (λ op. IsFiltering op.parts op.note op.known)
          → All IsRight (domain_in (net.links.filters j place) n o)
      of_stage d at_driver s own None is knows = All-nil IsRight
      of_stage d at_driver s own (Some op) is knows =
          let mine = subst (λ (o : Option FilterState). Contains (map look_note (option_to_list o)) (look_note op)) (sym is)
          (first_there (look_note op) []) in
          let at = contains_flat (λ (e : DriverState). flat_map filter_note_of_stage e.stages) drivers d (look_note op) at_driver
          (contains_flat filter_note_of_stage d.stages s (look_note op) own mine) in
          of_op op at knows.knows (op.bell == net.links.filters j place) (length op.note.parts == n) refl refl

      of_driver : (d : DriverState) → Contains drivers d → All IsRight (domains_in (net.links.filters j place) n d)
      of_driver d at_driver =
          all_flat IsRight (λ (s : Stage). domain_in (net.links.filters j place) n (filter_of_stage s)) d.stages
          (all_of_each (λ (s : Stage). All IsRight (domain_in (net.links.filters j place) n (filter_of_stage s))) d.stages (λ s own.
          of_stage d at_driver s own (filter_of_stage s) refl
          (All-contains KnowsParts d.stages s (still net drivers of settled flow flowed d at_driver).knows own)))

      pub of_drivers : All IsRight (domains_known drivers (net.links.filters j place) n)
      of_drivers =
          all_flat IsRight (domains_in (net.links.filters j place) n) drivers
          (all_of_each (λ (d : DriverState). All IsRight (domains_in (net.links.filters j place) n d)) drivers of_driver)
