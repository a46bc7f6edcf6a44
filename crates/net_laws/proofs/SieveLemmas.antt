-- The sieves of the joins of a run, as the drivers know their domains, sift the scans that they come down to.
use Rattle.std.proofs.Common.{◌≡◌, ℕ, ◌+◌, zero, suc, List, [], ◌∷◌, Bool, true, false, Some, map, length, refl, ap, sym, subst, ◌∙◌, arith}
use Rattle.std.specs.Prelude.{All, Contains, ◌==◌, get_or, if◌then◌else◌, slice_get}
use Rattle.std.proofs.lemmas.Bool.{eq-eqb, eqb-true}
use Rattle.std.proofs.lemmas.List.{length-map}
use Rattle.std.proofs.lemmas.List.Elements.{All-contains}
use Rattle.std.proofs.lemmas.Option.{slice_get_within}
use Rattle.sql_values.specs.declared.types.SqlType.{SqlType}
use Rattle.plan_docs.specs.declared.node.DynamicFilter.{DynamicFilter}
use Rattle.plan_trees.specs.TreeForms.{pair_view}
use Rattle.plan_run_laws.specs.RunPlans.{RunPlan}
use Rattle.driver_net_laws.specs.Pipes.{PipeState, stopped}
use Rattle.dyn_filter.specs.declared.domain.Domain.{Domain}
use Rattle.dyn_filter.specs.Cells.{IsNoteOf, NotesState}
use Rattle.dyn_filter.specs.Filters.{FilterState}
use Rattle.driver_loop.specs.Drivers.{DriverState}
use Rattle.driver_loop.specs.Turns.{KnowsParts, filter_of_stage}
use Rattle.driver_loop.specs.contracts.stage.StageOperator.TheImpl.{ghosts}
use Rattle.driver_loop.specs.declared.stage.Stage.{Stage}
use Rattle.lost_row_laws.specs.Arrivals.{arriving}
use Rattle.lost_row_laws.specs.Domains.{sieve_of}
use Rattle.lost_row_laws.specs.Runs.{AreTyped}
use Rattle.lost_row_laws.specs.Sieves.{Sieve}
use Rattle.lost_row_laws.specs.Stops.{AreSure}
use Rattle.sieve_laws.specs.KnownDomains.{JoinFilter, sieves_of}
use Rattle.sieve_laws.proofs.ComingLemmas.{arriving_comes_down, own_arrives}
use Rattle.sieve_laws.proofs.SureLemmas.{has_sieve, sure}
use Rattle.plan_layout.specs.declared.filters.PlacedFilter.{PlacedFilter}
use Rattle.plan_layout.specs.Filters.{Builds, IsPlaced, filters_built, scan_filters}
use Rattle.plan_layout.specs.Pipes.{BuildForm, PipeForm, SourceForm, StepForm, TargetForm, cell, driver_number, readers, result, side, takers}
use Rattle.plan_layout.specs.Runs.{HasScan}
use Rattle.plan_layout.proofs.ScanFilterLemmas.{scan_filters_are_for}
use Rattle.net_laws.specs.RunPipes.{Alone, PipeIn, RunsAs}
use Rattle.net_laws.specs.RunJoins.{ReachesIn}
use Rattle.driver_net_laws.specs.Nets.{AreDriversOf, AreInFront, IsFilterFor, NetForm, front_stages}
use Rattle.driver_net_laws.specs.Settled.{AreSettled}
use Rattle.driver_net_laws.specs.States.{Flow, IsFlowOf}
use Rattle.net_laws.specs.Filtered.{FiltersReach}
use Rattle.net_laws.specs.Sifted.{AreSiftedBy, AreSifting, IsSifted, IsSure}
use Rattle.net_laws.proofs.FilterStageLemmas.{IsDynamic, dynamic_raw, noted, one_drops}
use Rattle.net_laws.proofs.FrontLemmas.{in_front}
use Rattle.net_laws.proofs.KnownLemmas.{IsKnownAs, all_known_of, domain_there, domains_known, first_there, known_as, known_from, known_there, later_there, of_drivers}
use Rattle.net_laws.proofs.ListLemmas.{same_some}
use Rattle.net_laws.proofs.NoteLemmas.{P, contains_got, still}
use Rattle.net_laws.proofs.ThroughoutLemmas.{IsBuiltIn, throughout}

abbrev is_built : ℕ → TargetForm → Bool
is_built id (cell build) = build.join == id
is_built id target = false

-- a note of a cell has as many parts
noted_size : (names : List ℕ) (note : NotesState) → IsNoteOf names note → length note.parts ≡ length names
noted_size names note is = sym (length-map note.parts (λ n. n.cell)) ∙ ap (λ (ns : List ℕ). length ns) is

-- what builds the right side of this join
record IsBuildOf (id : ℕ) (target : TargetForm) : Type 0 where
  build : BuildForm
  is : target ≡ cell build
  join : build.join ≡ id

build_of : (id : ℕ) (target : TargetForm) → is_built id target ≡ true → IsBuildOf id target
build_of id (cell build) is = record { build = build; is = refl; join = eqb-true build.join id is }
build_of id result is = absurd cc
build_of id (side at) is = absurd cc
build_of id (readers output at) is = absurd cc
build_of id (takers at) is = absurd cc

module _ (net : NetForm) (drivers : List DriverState) where
  -- the sieves of the domains that are known of the filters of the join whose right side a pipe builds
  abbrev own_sieves : ℕ → ℕ → TargetForm → List Sieve
  own_sieves at n (cell build) = sieves_of (map pair_view build.on) (known_from net drivers at n 0 build.filters)
  own_sieves at n target = []

  -- those of a join, by its id: of these pipes the first one that builds its right side has them
  abbrev sieves_in : ℕ → ℕ → List PipeForm → List Sieve
  sieves_in id at [] = []
  sieves_in id at (pipe ∷ pipes) = if is_built id pipe.target then own_sieves at pipe.tasks pipe.target else sieves_in id (at + 1) pipes

  abbrev pub of_join : ℕ → List Sieve
  of_join id = sieves_in id 0 net.layout

  first_built : (id at i : ℕ) (pipe q : PipeForm) (pipes : List PipeForm) → is_built id q.target ≡ true → q ≡ pipe → i ≡ 0
      → sieves_in id at (q ∷ pipes) ≡ own_sieves (at + i) pipe.tasks pipe.target
  first_built id at i pipe q pipes is same first =
      let here : at ≡ at + i = omega (arith, first) in
      ap (λ (b : Bool). if b then own_sieves at q.tasks q.target else sieves_in id (at + 1) pipes) is
      ∙ ap (λ (p : PipeForm). own_sieves at p.tasks p.target) same ∙ ap (λ (k : ℕ). own_sieves k pipe.tasks pipe.target) here

  -- where no other pipe builds it, the one that does has them
  sieves_found : (id at : ℕ) (pipes : List PipeForm) (i : ℕ) (pipe : PipeForm) → slice_get pipes i ≡ Some pipe → is_built id pipe.target ≡ true
      → ((k : ℕ) (q : PipeForm) → slice_get pipes k ≡ Some q → is_built id q.target ≡ true → k ≡ i)
      → sieves_in id at pipes ≡ own_sieves (at + i) pipe.tasks pipe.target
  sieves_found id at [] i pipe is built only = absurd cc
  sieves_found id at (q ∷ pipes) zero pipe is built only =
      let same : q ≡ pipe = same_some is in
      first_built id at 0 pipe q pipes (ap (λ (p : PipeForm). is_built id p.target) same ∙ built) same refl
  sieves_found id at (q ∷ pipes) (suc i) pipe is built only =
      by (is_built id q.target) refl (sieves_found id (at + 1) pipes i pipe is built (λ k p there b. let e = only (suc k) p there b in omega (arith, e)))
    where
      by : (b : Bool) → is_built id q.target ≡ b → sieves_in id (at + 1) pipes ≡ own_sieves (at + 1 + i) pipe.tasks pipe.target
          → sieves_in id at (q ∷ pipes) ≡ own_sieves (at + suc i) pipe.tasks pipe.target
      by true own rest = let no = only 0 q refl own in absurd (omega (arith, no))
      by false own rest =
          let next : at + 1 + i ≡ at + suc i = omega arith in
          ap (λ (b : Bool). if b then own_sieves at q.tasks q.target else sieves_in id (at + 1) pipes) own ∙ rest
          ∙ ap (λ (k : ℕ). own_sieves k pipe.tasks pipe.target) next

-- the sieve of a domain that is known of a filter arrives at the filter's scan
named : (run : RunPlan) (id : ℕ) (on : List (ℕ × ℕ)) (f : DynamicFilter) → ReachesIn run id on f → (own : ℕ → List Sieve) (filters : List JoinFilter)
    → own id ≡ sieves_of on filters
    → (domain : Domain) → Contains filters (known_as f.key domain)
    → Contains (arriving own [] run f.scan) (sieve_of (record { column = f.column; domain = domain }))
named run id on f r own filters are domain here =
    let s : Sieve = sieve_of (record { column = (get_or on f.key (0, 0)).0; domain = domain }) in
    let there = subst (λ (all : List Sieve). Contains all s) (sym are) (has_sieve on filters (known_as f.key domain) here domain refl) in
    own_arrives own id r.side s there r.within (record { scan = f.scan; column = f.column }) r.comes run [] r.has

module _ (net : NetForm) (drivers : List DriverState) (of : AreDriversOf net drivers) (settled : AreSettled net drivers) (flow : Flow)
    (flowed : IsFlowOf net.layout drivers flow)
    (run : RunPlan) (filters : FiltersReach net.layout run) where
  abbrev pipes : ℕ → PipeState Stage
  pipes = P net drivers of settled flow flowed

  abbrev own : ℕ → List Sieve
  own = of_join net drivers

  abbrev pub due : ℕ → List Sieve
  due = arriving own [] run

  -- what the pipe at a place builds
  own_is : (at : ℕ) (build : BuildForm) (b : Builds net.layout at build)
      → own build.join ≡ sieves_of (map pair_view build.on) (known_from net drivers at b.pipe.tasks 0 build.filters)
  own_is at build b =
      let here : 0 + at ≡ at = omega arith in
      let mine : is_built build.join b.pipe.target ≡ true = ap (is_built build.join) b.gives ∙ eq-eqb build.join build.join refl in
      sieves_found net drivers build.join 0 net.layout at b.pipe b.is mine (λ k q there built.
      let o = build_of build.join q.target built in
      filters.apart.builds k at o.build build (record { pipe = q; is = there; gives = o.is }) b o.join)
      ∙ ap (λ (i : ℕ). own_sieves net drivers i b.pipe.tasks b.pipe.target) here ∙ ap (own_sieves net drivers at b.pipe.tasks) b.gives

  pub reaches : (at : ℕ) (build : BuildForm) → Builds net.layout at build → (k : ℕ) (f : DynamicFilter) → slice_get build.filters k ≡ Some f
      → ReachesIn run build.join (map pair_view build.on) f
  reaches at build b k f there =
      All-contains (ReachesIn run build.join (map pair_view build.on)) build.filters f (filters.reach at build b) (contains_got build.filters k f there)

  -- a join is sure of its sieves
  surely : (id : ℕ) (on : List (ℕ × ℕ)) (n : ℕ) (right : RunPlan) (j : ℕ) → IsBuiltIn net.layout id on n right j → IsSure pipes own id on n right j
  surely id on n right j (build, same, p) =
      let b : Builds net.layout j build = record { pipe = p.pipe; is = p.is; gives = p.has } in
      let pairs = map pair_view build.on in
      let right_side = stopped right (pipes j) in
      let known = all_known_of pairs n right_side net drivers j 0 build.filters (λ k f there.
      let here : k ≡ 0 + k = omega arith in
      subst (λ (i : ℕ). All (IsKnownAs pairs n right_side f.key) (domains_known drivers (net.links.filters j i) n)) here
      (of_drivers net drivers of settled flow flowed n j build (RunsAs net.layout n right) p k f there right (reaches j build b k f there).pair)) in
      let of_pairs = sure pairs n right_side (known_from net drivers j n 0 build.filters) known in
      let of_tasks = subst (λ (m : ℕ). own build.join ≡ sieves_of pairs (known_from net drivers j m 0 build.filters)) p.tasks (own_is j build b) in
      let of_own = subst (AreSure pairs n right_side) (sym of_tasks) of_pairs in
      let of_id = subst (λ (i : ℕ). AreSure pairs n right_side (own i)) same.join of_own in
      subst (λ (ps : List (ℕ × ℕ)). AreSure ps n right_side (own id)) same.pairs of_id

  -- of the filter by which a stage in front drops rows
  module _ (types : List SqlType) (f : PlacedFilter) (placed : IsPlaced net.layout f) (d : DriverState) (at_driver : Contains drivers d)
      (s : Stage) (there : Contains d.stages s) (is : IsFilterFor net types f (ghosts.as_made s)) where
    abbrev dynamic : IsDynamic s is.op types
    dynamic = dynamic_raw s is.op types is.is

    abbrev op : FilterState
    op = dynamic.raw

    pub rings : op.bell ≡ net.links.filters f.pipe f.place
    rings = ap (λ (o : FilterState). o.bell) dynamic.made ∙ is.bell

    -- its note is one of a cell with a part for each task of the pipe that builds
    pub sized : length op.note.parts ≡ placed.builds.pipe.tasks
    sized =
        let within = slice_get_within placed.build.filters f.place f.filter placed.there in
        let many : length (filters_built placed.builds.pipe.target) ≡ length placed.build.filters =
        ap (λ (t : TargetForm). length (filters_built t)) placed.builds.gives in
        let parts : op.parts ≡ net.links.parts (net.links.filters f.pipe f.place) =
        ap (λ (o : FilterState). o.parts) dynamic.made ∙ is.parts ∙ ap net.links.parts is.bell in
        let knows = subst KnowsParts dynamic.is (All-contains KnowsParts d.stages s (still net drivers of settled flow flowed d at_driver).knows there) in
        noted_size op.parts op.note knows.of_cell ∙ ap (λ (ps : List ℕ). length ps) parts
        ∙ of.parts f.pipe placed.builds.pipe placed.builds.is f.place (omega (arith, within, many))

    -- the sieve of the domain that it knows is due at the filter's scan
    arrives : (domain : Domain) → op.known ≡ Some domain → Contains (due f.filter.scan) (sieve_of (record { column = op.column; domain = domain }))
    arrives domain known =
        let build = placed.build in
        let b = placed.builds in
        let tasks = b.pipe.tasks in
        let filter_is = ap filter_of_stage dynamic.is in
        let among = domain_there drivers (net.links.filters f.pipe f.place) tasks d at_driver s there op filter_is rings sized domain known in
        let first : f.place ≡ 0 + f.place = omega arith in
        let placed_there = subst (λ (i : ℕ). Contains (domains_known drivers (net.links.filters f.pipe i) tasks) domain) first among in
        let own_there = known_there net drivers f.pipe tasks 0 build.filters f.place f.filter placed.there domain placed_there in
        let all = known_from net drivers f.pipe tasks 0 build.filters in
        let came = named run build.join (map pair_view build.on) f.filter (reaches f.pipe build b f.place f.filter placed.there) own all
        (own_is f.pipe build b) domain own_there in
        let column : f.filter.column ≡ op.column = sym (ap (λ (o : FilterState). o.column) dynamic.made ∙ is.column) in
        subst (λ (c : ℕ). Contains (due f.filter.scan) (sieve_of (record { column = c; domain = domain }))) column came

    -- and that domain is that of the rows of the right side of its join
    pub knows_right : (n : ℕ) (right : RunPlan) → PipeIn net.layout n (cell placed.build) f.pipe (Alone (RunsAs net.layout n right))
        → (domain : Domain) → op.known ≡ Some domain → IsKnownAs (map pair_view placed.build.on) n (stopped right (pipes f.pipe)) f.filter.key domain
    knows_right n right p domain known =
        let build = placed.build in
        let b = placed.builds in
        let bell = net.links.filters f.pipe f.place in
        let one_pipe : b.pipe ≡ p.pipe = same_some (sym b.is ∙ p.is) in
        let tasks : b.pipe.tasks ≡ n = ap (λ (q : PipeForm). q.tasks) one_pipe ∙ p.tasks in
        let filter_is = ap filter_of_stage dynamic.is in
        let among = domain_there drivers bell b.pipe.tasks d at_driver s there op filter_is rings sized domain known in
        let key = (reaches f.pipe build b f.place f.filter placed.there).pair in
        All-contains (IsKnownAs (map pair_view build.on) n (stopped right (pipes f.pipe)) f.filter.key) (domains_known drivers bell n) domain
        (of_drivers net drivers of settled flow flowed n f.pipe build (RunsAs net.layout n right) p f.place f.filter placed.there right key)
        (subst (λ (m : ℕ). Contains (domains_known drivers bell m) domain) tasks among)

  -- where the stage is seen as one by this filter
  pub filter_knows_right : (types : List SqlType) (f : PlacedFilter) (placed : IsPlaced net.layout f) (d : DriverState) → Contains drivers d → (s : Stage) → Contains d.stages s
      → IsFilterFor net types f (ghosts.as_made s) → (n : ℕ) (right : RunPlan)
      → PipeIn net.layout n (cell placed.build) f.pipe (Alone (RunsAs net.layout n right)) → (op : FilterState) → filter_of_stage s ≡ Some op
      → (domain : Domain) → op.known ≡ Some domain → IsKnownAs (map pair_view placed.build.on) n (stopped right (pipes f.pipe)) f.filter.key domain
  filter_knows_right types f placed d at_driver s there is n right p op own domain known =
      let raw = dynamic_raw s is.op types is.is in
      let same : op ≡ raw.raw = same_some (sym own ∙ ap filter_of_stage raw.is) in
      knows_right types f placed d at_driver s there is n right p domain (sym (ap (λ (o : FilterState). o.known) same) ∙ known)

  -- stages in front of those for the steps of a scan's pipe sift by what is due there
  sifting : (id : ℕ) (types : List SqlType) (fs : List PlacedFilter) (stages : List Stage) → AreInFront net types fs stages
      → ((k : ℕ) (f : PlacedFilter) → slice_get fs k ≡ Some f → IsPlaced net.layout f × (f.filter.scan ≡ id))
      → (d : DriverState) → Contains drivers d → ((s : Stage) → Contains stages s → Contains d.stages s) → AreSifting (due id) stages
  sifting id types [] stages none each d at_driver within = subst (AreSifting (due id)) (sym none) (record { filters = []; drop = tt; due = tt })
  sifting id types (f ∷ fs) [] are each d at_driver within = absurd are
  sifting id types (f ∷ fs) (s ∷ stages) are each d at_driver within =
      let own_filter = each 0 f refl in
      let there = within s (first_there s stages) in
      let raw = dynamic_raw s are.0.op types are.0.is in
      let rest = sifting id types fs stages are.1 (λ k g is. each (suc k) g is) d at_driver (λ t own. within t (later_there s stages t own)) in
      record {
        filters = noted raw.raw ∷ rest.filters;
        drop = (one_drops s raw.raw types raw.is, rest.drop);
        due = (
          (λ domain known.
              subst (λ (scan : ℕ). Contains (due scan) (sieve_of (record { column = raw.raw.column; domain = domain }))) own_filter.1
              (arrives types f own_filter.0 d at_driver s there are.0 domain known)),
          rest.due,
        );
      }

  scans_sift : (id at : ℕ) → HasScan net.layout at (Some id) → IsSifted net.layout drivers due id at
  scans_sift id at scan pipe is task lane in_tasks in_lanes d there =
      let h = of.each at pipe is task lane in_tasks in_lanes in
      let same : h.driver ≡ d = same_some (sym h.there ∙ there) in
      let pipe_same : scan.pipe ≡ pipe = same_some (sym scan.is ∙ is) in
      let reads : pipe.scan ≡ Some id = sym (ap (λ (p : PipeForm). p.scan) pipe_same) ∙ scan.scan in
      let for_scan = scan_filters_are_for net.layout pipe id reads in
      let at_driver = contains_got drivers (driver_number pipe task lane) h.driver h.there in
      let sifts = sifting id (net.types at).taken (scan_filters net.layout pipe)
      (front_stages pipe.steps h.driver.stages) h.is.front for_scan.each h.driver at_driver
      (λ s own. in_front pipe.steps h.driver.stages s own) in
      subst (λ (e : DriverState). AreSifting (due id) (front_stages pipe.steps e.stages)) same sifts

  pub all_sifted : AreTyped run → (n at w : ℕ) (source : SourceForm) (steps : List StepForm) (r : RunsAs net.layout n run at w source steps)
      → AreSiftedBy drivers pipes own due net.layout [] n run at w source steps r
  all_sifted typed n at w source steps r = record {
    down = arriving_comes_down own run typed filters.scans;
    all = throughout net.layout (IsSifted net.layout drivers due) (IsSure pipes own) scans_sift surely n run at w source steps r;
  }
