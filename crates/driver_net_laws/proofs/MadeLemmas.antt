-- Stages that were made for the nodes of a pipeline operate as these, with what their notes know.
use Rattle.std.proofs.Common.{◌≡◌, inl, ℕ, List, [], ◌∷◌, ◌++◌, Bool, Option, Some, length, map, refl, ap, sym, subst, ◌∙◌, append-nil, append_assoc}
use Rattle.std.specs.Prelude.{All}
use Rattle.std.specs.List.{zip}
use Rattle.std.proofs.lemmas.List.{length-map}
use Rattle.std.proofs.lemmas.List.Elements.{All-head}
use Rattle.bag_laws.proofs.TopLemmas.{All-back, All-front}
use Rattle.sql_values.specs.declared.types.SqlType.{SqlType}
use Rattle.sql_values.specs.declared.relational.JoinKind.{JoinKind}
use Rattle.col_pages.specs.Fits.{AllFit}
use Rattle.operator_core.specs.Calls.{IsLawful}
use Rattle.operator_core.specs.Rows.{Row}
use Rattle.operator_core.specs.Stages.{Linked, ToldInTurn, last_finished}
use Rattle.join_index.specs.Keys.{IndexedRows}
use Rattle.hash_join.specs.Probing.{ProbeState}
use Rattle.hash_join.specs.contracts.probe.ProbeOpOperator.TheImpl.{ghosts as probe_ghosts}
use Rattle.plan_trees.specs.Allowed.{width_of}
use Rattle.plan_trees.specs.TreeTypes.{types_of}
use Rattle.plan_run_laws.specs.Stages as stage
use Rattle.plan_run_laws.specs.RunPlans.{RunPlan, tree_of_run, scan, values, remote, step, halves, join, union}
use Rattle.pipe_laws.specs.Meanings.{Means}
use Rattle.pipe_laws.specs.Pipelines.{NodeStage, at_node}
use Rattle.pipe_laws.specs.Lookups.{IsSourceOf, rows_known}
use Rattle.pipe_laws.specs.Trees.{types_between}
use Rattle.pipe_laws.specs.Operators.{EndsIn, LooksUp, NoOperator, Operate, Probes, types_of_source}
use Rattle.pipe_laws.proofs.LookupLemmas.{probe_probes}
use Rattle.pipe_laws.proofs.OperatorLemmas.{came_before, done_is, one_more, stood_at}
use Rattle.pipe_laws.proofs.ProbeLemmas.{looks_up_rows}
use Rattle.driver_loop.specs.contracts.stage.StageOperator.TheImpl.{ghosts}
use Rattle.driver_loop.specs.declared.stage.Stage.{Stage}
use Rattle.driver_loop.specs.declared.stage.Stage.TheVariants.{Probe}
use Rattle.pipe_laws.specs.Lanes.{HasNotes, IsHalved, IsLane, Noted}
use Rattle.driver_net_laws.specs.Cells.{Names, cell_of}
use Rattle.driver_net_laws.specs.Made.{AreMadeFor, Behind, KnowSources, note_known, notes_known}
use Rattle.driver_net_laws.specs.Stages.{IsProbeOf, IsStageOf}

-- a stage that is made as a probe is one
record IsProbe (s : Stage) (op : ProbeState) (types : List SqlType) : Type 0 where
  raw : ProbeState
  is : s ≡ Probe raw types
  made : probe_ghosts.as_made raw ≡ op

probe_raw : (s : Stage) (op : ProbeState) (types : List SqlType) → ghosts.as_made s ≡ Probe op types → IsProbe s op types
probe_raw (Probe raw ts) op types same =
    let own : ts ≡ types = cc in
    let made : probe_ghosts.as_made raw ≡ op = cc in
    record { raw = raw; is = ap (λ (t : List SqlType). Probe raw t) own; made = made }
probe_raw s op types same = absurd cc

-- a stage that looks into no cell of a join has no note of one
no_note : (s : Stage) → cell_of (ghosts.as_made s) ≡ [] → note_known s ≡ []
no_note (Probe raw ts) apart = absurd cc
no_note s apart = refl

-- the notes of the last stage come first
notes-snoc : (before : List Stage) (last : Stage) → notes_known (before ++ last ∷ []) ≡ note_known last ++ notes_known before
notes-snoc [] last = sym (append-nil (note_known last))
notes-snoc (s ∷ before) last = ap (λ (ns : Noted). ns ++ note_known s) (notes-snoc before last) ∙ append_assoc (note_known last) (notes_known before) (note_known s)

notes_behind : (all before : List Stage) (last : Stage) → all ≡ before ++ last ∷ [] → cell_of (ghosts.as_made last) ≡ [] → notes_known all ≡ notes_known before
notes_behind all before last are apart = ap notes_known are ∙ notes-snoc before last ∙ ap (λ (ns : Noted). ns ++ notes_known before) (no_note last apart)

zip_pairs : (on : List (ℕ × ℕ)) → zip (map (λ (pair : ℕ × ℕ). pair.0) on) (map (λ (pair : ℕ × ℕ). pair.1) on) ≡ on
zip_pairs [] = refl
zip_pairs (pair ∷ on) = ap (λ (ps : List (ℕ × ℕ)). pair ∷ ps) (zip_pairs on)

level_pairs : (on : List (ℕ × ℕ)) → length (map (λ (pair : ℕ × ℕ). pair.0) on) ≡ length (map (λ (pair : ℕ × ℕ). pair.1) on)
level_pairs on = length-map on (λ (pair : ℕ × ℕ). pair.0) ∙ sym (length-map on (λ (pair : ℕ × ℕ). pair.1))

module _ (names : Names) (laws : IsLawful ghosts) where
  -- the stages operate, and there is a note for each join
  abbrev pub Operates : RunPlan → List Stage → List SqlType → Type 0
  Operates run all given = Operate ghosts run (notes_known all) all given × HasNotes run (notes_known all)

  unary : (input : RunPlan) (at : NodeStage) (bells : List ℕ) (all : List Stage) (given : List SqlType) → (e : Behind (AreMadeFor names input bells) at all given)
      → Operates input e.before e.between
      → EndsIn (Operate ghosts input (notes_known all)) (λ last between. Means ghosts (ghosts.as_made last) between (at ∷ []) given) all × HasNotes input (notes_known all)
  unary input at bells all given e operates =
      let same : notes_known e.before ≡ notes_known all = sym (notes_behind all e.before e.last e.are e.is.apart) in (
        record {
          before = e.before;
          last = e.last;
          between = e.between;
          are = e.are;
          input = subst (λ (ns : Noted). Operate ghosts input ns e.before e.between) same operates.0;
          is = e.is.means;
        },
        subst (HasNotes input) same operates.1,
      )

  -- where nothing stands before, there is no note
  alone : (types : List SqlType) (at : NodeStage) (all : List Stage) (given : List SqlType) → (e : Behind (NoOperator types) at all given)
      → EndsIn (NoOperator types) (λ last between. Means ghosts (ghosts.as_made last) between (at ∷ []) given) all × (notes_known all ≡ [])
  alone types at all given e = (
    record { before = e.before; last = e.last; between = e.between; are = e.are; input = e.input; is = e.is.means },
    notes_behind all e.before e.last e.are e.is.apart ∙ ap notes_known e.input.0,
  )

  module _ (id bell : ℕ) (kind : JoinKind) (on : List (ℕ × ℕ)) (left right : RunPlan) (between given : List SqlType) where
    abbrev KnowsSource : ProbeState → Type 0
    KnowsSource raw = (source : IndexedRows) → raw.note.known ≡ Some source → IsSourceOf (map (λ (pair : ℕ × ℕ). pair.1) on) (types_of (tree_of_run right)) source

    abbrev probe_of : List Row → NodeStage
    probe_of built = at_node id (stage.probe kind on (width_of (tree_of_run left)) (width_of (tree_of_run right)) built)

    probes : (raw : ProbeState) (types : List SqlType) → raw.kind ≡ kind → raw.on ≡ map (λ (pair : ℕ × ℕ). pair.0) on → KnowsSource raw
        → Probes ghosts (Probe raw types) (rows_known raw.note.known) kind on (width_of (tree_of_run left)) (types_of (tree_of_run right))
    probes raw types of_kind columns source =
        let keys = map (λ (pair : ℕ × ℕ). pair.1) on in
        let level : length raw.on ≡ length keys = ap (λ (cs : List ℕ). length cs) columns ∙ level_pairs on in
        let p = probe_probes raw keys (width_of (tree_of_run left)) (types_of (tree_of_run right)) level source in
        let q = subst (λ (k : JoinKind). Probes probe_ghosts raw (rows_known raw.note.known) k (zip raw.on keys) (width_of (tree_of_run left)) (types_of (tree_of_run right))) of_kind p in
        let r = subst (λ (o : List (ℕ × ℕ)). Probes probe_ghosts raw (rows_known raw.note.known) kind o (width_of (tree_of_run left)) (types_of (tree_of_run right)))
        (ap (λ (cs : List ℕ). zip cs keys) columns ∙ zip_pairs on) q in
        record { waits = r.waits; unknown = r.unknown; gives = r.gives; fits = r.fits; calm = r.calm }

    -- the last stage looks rows up, of which its note is one
    record Looks (last : Stage) : Type 0 where
      noted : Option (List Row)
      is_note : note_known last ≡ noted ∷ []
      looks : LooksUp ghosts last noted between probe_of given

    looks_up : (last : Stage) → IsProbeOf names bell kind on (types_of (tree_of_run right)) between given (ghosts.as_made last)
        → ((op : ProbeState) (types : List SqlType) → last ≡ Probe op types → op.bell ≡ bell → KnowsSource op) → Looks last
    looks_up last is sources =
        let p = is.probes in
        let r = probe_raw last p.op p.types p.is in
        let raw = r.raw in
        let rings : raw.bell ≡ bell = ap (λ (o : ProbeState). o.bell) r.made ∙ p.rings in
        record {
          noted = rows_known raw.note.known;
          is_note = ap note_known r.is;
          looks = subst (λ (l : Stage). LooksUp ghosts l (rows_known raw.note.known) between probe_of given) (sym r.is)
              (subst (λ (ts : List SqlType). LooksUp ghosts (Probe raw p.types) (rows_known raw.note.known) between probe_of ts) is.types
              (looks_up_rows ghosts laws (Probe raw p.types) (rows_known raw.note.known) id kind on (width_of (tree_of_run left)) between (types_of (tree_of_run right))
              (probes raw p.types (ap (λ (o : ProbeState). o.kind) r.made ∙ p.of_kind) (ap (λ (o : ProbeState). o.on) r.made ∙ p.columns) (sources raw p.types r.is rings))));
        }

  joined : (id bell : ℕ) (kind : JoinKind) (on : List (ℕ × ℕ)) (left right : RunPlan) (bells : List ℕ) (all : List Stage) (given : List SqlType)
      → (e : EndsIn (AreMadeFor names left bells) (λ last between. IsProbeOf names bell kind on (types_of (tree_of_run right)) between given (ghosts.as_made last)) all)
      → Looks id bell kind on left right e.between given e.last → Operates left e.before e.between → Operates (join id kind on left right) all given
  joined id bell kind on left right bells all given e l operates =
      let notes : l.noted ∷ notes_known e.before ≡ notes_known all =
      sym (ap notes_known e.are ∙ notes-snoc e.before e.last ∙ ap (λ (ns : Noted). ns ++ notes_known e.before) l.is_note) in (
        subst (λ (ns : Noted). Operate ghosts (join id kind on left right) ns all given) notes
            (record { before = e.before; last = e.last; between = e.between; are = e.are; input = operates.0; is = l.looks }),
        subst (HasNotes (join id kind on left right)) notes operates.1,
      )

  -- what passes the test among the stages before the last, and the last
  front : (IsOne : Stage → Type 0) (all before : List Stage) (last : Stage) → all ≡ before ++ last ∷ [] → All IsOne all → All IsOne before
  front IsOne all before last are each = All-front IsOne before (last ∷ []) (subst (All IsOne) are each)

  back : (IsOne : Stage → Type 0) (all before : List Stage) (last : Stage) → all ≡ before ++ last ∷ [] → All IsOne all → IsOne last
  back IsOne all before last are each = All-head IsOne last [] (All-back IsOne before (last ∷ []) (subst (All IsOne) are each))

  no_stage : (types : List SqlType) (all : List Stage) (given : List SqlType) → NoOperator types all given → notes_known all ≡ []
  no_stage types all given (none, same) = ap notes_known none

  pub operates : (run : RunPlan) (bells : List ℕ) (all : List Stage) (given : List SqlType) → AreMadeFor names run bells all given → (IsOne : Stage → Type 0) → KnowSources run bells IsOne
      → All IsOne all → Operates run all given
  operates (scan id table columns types) bells all given e IsOne know each = (e, no_stage types all given e)
  operates (values id types rows) bells all given e IsOne know each = (e, no_stage types all given e)
  operates (remote id output tasks input) bells all given e IsOne know each = (e, no_stage (types_of (tree_of_run input)) all given e)
  operates (step id s input) bells all given e IsOne know each =
      unary input (at_node id (stage.does (types_of (tree_of_run input)) s)) bells all given e
      (operates input bells e.before e.between e.input IsOne know (front IsOne all e.before e.last e.are each))
  operates (halves id source output tasks h input) bells all given e IsOne know each =
      let types = types_of (tree_of_run input) in alone (types_between types h) (at_node id (stage.second_half types h)) all given e
  operates (join id kind on left right) [] all given e IsOne know each = absurd e
  operates (join id kind on left right) (bell ∷ bells) all given e IsOne know each =
      joined id bell kind on left right bells all given e
      (looks_up id bell kind on left right e.between given e.last e.is
      (λ op types is rings. know.0 op types (subst IsOne is (back IsOne all e.before e.last e.are each)) rings))
      (operates left bells e.before e.between e.input IsOne know.1 (front IsOne all e.before e.last e.are each))
  operates (union id left right) bells all given e IsOne know each = (e, no_stage (types_of (tree_of_run left)) all given e)

  -- stages of a driver as they stand: they took some rows and gave others, and each was told to finish in turn
  module _ (run : RunPlan) (bells : List ℕ) (given : List SqlType) (stages : List Stage) (took gave : List Row) (ended : Bool) (linked : Linked ghosts stages took gave)
      (turns : ToldInTurn ghosts ended stages) (IsOne : Stage → Type 0) (know : KnowSources run bells IsOne) (each : All IsOne stages) (fit : AllFit (types_of_source run) took) where
    all_operate : AreMadeFor names run bells stages given → Operates run stages given
    all_operate made = operates run bells stages given made IsOne know each

    pub lane : AreMadeFor names run bells stages given → IsLane ghosts run (notes_known stages) stages took gave ended (last_finished ghosts ended stages)
    lane made =
        let o = all_operate made in
        record { given = given; operate = o.0; noted = o.1; turns = turns; linked = linked; fit = fit; done_is = refl }

    -- what they gave has the types that they were made to give
    pub lane_gives : AreMadeFor names run bells stages given → AllFit given gave
    lane_gives made = (stood_at ghosts laws run (notes_known stages) stages given (all_operate made).0 ended took gave turns linked fit).1

    module _ (half : NodeStage) (e : Behind (AreMadeFor names run bells) half stages given) where
      before_operates : Operates run e.before e.between
      before_operates = operates run bells e.before e.between e.input IsOne know (front IsOne stages e.before e.last e.are each)

      pub halved : IsHalved ghosts run (notes_known stages) half stages took gave ended (last_finished ghosts ended stages)
      halved =
          let b = came_before ghosts laws stages e.before e.last ended took gave e.are turns linked in
          let o = before_operates in
          let same : notes_known e.before ≡ notes_known stages = sym (notes_behind stages e.before e.last e.are e.is.apart) in
          record {
            before = e.before;
            last = e.last;
            are = e.are;
            came = b.came;
            told = last_finished ghosts ended e.before;
            lane = record {
              given = e.between;
              operate = subst (λ (ns : Noted). Operate ghosts run ns e.before e.between) same o.0;
              noted = subst (HasNotes run) same o.1;
              turns = b.told;
              linked = b.linked;
              fit = fit;
              done_is = refl;
            };
            given = given;
            means = e.is.means;
            steps = b.steps;
            turn = b.turn;
            done_is = sym (done_is ghosts laws stages e.before e.last ended e.are);
          }

      pub half_gives : AllFit given gave
      half_gives =
          let b = came_before ghosts laws stages e.before e.last ended took gave e.are turns linked in
          let stood = stood_at ghosts laws run (notes_known e.before) e.before e.between before_operates.0 ended took b.came b.told b.linked fit in
          (one_more ghosts laws [] half e.last (ghosts.as_made e.last) e.between given e.is.means (inl refl) took b.came gave ended (last_finished ghosts ended e.before) b.turn b.steps stood.1).1
