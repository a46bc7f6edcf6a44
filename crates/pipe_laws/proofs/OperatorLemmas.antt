-- Operators that are the stages of a node's pipeline: how they go on, what they gave, and how they fail.
use Rattle.std.specs.Prelude.{IsTrue}
use Rattle.std.proofs.lemmas.List.Elements.{All-nil}
use Rattle.sql_values.specs.ColumnRows.{fits_row}
use Rattle.sql_values.specs.declared.value.Value.{Value}
use Rattle.std.proofs.Common.{◌≡◌, ◌⊎◌, inl, inr, ℕ, ◌<◌, List, [], ◌∷◌, ◌++◌, Option, Some, None, Bool, true, length, get_or, map, take, refl, ap, sym, subst, ◌∙◌, arith, append-nil}
use Rattle.sql_values.specs.declared.fail.Fail.{Fail}
use Rattle.sql_values.specs.declared.types.SqlType.{SqlType}
use Rattle.col_pages.specs.Fits.{AllFit}
use Rattle.operator_core.specs.declared.operator.Operator.{Ghosts}
use Rattle.operator_core.specs.Rows.{Row}
use Rattle.operator_core.specs.Calls.{IsLawful}
use Rattle.operator_core.specs.Stages.{Chain, FailsAfter, Linked, MadeOf, NothingFails, Steps, ToldInTurn, last_finished}
use Rattle.bag_laws.proofs.BagLemmas.{same-refl}
use Rattle.plan_trees.specs.Allowed.{strict, width_of}
use Rattle.plan_trees.specs.TreeTypes.{types_of}
use Rattle.plan_run_laws.specs.Stages.{StagesMake as StageChain, Stage, second_half}
use Rattle.plan_run_laws.specs.Stages as stage
use Rattle.plan_run_laws.specs.RunPlans.{RunPlan, tree_of_run, scan, values, remote, step, halves, join, union}
use Rattle.plan_run_laws.specs.Stops.{StagesCanGoOn, IsNoted}
use Rattle.plan_run_laws.proofs.GoOnLemmas.{goes_on-append, goes_on-nil}
use Rattle.stage_meanings.specs.Meanings.{Means}
use Rattle.stage_meanings.specs.Pipelines.{FailsOn, NodeStage, at_node, stages_of}
use Rattle.stage_meanings.proofs.MeaningLemmas.{all_go_on, all_make, comes, made-append, stages-append}
use Rattle.pipe_laws.specs.Trees.{stages_over, types_between}
use Rattle.pipe_laws.specs.Stopped.{AgreeWith, FailsAt, FailsOnAll, FailsOver, IsOpen}
use Rattle.pipe_laws.specs.Operators.{AreKnown, EndsIn, LooksUp, NoOperator, Operate, types_of_source}
use Rattle.pipe_laws.proofs.SnocLemmas.{Chain-snoc, Linked-snoc, Place, Turns-snoc, last-snoc, last_or_before, only_one}

-- the first build of those that agree
pub first_agrees : (noted : Option (List Row)) (notes : List (Option (List Row))) (built : List Row) (builds : List (List Row)) → AgreeWith (noted ∷ notes) (built ∷ builds)
    → IsNoted noted built × AgreeWith notes builds
first_agrees None notes built builds agrees = (tt, agrees)
first_agrees (Some known) notes built builds agrees = agrees

first_known : (noted : Option (List Row)) (notes : List (Option (List Row))) (built : List Row) (builds : List (List Row)) → AreKnown (noted ∷ notes) (built ∷ builds)
    → (noted ≡ Some built) × AreKnown notes builds
first_known None notes built builds known = absurd known
first_known (Some rows) notes built builds known = (ap (λ (r : List Row). Some r) (sym known.0), known.1)

module _ {S : Type 0} (g : Ghosts S) (laws : IsLawful g) where
  -- one more operator behind others
  module _ (pipeline : List NodeStage) (at : NodeStage) (last m : S) (between given : List SqlType) (means : Means g m between (at ∷ []) given) (made : MadeOf g last m)
      (took M gave : List Row) (ended told : Bool) (turn : g.is_told last ≡ true → told ≡ true) (steps : Steps g last M gave) (fit : AllFit between M) where
    pub one_more : StagesCanGoOn (stages_of (at ∷ [])) M gave told (g.is_finished last) × AllFit given gave
    one_more =
        all_go_on g laws (last ∷ []) (m ∷ []) between given (at ∷ []) (at ∷ [], [], given, refl, means, (refl, refl)) (made, tt) told M gave (turn, tt) (gave, steps, refl) fit

    pub opens_behind : StagesCanGoOn (stages_of pipeline) took M ended told → StagesCanGoOn (stages_of (pipeline ++ at ∷ [])) took gave ended (g.is_finished last)
    opens_behind opens =
        subst (λ (p : List Stage). StagesCanGoOn p took gave ended (g.is_finished last)) (sym (stages-append pipeline (at ∷ [])))
        (goes_on-append (stages_of pipeline) (stages_of (at ∷ [])) took M gave ended told (g.is_finished last) opens one_more.0)

  -- the operators can go on, and what they gave so far fits
  abbrev pub Stood : RunPlan → List (Option (List Row)) → List S → List SqlType → Bool → List Row → List Row → Type 0
  Stood run notes all given ended took gave = IsOpen run notes took gave ended (last_finished g ended all) × AllFit given gave

  leaf : (all : List S) (types given : List SqlType) (ended : Bool) (took gave : List Row) → all ≡ [] → types ≡ given → Linked g all took gave → AllFit types took
      → StagesCanGoOn [] took gave ended (last_finished g ended all) × AllFit given gave
  leaf [] types given ended took gave none same linked fit = (
    subst (λ (rows : List Row). StagesCanGoOn [] took rows ended ended) linked (goes_on-nil took ended ended (λ e. e)),
    subst (λ (ts : List SqlType). AllFit ts gave) same (subst (AllFit types) linked fit),
  )
  leaf (s ∷ all) types given ended took gave none same linked fit = absurd cc

  -- what came to the last operator, from those before it
  pub record Before (before : List S) (last : S) (ended : Bool) (took gave : List Row) : Type 0 where
    pub came : List Row
    pub linked : Linked g before took came
    pub steps : Steps g last came gave
    pub told : ToldInTurn g ended before
    pub turn : g.is_told last ≡ true → last_finished g ended before ≡ true

  pub came_before : (all before : List S) (last : S) (ended : Bool) (took gave : List Row) → all ≡ before ++ last ∷ [] → ToldInTurn g ended all → Linked g all took gave
      → Before before last ended took gave
  came_before all before last ended took gave are turns linked =
      let l = Linked-snoc g before last took gave (subst (λ (a : List S). Linked g a took gave) are linked) in
      let t = Turns-snoc g ended before last (subst (ToldInTurn g ended) are turns) in
      record { came = l.0; linked = l.1; steps = l.2; told = t.0; turn = t.1 }

  pub done_is : (all before : List S) (last : S) (ended : Bool) → all ≡ before ++ last ∷ [] → last_finished g ended all ≡ g.is_finished last
  done_is all before last ended are = ap (last_finished g ended) are ∙ last-snoc g ended before last

  unary : (run : RunPlan) (at : NodeStage) (input : RunPlan) (notes : List (Option (List Row))) (all : List S) (given : List SqlType)
      → ((builds : List (List Row)) → stages_over run builds ≡ stages_over input builds ++ at ∷ [])
      → (o : EndsIn (Operate g input notes) (λ last between. Means g (g.as_made last) between (at ∷ []) given) all)
      → (ended : Bool) (took gave : List Row) (b : Before o.before o.last ended took gave) → Stood input notes o.before o.between ended took b.came
      → Stood run notes all given ended took gave
  unary run at input notes all given over o ended took gave b stood = (
    λ builds agrees.
        subst (λ (p : List NodeStage). StagesCanGoOn (stages_of p) took gave ended (last_finished g ended all)) (sym (over builds))
        (subst (StagesCanGoOn (stages_of (stages_over input builds ++ at ∷ [])) took gave ended) (sym (done_is all o.before o.last ended o.are))
        (opens_behind (stages_over input builds) at o.last (g.as_made o.last) o.between given o.is (inl refl) took b.came gave ended (last_finished g ended o.before) b.turn b.steps stood.1
        (stood.0 builds agrees))),
    (one_more (stages_over input []) at o.last (g.as_made o.last) o.between given o.is (inl refl) took b.came gave ended (last_finished g ended o.before) b.turn b.steps stood.1).1,
  )

  -- the one operator of the later half, behind the edge
  half_stood : (at : NodeStage) (types : List SqlType) (all : List S) (given : List SqlType)
      → (o : EndsIn (NoOperator types) (λ last between. Means g (g.as_made last) between (at ∷ []) given) all)
      → (ended : Bool) (took gave : List Row) → ToldInTurn g ended all → Linked g all took gave → AllFit types took
      → StagesCanGoOn (stages_of (at ∷ [])) took gave ended (last_finished g ended all) × AllFit given gave
  half_stood at types all given o ended took gave turns linked fit =
      let b = came_before all o.before o.last ended took gave o.are turns linked in
      let l = leaf o.before types o.between ended took b.came o.input.0 o.input.1 b.linked fit in (
        subst (StagesCanGoOn (stages_of (at ∷ [])) took gave ended) (sym (done_is all o.before o.last ended o.are))
            (opens_behind [] at o.last (g.as_made o.last) o.between given o.is (inl refl) took b.came gave ended (last_finished g ended o.before) b.turn b.steps l.1 l.0),
        (one_more [] at o.last (g.as_made o.last) o.between given o.is (inl refl) took b.came gave ended (last_finished g ended o.before) b.turn b.steps l.1).1,
      )

  none_agree : (noted : Option (List Row)) (notes : List (Option (List Row))) → AgreeWith (noted ∷ notes) [] → ⊥
  none_agree noted notes agrees = agrees

  -- the last operator looks rows up that the note agrees with
  looks_up : (pipeline : List NodeStage) (noted : Option (List Row)) (probe : List Row → NodeStage) (last : S) (between given : List SqlType) → LooksUp g last noted between probe given
      → (built took M gave : List Row) (ended told : Bool) → IsNoted noted built → (g.is_told last ≡ true → told ≡ true) → Steps g last M gave → AllFit between M
      → StagesCanGoOn (stages_of pipeline) took M ended told → StagesCanGoOn (stages_of (pipeline ++ probe built ∷ [])) took gave ended (g.is_finished last)
  looks_up pipeline (Some rows) probe last between given is built took M gave ended told same turn steps fit opens =
      opens_behind pipeline (probe built) last (g.as_made last) between given (is.means rows built refl same) (inl refl) took M gave ended told turn steps fit opens
  looks_up pipeline None probe last between given is built took M gave ended told any turn steps fit opens =
      subst (λ (p : List Stage). StagesCanGoOn p took gave ended (g.is_finished last)) (sym (stages-append pipeline (probe built ∷ [])))
      (goes_on-append (stages_of pipeline) (stages_of (probe built ∷ [])) took M gave ended told (g.is_finished last) opens (is.goes_on refl built M gave told fit steps turn))

  pub gave_fits : (noted : Option (List Row)) (probe : List Row → NodeStage) (last : S) (between given : List SqlType) → LooksUp g last noted between probe given
      → (took M gave : List Row) (ended told : Bool) → (g.is_told last ≡ true → told ≡ true) → Steps g last M gave → AllFit between M → AllFit given gave
  gave_fits (Some rows) probe last between given is took M gave ended told turn steps fit =
      (one_more [] (probe rows) last (g.as_made last) between given (is.means rows rows refl (same-refl rows)) (inl refl) took M gave ended told turn steps fit).1
  gave_fits None probe last between given is took M gave ended told turn steps fit =
      subst (AllFit given) (sym (is.idle refl M gave steps)) (All-nil (λ (row : List Value). IsTrue (fits_row given row)))

  opens_join : (left run : RunPlan) (probe : List Row → NodeStage) (noted : Option (List Row)) (notes : List (Option (List Row))) (all : List S) (given : List SqlType)
      → ((built : List Row) (builds : List (List Row)) → stages_over run (built ∷ builds) ≡ stages_over left builds ++ probe built ∷ [])
      → (o : EndsIn (Operate g left notes) (λ last between. LooksUp g last noted between probe given) all)
      → (ended : Bool) (took gave : List Row) (b : Before o.before o.last ended took gave) → Stood left notes o.before o.between ended took b.came
      → IsOpen run (noted ∷ notes) took gave ended (last_finished g ended all)
  opens_join left run probe noted notes all given over o ended took gave b stood [] agrees = absurd (none_agree noted notes agrees)
  opens_join left run probe noted notes all given over o ended took gave b stood (built ∷ builds) agrees =
      let first = first_agrees noted notes built builds agrees in
      subst (λ (p : List NodeStage). StagesCanGoOn (stages_of p) took gave ended (last_finished g ended all)) (sym (over built builds))
      (subst (StagesCanGoOn (stages_of (stages_over left builds ++ probe built ∷ [])) took gave ended) (sym (done_is all o.before o.last ended o.are))
      (looks_up (stages_over left builds) noted probe o.last o.between given o.is built took b.came gave ended (last_finished g ended o.before) first.0 b.turn b.steps stood.1
      (stood.0 builds first.1)))

  pub stood_at : (run : RunPlan) (notes : List (Option (List Row))) (all : List S) (given : List SqlType) → Operate g run notes all given
      → (ended : Bool) (took gave : List Row) → ToldInTurn g ended all → Linked g all took gave → AllFit (types_of_source run) took → Stood run notes all given ended took gave
  stood_at (scan id table columns types) notes all given (none, same) ended took gave turns linked fit =
      let l = leaf all types given ended took gave none same linked fit in ((λ builds agrees. l.0), l.1)
  stood_at (values id types rows) notes all given (none, same) ended took gave turns linked fit =
      let l = leaf all types given ended took gave none same linked fit in ((λ builds agrees. l.0), l.1)
  stood_at (remote id output tasks input) notes all given (none, same) ended took gave turns linked fit =
      let l = leaf all (types_of (tree_of_run input)) given ended took gave none same linked fit in ((λ builds agrees. l.0), l.1)
  stood_at (step id s input) notes all given o ended took gave turns linked fit =
      let b = came_before all o.before o.last ended took gave o.are turns linked in
      unary (step id s input) (at_node id (stage.does (types_of (tree_of_run input)) s)) input notes all given (λ builds. refl) o ended took gave b
      (stood_at input notes o.before o.between o.input ended took b.came b.told b.linked fit)
  stood_at (join id kind on left right) [] all given o ended took gave turns linked fit = absurd o
  stood_at (join id kind on left right) (noted ∷ notes) all given o ended took gave turns linked fit =
      let probe : List Row → NodeStage = λ (built : List Row). at_node id (stage.probe kind on (width_of (tree_of_run left)) (width_of (tree_of_run right)) built) in
      let b = came_before all o.before o.last ended took gave o.are turns linked in
      let stood = stood_at left notes o.before o.between o.input ended took b.came b.told b.linked fit in (
        opens_join left (join id kind on left right) probe noted notes all given (λ built builds. refl) o ended took gave b stood,
        gave_fits noted probe o.last o.between given o.is took b.came gave ended (last_finished g ended o.before) b.turn b.steps stood.1,
      )
  stood_at (halves id source output tasks h input) notes all given o ended took gave turns linked fit =
      let types = types_of (tree_of_run input) in
      let stood = half_stood (at_node id (second_half types h)) (types_between types h) all given o ended took gave turns linked fit in ((λ builds agrees. stood.0), stood.1)
  stood_at (union id left right) notes all given (none, same) ended took gave turns linked fit =
      let l = leaf all (types_of (tree_of_run left)) given ended took gave none same linked fit in ((λ builds agrees. l.0), l.1)

  -- what they gave where nothing failed, and all builds are known
  abbrev pub Made : RunPlan → List (List Row) → List SqlType → List Row → List Row → Type 0
  Made run builds given took gave = StageChain strict (stages_of (stages_over run builds)) took gave × AllFit given gave

  leaf_made : (all : List S) (types given : List SqlType) (took gave : List Row) → all ≡ [] → types ≡ given → Chain g true (map g.as_made all) took gave → AllFit types took
      → StageChain strict [] took gave × AllFit given gave
  leaf_made [] types given took gave none same chain fit = (chain, subst (λ (ts : List SqlType). AllFit ts gave) same (subst (AllFit types) chain fit))
  leaf_made (s ∷ all) types given took gave none same chain fit = absurd cc

  pub made_behind : (run input : RunPlan) (builds own : List (List Row)) (at : NodeStage) (m : S) (between given : List SqlType) (took M gave : List Row)
      → stages_over run own ≡ stages_over input builds ++ at ∷ [] → Means g m between (at ∷ []) given → g.may_give m M gave → NothingFails g m M → Made input builds between took M
      → Made run own given took gave
  made_behind run input builds own at m between given took M gave over means gives calm made =
      let one = all_make g (m ∷ []) between given (at ∷ []) (at ∷ [], [], given, refl, means, (refl, refl)) M gave made.1 (gave, gives, (λ e. calm), refl) in (
        subst (λ (p : List NodeStage). StageChain strict (stages_of p) took gave) (sym over)
            (subst (λ (p : List Stage). StageChain strict p took gave) (sym (stages-append (stages_over input builds) (at ∷ [])))
            (made-append strict (stages_of (stages_over input builds)) (stages_of (at ∷ [])) took M gave made.0 one.0)),
        one.1,
      )

  chain_before : (all before : List S) (last : S) (took gave : List Row) → all ≡ before ++ last ∷ [] → Chain g true (map g.as_made all) took gave
      → (M : List Row) × Chain g true (map g.as_made before) took M × g.may_give (g.as_made last) M gave × NothingFails g (g.as_made last) M
  chain_before all before last took gave are chain =
      Chain-snoc g before last took gave (subst (λ (a : List S). Chain g true (map g.as_made a) took gave) are chain)

  half_made : (at : NodeStage) (types : List SqlType) (all : List S) (given : List SqlType)
      → (o : EndsIn (NoOperator types) (λ last between. Means g (g.as_made last) between (at ∷ []) given) all)
      → (took gave : List Row) → AllFit types took → Chain g true (map g.as_made all) took gave → StageChain strict (stages_of (at ∷ [])) took gave × AllFit given gave
  half_made at types all given o took gave fit chain =
      let c = chain_before all o.before o.last took gave o.are chain in
      let l = leaf_made o.before types o.between took c.0 o.input.0 o.input.1 c.1 fit in
      let one = all_make g (g.as_made o.last ∷ []) o.between given (at ∷ []) (at ∷ [], [], given, refl, o.is, (refl, refl)) c.0 gave l.1 (gave, c.2, (λ e. c.3), refl) in
      (subst (λ (rows : List Row). StageChain strict (stages_of (at ∷ [])) rows gave) (sym l.0) one.0, one.1)

  pub made_all : (run : RunPlan) (notes : List (Option (List Row))) (builds : List (List Row)) (all : List S) (given : List SqlType) → Operate g run notes all given → AreKnown notes builds
      → (took gave : List Row) → AllFit (types_of_source run) took → Chain g true (map g.as_made all) took gave → Made run builds given took gave
  made_all (scan id table columns types) notes builds all given (none, same) known took gave fit chain = leaf_made all types given took gave none same chain fit
  made_all (values id types rows) notes builds all given (none, same) known took gave fit chain = leaf_made all types given took gave none same chain fit
  made_all (remote id output tasks input) notes builds all given (none, same) known took gave fit chain = leaf_made all (types_of (tree_of_run input)) given took gave none same chain fit
  made_all (step id s input) notes builds all given o known took gave fit chain =
      let c = chain_before all o.before o.last took gave o.are chain in
      made_behind (step id s input) input builds builds (at_node id (stage.does (types_of (tree_of_run input)) s)) (g.as_made o.last) o.between given took c.0 gave refl o.is c.2 c.3
      (made_all input notes builds o.before o.between o.input known took c.0 fit c.1)
  made_all (join id kind on left right) [] builds all given o known took gave fit chain = absurd o
  made_all (join id kind on left right) (noted ∷ notes) [] all given o known took gave fit chain = absurd known
  made_all (join id kind on left right) (noted ∷ notes) (built ∷ builds) all given o known took gave fit chain =
      let first = first_known noted notes built builds known in
      let at = at_node id (stage.probe kind on (width_of (tree_of_run left)) (width_of (tree_of_run right)) built) in
      let c = chain_before all o.before o.last took gave o.are chain in
      made_behind (join id kind on left right) left builds (built ∷ builds) at (g.as_made o.last) o.between given took c.0 gave refl
      (o.is.means built built first.0 (same-refl built)) c.2 c.3
      (made_all left notes builds o.before o.between o.input first.1 took c.0 fit c.1)
  made_all (halves id source output tasks h input) notes builds all given o known took gave fit chain =
      let types = types_of (tree_of_run input) in half_made (at_node id (second_half types h)) (types_between types h) all given o took gave fit chain
  made_all (union id left right) notes builds all given (none, same) known took gave fit chain = leaf_made all (types_of (tree_of_run left)) given took gave none same chain fit

  -- the last operator fails on what came to it
  record LastFails (id : ℕ) (st : Stage) (input : RunPlan) (notes : List (Option (List Row))) (took : List Row) (ended : Bool) (node : ℕ) (kind : Fail) : Type 0 where
    here : id ≡ node
    over : FailsOver (FailsOn st kind) input notes took ended

  last_fails : (id : ℕ) (st : Stage) (input : RunPlan) (notes : List (Option (List Row))) (before : List S) (m : S) (between given : List SqlType)
      → Means g m between (at_node id st ∷ []) given → (took : List Row) (ended : Bool) (node : ℕ) (kind : Fail) → (f : FailsAfter g before m ended took node kind)
      → Stood input notes before between ended took f.came → LastFails id st input notes took ended node kind
  last_fails id st input notes before m between given means took ended node kind f stood =
      let told = last_finished g ended before in
      let r = means.fails f.came told node kind stood.1 (λ Z may. f.fails Z (comes told Z may)) in
      let only = only_one r.before r.after (at_node id st) (at_node node r.stage) r.at in
      let same : st ≡ r.stage = ap (λ (s : NodeStage). s.stage) only.1 in
      record {
        here = ap (λ (s : NodeStage). s.node) only.1;
        over = record {
          came = r.came;
          told = r.told;
          opened = λ builds agrees.
              subst (λ (p : List Stage). StagesCanGoOn p took r.came ended r.told) (append-nil (stages_of (stages_over input builds)))
              (goes_on-append (stages_of (stages_over input builds)) [] took f.came r.came ended told r.told (stood.0 builds agrees)
              (subst (λ (p : List NodeStage). StagesCanGoOn (stages_of p) f.came r.came told r.told) only.0 r.goes_on));
          fails = λ more may. subst (λ (s : Stage). FailsOn s kind (r.came ++ more)) (sym same) (r.fails more may);
        };
      }

  -- where the operator at a place stands
  pub record InFront (all before : List S) (i : ℕ) (s : S) : Type 0 where
    pub front : take i all ≡ take i before
    pub below : i < length before
    pub is : s ≡ get_or before i s

  pub at_last_or_before : (all before : List S) (last : S) (i : ℕ) (s : S) → all ≡ before ++ last ∷ [] → i < length all → s ≡ get_or all i s
      → ((take i all ≡ before) × (s ≡ last)) ⊎ InFront all before i s
  at_last_or_before all before last i s are lt at =
      where_it_is (last_or_before before last i s (subst (λ (a : List S). i < length a) are lt) (subst (λ (a : List S). s ≡ get_or a i s) are at))
    where
      where_it_is : ((take i (before ++ last ∷ []) ≡ before) × (s ≡ last)) ⊎ Place before last i s → ((take i all ≡ before) × (s ≡ last)) ⊎ InFront all before i s
      where_it_is (inl (front, is)) = inl (ap (take i) are ∙ front, is)
      where_it_is (inr p) = inr (record { front = ap (take i) are ∙ p.front; below = p.below; is = p.is })

  pub moved : (before others : List S) (m n : S) (ended : Bool) (took : List Row) (node : ℕ) (kind : Fail) → others ≡ before → m ≡ n
      → FailsAfter g others m ended took node kind → FailsAfter g before n ended took node kind
  moved before others m n ended took node kind front is f =
      subst (λ (b : List S). FailsAfter g b n ended took node kind) front (subst (λ (x : S). FailsAfter g others x ended took node kind) is f)

  module _ (node : ℕ) (kind : Fail) where
    unary_fails : {Here Below : Type 0} (id : ℕ) (st : Stage) (input : RunPlan) (notes : List (Option (List Row))) (all : List S) (given : List SqlType)
        → (o : EndsIn (Operate g input notes) (λ last between. Means g (g.as_made last) between (at_node id st ∷ []) given) all)
        → (ended : Bool) (took : List Row) → AllFit (types_of_source input) took → (i : ℕ) (s : S) → FailsAfter g (take i all) (g.as_made s) ended took node kind
        → (LastFails id st input notes took ended node kind → Here) → (InFront all o.before i s → FailsAfter g (take i o.before) (g.as_made s) ended took node kind → Below)
        → ((take i all ≡ o.before) × (s ≡ o.last)) ⊎ InFront all o.before i s → Here ⊎ Below
    unary_fails id st input notes all given o ended took fit i s f here below (inl (front, is)) =
        let h = moved o.before (take i all) (g.as_made s) (g.as_made o.last) ended took node kind front (ap g.as_made is) f in
        inl (here (last_fails id st input notes o.before (g.as_made o.last) o.between given o.is took ended node kind h
        (stood_at input notes o.before o.between o.input ended took h.came h.told h.linked fit)))
    unary_fails id st input notes all given o ended took fit i s f here below (inr p) =
        inr (below p (moved (take i o.before) (take i all) (g.as_made s) (g.as_made s) ended took node kind p.front refl f))

    probe_fails : {Below : Type 0} (left : RunPlan) (probe : List Row → NodeStage) (noted : Option (List Row)) (notes : List (Option (List Row))) (all : List S) (given : List SqlType)
        → (o : EndsIn (Operate g left notes) (λ last between. LooksUp g last noted between probe given) all)
        → (ended : Bool) (took : List Row) (i : ℕ) (s : S) → FailsAfter g (take i all) (g.as_made s) ended took node kind
        → (InFront all o.before i s → FailsAfter g (take i o.before) (g.as_made s) ended took node kind → Below)
        → ((take i all ≡ o.before) × (s ≡ o.last)) ⊎ InFront all o.before i s → Below
    probe_fails left probe noted notes all given o ended took i s f below (inl (front, is)) =
        let h = moved o.before (take i all) (g.as_made s) (g.as_made o.last) ended took node kind front (ap g.as_made is) f in
        absurd (o.is.calm (h.came ++ []) node kind (h.fails [] (comes (last_finished g ended o.before) [] (λ e. refl))))
    probe_fails left probe noted notes all given o ended took i s f below (inr p) =
        below p (moved (take i o.before) (take i all) (g.as_made s) (g.as_made s) ended took node kind p.front refl f)

    no_operator : (all : List S) (i : ℕ) → all ≡ [] → i < length all → ⊥
    no_operator all i none lt = omega (arith, ap length none, lt)

    -- no operator stands before the later half
    half_fails : (id : ℕ) (st : Stage) (types : List SqlType) (all : List S) (given : List SqlType)
        → (o : EndsIn (NoOperator types) (λ last between. Means g (g.as_made last) between (at_node id st ∷ []) given) all)
        → (ended : Bool) (took : List Row) → AllFit types took → (i : ℕ) (s : S) → FailsAfter g (take i all) (g.as_made s) ended took node kind
        → ((take i all ≡ o.before) × (s ≡ o.last)) ⊎ InFront all o.before i s → (id ≡ node) × FailsOnAll (FailsOn st kind) took ended
    half_fails id st types all given o ended took fit i s f (inr p) = absurd (no_operator o.before i o.input.0 p.below)
    half_fails id st types all given o ended took fit i s f (inl (front, is)) =
        let h = moved [] (take i all) (g.as_made s) (g.as_made o.last) ended took node kind (front ∙ o.input.0) (ap g.as_made is) f in
        let here : AllFit o.between h.came = subst (λ (ts : List SqlType). AllFit ts h.came) o.input.1 (subst (AllFit types) h.linked fit) in
        let r = o.is.fails h.came ended node kind here (λ Z may. h.fails Z (comes ended Z may)) in
        let only = only_one r.before r.after (at_node id st) (at_node node r.stage) r.at in
        let same : st ≡ r.stage = ap (λ (s : NodeStage). s.stage) only.1 in
        let alone : StagesCanGoOn [] h.came r.came ended r.told = subst (λ (p : List NodeStage). StagesCanGoOn (stages_of p) h.came r.came ended r.told) only.0 r.goes_on in (
          ap (λ (s : NodeStage). s.node) only.1,
          λ more may.
              let goes = alone more may in
              let whole : r.came ++ goes.rest ≡ took ++ more = sym (ap (λ (rows : List Row). rows ++ more) h.linked ∙ goes.chain) in
              subst (FailsOn st kind) whole (subst (λ (s : Stage). FailsOn s kind (r.came ++ goes.rest)) (sym same) (r.fails goes.rest goes.none)),
        )

    pub fails_of : (run : RunPlan) (notes : List (Option (List Row))) (all : List S) (given : List SqlType) → Operate g run notes all given → (ended : Bool) (took : List Row)
        → AllFit (types_of_source run) took → (i : ℕ) (s : S) → i < length all → s ≡ get_or all i s → FailsAfter g (take i all) (g.as_made s) ended took node kind
        → FailsAt run notes took ended node kind
    fails_of (scan id table columns types) notes all given o ended took fit i s lt at f = absurd (no_operator all i o.0 lt)
    fails_of (values id types rows) notes all given o ended took fit i s lt at f = absurd (no_operator all i o.0 lt)
    fails_of (remote id output tasks input) notes all given o ended took fit i s lt at f = absurd (no_operator all i o.0 lt)
    fails_of (step id s input) notes all given o ended took fit i op lt at f =
        unary_fails id (stage.does (types_of (tree_of_run input)) s) input notes all given o ended took fit i op f (λ l. (l.here, l.over))
        (λ p h. fails_of input notes o.before o.between o.input ended took fit i op p.below p.is h) (at_last_or_before all o.before o.last i op o.are lt at)
    fails_of (join id how on left right) [] all given o ended took fit i s lt at f = absurd o
    fails_of (join id how on left right) (noted ∷ notes) all given o ended took fit i s lt at f =
        probe_fails left (λ (built : List Row). at_node id (stage.probe how on (width_of (tree_of_run left)) (width_of (tree_of_run right)) built)) noted notes all given o ended took i s f
        (λ p h. fails_of left notes o.before o.between o.input ended took fit i s p.below p.is h) (at_last_or_before all o.before o.last i s o.are lt at)
    fails_of (halves id source output tasks h input) notes all given o ended took fit i op lt at f =
        let types = types_of (tree_of_run input) in
        half_fails id (second_half types h) (types_between types h) all given o ended took fit i op f (at_last_or_before all o.before o.last i op o.are lt at)
    fails_of (union id left right) notes all given o ended took fit i s lt at f = absurd (no_operator all i o.0 lt)
