-- What operators gave where the last of them is finished.
use Rattle.std.proofs.Common.{◌≡◌, ℕ, List, [], ◌∷◌, ◌++◌, Option, Some, None, Bool, true, refl, ap, sym, subst, ◌∙◌, append-nil}
use Rattle.sql_values.specs.declared.types.SqlType.{SqlType}
use Rattle.sql_values.specs.declared.relational.JoinKind.{JoinKind}
use Rattle.col_pages.specs.Fits.{AllFit}
use Rattle.operator_core.specs.declared.operator.Operator.{Ghosts}
use Rattle.operator_core.specs.Rows.{Row}
use Rattle.operator_core.specs.Calls.{IsLawful}
use Rattle.operator_core.specs.Stages.{Linked, Steps, ToldInTurn, last_finished}
use Rattle.operator_core.proofs.StageLemmas.{Steps-finished, finished-told}
use Rattle.plan_trees.specs.Allowed.{skipping, strict, width_of}
use Rattle.plan_trees.specs.TreeTypes.{types_of}
use Rattle.plan_run_laws.specs.Stages.{StagesMake as StageChain, Stage, second_half}
use Rattle.plan_run_laws.specs.Stages as stage
use Rattle.plan_run_laws.specs.RunPlans.{RunPlan, tree_of_run, scan, values, remote, step, halves, join, union}
use Rattle.plan_run_laws.specs.Stops.{StagesCanGoOn, IsNoted}
use Rattle.stage_meanings.specs.Meanings.{Means}
use Rattle.stage_meanings.specs.Pipelines.{NodeStage, at_node, stages_of}
use Rattle.stage_meanings.proofs.MeaningLemmas.{all_make, made-append, stages-append}
use Rattle.pipe_laws.specs.Trees.{stages_over, types_between}
use Rattle.pipe_laws.specs.Stopped.{AgreeWith}
use Rattle.pipe_laws.specs.Operators.{EndsIn, LooksUp, NoOperator, Operate, types_of_source}
use Rattle.pipe_laws.proofs.OperatorLemmas.{Before, Made, came_before, done_is, first_agrees, gave_fits, made_behind}

module _ {S : Type 0} (g : Ghosts S) (laws : IsLawful g) where
  -- a probe that is done, behind all that its giver gave
  probe_made : (id : ℕ) (kind : JoinKind) (on : List (ℕ × ℕ)) (left right : ℕ) (built X Y : List Row) → StagesCanGoOn (stages_of (at_node id (stage.probe kind on left right built) ∷ [])) X Y true true
      → StageChain strict (stages_of (at_node id (stage.probe kind on left right built) ∷ [])) X Y
  probe_made id kind on left right built X Y can =
      let goes = can [] (λ e. refl) in
      let all : StageChain skipping (stages_of (at_node id (stage.probe kind on left right built) ∷ [])) X Y =
      subst (λ (x : List Row). StageChain skipping (stages_of (at_node id (stage.probe kind on left right built) ∷ [])) x Y) (append-nil X)
      (subst (λ (y : List Row). StageChain skipping (stages_of (at_node id (stage.probe kind on left right built) ∷ [])) (X ++ []) y) (ap (λ (r : List Row). Y ++ r) (goes.none refl) ∙ append-nil Y) goes.chain) in
      (all.0, all.1, all.2)

  unary_finish : (run : RunPlan) (at : NodeStage) (input : RunPlan) (notes : List (Option (List Row))) (all : List S) (given : List SqlType) (builds : List (List Row))
      → stages_over run builds ≡ stages_over input builds ++ at ∷ []
      → (o : EndsIn (Operate g input notes) (λ last between. Means g (g.as_made last) between (at ∷ []) given) all)
      → (ended : Bool) (took gave : List Row) (b : Before g laws o.before o.last ended took gave) → g.is_finished o.last ≡ true → Made g laws input builds o.between took b.came
      → Made g laws run builds given took gave
  unary_finish run at input notes all given builds over o ended took gave b done made =
      let f = Steps-finished g laws o.last b.came gave done b.steps in
      made_behind g laws run input builds builds at (g.as_made o.last) o.between given took b.came gave over o.is f.0 f.1 made

  -- the last operator has finished, and so has its giver
  done_last : (all before : List S) (last : S) (ended : Bool) → all ≡ before ++ last ∷ [] → last_finished g ended all ≡ true → g.is_finished last ≡ true
  done_last all before last ended are over = sym (done_is g laws all before last ended are) ∙ over

  done_before : (before : List S) (last : S) (ended : Bool) (took gave : List Row) → Before g laws before last ended took gave → g.is_finished last ≡ true → last_finished g ended before ≡ true
  done_before before last ended took gave b done = b.turn (finished-told g laws last done)

  join_finish : (id : ℕ) (kind : JoinKind) (on : List (ℕ × ℕ)) (left : RunPlan) (right : ℕ) (noted : Option (List Row)) (last : S) (between given : List SqlType)
      → LooksUp g last noted between (λ (built : List Row). at_node id (stage.probe kind on (width_of (tree_of_run left)) right built)) given
      → (builds : List (List Row)) (built took M gave : List Row) (ended : Bool) → IsNoted noted built → AllFit between M → Steps g last M gave → (g.is_told last ≡ true → ended ≡ true)
      → ended ≡ true → g.is_finished last ≡ true → StageChain strict (stages_of (stages_over left builds)) took M
      → StageChain strict (stages_of (stages_over left builds ++ at_node id (stage.probe kind on (width_of (tree_of_run left)) right built) ∷ [])) took gave
  join_finish id kind on left right (Some rows) last between given is builds built took M gave ended same fit steps turn over done made =
      let at = at_node id (stage.probe kind on (width_of (tree_of_run left)) right built) in
      let f = Steps-finished g laws last M gave done steps in
      let one = all_make g (g.as_made last ∷ []) between given (at ∷ []) (at ∷ [], [], given, refl, is.means rows built refl same, (refl, refl)) M gave fit (gave, f.0, (λ e. f.1), refl) in
      subst (λ (p : List Stage). StageChain strict p took gave) (sym (stages-append (stages_over left builds) (at ∷ [])))
      (made-append strict (stages_of (stages_over left builds)) (stages_of (at ∷ [])) took M gave made one.0)
  join_finish id kind on left right None last between given is builds built took M gave ended any fit steps turn over done made =
      let at = at_node id (stage.probe kind on (width_of (tree_of_run left)) right built) in
      let can : StagesCanGoOn (stages_of (at ∷ [])) M gave true true =
      subst (λ (d : Bool). StagesCanGoOn (stages_of (at ∷ [])) M gave true d) done
      (subst (λ (e : Bool). StagesCanGoOn (stages_of (at ∷ [])) M gave e (g.is_finished last)) over (is.goes_on refl built M gave ended fit steps turn)) in
      subst (λ (p : List Stage). StageChain strict p took gave) (sym (stages-append (stages_over left builds) (at ∷ [])))
      (made-append strict (stages_of (stages_over left builds)) (stages_of (at ∷ [])) took M gave made
      (probe_made id kind on (width_of (tree_of_run left)) right built M gave can))

  no_operator : (all : List S) (types given : List SqlType) (ended : Bool) (took gave : List Row) → all ≡ [] → types ≡ given → Linked g all took gave → AllFit types took
      → StageChain strict [] took gave × AllFit given gave
  no_operator [] types given ended took gave none same linked fit = (linked, subst (λ (ts : List SqlType). AllFit ts gave) same (subst (AllFit types) linked fit))
  no_operator (s ∷ all) types given ended took gave none same linked fit = absurd cc

  half_finish : (at : NodeStage) (types : List SqlType) (all : List S) (given : List SqlType)
      → (o : EndsIn (NoOperator types) (λ last between. Means g (g.as_made last) between (at ∷ []) given) all)
      → (ended : Bool) (took gave : List Row) → ToldInTurn g ended all → Linked g all took gave → AllFit types took → last_finished g ended all ≡ true
      → StageChain strict (stages_of (at ∷ [])) took gave × AllFit given gave
  half_finish at types all given o ended took gave turns linked fit over =
      let b = came_before g laws all o.before o.last ended took gave o.are turns linked in
      let done = done_last all o.before o.last ended o.are over in
      let f = Steps-finished g laws o.last b.came gave done b.steps in
      let l = no_operator o.before types o.between ended took b.came o.input.0 o.input.1 b.linked fit in
      let one = all_make g (g.as_made o.last ∷ []) o.between given (at ∷ []) (at ∷ [], [], given, refl, o.is, (refl, refl)) b.came gave l.1 (gave, f.0, (λ e. f.1), refl) in
      (subst (λ (rows : List Row). StageChain strict (stages_of (at ∷ [])) rows gave) (sym l.0) one.0, one.1)

  pub finish_all : (run : RunPlan) (notes : List (Option (List Row))) (builds : List (List Row)) (all : List S) (given : List SqlType) → Operate g run notes all given → AgreeWith notes builds
      → (ended : Bool) (took gave : List Row) → ToldInTurn g ended all → Linked g all took gave → AllFit (types_of_source run) took → last_finished g ended all ≡ true
      → Made g laws run builds given took gave
  finish_all (scan id table columns types) notes builds all given (none, same) agree ended took gave turns linked fit over = no_operator all types given ended took gave none same linked fit
  finish_all (values id types rows) notes builds all given (none, same) agree ended took gave turns linked fit over = no_operator all types given ended took gave none same linked fit
  finish_all (remote id output tasks input) notes builds all given (none, same) agree ended took gave turns linked fit over = no_operator all (types_of (tree_of_run input)) given ended took gave none same linked fit
  finish_all (step id s input) notes builds all given o agree ended took gave turns linked fit over =
      let b = came_before g laws all o.before o.last ended took gave o.are turns linked in
      let done = done_last all o.before o.last ended o.are over in
      unary_finish (step id s input) (at_node id (stage.does (types_of (tree_of_run input)) s)) input notes all given builds refl o ended took gave b done
      (finish_all input notes builds o.before o.between o.input agree ended took b.came b.told b.linked fit (done_before o.before o.last ended took gave b done))
  finish_all (join id kind on left right) [] builds all given o agree ended took gave turns linked fit over = absurd o
  finish_all (join id kind on left right) (noted ∷ notes) [] all given o agree ended took gave turns linked fit over = absurd agree
  finish_all (join id kind on left right) (noted ∷ notes) (built ∷ builds) all given o agree ended took gave turns linked fit over =
      let b = came_before g laws all o.before o.last ended took gave o.are turns linked in
      let done = done_last all o.before o.last ended o.are over in
      let told = done_before o.before o.last ended took gave b done in
      let first = first_agrees noted notes built builds agree in
      let made = finish_all left notes builds o.before o.between o.input first.1 ended took b.came b.told b.linked fit told in (
        join_finish id kind on left (width_of (tree_of_run right)) noted o.last o.between given o.is builds built took b.came gave (last_finished g ended o.before) first.0 made.1 b.steps b.turn told done made.0,
        gave_fits g laws noted (λ (built : List Row). at_node id (stage.probe kind on (width_of (tree_of_run left)) (width_of (tree_of_run right)) built)) o.last o.between given o.is took b.came gave
            ended (last_finished g ended o.before) b.turn b.steps made.1,
      )
  finish_all (halves id source output tasks h input) notes builds all given o agree ended took gave turns linked fit over =
      let types = types_of (tree_of_run input) in half_finish (at_node id (second_half types h)) (types_between types h) all given o ended took gave turns linked fit over
  finish_all (union id left right) notes builds all given (none, same) agree ended took gave turns linked fit over = no_operator all (types_of (tree_of_run left)) given ended took gave none same linked fit
